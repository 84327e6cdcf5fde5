-- The nodes that follow, each after an arrow.
use Rattle.std.proofs.Common.{length, ap, arith, length-append}
use mathlib.Core.List.{append_assoc}
use Rattle.picture.specs.declared.sheet.Node.TheVariants.{Datum}
use Rattle.picture.proofs.Nodes.{next_more, next_room}
use Rattle.picture.proofs.sheet.Sheet.put_line.Goals as goal

pub put_text-requires-in-loop-node : goal.put_text-requires-in-loop-node
put_text-requires-in-loop-node c =
    let w = c.loop-node in
    let room = next_room c.args.next.now w.node-index (Datum 0 0) (omega arith) in
    let size = simp length-append at (ap length w.invariant) in
    let before = simp length-append at (ap length c.put_node.ensures) in
    let start = simp length-append at (ap length c.put_text.ensures) in
    let whole = simp length-append at c.requires in
    omega arith

pub put_node-requires-in-loop-node : goal.put_node-requires-in-loop-node
put_node-requires-in-loop-node c =
    let w = c.loop-node in
    let room = next_room c.args.next.now w.node-index (Datum 0 0) (omega arith) in
    let after = simp length-append at (ap length c.put_text-in-loop-node.ensures) in
    let size = simp length-append at (ap length w.invariant) in
    let before = simp length-append at (ap length c.put_node.ensures) in
    let start = simp length-append at (ap length c.put_text.ensures) in
    let whole = simp length-append at c.requires in
    omega arith

pub loop-node-preserved : goal.loop-node-preserved
loop-node-preserved c =
    let w = c.loop-node in
    let more = next_more c.args.next.now w.node-index (Datum 0 0) (omega arith) in
    let put = c.put_node-in-loop-node.ensures in
    let after = c.put_text-in-loop-node.ensures in
    rw (put, after, w.invariant, more) (simp append_assoc)
