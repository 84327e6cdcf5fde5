-- Each part is written after the one before it.
use Rattle.std.proofs.Common.{map, arith}
use Rattle.packing.specs.Packing.{digits as clouds}
use Rattle.list_text.specs.Lines.{digit, decimal}
use Rattle.list_text.specs.RowLines.{front_text}
use Rattle.list_text.proofs.RowLines.{clouds-size}
use Rattle.list_text.proofs.Writing.{Put, then-put, then-byte}
use Rattle.list_text.proofs.rows.put_front.Goals as goal

pub returns-clause-buffer_after : goal.returns-clause-buffer_after
unfolding front_text
returns-clause-buffer_after c =
    let args = c.args in
    let digits = map digit (clouds args.blocks args.place) in
    let space = c.put_number-space.result in
    let size = clouds-size args.blocks args.place in
    let cost : Put (decimal args.cost) args.buffer.now c.put_number-space.new.buffer args.at space =
    record { ends = c.put_number-space.ensures.value; bytes = c.put_number-space.ensures.buffer_after } in
    (then-put (then-byte cost 32 (omega arith)) {stop = c.put_clouds.result} digits (omega arith) (omega arith) c.put_clouds.ensures.buffer_after).bytes
