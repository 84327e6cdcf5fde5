-- The test that was made is that of the next conflict.
use Rattle.std.proofs.Common.{sym, ap, ◌∙◌, not, arith}
use Rattle.sequences.specs.Lists.{any, below}
use Rattle.sequences.proofs.Counting.{length-below, get_or-below}
use Rattle.sequences.proofs.Loops.{any-hit, any-miss, any-end}
use Rattle.packing.specs.Packing.{digits}
use Rattle.visit.specs.Lent.{table_in}
use Rattle.visit.specs.Tables.{clashes, apart}
use Rattle.visit.proofs.conflicts.is_apart.Goals as goal

pub returns-then-clashes : goal.returns-then-clashes
unfolding apart
returns-then-clashes c =
    let l = c.loop-i in
    let n = c.from-conflicts.result in
    let test = clashes (table_in c.args.tables.now) (digits c.args.tables.now.blocks c.args.place) in
    let hit = ap test (get_or-below n l.i 0 (omega arith)) ∙ sym c.clashes.ensures ∙ c.if-clashes.true in
    sym (ap not (ap (λ k. any test (below k)) (sym c.from-conflicts.ensures) ∙ l.invariant
    ∙ any-hit test (below n) 0 l.i (omega (arith, length-below n)) hit))

pub loop-i-preserved : goal.loop-i-preserved
loop-i-preserved c =
    let l = c.loop-i in
    let n = c.from-conflicts.result in
    let test = clashes (table_in c.args.tables.now) (digits c.args.tables.now.blocks c.args.place) in
    let miss = ap test (get_or-below n l.i 0 (omega arith)) ∙ sym c.clashes.ensures ∙ c.if-clashes.false in
    l.invariant ∙ any-miss test (below n) 0 l.i (omega (arith, length-below n)) miss

pub returns : goal.returns
unfolding apart
returns c =
    let l = c.loop-i in
    let n = c.from-conflicts.result in
    let test = clashes (table_in c.args.tables.now) (digits c.args.tables.now.blocks c.args.place) in
    sym (ap not (ap (λ k. any test (below k)) (sym c.from-conflicts.ensures) ∙ l.invariant ∙ any-end (below n) l.i (omega (arith, length-below n)) test))
