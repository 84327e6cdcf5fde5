-- The test that was made is that of the next block.
use Rattle.std.proofs.Common.{sym, ap, ◌∙◌, not, arith}
use Rattle.sequences.specs.Lists.{below}
use Rattle.sequences.proofs.Counting.{length-below, get_or-below}
use Rattle.sequences.proofs.Loops.{any-hit, any-miss, any-end}
use Rattle.packing.specs.Packing.{digits}
use Rattle.visit.specs.Lent.{table_in}
use Rattle.visit.specs.Tables.{stands}
use Rattle.visit.proofs.Rows.{better_away}
use Rattle.visit.proofs.rowtest.stands.Goals as goal

pub returns-then-moves : goal.returns-then-moves
unfolding stands
returns-then-moves c =
    let l = c.loop-m in
    let n = c.args.tables.now.blocks in
    let test = better_away (table_in c.args.tables.now) (digits n c.args.place) in
    let hit = ap test (get_or-below n l.m 0 (omega arith)) ∙ sym c.moves.ensures ∙ c.if-moves.true in
    sym (ap not (l.invariant ∙ any-hit test (below n) 0 l.m (omega (arith, length-below n)) hit))

pub loop-m-preserved : goal.loop-m-preserved
loop-m-preserved c =
    let l = c.loop-m in
    let n = c.args.tables.now.blocks in
    let test = better_away (table_in c.args.tables.now) (digits n c.args.place) in
    let miss = ap test (get_or-below n l.m 0 (omega arith)) ∙ sym c.moves.ensures ∙ c.if-moves.false in
    l.invariant ∙ any-miss test (below n) 0 l.m (omega (arith, length-below n)) miss

pub returns : goal.returns
unfolding stands
returns c =
    let l = c.loop-m in
    let n = c.args.tables.now.blocks in
    sym (ap not (l.invariant ∙ any-end (below n) l.m (omega (arith, length-below n)) (better_away (table_in c.args.tables.now) (digits n c.args.place))))
