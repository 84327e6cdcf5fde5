-- The blocks from `m` on have one that is better at its other end exactly if all blocks do.
use Rattle.std.proofs.Common.{◌≡◌, drop}
use Rattle.sequences.specs.Lists.{any, below}
use Rattle.packing.specs.Packing.{digits}
use Rattle.visit.specs.Lent.{table_in}
use Rattle.visit.proofs.Rows.{better_away}
use Rattle.visit.proofs.rowtest.stands.Given as goal

abbrev pub invariant-loop-m : goal.invariant-loop-m
invariant-loop-m l =
    let t = better_away (table_in l.tables) (digits l.tables.blocks l.place) in
    any t (below l.tables.blocks) ≡ any t (drop l.m (below l.tables.blocks))
