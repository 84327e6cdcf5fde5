-- The conflicts from `i` on have one that clashes exactly if all have.
use Rattle.std.proofs.Common.{◌≡◌, drop}
use Rattle.sequences.specs.Lists.{any, below}
use Rattle.packing.specs.Packing.{digits}
use Rattle.visit.specs.Lent.{table_in}
use Rattle.visit.specs.Tables.{clashes}
use Rattle.visit.proofs.conflicts.is_apart.Given as goal

abbrev pub invariant-loop-i : goal.invariant-loop-i
invariant-loop-i l =
    let t = clashes (table_in l.tables) (digits l.tables.blocks l.place) in
    any t (below l.conflicts) ≡ any t (drop l.i (below l.conflicts))
