-- Cloud by cloud.
use Prim.Native.Nat.{◌*◌}
use Rattle.costs.specs.Terms.{block_term}
use Rattle.table_entries.specs.Building.{Stored}
use Rattle.tables.proofs.blocks.put_charges.Given as goal

abbrev pub invariant-loop-k : goal.invariant-loop-k
invariant-loop-k l = Stored (block_term l.w l.b) (l.b * 8) l.k l.initial.a l.a
