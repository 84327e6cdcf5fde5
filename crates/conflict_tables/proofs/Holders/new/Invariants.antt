-- Edge by edge.
use Rattle.std.proofs.Common.{take}
use Rattle.table_entries.specs.Building.{Served}
use Rattle.conflict_tables.proofs.Holders.new.Given as goal

abbrev pub invariant-loop-e : goal.invariant-loop-e
invariant-loop-e l = Served (take l.e-index l.e-items) l.served
