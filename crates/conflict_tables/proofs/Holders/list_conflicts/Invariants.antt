-- The conflicts among the first numbers are at the front, and there is room for each.
use Rattle.table_entries.specs.Building.{Listed, conflicts_to}
use Rattle.conflict_tables.proofs.Holders.list_conflicts.Given as goal

abbrev pub invariant-loop-both : goal.invariant-loop-both
invariant-loop-both l = Listed 136 (conflicts_to l.self.description.now l.both) l.a l.m
