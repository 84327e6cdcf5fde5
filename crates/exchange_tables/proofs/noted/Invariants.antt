-- Edge by edge.
use Rattle.std.proofs.Common.{take}
use Rattle.exchange_tables.specs.Exchanges.{Noted}
use Rattle.exchange_tables.proofs.noted.Given as goal

abbrev pub invariant-loop-e : goal.invariant-loop-e
invariant-loop-e l = Noted l.way (take l.e-index l.e-items) l.notes
