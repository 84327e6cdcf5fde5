-- Cloud by cloud.
use Prim.Native.Nat.{◌+◌, ◌*◌}
use Rattle.table_entries.specs.Building.{bits_by, Stored}
use Rattle.exchange_tables.proofs.PairedDatum.put_exchanges.Given as goal

abbrev pub invariant-loop-here : goal.invariant-loop-here
invariant-loop-here l =
    Stored (bits_by l.self.description.now l.self.mask l.clouds l.self.number) (266 + l.self.number * 8) l.here l.initial.bytes l.bytes
