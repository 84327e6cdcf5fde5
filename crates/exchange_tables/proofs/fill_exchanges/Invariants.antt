-- Datum by datum, after the first 266 bytes, which stay as they are.
use Prim.Native.Nat.{◌*◌}
use Rattle.exchange_tables.proofs.Putting.{Exchanging}
use Rattle.sequences.specs.Arrays.{up_to}
use Rattle.table_entries.specs.Building.{exchange_by}
use Rattle.exchange_tables.proofs.fill_exchanges.Given as goal

abbrev pub invariant-loop-m : goal.invariant-loop-m
invariant-loop-m l = Exchanging (up_to (l.blocks * 8) (exchange_by l.w l.initial.bytes l.clouds)) l.initial.bytes l.bytes l.m
