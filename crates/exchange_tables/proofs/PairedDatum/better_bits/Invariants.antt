-- The bits of the clouds from `there` on.
use Prim.Native.Nat.{◌-◌}
use mathlib.Core.Path.{◌≡◌}
use Rattle.sequences.specs.Bits.{bits}
use Rattle.table_entries.specs.Building.{better_by}
use Rattle.exchange_tables.proofs.PairedDatum.better_bits.Given as goal

abbrev pub invariant-loop-there : goal.invariant-loop-there
invariant-loop-there l = l.better ≡ bits (better_by l.self.description.now l.self.mask l.self.number l.here) l.there (l.clouds - l.there)
