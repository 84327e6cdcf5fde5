-- Two entries for each block; past the last there is 0.
use Prim.Native.Nat.{◌*◌}
use lib.ListN.{length}
use Rattle.sequences.specs.Arrays.{up_to}
use Rattle.table_entries.specs.Building.{pair_at}
use Rattle.sequences.proofs.Filling.{Filled}
use Rattle.exchange_tables.proofs.fill_pairs.Given as goal

abbrev pub invariant-loop-m : goal.invariant-loop-m
invariant-loop-m l = Filled 32 (up_to (2 * length l.w.blocks) (pair_at l.w)) l.a (2 * l.m)
