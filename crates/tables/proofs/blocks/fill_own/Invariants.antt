-- Block by block; the others are charged nothing.
use Prim.Native.Nat.{◌*◌, ◌/◌, ◌%◌}
use Rattle.costs.specs.Terms.{block_term}
use Rattle.sequences.proofs.Filling.{Filled}
use Rattle.tables.proofs.blocks.fill_own.Given as goal

abbrev pub invariant-loop-b : goal.invariant-loop-b
invariant-loop-b l = Filled 128 (λ j. block_term l.w (j / 8) (j % 8)) l.a (l.b * 8)
