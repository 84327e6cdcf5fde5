-- `step` takes the weight on by one block: the loop keeps the terms of the blocks up to it and of the edges before `e`.
use Rattle.std.proofs.Common.{◌≡◌, ◌+◌}
use Rattle.packing.specs.Packing.{digits}
use Rattle.visit.specs.Lent.{table_in}
use Rattle.walk.proofs.Weights.{part}
use Rattle.walk.proofs.step.Given as goal

abbrev pub invariant-loop-e : goal.invariant-loop-e
invariant-loop-e l = l.weight ≡ part (table_in l.tables) (l.fn.block.at + 1) l.e (digits (l.fn.block.at + 1) l.place)
