-- The clouds of the blocks below `b` are stored, and zeros follow.
use Rattle.std.proofs.Common.{◌-◌, ◌≡◌, ◌++◌, replicate, take}
use Rattle.packing.specs.Packing.{digits}
use Rattle.packing.proofs.unpacked.Given as goal

abbrev pub invariant-loop-b : goal.invariant-loop-b
invariant-loop-b l = l.clouds ≡ take l.b (digits l.blocks l.place) ++ replicate (16 - l.b) 0
