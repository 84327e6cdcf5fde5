-- After i turns the mask has the highest i bits.
use Rattle.std.proofs.Common.{◌≡◌, ◌-◌}
use Rattle.security.specs.Soundness.{cloud_covers}
use Rattle.sequences.specs.Bits.{bits}
use Rattle.soundness.proofs.masks.covering_clouds.Given as goal

abbrev pub invariant-loop-i : goal.invariant-loop-i
invariant-loop-i l = l.m ≡ bits (cloud_covers l.w l.label) (l.clouds - l.i) l.i
