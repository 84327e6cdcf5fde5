-- Each cloud put so far took one byte.
use Rattle.std.proofs.Common.{◌+◌, ◌≡◌}
use Rattle.arrayvec.specs.ArrayVec.{array_vec_len}
use Rattle.callcases.proofs.output.put_clouds.Given as goal

abbrev pub invariant-loop-cloud : goal.invariant-loop-cloud
invariant-loop-cloud g l = array_vec_len l.out ≡ array_vec_len l.initial.out + l.cloud-index
