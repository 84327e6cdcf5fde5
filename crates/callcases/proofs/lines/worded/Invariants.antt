-- Each number put so far took at most 21 bytes.
use Rattle.std.proofs.Common.{◌+◌, ◌*◌, ◌≤◌}
use Rattle.arrayvec.specs.ArrayVec.{array_vec_len}
use Rattle.callcases.proofs.lines.worded.Given as goal

abbrev pub invariant-loop-n : goal.invariant-loop-n
invariant-loop-n l = array_vec_len l.text ≤ array_vec_len l.initial.text + 21 * l.n-index
