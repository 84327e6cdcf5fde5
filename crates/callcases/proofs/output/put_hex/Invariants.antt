-- Each byte put so far took two.
use Rattle.std.proofs.Common.{◌+◌, ◌*◌, ◌≡◌, length}
use Rattle.std.specs.Slice.Iter.{chunks_rest, chunks_size}
use Rattle.arrayvec.specs.ArrayVec.{array_vec_len}
use Rattle.callcases.proofs.output.put_hex.Given as goal

abbrev pub invariant-loop-part : goal.invariant-loop-part
invariant-loop-part g l = record {
  size : chunks_size l.part-iterator ≡ 256;
  room : array_vec_len l.out + 2 * length (chunks_rest l.part-iterator) ≡ array_vec_len l.initial.out + 2 * length l.bytes;
}
