-- A status is taken apart again: no call refuses with a number above 17 or a place above `most_words`.
use Prim.Native.Nat.{ℕ, ◌≤◌}
use native.Mathlib.Omega.{arith}
use mathlib.Core.Path.{refl}
use mathlib.Core.List.{List}
use Rattle.sequences.specs.Results.{Result, ok, refused, RefusalWithin}
use Rattle.sequences.proofs.Results.{within_more}
use Rattle.decoding.specs.Bytes.{Bytes, deciding_bytes}
use Rattle.judging.specs.Calls.{read_call, masks_call, judge_call, transfers_call}
use Rattle.judging.proofs.Refusals.{read_call-within, masks_call-within, judge_call-within, transfers_call-within}
use Rattle.picture.specs.Calls.{picture_call, size_call}
use Rattle.picture.specs.Picture.{picture_bytes}
use Rattle.picture.proofs.Refusals.{picture_call-within, size_call-within}
use Rattle.billing.specs.Calls.{bill_call}
use Rattle.billing.proofs.Refusals.{bill_call-within}
use Rattle.standing.specs.Reasons.{standing_call}
use Rattle.standing.proofs.Refusals.{standing_call-within}
use Rattle.lister.specs.Calls.{census_call, draw_call}
use Rattle.lister.proofs.Refusals.{census_call-within, draw_call-within}
use Rattle.whole_list.specs.WholeList.{most_words, list_call}
use Rattle.whole_list.proofs.Refusals.{list_call-within}
use Rattle.panel.specs.Statements.{Readable, NothingLost}

module _ {A : Type 0} where
  readable : (r : Result A) → RefusalWithin 17 most_words r → Readable r
  readable (ok a) w = refl
  readable (refused number place) w = (omega arith, omega arith, omega arith)

  sooner : (numbers places : ℕ) → numbers ≤ 17 → places ≤ most_words → (r : Result A) → RefusalWithin numbers places r → Readable r
  sooner numbers places h l r w = readable r (within_more 17 most_words h l r w)

-- OF A REFUSAL NOTHING IS LOST
pub nothing-lost : (s : List ℕ) → Bytes s → NothingLost s
nothing-lost s bytes = record {
  read = sooner 12 deciding_bytes (omega arith) (omega arith) (read_call s) (read_call-within s);
  masks = sooner 12 deciding_bytes (omega arith) (omega arith) (masks_call s) (masks_call-within s);
  judge = λ p. sooner 17 deciding_bytes (omega arith) (omega arith) (judge_call s p) (judge_call-within s p);
  transfers = λ p room. sooner 17 deciding_bytes (omega arith) (omega arith) (transfers_call s p room) (transfers_call-within s p room);
  picture = λ p room. sooner 17 picture_bytes (omega arith) (omega arith) (picture_call s p room) (picture_call-within s p room);
  size = λ p. sooner 17 picture_bytes (omega arith) (omega arith) (size_call s p) (size_call-within s p);
  bill = λ p. sooner 17 deciding_bytes (omega arith) (omega arith) (bill_call s p) (bill_call-within s p);
  standing = λ b k. sooner 12 deciding_bytes (omega arith) (omega arith) (standing_call s b k) (standing_call-within s b k);
  census = sooner 12 deciding_bytes (omega arith) (omega arith) (census_call s) (census_call-within s);
  draw = λ c. sooner 12 deciding_bytes (omega arith) (omega arith) (draw_call s c) (draw_call-within s c);
  list = λ room. sooner 16 most_words (omega arith) (omega arith) (list_call s room) (list_call-within s room bytes);
}
