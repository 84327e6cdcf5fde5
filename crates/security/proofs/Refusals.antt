-- Read refuses with numbers 1 to 12 and Judge with 1 to 17, and no place is above `deciding_bytes`.
use Prim.Native.Nat.{ℕ, ◌≤◌}
use native.Mathlib.Omega.{arith}
use mathlib.Core.Path.{◌≡◌, sym}
use mathlib.Core.Bool.{Bool, true, false, cond}
use mathlib.Core.List.{List}
use mathlib.Core.Option.{none, some, some-ne-none}
use lib.ListN.{length}
use lib.Dec.{ltb}
use Rattle.sequences.specs.Lists.{first}
use Rattle.sequences.specs.Results.{ok, RefusalWithin}
use Rattle.sequences.proofs.First.{first_below}
use Rattle.sequences.proofs.Results.{within_more, within-unless, within-and_then}
use Rattle.decoding.specs.Bytes.{deciding_bytes}
use Rattle.description.specs.Declarations.{Description}
use Rattle.decoding.specs.Format.{decode}
use Rattle.description.specs.Invariants.{Limits}
use Rattle.decoding.proofs.Limits.{decoded-well_formed}
use Rattle.decoding.proofs.Refusals.{decode-within}
use Rattle.security.specs.Soundness.{breaks2, breaks3, breaks4, count, too_many, positions, sound, read}
use Rattle.security.specs.Placements.{bad_position, breaks16, breaks17, together, judge}
use Rattle.security.proofs.Accepted.{read-well_formed}

-- the place of the first of at most 32
of-few : {A : Type 0} (test : A → Bool) (xs : List A) → length xs ≤ 32 → (place : ℕ) → first test xs ≡ some place → place ≤ deciding_bytes
of-few test xs h place e = omega (arith, first_below test xs place e)

module _ (d : Description) (few : Limits d) where
  sound-within : RefusalWithin 12 deciding_bytes (sound d)
  unfolding sound
  sound-within =
      within-unless 12 deciding_bytes (first breaks2 d.blocks) 9 _ (omega arith) (omega arith) (of-few breaks2 d.blocks (omega (arith, few.blocks)))
      (within-unless 12 deciding_bytes (first (breaks3 d) d.edges) 10 _ (omega arith) (omega arith) (of-few (breaks3 d) d.edges few.edges)
      (within-unless 12 deciding_bytes (first (breaks4 d) d.edges) 11 _ (omega arith) (omega arith) (of-few (breaks4 d) d.edges few.edges)
      (within-unless 12 deciding_bytes (too_many d) 12 (ok d) (omega arith) (omega arith) (at-start (ltb 65536 (count d))) tt)))
    where
      at-start : (b : Bool) (place : ℕ) → cond b (some 0) none ≡ some place → place ≤ deciding_bytes
      at-start true place e = let same : ◌≡◌ {A = ℕ} 0 place = cc in omega arith
      at-start false place e = absurd (some-ne-none place (sym e))

  judge-within : (p : List ℕ) → RefusalWithin 17 deciding_bytes (judge d p)
  unfolding judge
  judge-within p =
      within-unless 17 deciding_bytes (first (bad_position d p) positions) 13 _ (omega arith) (omega arith) (of-few (bad_position d p) positions (omega arith))
      (within-unless 17 deciding_bytes (first (breaks16 d p) d.edges) 14 _ (omega arith) (omega arith) (of-few (breaks16 d p) d.edges few.edges)
      (within-unless 17 deciding_bytes (first (breaks17 d p) d.edges) 15 _ (omega arith) (omega arith) (of-few (breaks17 d p) d.edges few.edges)
      (within-unless 17 deciding_bytes (first (together d p) d.pairs) 17 (ok tt) (omega arith) (omega arith)
      (of-few (together d p) d.pairs (omega (arith, few.pairs))) tt)))

pub read-within : (s : List ℕ) → RefusalWithin 12 deciding_bytes (read s)
unfolding read
read-within s =
    within-and_then 12 deciding_bytes (decode s) sound (within_more 12 deciding_bytes (omega arith) (omega arith) (decode s) (decode-within s))
    (λ d e. sound-within d (decoded-well_formed s d e).limits)

-- judging a placement of an accepted description
pub judged-within : (s : List ℕ) (d : Description) → read s ≡ ok d → (p : List ℕ) → RefusalWithin 17 deciding_bytes (judge d p)
judged-within s d a p = judge-within d (read-well_formed s d a).limits p
