-- Which numbers the two calls refuse with, and how high their places are.
use Prim.Native.Nat.{ℕ}
use native.Mathlib.Omega.{arith}
use mathlib.Core.Path.{◌≡◌}
use mathlib.Core.List.{List}
use lib.ListN.{length}
use lib.Dec.{ltb}
use Rattle.sequences.specs.Results.{ok, refused, RefusalWithin}
use Rattle.sequences.proofs.Results.{within_more, within-cond, within-and_then}
use Rattle.description.specs.Declarations.{Description}
use Rattle.judging.specs.Calls.{judged}
use Rattle.judging.proofs.Refusals.{judged-within}
use Rattle.picture.specs.Calls.{fitted, picture_call, size_call}
use Rattle.picture.specs.Picture.{picture, picture_bytes}
use Rattle.picture.proofs.Forecast.{judged-few}

module _ (s p : List ℕ) where
  judged-refusals : RefusalWithin 17 picture_bytes (judged s p)
  judged-refusals = within_more 17 picture_bytes (omega arith) (omega arith) (judged s p) (judged-within s p)

  pub picture_call-within : (n : ℕ) → RefusalWithin 17 picture_bytes (picture_call s p n)
  unfolding picture_call
  picture_call-within n = within-and_then 17 picture_bytes (judged s p) (λ d. fitted n (picture d p)) judged-refusals short
    where
      short : (d : Description) → judged s p ≡ ok d → RefusalWithin 17 picture_bytes (fitted n (picture d p))
      short d e =
          let text = picture d p in
          within-cond 17 picture_bytes (ltb n (length text)) (refused 16 (length text)) (ok text)
          (λ _. (omega arith, omega arith, judged-few s p d e)) (λ _. tt)

  pub size_call-within : RefusalWithin 17 picture_bytes (size_call s p)
  unfolding size_call
  size_call-within = within-and_then 17 picture_bytes (judged s p) (λ d. ok (length (picture d p))) judged-refusals (λ d e. tt)
