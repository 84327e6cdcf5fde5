-- What the two calls promise of each other, and the bound on every picture.
use Rattle.std.specs.Prelude.{ℕ, ◌≤◌, ◌≡◌, cond, List, length, ltb}
use Rattle.description.specs.Declarations.{Description}
use Rattle.security.specs.Soundness.{read}
use Rattle.judging.specs.Calls.{judge_call}
use Rattle.sequences.specs.Results.{ok, refused, and_then}
use Rattle.picture.specs.Answers.{size_of}
use Rattle.picture.specs.Calls.{picture_call, size_call}
use Rattle.picture.specs.Picture.{picture, picture_bytes}

-- for the bytes s of a description and a placement p
pub record Forecast (s p : List ℕ) : Type 0 where
  -- as many bytes are written as were forecast; a buffer that has fewer is refused, with the same number as the place
  pub written : (n : ℕ) → size_of (picture_call s p n) ≡ and_then (size_call s p) (λ size. cond (ltb n size) (refused 16 size) (ok size))
  -- a secure placement has a forecast, and its picture is written to any buffer that is long enough
  pub drawn : judge_call s p ≡ ok tt → (d : Description) × (read s ≡ ok d) × (size_call s p ≡ ok (length (picture d p)))
      × ((n : ℕ) → length (picture d p) ≤ n → picture_call s p n ≡ ok (picture d p))
  -- what Read and Judge refuse, both calls refuse in the same way, whatever the buffer
  pub alike : (number place : ℕ) → judge_call s p ≡ refused number place
      → (size_call s p ≡ refused number place) × ((n : ℕ) → picture_call s p n ≡ refused number place)
  -- a buffer of `picture_bytes` is long enough for every picture
  pub few : (size : ℕ) → size_call s p ≡ ok size → size ≤ picture_bytes
