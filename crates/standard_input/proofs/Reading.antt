-- What was read into a buffer is all that the reader had left, or as much of it as fits.
use Rattle.std.proofs.Common.{◌≡◌, ◌∙◌, ◌≤◌, ◌<◌, ◌++◌, ℕ, List, Option, None, Some, IfSome, arith, ap, subst, sym, length, take, length-take, append-nil}
use native.Mathlib.Decide.{dec_lt}
use Rattle.std.proofs.Math.Seq.{take_at, take_all}
use Rattle.std.specs.Io.KnownBytes.{Consumes, IsAtEnd}

pub read_front : (P : List ℕ → Type 0) (old new : Option (List ℕ)) (buffer : List ℕ) (size count : ℕ) → length buffer ≡ size → count ≤ length buffer
    → Consumes old new (take count buffer) → (count < length buffer → IsAtEnd new) → P (take count buffer) → IfSome old (λ s. P (take size s))
read_front P None new buffer size count full few e end p = tt
read_front P (Some s) None buffer size count full few e end p = absurd e
read_front P (Some s) (Some rest) buffer size count full few e end p =
    let came = take count buffer in
    let same : came ≡ take size s = elim (dec_lt count (length buffer)) [
      | yes l ↦
          let all : s ≡ came = e ∙ ap (λ l. came ++ l) (end l) ∙ append-nil came in
          sym (ap (take size) all ∙ take_all size came (omega (arith, length-take count buffer)))
      | no l ↦
          let all : length came ≡ size = omega (arith, length-take count buffer) in
          sym (ap (take size) e ∙ take_at came rest size all)
    ] in
    subst P same p
