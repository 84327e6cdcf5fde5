-- How long the lines are, from the lengths of their parts.
use Prim.Native.Nat.{ℕ, min}
use native.Mathlib.Omega.{arith}
use mathlib.Core.Path.{◌≡◌}
use mathlib.Core.List.{List, map}
use lib.ListN.{length, take, length-append, length-map, length-take}
use Rattle.list_text.specs.Lines.{digit}
use Rattle.list_text.specs.Statements.{Sizes}
use Rattle.list_text.proofs.Decimals.{fits_word, fit_words, fits_byte}

-- the digits of the clouds, one for each block
pub clouds-length : (blocks : ℕ) (p : List ℕ) → length p ≡ 16 → length (map digit (take blocks p)) ≡ min blocks 16
clouds-length blocks p h = simp (length-map, length-take, h)

pub sizes : Sizes
sizes = record {
  row =
      λ cost placement blocks storage transfer cpu e h₁ h₂ h₃ h₄.
      (let n = fit_words cost storage transfer cpu h₁ h₂ h₃ h₄ in
      let m = clouds-length blocks placement e in
      record { some = simp length-append (omega arith); few = simp length-append (omega arith) });
  options =
      λ count h.
      (let n = fits_word count h in
      record { some = simp length-append (omega arith); few = simp length-append (omega arith) });
  refusal =
      λ number place h l.
      (let n = fits_byte number h in
      let m = fits_word place l in
      record { some = simp length-append (omega arith); few = simp length-append (omega arith) });
}
