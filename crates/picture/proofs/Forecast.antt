-- The forecast number is the number written: both calls use the text of one definition.
use Prim.Native.Nat.{ℕ, ◌≤◌}
use mathlib.Core.Path.{◌≡◌, refl, ap, ◌∙◌}
use mathlib.Core.Bool.{Bool, true, false, cond}
use mathlib.Core.List.{List}
use lib.ListN.{length}
use lib.Dec.{ltb}
use Rattle.description.specs.Declarations.{Description}
use Rattle.security.proofs.Accepted.{read-well_formed}
use Rattle.judging.specs.Calls.{judged}
use Rattle.judging.proofs.Judged.{judge_call-secure, judged-secure, judged-refused}
use Rattle.sequences.specs.Results.{Result, ok, refused, and_then}
use Rattle.sequences.proofs.Results.{ok-inj, and_then-ok}
use Rattle.picture.specs.Answers.{size_of}
use Rattle.picture.specs.Calls.{fitted, picture_call, size_call}
use Rattle.picture.specs.Picture.{picture, picture_bytes}
use Rattle.picture.specs.Statements.{Forecast}
use Rattle.picture.proofs.Bound.{picture-few}
use Rattle.picture.proofs.Fitting.{long-enough}

pub judged-few : (s p : List ℕ) (d : Description) → judged s p ≡ ok d → length (picture d p) ≤ picture_bytes
judged-few s p d e =
    let (accepted, secure) = (judged-secure s p d).0 e in
    picture-few d p (read-well_formed s d accepted) secure.placed

module _ (s p : List ℕ) where
  told : (n : ℕ) (r : Result Description)
      → size_of (and_then r (λ d. fitted n (picture d p)))
      ≡ and_then (and_then r (λ d. ok (length (picture d p)))) (λ size. cond (ltb n size) (refused 16 size) (ok size))
  told n (ok d) = go (ltb n (length (picture d p)))
    where
      go : (short : Bool) → size_of (cond short (refused 16 (length (picture d p))) (ok (picture d p)))
          ≡ cond short (refused 16 (length (picture d p))) (ok (length (picture d p)))
      go true = refl
      go false = refl
  told n (refused number place) = refl

  written-whole : (d : Description) → judged s p ≡ ok d → (n : ℕ) → length (picture d p) ≤ n → picture_call s p n ≡ ok (picture d p)
  unfolding picture_call
  written-whole d held n room = ap (λ r. and_then r (λ x. fitted n (picture x p))) held ∙ long-enough n (picture d p) room

  -- FORECAST AND WRITTEN ARE ONE NUMBER
  pub forecast : Forecast s p
  unfolding picture_call size_call
  forecast = record {
    written = λ n. told n (judged s p);
    drawn =
        λ e.
        (let (d, accepted, secure) = (judge_call-secure s p).0 e in
        let held = (judged-secure s p d).1 (accepted, secure) in (
          d,
          accepted,
          ap (λ r. and_then r (λ x. ok (length (picture x p)))) held,
          written-whole d held,
        ));
    alike =
        λ number place e.
        (let held = judged-refused s p number place e in (
          ap (λ r. and_then r (λ x. ok (length (picture x p)))) held,
          λ n. ap (λ r. and_then r (λ x. fitted n (picture x p))) held,
        ));
    few =
        λ size e.
        (let (d, held, same) = (and_then-ok (judged s p) (λ x. ok (length (picture x p))) size).0 e in
        rw (← ok-inj same) (judged-few s p d held));
  }
