-- The call Judge on the bytes of a description, and what the calls that need a secure placement begin with.
use Prim.Native.Nat.{ℕ}
use mathlib.Core.Path.{◌≡◌, refl, sym, ap, ◌∙◌}
use mathlib.Core.Logic.Iff
use mathlib.Core.Logic.{◌↔◌}
use mathlib.Core.List.{List}
use Rattle.description.specs.Declarations.{Description}
use Rattle.security.specs.Soundness.{read}
use Rattle.security.specs.Placements.{judge}
use Rattle.security.specs.Statements.{Secure}
use Rattle.security.proofs.Judging.{judge-secure}
use Rattle.judging.specs.Calls.{judge_call, judged}
use Rattle.sequences.specs.Results.{Result, ok, refused, and_then}
use Rattle.sequences.proofs.Results.{ok-inj, and_then-ok}

-- Read, and then the verdict
pub judge_call-is : (s p : List ℕ) → judge_call s p ≡ and_then (read s) (λ d. judge d p)
unfolding judge_call
judge_call-is s p = refl

-- secure exactly if the bytes are accepted and the placement is secure for what they declare
pub judge_call-secure : (s p : List ℕ) → (judge_call s p ≡ ok tt) ↔ ((d : Description) × (read s ≡ ok d) × Secure d p)
unfolding judge_call
judge_call-secure s p = Iff.trans (and_then-ok (read s) (λ d. judge d p) tt) (
  λ (d, e, h). (d, e, (judge-secure d p).0 h),
  λ (d, e, h). (d, e, (judge-secure d p).1 h),
)

-- a description is judged exactly if it is accepted and the placement is secure for it
pub judged-secure : (s p : List ℕ) (d : Description) → (judged s p ≡ ok d) ↔ ((read s ≡ ok d) × Secure d p)
unfolding judged
judged-secure s p d = (
  λ e.
      let (x, accepted, rest) = (and_then-ok (read s) (λ x. and_then (judge x p) (λ secure. ok x)) d).0 e in
      let (u, secure, same) = (and_then-ok (judge x p) (λ u. ok x) d).0 rest in
      let x-is : x ≡ d = ok-inj same in
      (accepted ∙ ap ok x-is, (judge-secure d p).0 (rw (← x-is) secure)),
  λ (accepted, secure). rw (accepted, (judge-secure d p).1 secure) refl,
)

-- what Read or Judge refuses is refused with the same number and place
pub judged-refused : (s p : List ℕ) (number place : ℕ) → judge_call s p ≡ refused number place → judged s p ≡ refused number place
unfolding judged
judged-refused s p number place e = go (read s) (sym (judge_call-is s p) ∙ e)
  where
    go : (r : Result Description) → and_then r (λ d. judge d p) ≡ refused number place
        → and_then r (λ d. and_then (judge d p) (λ secure. ok d)) ≡ refused number place
    go (ok d) h = ap (λ (r : Result (Unit {0})). and_then r (λ (secure : Unit {0}). ok d)) h
    go (refused n q) h = cc
