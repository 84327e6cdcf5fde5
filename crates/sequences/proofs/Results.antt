-- What a result of `unless`, `cond` or `and_then` says of its parts.
use Prim.Native.Nat.{ℕ, ◌≤◌, ◌<◌}
use native.Mathlib.Omega.{arith}
use mathlib.Core.Path.{◌≡◌, refl, sym}
use mathlib.Core.Logic.{◌↔◌, ◌⊎◌, inl, inr}
use mathlib.Core.Bool.{Bool, true, false, cond}
use mathlib.Core.Option.{Option, none, some, some-ne-none}
use Rattle.sequences.specs.Results.{Result, ok, refused, unless, and_then, RefusalWithin}

module _ {A : Type 0} where
  -- a result has one value
  pub ok-inj : {a b : A} → ◌≡◌ {A = Result A} (ok a) (ok b) → a ≡ b
  ok-inj e = cc

  -- a value is no refusal
  pub ok-not-refused : {a : A} {number place : ℕ} → ok a ≡ refused number place → ⊥
  ok-not-refused e = let z : ◌≡◌ {A = ℕ} 0 1 = cc in omega arith

  -- there is a value exactly if nothing was found to refuse and the rest has it
  pub unless-ok : (found : Option ℕ) (number : ℕ) (r : Result A) (a : A) → (unless found number r ≡ ok a) ↔ ((found ≡ none) × (r ≡ ok a))
  unless-ok none number r a = (λ e. (refl, e), λ h. h.1)
  unless-ok (some place) number r a = (λ e. absurd (ok-not-refused (sym e)), λ h. absurd (some-ne-none place h.0))

  -- a refusal with this number, which the rest can't give: its place was found
  pub unless-here : (found : Option ℕ) (number place : ℕ) (r : Result A) → (r ≡ refused number place → ⊥)
      → unless found number r ≡ refused number place → found ≡ some place
  unless-here none number place r never e = absurd (never e)
  unless-here (some q) number place r never e = cc

  -- a refusal with another number: nothing was found, and the rest gives it
  pub unless-later : (found : Option ℕ) (number n place : ℕ) (r : Result A) → (number ≡ n → ⊥)
      → unless found number r ≡ refused n place → (found ≡ none) × (r ≡ refused n place)
  unless-later none number n place r other e = (refl, e)
  unless-later (some q) number n place r other e = absurd (other (cc))

  -- there is a value only if the refusing test failed
  pub cond-ok : (test : Bool) (number place : ℕ) (r : Result A) (a : A) → cond test (refused number place) r ≡ ok a → (test ≡ false) × (r ≡ ok a)
  cond-ok true number place r a e = absurd (ok-not-refused (sym e))
  cond-ok false number place r a e = (refl, e)

module _ {A B : Type 0} where
  -- a value of two calls in a row is the second call's, on the first call's value
  pub and_then-ok : (r : Result A) (f : A → Result B) (b : B) → (and_then r f ≡ ok b) ↔ ((a : A) × (r ≡ ok a) × (f a ≡ ok b))
  and_then-ok (ok x) f b = (λ e. (x, refl, e), λ (a, e, h). let same : x ≡ a = cc in rw same h)
  and_then-ok (refused number place) f b = (λ e. absurd (ok-not-refused (sym e)), λ (a, e, h). absurd (ok-not-refused (sym e)))

  -- a refusal of two calls in a row is the first call's, or the second call's on the first call's value
  pub and_then-refused : (r : Result A) (f : A → Result B) (number place : ℕ)
      → (and_then r f ≡ refused number place) ↔ ((r ≡ refused number place) ⊎ ((a : A) × (r ≡ ok a) × (f a ≡ refused number place)))
  and_then-refused (ok x) f number place = (
    λ e. inr (x, refl, e),
    λ h. elim h [ inl e ↦ absurd (ok-not-refused e) | inr (a, e, k) ↦ let same : x ≡ a = cc in rw same k ],
  )
  and_then-refused (refused n q) f number place = (λ e. inl (cc), λ h. elim h [ inl e ↦ cc | inr (a, e, k) ↦ absurd (ok-not-refused (sym e)) ])

-- ---- numbers and places within bounds

module _ {A : Type 0} (numbers places : ℕ) where
  pub within_more : {n m : ℕ} → n ≤ numbers → m ≤ places → (r : Result A) → RefusalWithin n m r → RefusalWithin numbers places r
  within_more h k (ok a) w = tt
  within_more h k (refused number place) w = (w.0, omega arith, omega arith)

  pub within-unless : (found : Option ℕ) (number : ℕ) (r : Result A) → 0 < number → number ≤ numbers
      → ((place : ℕ) → found ≡ some place → place ≤ places) → RefusalWithin numbers places r → RefusalWithin numbers places (unless found number r)
  within-unless none number r h k few w = w
  within-unless (some place) number r h k few w = (h, k, few place refl)

  pub within-cond : (test : Bool) (r q : Result A) → (test ≡ true → RefusalWithin numbers places r) → (test ≡ false → RefusalWithin numbers places q)
      → RefusalWithin numbers places (cond test r q)
  within-cond true r q h k = h refl
  within-cond false r q h k = k refl

  pub within-and_then : {B : Type 0} (r : Result B) (f : B → Result A) → RefusalWithin numbers places r
      → ((b : B) → r ≡ ok b → RefusalWithin numbers places (f b)) → RefusalWithin numbers places (and_then r f)
  within-and_then (ok b) f w next = next b refl
  within-and_then (refused number place) f w next = w
