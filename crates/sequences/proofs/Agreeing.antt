-- Functions and tests that agree on every element of a list give the same list. A test that fails on each element keeps nothing; one
-- that passes at one position at most keeps at most one element.
use Prim.Native.Nat.{ℕ, zero, suc, ◌≤◌, ◌<◌, zero-le}
use native.Mathlib.Nat.{zero-lt-suc, suc_inj, le_refl, not-suc-le-zero, le_of_suc-le-suc}
use native.Mathlib.Omega.{arith}
use mathlib.Core.Path.{◌≡◌, refl, sym, ap, ap₂}
use mathlib.Core.Logic.{◌↔◌, inl, inr}
use mathlib.Core.Bool.{Bool, true, false, ◌||◌, cond, false≢true}
use mathlib.Core.List.{List, [], ◌∷◌, map, head-eq_of_cons-eq, tail-eq_of_cons-eq}
use mathlib.Core.List.Memᴰ
use mathlib.Core.List.{Memᴰ}
use lib.ListN.{length, get_or}
use Rattle.sequences.specs.Lists.{any, keep}
use Rattle.sequences.proofs.Tests.{cond_ind, not-passed}

-- two tests that pass together agree
pub tests_agree : (a b : Bool) → (a ≡ true) ↔ (b ≡ true) → a ≡ b
tests_agree true b h = sym (h.0 refl)
tests_agree false b h = sym (not-passed b (λ t. false≢true (h.1 t)))

-- every element has a position
pub member-at : {A : Type 0} (default : A) {x : A} {xs : List A} → Memᴰ x xs → (i : ℕ) × (i < length xs) × (get_or xs i default ≡ x)
member-at default (Memᴰ.head e) = (0, zero-lt-suc _, sym e)
member-at default (Memᴰ.tail m) = let (i, l, e) = member-at default m in (suc i, omega arith, e)

-- and every position has an element
pub at-member : {A : Type 0} (default : A) (xs : List A) (i : ℕ) → i < length xs → Memᴰ (get_or xs i default) xs
at-member default [] i h = absurd (not-suc-le-zero h)
at-member default (x ∷ xs) zero h = Memᴰ.head refl
at-member default (x ∷ xs) (suc i) h = Memᴰ.tail (at-member default xs i (le_of_suc-le-suc h))

-- functions that agree on the elements make one list, and only those do
module _ {A B : Type 0} (f g : A → B) where
  pub map-agree : (xs : List A) → ((x : A) → Memᴰ x xs → f x ≡ g x) → map f xs ≡ map g xs
  map-agree [] h = refl
  map-agree (x ∷ xs) h = ap₂ ◌∷◌ (h x (Memᴰ.head refl)) (map-agree xs (λ y m. h y (Memᴰ.tail m)))

  pub agree-map : (xs : List A) → map f xs ≡ map g xs → (x : A) → Memᴰ x xs → f x ≡ g x
  agree-map [] e x m = absurd (Memᴰ.not-nil m)
  agree-map (y ∷ xs) e x m = elim (Memᴰ.cases_cons m) [
    | inl same ↦ rw same (head-eq_of_cons-eq e)
    | inr k ↦ agree-map xs (tail-eq_of_cons-eq e) x k
  ]

-- tests that agree on the elements find the same
pub any-agree : {A : Type 0} (t u : A → Bool) (xs : List A) → ((x : A) → Memᴰ x xs → t x ≡ u x) → any t xs ≡ any u xs
any-agree t u [] h = refl
any-agree t u (x ∷ xs) h = ap₂ ◌||◌ (h x (Memᴰ.head refl)) (any-agree t u xs (λ y m. h y (Memᴰ.tail m)))

-- tests that agree on the elements keep the same
pub keep-agree : {A : Type 0} (t u : A → Bool) (xs : List A) → ((x : A) → Memᴰ x xs → t x ≡ u x) → keep t xs ≡ keep u xs
keep-agree t u [] h = refl
keep-agree t u (x ∷ xs) h = rw (h x (Memᴰ.head refl), keep-agree t u xs (λ y m. h y (Memᴰ.tail m))) refl

-- keeping after a map: the images of those elements whose images pass
pub keep-map : {A B : Type 0} (f : A → B) (t : B → Bool) (l : List A) → keep t (map f l) ≡ map f (keep (λ a. t (f a)) l)
keep-map f t [] = refl
keep-map f t (a ∷ l) = step (t (f a)) (keep-map f t l)
  where
    step : (b : Bool) → keep t (map f l) ≡ map f (keep (λ x. t (f x)) l)
        → cond b (f a ∷ keep t (map f l)) (keep t (map f l)) ≡ map f (cond b (a ∷ keep (λ x. t (f x)) l) (keep (λ x. t (f x)) l))
    step true e = ap (λ r. f a ∷ r) e
    step false e = e

-- if each fails, nothing is kept
pub keep-none : {A : Type 0} (t : A → Bool) (xs : List A) → ((x : A) → Memᴰ x xs → t x ≡ false) → keep t xs ≡ []
keep-none t [] h = refl
keep-none t (x ∷ xs) h = rw (h x (Memᴰ.head refl)) (keep-none t xs (λ y m. h y (Memᴰ.tail m)))

-- a test that passes at one position at most keeps at most one element
pub keep_one : {A : Type 0} (t : A → Bool) (default : A) (xs : List A)
    → ((i j : ℕ) → i < length xs → j < length xs → t (get_or xs i default) ≡ true → t (get_or xs j default) ≡ true → i ≡ j) → length (keep t xs) ≤ 1
keep_one t default [] h = zero-le
keep_one t default (x ∷ xs) h = cond_ind (λ r. length r ≤ 1) (t x) (x ∷ keep t xs) (keep t xs)
    (λ e.
    let none-later : keep t xs ≡ [] = keep-none t xs (λ y m. not-passed _ (λ u.
    let (i, l, at) = member-at default m in
    let zero-is-suc = h 0 (suc i) (zero-lt-suc _) (omega arith) e (rw at u) in
    omega arith)) in
    rw none-later (le_refl 1))
    (λ _. keep_one t default xs (λ i j a b u v. suc_inj (h (suc i) (suc j) (omega arith) (omega arith) u v)))
