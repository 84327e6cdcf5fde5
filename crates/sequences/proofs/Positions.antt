-- What holds at every position of a list, or of every two, still holds when an element is added at the end or replaced.
use Prim.Native.Nat.{ℕ, zero, suc, ◌<◌}
use native.Mathlib.Decide.{dec_lt}
use native.Mathlib.Omega.{arith}
use mathlib.Core.Path.{◌≡◌, sym, ◌∙◌}
use mathlib.Core.Logic.{◌⊎◌, inl, inr}
use mathlib.Core.Bool.{Bool, true, false, true≢false}
use mathlib.Core.List.{List, [], ◌∷◌, ◌++◌}
use lib.ListN.{length, get_or, set, length-append, get_or-append, get_or-eq_default}
use lib.Seq.{get_or-append_seam}
use Rattle.sequences.specs.Lists.{any}
use Rattle.sequences.proofs.Tests.{any-fails}

-- One more element: a position is one of the list's, with the same element, or the new one's.
module _ {A : Type 0} (d : A) (l : List A) (a : A) where
  abbrev pub Spot : ℕ → Type 0
  Spot i = ((i < length l) × (get_or (l ++ (a ∷ [])) i d ≡ get_or l i d)) ⊎ ((i ≡ length l) × (get_or (l ++ (a ∷ [])) i d ≡ a))

  pub snoc-at : (i : ℕ) → i < length (l ++ (a ∷ [])) → Spot i
  snoc-at i h = elim (dec_lt i (length l)) [
    | yes y ↦ inl (y, get_or-append l (a ∷ []) d i y)
    | no n ↦ let e : i ≡ length l = omega (arith, length-append l (a ∷ [])) in inr (e, rw e (get_or-append_seam l a [] d))
  ]

-- P holds of the element at every position. Past the last one there is the default, so P holds of that too.
module _ {A : Type 0} (P : A → Type 0) (d : A) where
  pub everywhere : (l : List A) → P d → ((i : ℕ) → i < length l → P (get_or l i d)) → (i : ℕ) → P (get_or l i d)
  everywhere l p h i = elim (dec_lt i (length l)) [
    | yes y ↦ h i y
    | no n ↦ rw (get_or-eq_default l d {n = i} (omega arith)) p
  ]

  pub everywhere-snoc : (l : List A) (a : A) → ((i : ℕ) → P (get_or l i d)) → P a → (i : ℕ) → P (get_or (l ++ (a ∷ [])) i d)
  everywhere-snoc [] a h p zero = p
  everywhere-snoc [] a h p (suc i) = h i
  everywhere-snoc (x ∷ l) a h p zero = h 0
  everywhere-snoc (x ∷ l) a h p (suc i) = everywhere-snoc l a (λ j. h (suc j)) p i

  pub everywhere-set : (l : List A) (j : ℕ) (a : A) → ((i : ℕ) → P (get_or l i d)) → P a → (i : ℕ) → P (get_or (set l j a) i d)
  everywhere-set [] j a h p i = h i
  everywhere-set (x ∷ l) zero a h p zero = p
  everywhere-set (x ∷ l) zero a h p (suc i) = h (suc i)
  everywhere-set (x ∷ l) (suc j) a h p zero = h 0
  everywhere-set (x ∷ l) (suc j) a h p (suc i) = everywhere-set l j a (λ k. h (suc k)) p i

-- No two positions have elements that clash.
abbrev pub Apart : {A : Type 0} → (A → A → Bool) → A → List A → Type 0
Apart clash d l = (i j : ℕ) → i < length l → j < length l → clash (get_or l i d) (get_or l j d) ≡ true → i ≡ j

module _ {A : Type 0} (clash : A → A → Bool) (turn : (x y : A) → clash x y ≡ clash y x) (d : A) (l : List A) (a : A) where
  -- one more element, which clashes with none
  pub apart_snoc : Apart clash d l → any (clash a) l ≡ false → Apart clash d (l ++ (a ∷ []))
  apart_snoc h f i j hi hj c = go (snoc-at d l a i hi) (snoc-at d l a j hj)
    where
      fresh : (k : ℕ) → k < length l → clash a (get_or l k d) ≡ true → i ≡ j
      fresh k y e = absurd (true≢false (sym e ∙ any-fails (clash a) d l f k y))

      go : Spot d l a i → Spot d l a j → i ≡ j
      go (inl x) (inl y) = h i j x.0 y.0 (rw (x.1, y.1) at c)
      go (inl x) (inr y) = fresh i x.0 (turn a (get_or l i d) ∙ (rw (x.1, y.1) at c))
      go (inr x) (inl y) = fresh j y.0 (rw (x.1, y.1) at c)
      go (inr x) (inr y) = x.0 ∙ sym y.0
