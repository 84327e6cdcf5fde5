-- What a loop over a list's elements keeps: a search, a count or a product from position i on is made of the element at i and of the
-- same from the next position on.
use mathlib.Core.Path.{◌≡◌, refl, sym, ap, ap₂, ◌∙◌}
use Prim.Native.Nat.{ℕ, zero, suc, ◌+◌, ◌*◌, ◌≤◌, ◌<◌}
use native.Mathlib.Numerals.{add-one}
use native.Mathlib.Omega.{arith}
use mathlib.Core.Bool.{Bool, true, false}
use mathlib.Core.List.{List, [], ◌∷◌, map}
use mathlib.Core.Option.{none, some}
use lib.ListN.{length, get_or, drop, drop_of_length-le}
use lib.Seq.{drop-cons}
use Rattle.sequences.specs.Lists.{from, below, any, keep, first_from, product, sum}

-- the elements from i on, with a head
module _ {A : Type 0} (l : List A) (z : A) (i : ℕ) (h : i < length l) where
  pub rest : drop i l ≡ get_or l i z ∷ drop (i + 1) l
  rest = drop-cons l i z h ∙ ap (λ (n : ℕ). get_or l i z ∷ drop n l) (sym (add-one i))

module _ {A : Type 0} (t : A → Bool) (l : List A) (z : A) (i : ℕ) (h : i < length l) where
  pub any-hit : t (get_or l i z) ≡ true → any t (drop i l) ≡ true
  any-hit e = ap (any t) (rest l z i h) ∙ simp e

  pub any-miss : t (get_or l i z) ≡ false → any t (drop i l) ≡ any t (drop (i + 1) l)
  any-miss e = ap (any t) (rest l z i h) ∙ simp e

  pub first-hit : t (get_or l i z) ≡ true → first_from i t (drop i l) ≡ some i
  first-hit e = ap (first_from i t) (rest l z i h) ∙ simp e

  pub first-miss : t (get_or l i z) ≡ false → first_from i t (drop i l) ≡ first_from (i + 1) t (drop (i + 1) l)
  first-miss e =
      ap (first_from i t) (rest l z i h) ∙ (simp e) ∙ ap (λ (n : ℕ). first_from n t (drop (i + 1) l)) (sym (add-one i))

  pub keep-hit : t (get_or l i z) ≡ true → length (keep t (drop i l)) ≡ suc (length (keep t (drop (i + 1) l)))
  keep-hit e = ap (λ k. length (keep t k)) (rest l z i h) ∙ simp e

  pub keep-miss : t (get_or l i z) ≡ false → length (keep t (drop i l)) ≡ length (keep t (drop (i + 1) l))
  keep-miss e = ap (λ k. length (keep t k)) (rest l z i h) ∙ simp e

module _ {A : Type 0} (l : List A) (i : ℕ) (h : length l ≤ i) where
  pub any-end : (t : A → Bool) → any t (drop i l) ≡ false
  any-end t = ap (any t) (drop_of_length-le l h)

  pub first-end : (t : A → Bool) → first_from i t (drop i l) ≡ none
  first-end t = ap (first_from i t) (drop_of_length-le l h)

  pub keep-end : (t : A → Bool) → length (keep t (drop i l)) ≡ 0
  keep-end t = ap (λ k. length (keep t k)) (drop_of_length-le l h)

  pub product-end : (f : A → ℕ) → product (map f (drop i l)) ≡ 1
  product-end f = ap (λ k. product (map f k)) (drop_of_length-le l h)

  pub sum-end : (f : A → ℕ) → sum (map f (drop i l)) ≡ 0
  sum-end f = ap (λ k. sum (map f k)) (drop_of_length-le l h)

module _ {A : Type 0} (f : A → ℕ) (l : List A) (z : A) (i : ℕ) (h : i < length l) where
  pub product-next : product (map f (drop i l)) ≡ f (get_or l i z) * product (map f (drop (i + 1) l))
  product-next = ap (λ k. product (map f k)) (rest l z i h)

  pub sum-next : sum (map f (drop i l)) ≡ f (get_or l i z) + sum (map f (drop (i + 1) l))
  sum-next = ap (λ k. sum (map f k)) (rest l z i h)

-- a test of a copy of an element is a test of the element
pub told : {A : Type 0} (t : A → Bool) {x y : A} {r v : Bool} → x ≡ y → r ≡ t x → r ≡ v → t y ≡ v
told t e f g = sym (ap t e) ∙ sym f ∙ g

-- a loop over numbers may stop at k if those from k on add nothing
module _ (t : ℕ → Bool) where
  none_from : (j k n : ℕ) → ((i : ℕ) → j + k ≤ i → t i ≡ false) → keep t (drop k (from j n)) ≡ []
  none_from j zero zero h = refl
  none_from j zero (suc n) h = simp (h j (omega arith)) (none_from (suc j) zero n (λ i l. h i (omega arith)))
  none_from j (suc k) zero h = refl
  none_from j (suc k) (suc n) h = none_from (suc j) k n (λ i l. h i (omega arith))

  pub keep-stops : (k n : ℕ) → ((i : ℕ) → k ≤ i → t i ≡ false) → length (keep t (drop k (below n))) ≡ 0
  keep-stops k n h = ap length (none_from 0 k n (λ i l. h i (omega arith)))

module _ (f : ℕ → ℕ) where
  ones-from : (j k n : ℕ) → ((i : ℕ) → j + k ≤ i → f i ≡ 1) → product (map f (drop k (from j n))) ≡ 1
  ones-from j zero zero h = refl
  ones-from j zero (suc n) h = ap₂ ◌*◌ (h j (omega arith)) (ones-from (suc j) zero n (λ i l. h i (omega arith)))
  ones-from j (suc k) zero h = refl
  ones-from j (suc k) (suc n) h = ones-from (suc j) k n (λ i l. h i (omega arith))

  pub product-stops : (k n : ℕ) → ((i : ℕ) → k ≤ i → f i ≡ 1) → product (map f (drop k (below n))) ≡ 1
  product-stops k n h = ones-from 0 k n (λ i l. h i (omega arith))
