-- Sums term by term: compared, with one term changed, of what a test keeps, split by a test, and regrouped by a key.
use Prim.Native.Nat.{ℕ, ◌+◌, ◌≤◌}
use native.Mathlib.Nat.{le_refl}
use native.Mathlib.Omega.{arith}
use mathlib.Core.Path.{◌≡◌, refl, sym, ap, ◌∙◌}
use mathlib.Core.Logic.{inl, inr}
use mathlib.Core.Bool.{Bool, true, false, cond, not, ◌&&◌}
use mathlib.Core.List.{List, [], ◌∷◌, map}
use mathlib.Core.List.Memᴰ
use mathlib.Core.List.{Memᴰ}
use lib.Dec.{eqb}
use borrow.Author.Tests.{eq-eqb, ne_eqb}
use Rattle.sequences.specs.Ascending.{Once}
use Rattle.sequences.specs.Lists.{keep, sum}
use Rattle.sequences.proofs.Tests.{cond_ind}
use Rattle.sequences.proofs.Agreeing.{map-agree}

module _ {A : Type 0} (f g : A → ℕ) where
  -- a sum of sums
  pub sum-plus : (xs : List A) → sum (map (λ x. f x + g x) xs) ≡ sum (map f xs) + sum (map g xs)
  sum-plus [] = refl
  sum-plus (x ∷ xs) = omega (arith, sum-plus xs)

  -- if no term is higher, the sum is not higher
  pub sum_below : (xs : List A) → ((x : A) → Memᴰ x xs → f x ≤ g x) → sum (map f xs) ≤ sum (map g xs)
  sum_below [] h = le_refl 0
  sum_below (x ∷ xs) h = omega (arith, h x (Memᴰ.head refl), sum_below xs (λ y m. h y (Memᴰ.tail m)))

  -- if the other sum is not higher either, the terms are equal
  pub sum-each : (xs : List A) → ((x : A) → Memᴰ x xs → f x ≤ g x) → sum (map g xs) ≤ sum (map f xs) → (x : A) → Memᴰ x xs → f x ≡ g x
  sum-each [] h l x m = absurd (Memᴰ.not-nil m)
  sum-each (y ∷ xs) h l x m =
      let rest = sum_below xs (λ z k. h z (Memᴰ.tail k)) in
      elim (Memᴰ.cases_cons m) [
        | inl e ↦ rw e (omega (arith, h y (Memᴰ.head refl), rest))
        | inr k ↦ sum-each xs (λ z j. h z (Memᴰ.tail j)) (omega (arith, h y (Memᴰ.head refl), rest)) x k
      ]

  -- all terms but one are equal
  pub sum-but-one : (xs : List A) → Once xs → (n : A) → Memᴰ n xs → ((x : A) → Memᴰ x xs → (x ≡ n → ⊥) → f x ≡ g x)
      → sum (map f xs) + g n ≡ sum (map g xs) + f n
  sum-but-one [] once n m h = absurd (Memᴰ.not-nil m)
  sum-but-one (y ∷ xs) once n m h = elim (Memᴰ.cases_cons m) [
    | inl e ↦
        let rest : sum (map f xs) ≡ sum (map g xs) =
        ap sum (map-agree f g xs (λ x k. h x (Memᴰ.tail k) (λ same. once.0 (Memᴰ.cast (sym e ∙ sym same) k)))) in
        rw e (omega arith)
    | inr k ↦ omega (
      arith,
      h y (Memᴰ.head refl) (λ same. once.0 (Memᴰ.cast same k)),
      sum-but-one xs once.1 n k (λ x j. h x (Memᴰ.tail j)),
    )
  ]

module _ {A : Type 0} where
  -- terms that are 0 may be left out
  pub sum_kept : (test : A → Bool) (f : A → ℕ) (xs : List A) → ((x : A) → Memᴰ x xs → test x ≡ false → f x ≡ 0)
      → sum (map f xs) ≡ sum (map f (keep test xs))
  sum_kept test f [] h = refl
  sum_kept test f (x ∷ xs) h =
      let rest = sum_kept test f xs (λ y m. h y (Memᴰ.tail m)) in
      cond_ind (λ (r : List A). f x + sum (map f xs) ≡ sum (map f r)) (test x) (x ∷ keep test xs) (keep test xs)
      (λ _. omega (arith, rest)) (λ e. omega (arith, rest, h x (Memᴰ.head refl) e))

  -- a sum over what u keeps, split by t
  pub sum-split : (t u : A → Bool) (f : A → ℕ) (xs : List A)
      → sum (map f (keep u xs)) ≡ sum (map f (keep (λ x. t x && u x) xs)) + sum (map f (keep (λ x. not (t x) && u x) xs))
  sum-split t u f [] = refl
  sum-split t u f (x ∷ xs) = step (t x) (u x) (sum-split t u f xs)
    where
      kept : (A → Bool) → List A
      kept v = keep v xs

      step : (a b : Bool) → sum (map f (kept u)) ≡ sum (map f (kept (λ x. t x && u x))) + sum (map f (kept (λ x. not (t x) && u x)))
          → sum (map f (cond b (x ∷ kept u) (kept u)))
          ≡ sum (map f (cond (a && b) (x ∷ kept (λ x. t x && u x)) (kept (λ x. t x && u x))))
          + sum (map f (cond (not a && b) (x ∷ kept (λ x. not (t x) && u x)) (kept (λ x. not (t x) && u x))))
      step true true h = omega (arith, h)
      step true false h = h
      step false true h = omega (arith, h)
      step false false h = h

  sum-zero : (xs : List A) → sum (map (λ x. 0) xs) ≡ 0
  sum-zero [] = refl
  sum-zero (x ∷ xs) = omega (arith, sum-zero xs)

-- the sum of the elements with key n
abbrev pub group_sum : {A : Type 0} → (A → ℕ) → (A → ℕ) → List A → ℕ → ℕ
group_sum key f xs n = sum (map f (keep (λ x. eqb (key x) n) xs))

-- a sum is the sum of its groups' sums
module _ {A : Type 0} (key f : A → ℕ) (keys : List ℕ) (once : Once keys) where
  pub sum-groups : (xs : List A) → ((x : A) → Memᴰ x xs → Memᴰ (key x) keys) → sum (map f xs) ≡ sum (map (group_sum key f xs) keys)
  sum-groups [] h = sym (sum-zero keys)
  sum-groups (x ∷ xs) h =
      let here : group_sum key f (x ∷ xs) (key x) ≡ f x + group_sum key f xs (key x) = rw (eq-eqb (key x) (key x) refl) refl in
      let one = sum-but-one (group_sum key f (x ∷ xs)) (group_sum key f xs) keys once (key x) (h x (Memᴰ.head refl))
      (λ n _ other. rw (ne_eqb (key x) n (λ e. other (sym e))) refl) in
      omega (arith, here, one, sum-groups xs (λ y m. h y (Memᴰ.tail m)))
