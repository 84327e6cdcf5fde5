-- How many elements pass a test: none exactly if no element passes, at most all, and as a sum; and sums of sums.
use Prim.Native.Nat.{ℕ, suc, ◌+◌, ◌*◌, ◌≤◌, ◌<◌, zero-le}
use native.Mathlib.Nat.{mul-suc, zero-lt-suc}
use native.Mathlib.Omega.{arith}
use mathlib.Core.Path.{◌≡◌, refl, ap₂}
use mathlib.Core.Bool.{Bool, true, false, cond, ◌||◌, false≢true}
use mathlib.Core.List.{List, [], ◌∷◌, map}
use lib.ListN.{length}
use Rattle.sequences.specs.Lists.{any, keep, sum}
use Rattle.sequences.proofs.Tests.{cond_ind, or-fails}

module _ {A : Type 0} where
  -- if some element passes, at least one is kept
  pub some-kept : (t : A → Bool) (xs : List A) → any t xs ≡ true → 0 < length (keep t xs)
  some-kept t [] e = absurd (false≢true e)
  some-kept t (x ∷ xs) e = go (t x) (some-kept t xs) e
    where
      go : (b : Bool) → (any t xs ≡ true → 0 < length (keep t xs)) → b || any t xs ≡ true → 0 < length (cond b (x ∷ keep t xs) (keep t xs))
      go true h e = zero-lt-suc _
      go false h e = h e

  -- if no element passes, none is kept
  pub none_kept : (t : A → Bool) (xs : List A) → any t xs ≡ false → length (keep t xs) ≡ 0
  none_kept t [] e = refl
  none_kept t (x ∷ xs) e =
      let (f, g) = or-fails (t x) (any t xs) e in
      rw f (none_kept t xs g)

  -- no more are kept than there are
  pub kept-most : (t : A → Bool) (xs : List A) → length (keep t xs) ≤ length xs
  kept-most t [] = zero-le
  kept-most t (x ∷ xs) = cond_ind (λ l. length l ≤ suc (length xs)) (t x) (x ∷ keep t xs) (keep t xs)
      (λ _. omega (arith, kept-most t xs)) (λ _. omega (arith, kept-most t xs))

  -- m for each element that passes
  pub sum-passing : (m : ℕ) (t : A → Bool) (xs : List A) → sum (map (λ x. cond (t x) m 0) xs) ≡ m * length (keep t xs)
  sum-passing m t [] = omega arith
  sum-passing m t (x ∷ xs) = go (t x) (sum-passing m t xs)
    where
      go : (b : Bool) → sum (map (λ y. cond (t y) m 0) xs) ≡ m * length (keep t xs)
          → cond b m 0 + sum (map (λ y. cond (t y) m 0) xs) ≡ m * length (cond b (x ∷ keep t xs) (keep t xs))
      go true h = rw mul-suc (omega arith)
      go false h = omega arith

  -- a sum of two terms for each element is the sum of the one terms plus that of the others
  pub sum_both : (f g : A → ℕ) (xs : List A) → sum (map (λ x. f x + g x) xs) ≡ sum (map f xs) + sum (map g xs)
  sum_both f g [] = omega arith
  sum_both f g (x ∷ xs) = omega (arith, sum_both f g xs)

  -- terms that are equal for each element
  pub sum_same : (f g : A → ℕ) → ((x : A) → f x ≡ g x) → (xs : List A) → sum (map f xs) ≡ sum (map g xs)
  sum_same f g h [] = refl
  sum_same f g h (x ∷ xs) = ap₂ ◌+◌ (h x) (sum_same f g h xs)
