-- Sums of bounded terms.
use Prim.Native.Nat.{ℕ, ◌+◌, ◌*◌, ◌≤◌}
use native.Mathlib.Nat.{le_trans, suc-mul, mul-le-mul_right}
use native.Mathlib.Omega.{arith}
use mathlib.Core.Path.{◌≡◌}
use mathlib.Core.List.{List, [], ◌∷◌, ◌++◌, map}
use lib.ListN.{length}
use Rattle.sequences.specs.Lists.{sum}

-- if no term exceeds m, a sum of at most n terms doesn't exceed n times m
module _ {A : Type 0} (f : A → ℕ) (m : ℕ) (most : (a : A) → f a ≤ m) where
  pub sum-most : (l : List A) → sum (map f l) ≤ length l * m
  sum-most [] = omega arith
  sum-most (x ∷ l) = rw suc-mul (omega (arith, most x, sum-most l))

  pub sum-most-of : (n : ℕ) (l : List A) → length l ≤ n → sum (map f l) ≤ n * m
  sum-most-of n l h = le_trans (sum-most l) (mul-le-mul_right m h)

-- the sum of two lists, one after the other
pub sum-append : (xs ys : List ℕ) → sum (xs ++ ys) ≡ sum xs + sum ys
sum-append [] ys = omega arith
sum-append (x ∷ xs) ys = omega (arith, sum-append xs ys)
