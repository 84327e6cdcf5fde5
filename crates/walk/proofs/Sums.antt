-- Sums over the numbers below n: one more term, equal terms, bounded terms.
use Prim.Native.Nat.{ℕ, zero, suc, ◌+◌, ◌*◌, ◌≤◌, ◌<◌}
use native.Mathlib.Nat.{add-zero}
use native.Mathlib.Omega.{arith}
use mathlib.Core.Path.{◌≡◌, refl, sym, ap, ◌∙◌}
use mathlib.Core.List.{[], ◌∷◌, ◌++◌, map, map-append}
use Rattle.sequences.specs.Lists.{from, below, sum}
use Rattle.sequences.proofs.Counting.{length-below}
use Rattle.sequences.proofs.Sums.{sum-append, sum-most}

from_next : (k n : ℕ) → from k (suc n) ≡ from k n ++ ((k + n) ∷ [])
from_next k zero = ap (λ x. x ∷ []) (sym (add-zero k))
from_next k (suc n) = ap (λ l. k ∷ l) (from_next (suc k) n ∙ ap (λ x. from (suc k) n ++ (x ∷ [])) (omega arith))

pub below_next : (n : ℕ) → below (suc n) ≡ below n ++ (n ∷ [])
below_next n = from_next 0 n ∙ ap (λ x. below n ++ (x ∷ [])) (omega arith)

module _ (f : ℕ → ℕ) where
  pub sum-next : (n : ℕ) → sum (map f (below (suc n))) ≡ sum (map f (below n)) + f n
  sum-next n = ap (λ l. sum (map f l)) (below_next n) ∙ ap sum (map-append f (below n) (n ∷ [])) ∙ sum-append (map f (below n)) (f n ∷ []) ∙ (omega arith)

  pub sum-below-most : (m n : ℕ) → ((i : ℕ) → f i ≤ m) → sum (map f (below n)) ≤ n * m
  sum-below-most m n h = rw (length-below n) at (sum-most f m h (below n))

pub sum_same : (f g : ℕ → ℕ) (n : ℕ) → ((i : ℕ) → i < n → f i ≡ g i) → sum (map f (below n)) ≡ sum (map g (below n))
sum_same f g zero h = refl
sum_same f g (suc n) h = omega (arith, sum-next f n, sum-next g n, sum_same f g n (λ i l. h i (omega arith)), h n (omega arith))
