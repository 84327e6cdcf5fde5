-- The members of the lists that `keep`, `from` and `below` make, the members that `any` finds, and elements by their positions.
use Prim.Native.Nat.{ℕ, zero, suc, ◌+◌, ◌≤◌, ◌<◌}
use native.Mathlib.Nat.{not-suc-le-zero, le_of_suc-le-suc}
use native.Mathlib.Decide.{ℕ_discrete}
use native.Mathlib.Omega.{arith}
use mathlib.Core.Path.{◌≡◌, refl, sym, ◌∙◌}
use mathlib.Core.Logic.{◌↔◌, inl, inr}
use mathlib.Core.Bool.{Bool, true, false, true≢false, false≢true}
use mathlib.Core.List.{List, [], ◌∷◌, map}
use mathlib.Core.List.Memᴰ
use mathlib.Core.List.{Memᴰ}
use lib.Dec.{eqb}
use lib.ListN.{length, get_or}
use borrow.Author.Tests.{eqb-true, eq-eqb}
use Rattle.sequences.specs.Lists.{any, keep, from, below}
use Rattle.sequences.proofs.Tests.{cond_ind, not-passed, not-failed, or-passes, or-fails}

module _ {A : Type 0} (test : A → Bool) where
  keep-to : (xs : List A) (x : A) → Memᴰ x (keep test xs) → Memᴰ x xs × (test x ≡ true)
  keep-to [] x = λ m. absurd (Memᴰ.not-nil m)
  keep-to (y ∷ ys) x = cond_ind (λ r. Memᴰ x r → Memᴰ x (y ∷ ys) × (test x ≡ true)) (test y) (y ∷ keep test ys) (keep test ys)
      (λ t m. elim (Memᴰ.cases_cons m) [ inl e ↦ (Memᴰ.head e, rw e t) | inr k ↦ (Memᴰ.tail (keep-to ys x k).0, (keep-to ys x k).1) ])
      (λ _ m. (Memᴰ.tail (keep-to ys x m).0, (keep-to ys x m).1))

  keep-from : (xs : List A) (x : A) → Memᴰ x xs → test x ≡ true → Memᴰ x (keep test xs)
  keep-from [] x m t = elim m [ ]
  keep-from (y ∷ ys) x (Memᴰ.head e) t = cond_ind (Memᴰ x) (test y) (y ∷ keep test ys) (keep test ys)
      (λ _. Memᴰ.head e) (λ f. absurd (true≢false (sym t ∙ (rw e f))))
  keep-from (y ∷ ys) x (Memᴰ.tail m) t = cond_ind (Memᴰ x) (test y) (y ∷ keep test ys) (keep test ys)
      (λ _. Memᴰ.tail (keep-from ys x m t)) (λ _. keep-from ys x m t)

  -- kept are exactly the elements that pass
  pub keep-members : (xs : List A) (x : A) → Memᴰ x (keep test xs) ↔ (Memᴰ x xs × (test x ≡ true))
  keep-members xs x = (keep-to xs x, λ h. keep-from xs x h.0 h.1)

  any-to : (xs : List A) → any test xs ≡ true → (x : A) × Memᴰ x xs × (test x ≡ true)
  any-to [] e = absurd (false≢true e)
  any-to (x ∷ xs) e = elim (or-passes (test x) (any test xs) e) [
    | inl t ↦ (x, Memᴰ.head refl, t)
    | inr t ↦ let (y, m, k) = any-to xs t in (y, Memᴰ.tail m, k)
  ]

  any_none : (xs : List A) (x : A) → Memᴰ x xs → any test xs ≡ false → test x ≡ false
  any_none [] x m f = elim m [ ]
  any_none (y ∷ ys) x (Memᴰ.head e) f = rw e (or-fails (test y) (any test ys) f).0
  any_none (y ∷ ys) x (Memᴰ.tail m) f = any_none ys x m (or-fails (test y) (any test ys) f).1

  -- some element passes exactly if there is a member that passes
  pub any-members : (xs : List A) → (any test xs ≡ true) ↔ ((x : A) × Memᴰ x xs × (test x ≡ true))
  any-members xs = (any-to xs, λ (x, m, t). not-failed (any test xs) (λ f. true≢false (sym t ∙ any_none xs x m f)))

  -- none passes exactly if every element fails
  pub none-members : (xs : List A) → (any test xs ≡ false) ↔ ((x : A) → Memᴰ x xs → test x ≡ false)
  none-members xs = (λ f x m. any_none xs x m f, λ h. not-passed (any test xs) (λ e. let (x, m, t) = any-to xs e in true≢false (sym t ∙ h x m)))

-- a number in a list is found by its equality test
pub found-member : (n : ℕ) (l : List ℕ) → (any (eqb n) l ≡ true) ↔ Memᴰ n l
found-member n l = (
  λ t. let (x, m, e) = (any-members (eqb n) l).0 t in Memᴰ.cast (eqb-true n x e) m,
  λ m. (any-members (eqb n) l).1 (n, m, eq-eqb n n refl),
)

from-to : (k n x : ℕ) → Memᴰ x (from k n) → (k ≤ x) × (x < k + n)
from-to k zero x m = absurd (Memᴰ.not-nil m)
from-to k (suc n) x m = elim (Memᴰ.cases_cons m) [
  | inl e ↦ omega arith
  | inr r ↦ let h = from-to (suc k) n x r in omega arith
]

from-from : (k n x : ℕ) → k ≤ x → x < k + n → Memᴰ x (from k n)
from-from k zero x low high = absurd (omega arith)
from-from k (suc n) x low high = elim (ℕ_discrete x k) [
  | yes e ↦ Memᴰ.head e
  | no d ↦ Memᴰ.tail (from-from (suc k) n x (omega arith) (omega arith))
]

-- the numbers from k on, n of them
pub from-members : (k n x : ℕ) → Memᴰ x (from k n) ↔ ((k ≤ x) × (x < k + n))
from-members k n x = (from-to k n x, λ h. from-from k n x h.0 h.1)

-- the numbers below n
pub below-members : (n x : ℕ) → Memᴰ x (below n) ↔ (x < n)
below-members n x = (λ m. omega (arith, from-to 0 n x m), λ h. from-from 0 n x (omega arith) (omega arith))

-- an element of a mapped list, by its position
pub get_d_map : {A B : Type 0} (f : A → B) (xs : List A) (i : ℕ) (x : A) (y : B) → i < length xs → get_or (map f xs) i y ≡ f (get_or xs i x)
get_d_map f [] i x y h = absurd (not-suc-le-zero h)
get_d_map f (a ∷ xs) zero x y h = refl
get_d_map f (a ∷ xs) (suc i) x y h = get_d_map f xs i x y (le_of_suc-le-suc h)
