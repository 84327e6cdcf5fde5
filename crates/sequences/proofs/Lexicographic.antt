-- The order `before` of lists of numbers that are compared place by place, of two numbers, and of sums.
use Prim.Native.Nat.{ℕ, zero, suc, ◌+◌, ◌≤◌, ◌<◌}
use native.Mathlib.Nat.{zero-lt-suc, suc_inj, not-suc-le-zero, le_of_suc-le-suc}
use native.Mathlib.Decide.{dec_lt}
use native.Mathlib.Omega.{arith}
use mathlib.Core.Path.{◌≡◌, refl, sym, ◌∙◌}
use mathlib.Core.Logic.{◌↔◌, ◌⊎◌, inl, inr}
use mathlib.Core.Bool.{true, false, true≢false, false≢true}
use mathlib.Core.List.{List, [], ◌∷◌}
use lib.ListN.{length, get_or, set}
use borrow.Author.Tests.{le-ltb, eq-eqb, ne_eqb}
use Rattle.sequences.specs.Lists.{before}
use Rattle.sequences.proofs.Orders.{before-lower, before-rest, before-cases, before_same}

-- ---- place by place

-- no list is before one of the same length that is nowhere higher
pub not-before : (xs ys : List ℕ) → length xs ≡ length ys → ((i : ℕ) → i < length xs → get_or xs i 0 ≤ get_or ys i 0) → before ys xs ≡ true → ⊥
not-before [] [] e h t = false≢true t
not-before [] (y ∷ ys) e h t = false≢true t
not-before (x ∷ xs) [] e h t = omega arith
not-before (x ∷ xs) (y ∷ ys) e h t = elim (before-cases y x ys xs t) [
  | inl l ↦ omega (arith, h 0 (zero-lt-suc _))
  | inr r ↦ not-before xs ys (suc_inj e) (λ i l. h (suc i) (omega arith)) r.1
]

-- a list with one number lowered is before the list
pub set_before : (xs : List ℕ) (i k : ℕ) → i < length xs → k < get_or xs i 0 → before (set xs i k) xs ≡ true
set_before [] i k l h = absurd (not-suc-le-zero l)
set_before (x ∷ xs) zero k l h = before-lower k x xs xs h
set_before (x ∷ xs) (suc i) k l h = before_same x (set xs i k) xs ∙ set_before xs i k (le_of_suc-le-suc l) h

-- ---- two numbers

-- the first decides, and then the second
module _ (u k v l : ℕ) where
  pub pair-before : (before (u ∷ k ∷ []) (v ∷ l ∷ []) ≡ true) ↔ ((u < v) ⊎ ((u ≡ v) × (k < l)))
  pair-before = (
    λ t. elim (before-cases u v (k ∷ []) (l ∷ []) t) [
      | inl h ↦ inl h
      | inr (e, rest) ↦ elim (before-cases k l [] [] rest) [ inl h ↦ inr (e, h) | inr n ↦ absurd (false≢true n.1) ]
    ],
    λ c. elim c [
      | inl h ↦ before-lower u v (k ∷ []) (l ∷ []) h
      | inr (e, h) ↦ before-rest u v (k ∷ []) (l ∷ []) e (before-lower k l [] [] h)
    ],
  )

  pub pair-not-before : before (u ∷ k ∷ []) (v ∷ l ∷ []) ≡ false → (v ≤ u) × (v ≡ u → l ≤ k)
  pair-not-before f =
      let high : ¬ (u < v) = λ h. true≢false (sym (pair-before.1 (inl h)) ∙ f) in
      let later : u ≡ v → ¬ (k < l) = λ e h. true≢false (sym (pair-before.1 (inr (e, h))) ∙ f) in
      (omega arith, λ e. omega (arith, later (sym e)))

-- first numbers u and v that compare as x and y do
pub before-as : (x y u v : ℕ) (xs ys : List ℕ) → (x < y → u < v) → (x ≡ y → u ≡ v) → (y < x → v < u)
    → before (u ∷ xs) (v ∷ ys) ≡ before (x ∷ xs) (y ∷ ys)
before-as x y u v xs ys low tie high = go (dec_lt x y) (dec_lt y x)
  where
    go : Dec (x < y) → Dec (y < x) → before (u ∷ xs) (v ∷ ys) ≡ before (x ∷ xs) (y ∷ ys)
    go (yes l) _ = before-lower u v xs ys (low l) ∙ sym (before-lower x y xs ys l)
    go (no l) (yes h) =
        let above = high h in
        rw (le-ltb u v (omega arith), ne_eqb u v (λ e. omega arith), le-ltb x y (omega arith), ne_eqb x y (λ e. omega arith)) refl
    go (no l) (no h) =
        let same : x ≡ y = omega arith in
        let other = tie same in
        rw (le-ltb u v (omega arith), eq-eqb u v other, le-ltb x y (omega arith), eq-eqb x y same) refl

-- adding the same to both first numbers makes no difference
pub before-plus : (x y n : ℕ) (xs ys : List ℕ) → before ((x + n) ∷ xs) ((y + n) ∷ ys) ≡ before (x ∷ xs) (y ∷ ys)
before-plus x y n xs ys = before-as x y (x + n) (y + n) xs ys (λ l. omega arith) (λ e. omega arith) (λ h. omega arith)
