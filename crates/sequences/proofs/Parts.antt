-- A test splits a list in two, two tests in three, three in four: how many each part has. Of two joined lists a test keeps what it keeps of each.
use Prim.Native.Nat.{ℕ, suc, ◌+◌, ◌<◌}
use native.Mathlib.Numerals.{add-one}
use native.Mathlib.Omega.{arith}
use mathlib.Core.Path.{◌≡◌, refl, sym, ap, ◌∙◌}
use mathlib.Core.Bool.{Bool, true, false, not, ◌&&◌, ◌||◌, cond, or_assoc}
use mathlib.Core.List.{List, [], ◌∷◌, ◌++◌}
use lib.ListN.{length, get_or, take}
use lib.Seq.{take-suc}
use Rattle.sequences.specs.Lists.{any, keep}

module _ {A : Type 0} where
  -- what a test keeps of two lists, one after the other
  pub keep_append : (t : A → Bool) (xs ys : List A) → keep t (xs ++ ys) ≡ keep t xs ++ keep t ys
  keep_append t [] ys = refl
  keep_append t (x ∷ xs) ys = step (t x) (keep_append t xs ys)
    where
      step : (b : Bool) → keep t (xs ++ ys) ≡ keep t xs ++ keep t ys
          → cond b (x ∷ keep t (xs ++ ys)) (keep t (xs ++ ys)) ≡ cond b (x ∷ keep t xs) (keep t xs) ++ keep t ys
      step true e = ap (λ l. x ∷ l) e
      step false e = e

  -- some element of two joined lists passes if one of the first or one of the second does
  pub any_append : (t : A → Bool) (xs ys : List A) → any t (xs ++ ys) ≡ (any t xs || any t ys)
  any_append t [] ys = refl
  any_append t (x ∷ xs) ys = ap (λ b. t x || b) (any_append t xs ys) ∙ sym (or_assoc (t x) (any t xs) (any t ys))

  -- one of the first i + 1 passes if one of the first i or the next one does
  pub any_next : (t : A → Bool) (xs : List A) (default : A) (i : ℕ) → i < length xs
      → any t (take (i + 1) xs) ≡ (any t (take i xs) || (t (get_or xs i default) || false))
  any_next t xs default i h =
      ap (λ (n : ℕ). any t (take n xs)) (add-one i) ∙ ap (any t) (take-suc xs i default h) ∙ any_append t (take i xs) (get_or xs i default ∷ [])

  -- what a second test keeps of what the first kept is what passes both
  pub keep-both : (t u : A → Bool) (xs : List A) → keep u (keep t xs) ≡ keep (λ x. t x && u x) xs
  keep-both t u [] = refl
  keep-both t u (x ∷ xs) = step (t x) (keep-both t u xs)
    where
      step : (b : Bool) → keep u (keep t xs) ≡ keep (λ y. t y && u y) xs
          → keep u (cond b (x ∷ keep t xs) (keep t xs)) ≡ cond (b && u x) (x ∷ keep (λ y. t y && u y) xs) (keep (λ y. t y && u y) xs)
      step true e = ap (λ (r : List A). cond (u x) (x ∷ r) r) e
      step false e = e

  -- the elements that pass, and those that fail
  pub two-parts : (t : A → Bool) (xs : List A) → length xs ≡ length (keep t xs) + length (keep (λ x. not (t x)) xs)
  two-parts t [] = refl
  two-parts t (x ∷ xs) = step (t x) (two-parts t xs)
    where
      step : (b : Bool) → length xs ≡ length (keep t xs) + length (keep (λ y. not (t y)) xs)
          → suc (length xs) ≡ length (cond b (x ∷ keep t xs) (keep t xs)) + length (cond (not b) (x ∷ keep (λ y. not (t y)) xs) (keep (λ y. not (t y)) xs))
      step true e = omega arith
      step false e = omega arith

  -- the elements that pass the first test, those that fail it and pass the second, and those that fail both
  pub three-parts : (t u : A → Bool) (xs : List A)
      → length xs ≡ length (keep t xs) + length (keep (λ x. not (t x) && u x) xs) + length (keep (λ x. not (t x) && not (u x)) xs)
  three-parts t u xs =
      let failing = keep (λ x. not (t x)) xs in
      omega (
        arith,
        two-parts t xs,
        two-parts u failing,
        ap length (keep-both (λ x. not (t x)) u xs),
        ap length (keep-both (λ x. not (t x)) (λ x. not (u x)) xs),
      )

  -- those that fail both, in two by a third test
  pub four-parts : (t u v : A → Bool) (xs : List A)
      → length xs ≡ length (keep t xs) + length (keep (λ x. not (t x) && u x) xs) +
      length (keep (λ x. (not (t x) && not (u x)) && v x) xs) + length (keep (λ x. (not (t x) && not (u x)) && not (v x)) xs)
  four-parts t u v xs =
      let failing = keep (λ x. not (t x) && not (u x)) xs in
      omega (
        arith,
        three-parts t u xs,
        two-parts v failing,
        ap length (keep-both (λ x. not (t x) && not (u x)) v xs),
        ap length (keep-both (λ x. not (t x) && not (u x)) (λ x. not (v x)) xs),
      )
