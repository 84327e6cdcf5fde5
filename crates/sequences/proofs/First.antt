-- What `first` finds: the lowest position whose element passes the test, or nothing if every element fails.
use Prim.Native.Nat.{ℕ, zero, suc, ◌<◌}
use native.Mathlib.Nat.{not-suc-le-zero, le_of_suc-le-suc, zero-lt-suc}
use native.Mathlib.Omega.{arith}
use mathlib.Core.Path.{◌≡◌, refl, sym, ap, subst, ◌∙◌}
use mathlib.Core.Logic.{◌↔◌}
use mathlib.Core.Bool.{Bool, true, false, cond, ◌||◌, true≢false}
use mathlib.Core.List.{List, [], ◌∷◌}
use mathlib.Core.Option.{Option, none, some, map, some-ne-none}
use lib.ListN.{length, get_or}
use Rattle.sequences.specs.Lists.{any, first, first_from}
use Rattle.sequences.proofs.Tests.{cond_ind, not-failed}

module _ {A : Type 0} (test : A → Bool) (default : A) where
  -- the claim for a position that is found, and for none
  abbrev IsFirst : List A → Option ℕ → Type 0
  IsFirst xs none = (i : ℕ) → i < length xs → test (get_or xs i default) ≡ false
  IsFirst xs (some n) = (n < length xs) × (test (get_or xs n default) ≡ true) × ((i : ℕ) → i < n → test (get_or xs i default) ≡ false)

  -- counting from one more finds one more
  from_next : (k : ℕ) (xs : List A) → first_from (suc k) test xs ≡ map suc (first_from k test xs)
  from_next k [] = refl
  from_next k (x ∷ xs) = step (test x) (from_next (suc k) xs)
    where
      step : (t : Bool) → first_from (suc (suc k)) test xs ≡ map suc (first_from (suc k) test xs)
          → cond t (some (suc k)) (first_from (suc (suc k)) test xs) ≡ map suc (cond t (some k) (first_from (suc k) test xs))
      step true e = refl
      step false e = e

  fails-behind : (x : A) (xs : List A) (n : ℕ) → test x ≡ false → ((i : ℕ) → i < n → test (get_or xs i default) ≡ false)
      → (i : ℕ) → i < suc n → test (get_or (x ∷ xs) i default) ≡ false
  fails-behind x xs n f h zero l = f
  fails-behind x xs n f h (suc j) l = h j (le_of_suc-le-suc l)

  next-is-first : (x : A) (xs : List A) → test x ≡ false → (o : Option ℕ) → IsFirst xs o → IsFirst (x ∷ xs) (map suc o)
  next-is-first x xs f none h = fails-behind x xs (length xs) f h
  next-is-first x xs f (some n) h = (omega arith, h.1, fails-behind x xs n f h.2)

  found-is-first : (xs : List A) → IsFirst xs (first test xs)
  found-is-first [] = λ i l. absurd (not-suc-le-zero l)
  found-is-first (x ∷ xs) = cond_ind (IsFirst (x ∷ xs)) (test x) (some 0) (first_from 1 test xs)
      (λ e. (zero-lt-suc _, e, λ i l. absurd (not-suc-le-zero l)))
      (λ e. rw (from_next 0 xs) (next-is-first x xs e (first test xs) (found-is-first xs)))

  first-is-found : (xs : List A) (o : Option ℕ) → IsFirst xs o → first test xs ≡ o
  first-is-found [] none h = refl
  first-is-found [] (some n) h = absurd (not-suc-le-zero h.0)
  first-is-found (x ∷ xs) none h =
      let f : test x ≡ false = h 0 (zero-lt-suc _) in
      rw f (from_next 0 xs ∙ ap (map suc) (first-is-found xs none (λ i l. h (suc i) (omega arith))))
  first-is-found (x ∷ xs) (some zero) h = let t : test x ≡ true = h.1 in rw t refl
  first-is-found (x ∷ xs) (some (suc n)) h =
      let f : test x ≡ false = h.2 0 (zero-lt-suc n) in
      rw f (from_next 0 xs ∙ ap (map suc) (first-is-found xs (some n) (omega arith, h.1, λ i l. h.2 (suc i) (omega arith))))

  -- position n is found exactly if its element passes and every earlier one fails
  pub first_some : (xs : List A) (n : ℕ)
      → (first test xs ≡ some n) ↔ ((n < length xs) × (test (get_or xs n default) ≡ true) × ((i : ℕ) → i < n → test (get_or xs i default) ≡ false))
  first_some xs n = (λ e. subst (IsFirst xs) e (found-is-first xs), first-is-found xs (some n))

  -- nothing is found exactly if every element fails
  pub first-none : (xs : List A) → (first test xs ≡ none) ↔ ((i : ℕ) → i < length xs → test (get_or xs i default) ≡ false)
  first-none xs = (λ e. subst (IsFirst xs) e (found-is-first xs), first-is-found xs none)

module _ {A : Type 0} (test : A → Bool) where
  none_from : (n : ℕ) (xs : List A) → (first_from n test xs ≡ none) ↔ (any test xs ≡ false)
  none_from n [] = (λ _. refl, λ _. refl)
  none_from n (x ∷ xs) = step (test x) (none_from (suc n) xs)
    where
      step : (t : Bool) → (first_from (suc n) test xs ≡ none) ↔ (any test xs ≡ false)
          → (cond t (some n) (first_from (suc n) test xs) ≡ none) ↔ ((t || any test xs) ≡ false)
      step true h = (λ e. absurd (some-ne-none n e), λ e. absurd (true≢false e))
      step false h = h

  -- nothing is found exactly if no element passes
  pub none_found : (xs : List A) → (first test xs ≡ none) ↔ (any test xs ≡ false)
  none_found = none_from 0

  -- if something is found, some element passes
  pub some-found : (xs : List A) (n : ℕ) → first test xs ≡ some n → any test xs ≡ true
  some-found xs n e = not-failed (any test xs) (λ f. some-ne-none n (sym e ∙ (none_found xs).1 f))

-- what is found is a position of the list
pub first_below : {A : Type 0} (test : A → Bool) (xs : List A) (n : ℕ) → first test xs ≡ some n → n < length xs
first_below test [] n e = absurd (some-ne-none n (sym e))
first_below test (x ∷ xs) n e = ((first_some test x (x ∷ xs) n).0 e).0
