-- Words on lists that the definitions of the other crates use: tests, first positions, sums, products, choices, two orders, sorting.
use Rattle.std.specs.Prelude.{ℕ, zero, suc, ◌+◌, ◌*◌, Bool, true, false, ◌&&◌, ◌||◌, cond, ltb, eqb}
use mathlib.Core.List.{List, [], ◌∷◌, ◌++◌, map, foldr}
use Rattle.std.specs.List.{list_any}
use Rattle.std.proofs.Math.Option.{Option, none, some}

-- the numbers from k on, n of them
abbrev pub from : ℕ → ℕ → List ℕ
from k zero = []
from k (suc n) = k ∷ from (suc k) n

-- the numbers below n
abbrev pub below : ℕ → List ℕ
below n = from 0 n

module _ {A : Type 0} where
  -- some element passes the test
  abbrev pub any : (A → Bool) → List A → Bool
  any t xs = list_any t xs

  -- the elements that pass the test, in order
  abbrev pub keep : (A → Bool) → List A → List A
  keep t [] = []
  keep t (x ∷ xs) = cond (t x) (x ∷ keep t xs) (keep t xs)

  -- the position, counted from n, of the first element that passes
  abbrev pub first_from : ℕ → (A → Bool) → List A → Option ℕ
  first_from n t [] = none
  first_from n t (x ∷ xs) = cond (t x) (some n) (first_from (suc n) t xs)

  -- the position of the first element that passes
  abbrev pub first : (A → Bool) → List A → Option ℕ
  first t xs = first_from 0 t xs

  -- the first element that passes
  abbrev pub find : (A → Bool) → List A → Option A
  find t [] = none
  find t (x ∷ xs) = cond (t x) (some x) (find t xs)

  -- x in front of the first element that the test puts it before, or at the end
  abbrev pub insert : (A → A → Bool) → A → List A → List A
  insert test x [] = x ∷ []
  insert test x (y ∷ ys) = cond (test x y) (x ∷ y ∷ ys) (y ∷ insert test x ys)

  -- the elements in rising order by the test
  abbrev pub sort : (A → A → Bool) → List A → List A
  sort test xs = foldr (insert test) [] xs

  -- the elements that are not like a later one: of several alike, the last is kept
  abbrev pub distinct_by : (A → A → Bool) → List A → List A
  distinct_by alike [] = []
  distinct_by alike (x ∷ xs) = cond (any (alike x) xs) (distinct_by alike xs) (x ∷ distinct_by alike xs)

  -- the lists one after the other
  abbrev pub joined : List (List A) → List A
  joined [] = []
  joined (x ∷ xs) = x ++ joined xs

  -- each of the lists with each of the elements in front, the elements varying slowest
  abbrev pub prefixed : List (List A) → List A → List (List A)
  prefixed rest [] = []
  prefixed rest (k ∷ ks) = map (λ p. k ∷ p) rest ++ prefixed rest ks

  -- all choices of one element of each list, the first list's element varying slowest
  abbrev pub sequences : List (List A) → List (List A)
  sequences [] = [] ∷ []
  sequences (c ∷ cs) = prefixed (sequences cs) c

abbrev pub sum : List ℕ → ℕ
sum [] = 0
sum (n ∷ ns) = n + sum ns

abbrev pub product : List ℕ → ℕ
product [] = 1
product (n ∷ ns) = n * product ns

-- the lists have equal lengths, and elements that are equal by the test
abbrev pub equal_by : {A : Type 0} → (A → A → Bool) → List A → List A → Bool
equal_by t [] [] = true
equal_by t [] (y ∷ ys) = false
equal_by t (x ∷ xs) [] = false
equal_by t (x ∷ xs) (y ∷ ys) = t x y && equal_by t xs ys

-- two lists of numbers are equal
abbrev pub same : List ℕ → List ℕ → Bool
same = equal_by eqb

-- the first list of numbers comes before the second lexicographically
abbrev pub before : List ℕ → List ℕ → Bool
before [] [] = false
before [] (y ∷ ys) = true
before (x ∷ xs) [] = false
before (x ∷ xs) (y ∷ ys) = ltb x y || (eqb x y && before xs ys)

-- the other of a and c, if they differ and b is one of them
abbrev pub other_end : (a c b : ℕ) → Option ℕ
other_end a c b = cond (eqb a c) none (cond (eqb b a) (some c) (cond (eqb b c) (some a) none))
