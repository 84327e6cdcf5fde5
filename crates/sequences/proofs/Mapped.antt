-- Elements that are images of a function. The test orders the originals; it need not order all values of the images' type. What `Draws`
-- shows of an order on that type holds for the list of images.
use Prim.Native.Nat.{ℕ, zero, suc}
use native.Mathlib.Nat.{le_refl}
use mathlib.Core.Path.{◌≡◌, refl, sym, ap, ◌∙◌}
use mathlib.Core.Bool.{Bool, true, false, ◌&&◌, cond}
use mathlib.Core.Option
use mathlib.Core.Option.{Option, none, some}
use mathlib.Core.List.{List, [], ◌∷◌, ◌++◌, map, foldl}
use lib.ListN.{take, replicate}
use Rattle.sequences.specs.Ascending.{Ascending, Once}
use Rattle.sequences.specs.Draws.{better, better_if, best_of, moved, chained, Cursors}
use Rattle.sequences.specs.Lists.{keep, find, sort}
use Rattle.sequences.specs.Orders.{StrictOrder}
use Rattle.sequences.proofs.Ascending.{map-ascends}
use Rattle.sequences.proofs.Draws.{best-is-first, chained-map, draws-answer, find-least, walk-is-best}
use Rattle.sequences.proofs.Sorting.{sort-ascends, sort-map}

module _ {A B : Type 0} (f : A → B) where
  map-cond : (b : Bool) (m k : Option A) → Option.map f (cond b m k) ≡ cond b (Option.map f m) (Option.map f k)
  map-cond true m k = refl
  map-cond false m k = refl

  find-mapped : (later : B → Bool) (l : List A) → find later (map f l) ≡ Option.map f (find (λ x. later (f x)) l)
  find-mapped later [] = refl
  find-mapped later (x ∷ l) =
      ap (cond (later (f x)) (some (f x))) (find-mapped later l) ∙ sym (map-cond (later (f x)) (some x) (find (λ y. later (f y)) l))

  answers-mapped : (n m : ℕ) (l : List A) → map (Option.map f) (take n (map some l ++ replicate m none)) ≡ take n (map some (map f l) ++ replicate m none)
  answers-mapped zero m l = refl
  answers-mapped (suc n) zero [] = refl
  answers-mapped (suc n) (suc m) [] = ap (λ (r : List (Option B)). none ∷ r) (answers-mapped n m [])
  answers-mapped (suc n) m (x ∷ l) = ap (λ (r : List (Option B)). some (f x) ∷ r) (answers-mapped n m l)

  module _ (test : B → B → Bool) where
    -- the order of the originals
    abbrev by : A → A → Bool
    by x y = test (f x) (f y)

    sort-mapped : (xs : List A) → sort test (map f xs) ≡ map f (sort by xs)
    sort-mapped xs = sort-map f by test xs (λ x y m k. refl)

    better-mapped : (later : B → Bool) (m : Option A) (x : A) → better test later (Option.map f m) (f x) ≡ Option.map f (better by (λ y. later (f y)) m x)
    better-mapped later none x = sym (map-cond (later (f x) && true) (some x) none)
    better-mapped later (some m) x = sym (map-cond (later (f x) && by x m) (some x) (some m))

    best-mapped : (later : B → Bool) (m : Option A) (xs : List A)
        → foldl (better test later) (Option.map f m) (map f xs) ≡ Option.map f (foldl (better by (λ y. later (f y))) m xs)
    best-mapped later m [] = refl
    best-mapped later m (x ∷ xs) =
        ap (λ o. foldl (better test later) o (map f xs)) (better-mapped later m x) ∙ best-mapped later (better by (λ y. later (f y)) m x) xs

    module _ (order : StrictOrder (λ x y. test (f x) (f y))) where
      -- the walk over the list in any order finds the first element of the sorted list that is past the cursor
      pub best-is-first-mapped : (later : B → Bool) (xs : List A) → best_of test later (map f xs) ≡ find later (sort test (map f xs))
      best-is-first-mapped later xs =
          best-mapped later none xs ∙ ap (Option.map f) (best-is-first order (λ y. later (f y)) xs) ∙ sym (find-mapped later (sort by xs)) ∙
          ap (find later) (sym (sort-mapped xs))

      -- and so does the walk over a list of which only some elements count
      pub walk-is-first-mapped : (later : B → Bool) (t : A → Bool) (l : List A)
          → foldl (better_if test later t f) none l ≡ find later (sort test (map f (keep t l)))
      walk-is-first-mapped later t l = walk-is-best test later t f l ∙ best-is-first-mapped later (keep t l)

      -- the sorted list ascends, if each original occurs once in its list
      pub sort-ascends-mapped : (xs : List A) → Once xs → Ascending test (sort test (map f xs))
      sort-ascends-mapped xs once =
          rw (sort-mapped xs) (map-ascends by test f (λ x y t. t) (sort by xs) (sort-ascends order xs once))

      -- n draws in a row, the first from a cursor that all elements are past, answer the elements in order, and then none each time
      pub draws-answer-mapped : {C : Type 0} (later : C → B → Bool) (past : B → C) → Cursors (λ x y. test (f x) (f y)) (λ c x. later c (f x)) (λ x. past (f x))
          → (xs : List A) → Once xs → (start : C) → ((x : A) → later start (f x) ≡ true)
          → (n : ℕ) → chained (λ c. find (later c) (sort test (map f xs))) (moved past) start n ≡ take n (map some (sort test (map f xs)) ++ replicate n none)
      draws-answer-mapped {C} later past cursors xs once start all n =
          chained-map (Option.map f) draw (moved (λ x. past (f x))) (λ c. find (later c) (sort test (map f xs))) (moved past) mapped leads start n ∙
          ap (map (Option.map f)) (draws-answer order cursors draw xs (λ c. find-least order (λ x. later c (f x)) xs) once start all n n (le_refl n)) ∙
          answers-mapped n n (sort by xs) ∙ ap (λ l. take n (map some l ++ replicate n none)) (sym (sort-mapped xs))
        where
          draw : C → Option A
          draw c = find (λ x. later c (f x)) (sort by xs)

          mapped : (c : C) → find (later c) (sort test (map f xs)) ≡ Option.map f (draw c)
          mapped c = ap (find (later c)) (sort-mapped xs) ∙ find-mapped (later c) (sort by xs)

          leads : (c : C) (a : Option A) → moved past c (Option.map f a) ≡ moved (λ x. past (f x)) c a
          leads c none = refl
          leads c (some x) = refl
