-- A walk that keeps the best so far finds the first of the sorted list that is past the cursor, and n draws in a row answer the sorted
-- list's elements one by one and then none. Both answers are the least element past the cursor, and there is only one.
use Prim.Native.Nat.{ℕ, zero, suc, ◌≤◌}
use native.Mathlib.Nat.{le_of_suc-le-suc, not-suc-le-zero}
use native.Mathlib.Omega.{arith}
use mathlib.Core.Path.{◌≡◌, refl, sym, ap, ap₂, ◌∙◌}
use mathlib.Core.Logic.{◌↔◌, ◌⊎◌, inl, inr}
use mathlib.Core.Bool.{Bool, true, false, ◌&&◌, true≢false}
use mathlib.Core.Option.{Option, none, some}
use mathlib.Core.List.{List, [], ◌∷◌, ◌++◌, map, foldl, head?}
use mathlib.Core.List.Memᴰ
use mathlib.Core.List.{Memᴰ}
use lib.ListN.{take, replicate}
use borrow.Author.Tests.{not-true}
use Rattle.sequences.specs.Ascending.{Ascending, Rising, Once}
use Rattle.sequences.specs.Draws.{better, better_if, best_of, moved, chained, Cursors}
use Rattle.sequences.specs.Lists.{keep, find, sort}
use Rattle.sequences.specs.Orders.{StrictOrder, Least}
use Rattle.sequences.proofs.Orders.{asymmetric, least-unique}
use Rattle.sequences.proofs.Sorting.{sort-members, sort-rises, sort-ascends}
use Rattle.sequences.proofs.Tests.{cond_ind, not-passed, both-pass}

-- a member of the list that passes the test
abbrev Passes : {A : Type 0} → (A → Bool) → List A → A → Type 0
Passes later xs z = Memᴰ z xs × (later z ≡ true)

-- the least of one property is the least of another that the same elements have
least-same : {A : Type 0} (test : A → A → Bool) (P Q : A → Type 0) → ((z : A) → P z ↔ Q z) → (m : Option A) → Least test P m → Least test Q m
least-same test P Q same none h = λ z q. h z ((same z).1 q)
least-same test P Q same (some m) h = ((same m).0 h.0, λ z q. h.1 z ((same z).1 q))

-- ---- the walk

module _ {A : Type 0} {test : A → A → Bool} (order : StrictOrder test) (later : A → Bool) where
  -- one element more
  better-least : (P : A → Type 0) (m : Option A) (x : A) → Least test P m → Least test (λ z. P z ⊎ ((z ≡ x) × (later z ≡ true))) (better test later m x)
  better-least P none x h = cond_ind (Least test (λ z. P z ⊎ ((z ≡ x) × (later z ≡ true)))) (later x && true) (some x) none
      (λ t. (inr (refl, ((both-pass (later x) true).0 t).0), λ z q. elim q [ inl p ↦ absurd (h z p) | inr k ↦ rw k.0 (order.irreflexive x) ]))
      (λ f z q. elim q [ inl p ↦ h z p | inr k ↦ true≢false (sym ((both-pass (later x) true).1 (rw k.0 at k.1, refl)) ∙ f) ])
  better-least P (some m) x h = cond_ind (Least test (λ z. P z ⊎ ((z ≡ x) × (later z ≡ true)))) (later x && test x m) (some x) (some m)
      (λ t.
      let (l, b) = (both-pass (later x) (test x m)).0 t in (
        inr (refl, l),
        λ z q. elim q [
          | inl p ↦ not-passed (test z x) (λ s. true≢false (sym (order.transitive z x m s b) ∙ h.1 z p))
          | inr k ↦ rw k.0 (order.irreflexive x)
        ],
      ))
      (λ f. (
        inl h.0,
        λ z q. elim q [
          | inl p ↦ h.1 z p
          | inr k ↦ not-passed (test z m) (λ s. true≢false (sym ((both-pass (later x) (test x m)).1 (rw k.0 at k.1, rw k.0 at s)) ∙ f))
        ],
      ))

  fold-least : (xs : List A) (P : A → Type 0) (m : Option A) → Least test P m → Least test (λ z. P z ⊎ Passes later xs z) (foldl (better test later) m xs)
  fold-least [] P m h = least-same test P (λ z. P z ⊎ Passes later [] z)
      (λ z. (inl, λ q. elim q [ inl p ↦ p | inr k ↦ absurd (Memᴰ.not-nil k.0) ])) m h
  fold-least (x ∷ xs) P m h = least-same test (λ z. Q z ⊎ Passes later xs z) (λ z. P z ⊎ Passes later (x ∷ xs) z) (λ z. (join z, split z))
      (foldl (better test later) (better test later m x) xs) (fold-least xs Q (better test later m x) (better-least P m x h))
    where
      Q : A → Type 0
      Q z = P z ⊎ ((z ≡ x) × (later z ≡ true))

      join : (z : A) → Q z ⊎ Passes later xs z → P z ⊎ Passes later (x ∷ xs) z
      join z (inl (inl p)) = inl p
      join z (inl (inr k)) = inr (Memᴰ.head k.0, k.1)
      join z (inr k) = inr (Memᴰ.tail k.0, k.1)

      split : (z : A) → P z ⊎ Passes later (x ∷ xs) z → Q z ⊎ Passes later xs z
      split z (inl p) = inl (inl p)
      split z (inr k) = elim (Memᴰ.cases_cons k.0) [ inl e ↦ inl (inr (e, k.1)) | inr m ↦ inr (m, k.1) ]

  -- the walk finds the least element past the cursor
  pub best-least : (xs : List A) → Least test (λ z. Memᴰ z xs × (later z ≡ true)) (best_of test later xs)
  best-least xs = least-same test (λ z. ⊥ ⊎ Passes later xs z) (Passes later xs) (λ z. (λ q. elim q [ inl n ↦ absurd n | inr k ↦ k ], inr))
      (best_of test later xs) (fold-least xs (λ z. ⊥) none (λ z n. n))

  rising-least : (l : List A) → Rising test l → Least test (Passes later l) (find later l)
  rising-least [] r = λ z k. Memᴰ.not-nil k.0
  rising-least (x ∷ l) r = cond_ind (Least test (Passes later (x ∷ l))) (later x) (some x) (find later l)
      (λ t. (
        (Memᴰ.head refl, t),
        λ z k. elim (Memᴰ.cases_cons k.0) [
          | inl e ↦ rw e (order.irreflexive x)
          | inr m ↦ not-true (test z x) (r.0 z m)
        ],
      ))
      (λ f. least-same test (Passes later l) (Passes later (x ∷ l)) (λ z. (
        λ k. (Memᴰ.tail k.0, k.1),
        λ k. elim (Memᴰ.cases_cons k.0) [ inl e ↦ absurd (true≢false (sym k.1 ∙ (rw e f))) | inr m ↦ (m, k.1) ],
      )) (find later l) (rising-least l r.1))

  -- and so does the search in the sorted list
  pub find-least : (xs : List A) → Least test (λ z. Memᴰ z xs × (later z ≡ true)) (find later (sort test xs))
  find-least xs = least-same test (Passes later (sort test xs)) (Passes later xs)
      (λ z. (λ k. ((sort-members test xs z).0 k.0, k.1), λ k. ((sort-members test xs z).1 k.0, k.1)))
      (find later (sort test xs)) (rising-least (sort test xs) (sort-rises order xs))

  -- the walk over a list in any order finds the first element of the sorted list that is past the cursor
  pub best-is-first : (xs : List A) → best_of test later xs ≡ find later (sort test xs)
  best-is-first xs = least-unique order (Passes later xs) (best_of test later xs) (find later (sort test xs)) (best-least xs) (find-least xs)

-- A fold that leaves out what fails a test and maps what passes is the fold over the list that is kept and mapped.
module _ {A B M : Type 0} (t : A → Bool) (f : A → B) (g : M → B → M) (step : M → A → M)
    (passing : (m : M) (a : A) → t a ≡ true → step m a ≡ g m (f a)) (failing : (m : M) (a : A) → t a ≡ false → step m a ≡ m) where
  pub fold-kept : (m : M) (l : List A) → foldl step m l ≡ foldl g m (map f (keep t l))
  fold-kept m [] = refl
  fold-kept m (a ∷ l) = cond_ind (λ (r : List A). foldl step (step m a) l ≡ foldl g m (map f r)) (t a) (a ∷ keep t l) (keep t l)
      (λ p. rw (passing m a p) (fold-kept (g m (f a)) l))
      (λ p. rw (failing m a p) (fold-kept m l))

-- Of a list only some elements count:
module _ {A B : Type 0} (test : A → A → Bool) (later : A → Bool) (t : B → Bool) (f : B → A) where
  -- the walk over it is the walk over those, mapped
  pub walk-is-best : (l : List B) → foldl (better_if test later t f) none l ≡ best_of test later (map f (keep t l))
  walk-is-best = fold-kept t f (better test later) (better_if test later t f) (λ best b p. rw p refl) (λ best b p. rw p refl) none

-- ---- draws in a row

-- l has exactly the elements with property P, in order
record InOrder {A : Type 0} (test : A → A → Bool) (P : A → Type 0) (l : List A) : Type 0 where
  ascends : Ascending test l
  members : (z : A) → Memᴰ z l ↔ P z

module _ {A : Type 0} {test : A → A → Bool} (order : StrictOrder test) (P : A → Type 0) where
  head-least : (l : List A) → InOrder test P l → Least test P (head? l)
  head-least [] k = λ z p. Memᴰ.not-nil ((k.members z).1 p)
  head-least (x ∷ l) k = (
    (k.members x).0 (Memᴰ.head refl),
    λ z p. elim (Memᴰ.cases_cons ((k.members z).1 p)) [
      | inl e ↦ rw e (order.irreflexive x)
      | inr m ↦ asymmetric order x z (k.ascends.0 z m)
    ],
  )

  -- the tail is what comes after the head
  tail-in_order : (Q : A → Type 0) (x : A) (l : List A) → InOrder test P (x ∷ l) → ((z : A) → (P z × (test x z ≡ true)) ↔ Q z) → InOrder test Q l
  tail-in_order Q x l k same = record {
    ascends = k.ascends.1;
    members = λ z. (
      λ m. (same z).0 ((k.members z).0 (Memᴰ.tail m), k.ascends.0 z m),
      λ q. let (p, t) = (same z).1 q in elim (Memᴰ.cases_cons ((k.members z).1 p)) [
        | inl e ↦ absurd (true≢false (sym t ∙ (rw e (order.irreflexive x))))
        | inr m ↦ m
      ],
    );
  }

module _ {A C : Type 0} {test : A → A → Bool} (order : StrictOrder test) {later : C → A → Bool} {past : A → C} (cursors : Cursors test later past)
    (draw : C → Option A) (xs : List A) (least : (c : C) → Least test (λ z. Memᴰ z xs × (later c z ≡ true)) (draw c)) where
  -- what is left to draw from a cursor on
  abbrev Left : C → A → Type 0
  Left c z = Passes (later c) xs z

  draw-head : (c : C) (l : List A) → InOrder test (Left c) l → draw c ≡ head? l
  draw-head c l k = least-unique order (Left c) (draw c) (head? l) (least c) (head-least order (Left c) l k)

  left-tail : (c : C) (x : A) (l : List A) → InOrder test (Left c) (x ∷ l) → InOrder test (Left (past x)) l
  left-tail c x l k = tail-in_order order (Left c) (Left (past x)) x l k (λ z. (
    λ (p, t). (p.0, cursors.after x z ∙ t),
    λ p. let t = sym (cursors.after x z) ∙ p.1 in ((p.0, cursors.upward c x z ((k.members x).0 (Memᴰ.head refl)).1 t), t),
  ))

  drawn : (n m : ℕ) → n ≤ m → (c : C) (l : List A) → InOrder test (Left c) l → chained draw (moved past) c n ≡ take n (map some l ++ replicate m none)
  drawn zero m h c l k = refl
  drawn (suc n) zero h c l k = absurd (not-suc-le-zero h)
  drawn (suc n) (suc m) h c [] k = rw (draw-head c [] k) (ap (λ (r : List (Option A)). none ∷ r) (drawn n m (le_of_suc-le-suc h) c [] k))
  drawn (suc n) (suc m) h c (x ∷ l) k =
      rw (draw-head c (x ∷ l) k) (ap (λ (r : List (Option A)). some x ∷ r) (drawn n (suc m) (omega arith) (past x) l (left-tail c x l k)))

  -- If each draw answers the least element past its cursor, n draws in a row, the first from a cursor that all elements are past, answer
  -- the elements in order, and after the last one none each time.
  pub draws-answer : Once xs → (start : C) → ((x : A) → later start x ≡ true)
      → (n m : ℕ) → n ≤ m → chained draw (moved past) start n ≡ take n (map some (sort test xs) ++ replicate m none)
  draws-answer once start all n m h = drawn n m h start (sort test xs) (record {
    ascends = sort-ascends order xs once;
    members = λ z. (λ k. ((sort-members test xs z).0 k, all z), λ k. (sort-members test xs z).1 k.0);
  })

-- If every answer of a draw is f of another draw's answer and leads to the same cursor, its answers in a row are f of the other's.
module _ {A B C : Type 0} (f : A → B) (draw : C → A) (next : C → A → C) (draw' : C → B) (next' : C → B → C)
    (made : (c : C) → draw' c ≡ f (draw c)) (leads : (c : C) (a : A) → next' c (f a) ≡ next c a) where
  pub chained-map : (c : C) (n : ℕ) → chained draw' next' c n ≡ map f (chained draw next c n)
  chained-map c zero = refl
  chained-map c (suc n) = ap₂ ◌∷◌ (made c)
      (ap (λ (k : C). chained draw' next' k n) (ap (next' c) (made c) ∙ leads c (draw c)) ∙ chained-map (next c (draw c)) n)
