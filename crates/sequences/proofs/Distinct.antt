-- How many elements of a list differ, by a test for which are alike: as many as there are representatives. Of two lists that each name
-- every kind once, neither is longer than the other.
use Prim.Native.Nat.{◌≤◌, ◌<◌}
use native.Mathlib.Nat.{le_antisymm}
use native.Mathlib.Omega.{arith}
use mathlib.Core.Path.{◌≡◌, refl, sym, ◌∙◌}
use mathlib.Core.Logic.{inl, inr}
use mathlib.Core.Bool.{Bool, true, not, true≢false}
use mathlib.Core.List.{List, [], ◌∷◌}
use mathlib.Core.List.Memᴰ
use mathlib.Core.List.{Memᴰ}
use lib.ListN.{length}
use borrow.Author.Tests.{not-true}
use Rattle.sequences.specs.Ascending.{Ascending, Once}
use Rattle.sequences.specs.Lists.{any, keep, distinct_by}
use Rattle.sequences.specs.Orders.{Equivalence, Represented}
use Rattle.sequences.proofs.Ascending.{keep-once}
use Rattle.sequences.proofs.Equality.{Decides, alike-by}
use Rattle.sequences.proofs.Members.{keep-members, any-members, none-members}
use Rattle.sequences.proofs.Parts.{two-parts}
use Rattle.sequences.proofs.Tests.{cond_ind, not-passed}

-- no element is like a later one
abbrev Unlike : {A : Type 0} → (A → A → Bool) → List A → Type 0
Unlike alike = Ascending (λ x y. not (alike x y))

-- some member of the list is like x
abbrev Named : {A : Type 0} → (A → A → Bool) → List A → A → Type 0
Named {A} alike ys x = (y : A) × Memᴰ y ys × (alike x y ≡ true)

member-counts : {A : Type 0} {x : A} {l : List A} → Memᴰ x l → 0 < length l
member-counts (Memᴰ.head e) = omega arith
member-counts (Memᴰ.tail m) = omega arith

module _ {A : Type 0} {alike : A → A → Bool} (laws : Equivalence alike) where
  -- a list in which no two are alike is at most as long as a list that has one like each of its elements
  no_more : (xs ys : List A) → Unlike alike xs → ((x : A) → Memᴰ x xs → Named alike ys x) → length xs ≤ length ys
  no_more [] ys u h = omega arith
  no_more (x ∷ xs) ys u h =
      let (y, m, e) = h x (Memᴰ.head refl) in
      let here = member-counts ((keep-members (alike x) ys y).1 (m, e)) in
      let rest = no_more xs (keep (λ z. not (alike x z)) ys) u.1 others in
      omega (arith, two-parts (alike x) ys)
    where
      -- those of ys that are not like x have one like each of the others
      others : (z : A) → Memᴰ z xs → Named alike (keep (λ v. not (alike x v)) ys) z
      others z k =
          let (w, j, s) = h z (Memᴰ.tail k) in
          let linked : alike x w ≡ true → alike x z ≡ true = λ t. laws.transitive x w z t (laws.symmetric z w s) in
          let apart = not-passed (alike x w) (λ t. true≢false (sym (linked t) ∙ not-true (alike x z) (u.0 z k))) in
          (w, (keep-members (λ v. not (alike x v)) ys w).1 (j, rw apart refl), s)

  distinct-inside : (xs : List A) (z : A) → Memᴰ z (distinct_by alike xs) → Memᴰ z xs
  distinct-inside [] z = λ m. m
  distinct-inside (x ∷ xs) z =
      cond_ind (λ r. Memᴰ z r → Memᴰ z (x ∷ xs)) (any (alike x) xs) (distinct_by alike xs) (x ∷ distinct_by alike xs)
      (λ _ m. Memᴰ.tail (distinct-inside xs z m))
      (λ _ m. elim (Memᴰ.cases_cons m) [ inl e ↦ Memᴰ.head e | inr k ↦ Memᴰ.tail (distinct-inside xs z k) ])

  distinct-unlike : (xs : List A) → Unlike alike (distinct_by alike xs)
  distinct-unlike [] = tt
  distinct-unlike (x ∷ xs) = cond_ind (Unlike alike) (any (alike x) xs) (distinct_by alike xs) (x ∷ distinct_by alike xs)
      (λ _. distinct-unlike xs)
      (λ f. (λ y m. rw ((none-members (alike x) xs).0 f y (distinct-inside xs y m)) refl, distinct-unlike xs))

  distinct_named : (xs : List A) (z : A) → Memᴰ z xs → Named alike (distinct_by alike xs) z
  distinct_named [] z m = elim m [ ]
  distinct_named (x ∷ xs) z (Memᴰ.head e) =
      cond_ind (λ r. Named alike r z) (any (alike x) xs) (distinct_by alike xs) (x ∷ distinct_by alike xs)
      (λ t.
      let (y, m, s) = (any-members (alike x) xs).0 t in
      let (w, k, r) = distinct_named xs y m in
      (w, k, rw e (laws.transitive x y w s r)))
      (λ _. (x, Memᴰ.head refl, rw e (laws.reflexive x)))
  distinct_named (x ∷ xs) z (Memᴰ.tail m) =
      let (w, k, r) = distinct_named xs z m in
      cond_ind (λ l. Named alike l z) (any (alike x) xs) (distinct_by alike xs) (x ∷ distinct_by alike xs)
      (λ _. (w, k, r)) (λ _. (w, Memᴰ.tail k, r))

  once-unlike : (xs : List A) → Once xs → ((x y : A) → Memᴰ x xs → Memᴰ y xs → alike x y ≡ true → x ≡ y) → Unlike alike xs
  once-unlike [] o h = tt
  once-unlike (x ∷ xs) o h = (
    λ y m. rw (not-passed (alike x y) (λ t. o.0 (Memᴰ.cast (h x y (Memᴰ.head refl) (Memᴰ.tail m) t) m))) refl,
    once-unlike xs o.1 (λ y z m k. h y z (Memᴰ.tail m) (Memᴰ.tail k)),
  )

  -- If exactly one member of each kind passes `stands`, there are as many different elements as members that pass.
  pub distinct-number : (stands : A → Bool) (xs : List A) → Once xs → Represented alike stands xs → length (distinct_by alike xs) ≡ length (keep stands xs)
  distinct-number stands xs o k = le_antisymm
      (no_more (distinct_by alike xs) (keep stands xs) (distinct-unlike xs) stood)
      (no_more (keep stands xs) (distinct_by alike xs) apart (λ x m. distinct_named xs x ((keep-members stands xs x).0 m).0))
    where
      stood : (x : A) → Memᴰ x (distinct_by alike xs) → Named alike (keep stands xs) x
      stood x m = let (y, i, s, t) = k.exists x (distinct-inside xs x m) in (y, (keep-members stands xs y).1 (i, s), t)

      apart : Unlike alike (keep stands xs)
      apart = once-unlike (keep stands xs) (keep-once stands xs o) (λ x y m n.
          let (i, s) = (keep-members stands xs x).0 m in
          let (j, t) = (keep-members stands xs y).0 n in
          k.unique x y i j s t)

-- A list without repetitions is at most as long as one that has all its members, if a test decides equality.
pub once-fewer : {A : Type 0} {alike : A → A → Bool} → Decides alike → (xs ys : List A)
    → Once xs → ((x : A) → Memᴰ x xs → Memᴰ x ys) → length xs ≤ length ys
once-fewer decides xs ys once inside =
    let laws = alike-by (λ x. x) decides in
    no_more laws xs ys (once-unlike laws xs once (λ x y _ _ t. (decides x y).0 t)) (λ x m. (x, inside x m, laws.reflexive x))
