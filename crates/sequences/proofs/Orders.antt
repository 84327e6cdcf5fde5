-- Strict orders: the lexicographic order of lists of numbers is one, and an order can be pulled back along an injective map. At most one
-- element is the least with a property.
use Prim.Native.Nat.{ℕ, ◌<◌}
use native.Mathlib.Omega.{arith}
use mathlib.Core.Path.{◌≡◌, refl, sym, ap, ap₂, ◌∙◌}
use mathlib.Core.Logic.{◌⊎◌, inl, inr}
use mathlib.Core.Bool.{Bool, true, false, ◌&&◌, true≢false, false≢true}
use mathlib.Core.List.{List, [], ◌∷◌}
use mathlib.Core.Option.{Option, none, some}
use lib.Dec.{ltb, eqb}
use borrow.Author.Tests.{ltb-true, ltb-false, eqb-true, lt-ltb, le-ltb, eq-eqb}
use Rattle.sequences.specs.Lists.{before}
use Rattle.sequences.specs.Orders.{StrictOrder, Least}
use Rattle.sequences.proofs.Tests.{not-passed, both-pass, or-fails, or-passes}

-- ---- `before` by the first numbers

-- if the first numbers are equal, the rest decides
pub before_same : (x : ℕ) (xs ys : List ℕ) → before (x ∷ xs) (x ∷ ys) ≡ before xs ys
before_same x xs ys = simp (le-ltb x x (omega arith), eq-eqb x x refl)

module _ (x y : ℕ) (xs ys : List ℕ) where
  -- the lower one is before
  pub before-lower : x < y → before (x ∷ xs) (y ∷ ys) ≡ true
  before-lower l = simp (lt-ltb x y l)

  -- of equal ones, the one with the earlier rest
  pub before-rest : x ≡ y → before xs ys ≡ true → before (x ∷ xs) (y ∷ ys) ≡ true
  before-rest e t = rw e (before_same y xs ys ∙ t)

  -- there is no other way to be before
  pub before-cases : before (x ∷ xs) (y ∷ ys) ≡ true → (x < y) ⊎ ((x ≡ y) × (before xs ys ≡ true))
  before-cases e = elim (or-passes (ltb x y) (eqb x y && before xs ys) e) [
    | inl t ↦ inl (ltb-true x y t)
    | inr t ↦ let (s, r) = (both-pass (eqb x y) (before xs ys)).0 t in inr (eqb-true x y s, r)
  ]

-- ---- its laws

-- no list is before itself
pub before-irreflexive : (xs : List ℕ) → before xs xs ≡ false
before-irreflexive [] = refl
before-irreflexive (x ∷ xs) = before_same x xs xs ∙ before-irreflexive xs

before-transitive : (xs ys zs : List ℕ) → before xs ys ≡ true → before ys zs ≡ true → before xs zs ≡ true
before-transitive [] [] zs p q = q
before-transitive [] (y ∷ ys) [] p q = q
before-transitive [] (y ∷ ys) (z ∷ zs) p q = refl
before-transitive (x ∷ xs) [] zs p q = absurd (false≢true p)
before-transitive (x ∷ xs) (y ∷ ys) [] p q = q
before-transitive (x ∷ xs) (y ∷ ys) (z ∷ zs) p q = go (before-transitive xs ys zs) (before-cases x y xs ys p) (before-cases y z ys zs q)
  where
    go : (before xs ys ≡ true → before ys zs ≡ true → before xs zs ≡ true)
        → (x < y) ⊎ ((x ≡ y) × (before xs ys ≡ true)) → (y < z) ⊎ ((y ≡ z) × (before ys zs ≡ true)) → before (x ∷ xs) (z ∷ zs) ≡ true
    go rest (inl a) (inl b) = before-lower x z xs zs (omega arith)
    go rest (inl a) (inr b) = before-lower x z xs zs (omega arith)
    go rest (inr a) (inl b) = before-lower x z xs zs (omega arith)
    go rest (inr a) (inr b) = before-rest x z xs zs (a.0 ∙ b.0) (rest a.1 b.1)

before-total : (xs ys : List ℕ) → before xs ys ≡ false → before ys xs ≡ false → xs ≡ ys
before-total [] [] p q = refl
before-total [] (y ∷ ys) p q = absurd (true≢false p)
before-total (x ∷ xs) [] p q = absurd (true≢false q)
before-total (x ∷ xs) (y ∷ ys) p q =
    let low = ltb-false x y (or-fails (ltb x y) (eqb x y && before xs ys) p).0 in
    let high = ltb-false y x (or-fails (ltb y x) (eqb y x && before ys xs) q).0 in
    let e : x ≡ y = omega arith in
    ap₂ ◌∷◌ e (before-total xs ys (sym (before_same y xs ys) ∙ (rw e at p)) (sym (before_same y ys xs) ∙ (rw e at q)))

-- the lexicographic order of lists of numbers is strict
pub before-order : StrictOrder before
before-order = record { irreflexive = before-irreflexive; transitive = before-transitive; total = before-total }

-- ---- any strict order

-- an injective map orders elements strictly, by their images
pub pulled-back : {A B : Type 0} {test : B → B → Bool} (f : A → B) → ((x y : A) → f x ≡ f y → x ≡ y) → StrictOrder test
    → StrictOrder {A = A} (λ x y. test (f x) (f y))
pulled-back f apart order = record {
  irreflexive = λ x. order.irreflexive (f x);
  transitive = λ x y z. order.transitive (f x) (f y) (f z);
  total = λ x y p q. apart x y (order.total (f x) (f y) p q);
}

module _ {A : Type 0} {test : A → A → Bool} (order : StrictOrder test) where
  -- of two elements at most one is before the other
  pub asymmetric : (x y : A) → test x y ≡ true → test y x ≡ false
  asymmetric x y p = not-passed (test y x) (λ q. true≢false (sym (order.transitive x y x p q) ∙ order.irreflexive x))

  -- the least element with a property is unique, or nothing has the property
  pub least-unique : (P : A → Type 0) (m k : Option A) → Least test P m → Least test P k → m ≡ k
  least-unique P none none f g = refl
  least-unique P none (some y) f g = absurd (f y g.0)
  least-unique P (some x) none f g = absurd (g x f.0)
  least-unique P (some x) (some y) f g = ap some (order.total x y (g.1 x f.0) (f.1 y g.0))
