-- Equality of lists: `equal_by` decides it if its test decides equality of elements; and equal lists have equal last elements. A
-- test that decides equality is an equivalence.
use mathlib.Core.Path.{◌≡◌, refl, sym, ap₂, ◌∙◌}
use mathlib.Core.Logic.{◌↔◌}
use mathlib.Core.Bool.{Bool, true, false≢true}
use mathlib.Core.List.{List, [], ◌∷◌, ◌++◌, nil≢cons, cons≢nil, head-eq_of_cons-eq, tail-eq_of_cons-eq, concat-ne-nil}
use lib.Dec.{eqb}
use borrow.Author.Tests.{eqb-true, eq-eqb}
use Rattle.sequences.specs.Lists.{equal_by, same}
use Rattle.sequences.specs.Orders.{Equivalence}
use Rattle.sequences.proofs.Tests.{both-pass}

-- the test passes exactly if its two arguments are equal
abbrev pub Decides : {A : Type 0} → (A → A → Bool) → Type 0
Decides {A} test = (x y : A) → (test x y ≡ true) ↔ (x ≡ y)

-- two lists are equal exactly if `equal_by` says so
pub equal_by-decides : {A : Type 0} (test : A → A → Bool) → Decides test → Decides (equal_by test)
equal_by-decides test h [] [] = (λ _. refl, λ _. refl)
equal_by-decides test h [] (y ∷ ys) = (λ t. absurd (false≢true t), λ e. absurd (nil≢cons e))
equal_by-decides test h (x ∷ xs) [] = (λ t. absurd (false≢true t), λ e. absurd (cons≢nil e))
equal_by-decides test h (x ∷ xs) (y ∷ ys) = (
  λ t. let (here, later) = (both-pass _ _).0 t in ap₂ ◌∷◌ ((h x y).0 here) ((equal_by-decides test h xs ys).0 later),
  λ e. (both-pass _ _).1 ((h x y).1 (head-eq_of_cons-eq e), (equal_by-decides test h xs ys).1 (tail-eq_of_cons-eq e)),
)

-- for lists of numbers, `same` says so
pub same-decides : Decides same
same-decides = equal_by-decides eqb (λ x y. (eqb-true x y, eq-eqb x y))

-- a test that decides whether two elements have the same image is an equivalence
pub alike-by : {A B : Type 0} {alike : A → A → Bool} (f : A → B) → ((x y : A) → (alike x y ≡ true) ↔ (f x ≡ f y)) → Equivalence alike
alike-by f h = record {
  reflexive = λ x. (h x x).1 refl;
  symmetric = λ x y t. (h y x).1 (sym ((h x y).0 t));
  transitive = λ x y z t u. (h x z).1 ((h x y).0 t ∙ (h y z).0 u);
}

-- equal lists have the same last element and the same elements before it
pub snoc-same : {A : Type 0} (xs ys : List A) (x y : A) → xs ++ (x ∷ []) ≡ ys ++ (y ∷ []) → (xs ≡ ys) × (x ≡ y)
snoc-same [] [] x y e = (refl, head-eq_of_cons-eq e)
snoc-same [] (b ∷ ys) x y e = absurd (concat-ne-nil y ys (sym (tail-eq_of_cons-eq e)))
snoc-same (a ∷ xs) [] x y e = absurd (concat-ne-nil x xs (tail-eq_of_cons-eq e))
snoc-same (a ∷ xs) (b ∷ ys) x y e =
    let rest = snoc-same xs ys x y (tail-eq_of_cons-eq e) in
    (ap₂ ◌∷◌ (head-eq_of_cons-eq e) rest.0, rest.1)
