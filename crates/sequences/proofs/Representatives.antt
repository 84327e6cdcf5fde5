-- If elements have a strict order, the representative of the members that are alike is the one with none like it before it: there is
-- exactly one, and it is before all others like it.
use mathlib.Core.Path.{◌≡◌, refl, sym, ◌∙◌}
use mathlib.Core.Logic.{◌↔◌, ◌⊎◌, inl, inr}
use mathlib.Core.Bool.{Bool, true, false, not, ◌&&◌, true≢false, Bool-discrete}
use mathlib.Core.List.{List, Memᴰ}
use mathlib.Core.Option.{Option, none, some}
use borrow.Author.Tests.{not-true}
use Rattle.sequences.specs.Draws.{best_of}
use Rattle.sequences.specs.Lists.{any}
use Rattle.sequences.specs.Orders.{StrictOrder, Least, Equivalence, Represented}
use Rattle.sequences.proofs.Draws.{best-least}
use Rattle.sequences.proofs.Members.{none-members}
use Rattle.sequences.proofs.Tests.{both-pass, not-passed}

-- no member like x is before it
abbrev stands : {A : Type 0} (test alike : A → A → Bool) → List A → A → Bool
stands test alike xs x = not (any (λ y. alike y x && test y x) xs)

-- the test passes exactly if no member like x is before it
pub stands-first : {A : Type 0} (test alike : A → A → Bool) (xs : List A) (x : A)
    → (stands test alike xs x ≡ true) ↔ ((y : A) → Memᴰ y xs → alike y x ≡ true → test y x ≡ false)
stands-first test alike xs x =
    let each = none-members (λ y. alike y x && test y x) xs in (
      λ s y m a. not-passed (test y x) (λ t. true≢false (sym ((both-pass (alike y x) (test y x)).1 (a, t)) ∙ each.0 (not-true _ s) y m)),
      λ h. rw (each.1 (λ y m. not-passed (alike y x && test y x) (λ b.
          let (a, t) = (both-pass (alike y x) (test y x)).0 b in true≢false (sym t ∙ h y m a)))) refl,
    )

module _ {A : Type 0} {test alike : A → A → Bool} (order : StrictOrder test) (laws : Equivalence alike) (xs : List A) where
  -- each member is like exactly one that passes
  pub least-represent : Represented alike (stands test alike xs) xs
  least-represent = record {
    exists = λ x m. go x m (best_of test (alike x) xs) (best-least order (alike x) xs);
    unique = λ x y m n s t a.
        order.total x y ((stands-first test alike xs y).0 t x m a) ((stands-first test alike xs x).0 s y n (laws.symmetric x y a));
  }
    where
      go : (x : A) → Memᴰ x xs → (o : Option A) → Least test (λ z. Memᴰ z xs × (alike x z ≡ true)) o
          → (y : A) × Memᴰ y xs × (stands test alike xs y ≡ true) × (alike x y ≡ true)
      go x m none h = absurd (h x (m, laws.reflexive x))
      go x m (some y) h =
          let (k, a) = h.0 in
          (y, k, (stands-first test alike xs y).1 (λ z n b. h.1 z (n, laws.transitive x y z a (laws.symmetric z y b))), a)

  -- and that one is the member itself or before it
  pub stands-before : (x y : A) → Memᴰ x xs → stands test alike xs y ≡ true → alike x y ≡ true → (y ≡ x) ⊎ (test y x ≡ true)
  stands-before x y m s a = elim (Bool-discrete (test y x) true) [
    | yes t ↦ inr t
    | no f ↦ inl (order.total y x (not-passed (test y x) f) ((stands-first test alike xs y).0 s x m a))
  ]
