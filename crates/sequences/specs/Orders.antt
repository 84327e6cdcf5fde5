-- Laws that theorems state of tests: a strict order, and the least element with a property; an equivalence, and one representative of all
-- elements that are alike.
use Rattle.std.specs.Prelude.{◌≡◌, Bool, true, false}
use mathlib.Core.List.{List, Memᴰ}
use Rattle.std.proofs.Math.Option.{Option, none, some}

-- no element is before itself; x before y and y before z make x before z; of two different elements, one is before the other
pub record StrictOrder {A : Type 0} (test : A → A → Bool) : Type 0 where
  pub irreflexive : (x : A) → test x x ≡ false
  pub transitive : (x y z : A) → test x y ≡ true → test y z ≡ true → test x z ≡ true
  pub total : (x y : A) → test x y ≡ false → test y x ≡ false → x ≡ y

-- the element has property P and no element with P is before it; `none` if no element has P
abbrev pub Least : {A : Type 0} → (A → A → Bool) → (A → Type 0) → Option A → Type 0
Least {A} test P none = (x : A) → P x → ⊥
Least {A} test P (some m) = P m × ((x : A) → P x → test x m ≡ false)

-- each element is like itself; likeness is symmetric and transitive
pub record Equivalence {A : Type 0} (alike : A → A → Bool) : Type 0 where
  pub reflexive : (x : A) → alike x x ≡ true
  pub symmetric : (x y : A) → alike x y ≡ true → alike y x ≡ true
  pub transitive : (x y z : A) → alike x y ≡ true → alike y z ≡ true → alike x z ≡ true

-- each member of the list is like exactly one member that passes `stands`: there is one, and two that are alike are equal
pub record Represented {A : Type 0} (alike : A → A → Bool) (stands : A → Bool) (xs : List A) : Type 0 where
  pub exists : (x : A) → Memᴰ x xs → (y : A) × Memᴰ y xs × (stands y ≡ true) × (alike x y ≡ true)
  pub unique : (x y : A) → Memᴰ x xs → Memᴰ y xs → stands x ≡ true → stands y ≡ true → alike x y ≡ true → x ≡ y
