-- The words of Lists and those of std that the contracts of chains (`any`, `position`, `filter`, `count`) are in.
use mathlib.Core.Path.{◌≡◌, refl, ap, ◌∙◌}
use Prim.Native.Nat.{ℕ, ◌+◌}
use native.Mathlib.Numerals.{add-one}
use mathlib.Core.Bool.{Bool, true, false, cond, ◌||◌}
use mathlib.Core.List.{List, [], ◌∷◌}
use lib.ListN.{length}
use mathlib.Core.Option.{some}
use Rattle.std.specs.Prelude.{Some, None}
use Rattle.std.specs.List.{list_any, position, position_from}
use Rattle.std.specs.Fn.{Called}
use Rattle.std.specs.Iterator.{YieldsThen}
use Rattle.std.specs.List.{FoldsTo}
use Rattle.std.specs.Option.{MatchOption}
use Rattle.std.proofs.lemmas.Iterator.{YieldsList}
use Rattle.std.proofs.lemmas.Iterator.Adapters.{position_from-zero}
use Rattle.std.proofs.lemmas.Iterator.Search.{position_from_yields_List}
use denote.Param.Members.{Mut}
use Rattle.sequences.specs.Lists.{any, first, first_from}
use Rattle.sequences.specs.Options.{given}

module _ {A : Type 0} (t : A → Bool) where
  pub list_any_is : (l : List A) → list_any t l ≡ any t l
  list_any_is [] = refl
  list_any_is (x ∷ xs) = ap (λ b. t x || b) (list_any_is xs)

  given-cond : (b : Bool) (n : ℕ) (o : Rattle.std.specs.Prelude.Option ℕ) → given (cond b (Some n) o) ≡ cond b (some n) (given o)
  given-cond true n o = refl
  given-cond false n o = refl

  from-is : (n : ℕ) (l : List A) → given (position_from t n l) ≡ first_from n t l
  from-is n [] = refl
  from-is n (x ∷ xs) =
      given-cond (t x) n (position_from t (n + 1) xs)
      ∙ ap (λ o. cond (t x) (some n) o) (from-is (n + 1) xs ∙ ap (λ (k : ℕ). first_from k t xs) (add-one n))

  pub position_is : (l : List A) → given (position t l) ≡ first t l
  position_is l = ap given (position_from-zero t l) ∙ from-is 0 l

-- What `position` answers, from the clause of the call and the list that the chain gives.
pub first_from_yields : {S A B F : Type 0} {steps : S → Rattle.std.specs.Prelude.Option A → S → Type 0} {v : A → B} {g : Mut F (A × Unit {0}) Bool} {s : S} {all : List B}
    (test : B → Bool) (u : S) (f : F) (r : Rattle.std.specs.Prelude.Option ℕ)
    → (xs : List A) × (o : Rattle.std.specs.Prelude.Option A) × (j : F) × YieldsThen steps s xs o u
    × FoldsTo (λ p x q. Called g p (x, tt) false q) f xs j
    × MatchOption o (r ≡ None) (λ x. (r ≡ Some (length xs)) × ((h : F) × Called g j (x, tt) true h))
    → YieldsList steps v s all → ((x : A) (b : Bool) (q : F) → Called g f (x, tt) b q → (q ≡ f) × (b ≡ test (v x))) → given r ≡ first test all
first_from_yields {all} test u f r ran yields calls = ap given (position_from_yields_List test u f r ran yields calls) ∙ position_is test all
