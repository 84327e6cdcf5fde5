-- What each counter holds after a list of placements: how many of its class were met, and how many rows.
use Prim.Native.Nat.{ℕ, ◌+◌}
use native.Mathlib.Nat.{add-zero}
use native.Mathlib.Omega.{arith}
use mathlib.Core.Path.{◌≡◌, refl, sym}
use mathlib.Core.Bool.{Bool, true, false, cond}
use mathlib.Core.List.{List, [], ◌∷◌, foldl}
use lib.Dec.{eqb}
use lib.ListN.{length}
use Rattle.sequences.specs.Lists.{keep}
use Rattle.weights.specs.Weights.{secure_class, clash_class}
use Rattle.visit.specs.declared.counts.Count.{Count}
use Rattle.visit.specs.declared.counts.Keep.{Keep}
use Rattle.visit.specs.Tables.{Tests}
use Rattle.visit.specs.Visits.{one, class_at, counted, kept}
use Rattle.visit.proofs.Classes.{is_row}

-- a list of placements, each with its weight, its number and its tests
module _ {A : Type 0} (weight number : A → ℕ) (tests : A → Tests) where
  abbrev pub counting : Count → A → Count
  counting c a = counted (weight a) (number a) (tests a) c

  abbrev pub keeping : Keep → A → Keep
  keeping k a = kept (weight a) (number a) (tests a) k

  abbrev pub in_class : ℕ → A → Bool
  in_class k a = eqb (class_at (weight a) (tests a)) k

  abbrev pub row : A → Bool
  row a = is_row (weight a) (tests a)

  -- a number that grows by one at each placement that passes a test
  grown : (f : Count → ℕ) (test : A → Bool) → ((c : Count) (a : A) → f (counting c a) ≡ f c + one (test a))
      → (l : List A) (c : Count) → f (foldl counting c l) ≡ f c + length (keep test l)
  grown f test step [] c = sym (add-zero (f c))
  grown f test step (a ∷ l) c = go (test a) (step c a) (grown f test step l (counting c a))
    where
      go : (b : Bool) → f (counting c a) ≡ f c + one b
          → f (foldl counting (counting c a) l) ≡ f (counting c a) + length (keep test l)
          → f (foldl counting (counting c a) l) ≡ f c + length (cond b (a ∷ keep test l) (keep test l))
      go true e rest = omega arith
      go false e rest = omega arith

  -- the counters after a list of placements, which were those of c before
  pub record Counted (l : List A) (c d : Count) : Type 0 where
    pub secure : d.secure ≡ c.secure + length (keep (in_class secure_class) l)
    pub breaks_first : d.breaks_first ≡ c.breaks_first + length (keep (in_class 1) l)
    pub breaks_second : d.breaks_second ≡ c.breaks_second + length (keep (in_class 2) l)
    pub clashes : d.clashes ≡ c.clashes + length (keep (in_class clash_class) l)
    pub rows : d.rows ≡ c.rows + length (keep row l)

  -- WHAT EACH COUNTER HOLDS: that of a class, how many placements of that class there were; the last one, how many rows
  pub counters : (l : List A) (c : Count) → Counted l c (foldl counting c l)
  unfolding counted
  counters l c = record {
    secure = grown (λ c. c.secure) (in_class secure_class) (λ c a. refl) l c;
    breaks_first = grown (λ c. c.breaks_first) (in_class 1) (λ c a. refl) l c;
    breaks_second = grown (λ c. c.breaks_second) (in_class 2) (λ c a. refl) l c;
    clashes = grown (λ c. c.clashes) (in_class clash_class) (λ c a. refl) l c;
    rows = grown (λ c. c.rows) row (λ c a. refl) l c;
  }

  -- a walk that keeps rows counts as one that counts alone
  pub keeping-counts : (l : List A) (k : Keep) → (foldl keeping k l).count ≡ foldl counting k.count l
  keeping-counts [] k = refl
  keeping-counts (a ∷ l) k = keeping-counts l (keeping k a)
