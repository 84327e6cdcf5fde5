-- A walk over the tables of a description that counts sees its census, and one that draws keeps the row that the draw answers.
use Prim.Native.Nat.{ℕ, ◌+◌, ◌<◌}
use native.Mathlib.Nat.{zero-add}
use native.Mathlib.Omega.{arith}
use mathlib.Core.Path.{◌≡◌, refl, sym, ap, ap₂, subst, ◌∙◌}
use mathlib.Core.Bool.{Bool, true, false, not, ◌&&◌, ◌||◌, cond, not-not}
use mathlib.Core.List.{List, [], ◌∷◌, foldl, foldl-map, Memᴰ}
use mathlib.Core.Option.{Option, none, some}
use lib.Dec.{ltb, eqb}
use lib.ListN.{length, length-map}
use Rattle.sequences.specs.Draws.{better_if, beats}
use Rattle.sequences.specs.Lists.{keep, before}
use Rattle.sequences.proofs.Agreeing.{keep-agree, keep-map}
use Rattle.sequences.proofs.Parts.{keep-both}
use Rattle.description.specs.Declarations.{Description}
use Rattle.security.specs.Soundness.{candidates}
use Rattle.security.specs.Placements.{broken16, broken17, unexposed, broken_apart, secure}
use Rattle.costs.specs.Cost.{cost}
use Rattle.costs.specs.Terms.{class_in}
use Rattle.costs.proofs.Weights.{class-unexposed, class-16, class-17}
use Rattle.packing.specs.Packing.{pack}
use Rattle.weights.specs.Weights.{is_unexposed, secure_class, clash_class}
use Rattle.weights.proofs.Classes.{class-unexposed as weight-unexposed}
use Rattle.visit.specs.Tables.{Tables, Tests, weight, tests_of}
use Rattle.visit.specs.Tables.{stands as stands_by}
use Rattle.visit.specs.declared.counts.Count.{Count}
use Rattle.visit.specs.declared.draws.Draw.{Draw}
use Rattle.visit.specs.Visits.{class_at, passes, counted, to_count, drawn, to_draw}
use Rattle.visit.specs.Visits.{earlier as walk_earlier}
use Rattle.visit.proofs.Classes.{class-secure, class-clash, class-exposed}
use Rattle.visit.proofs.Counters.{Counted, counters}
use Rattle.visit.proofs.Drawing.{Fits, Kept, kept-all}
use Rattle.walk.specs.Walking.{see_all}
use Rattle.walk.proofs.Whole.{seen-in-turn}
use Rattle.security.specs.Masks.{padded}
use Rattle.survey.specs.declared.Row.{Row}
use Rattle.survey.specs.declared.Cursor.{Cursor}
use Rattle.survey.specs.Joining.{Joined, met}
use Rattle.survey.specs.Rows.{census, secure_placements, earlier, row_of, rows, stands, later, draw}
use Rattle.survey.proofs.Counting.{options-number, rows-length}
use Rattle.survey.proofs.Drawing.{draw-walks}

-- there are as many rows as candidates that are secure and represent their options
rows-number : (d : Description) → length (rows d) ≡ length (keep (λ p. secure d p && stands d p) (candidates d))
unfolding secure_placements
rows-number d = rows-length d ∙ ap length (keep-both (secure d) (stands d) (candidates d))

-- two folds whose steps agree on the elements
foldl-agree : {A B : Type 0} (f g : B → A → B) (l : List A) → ((b : B) (a : A) → Memᴰ a l → f b a ≡ g b a)
    → (b : B) → foldl f b l ≡ foldl g b l
foldl-agree f g [] h b = refl
foldl-agree f g (a ∷ l) h b =
    ap (λ x. foldl f x l) (h b a (Memᴰ.head refl)) ∙ foldl-agree f g l (λ x y m. h x y (Memᴰ.tail m)) (g b a)

module _ (d : Description) (t : Tables) (j : Joined d t) where
  abbrev n : ℕ
  n = length d.blocks

  abbrev W : List ℕ → ℕ
  W q = weight t n q

  -- a count over the placements that were met is the count over the candidates
  among : (test : List ℕ → Bool) (mine : List ℕ → Bool) → ((q : List ℕ) → Memᴰ q (met d t) → mine q ≡ test (padded d q))
      → length (keep mine (met d t)) ≡ length (keep test (candidates d))
  among test mine h =
      ap length (keep-agree mine (λ q. test (padded d q)) (met d t) h) ∙ sym (length-map (keep (λ q. test (padded d q)) (met d t)) (padded d)) ∙
      ap length (sym (keep-map (padded d) test (met d t))) ∙ ap (λ l. length (keep test l)) j.candidates_are

  abbrev T : List ℕ → Tests
  T q = tests_of t n q

  -- the weight shows whether rules 16 and 17 are kept
  pub unexposed-is : (q : List ℕ) → Memᴰ q (met d t) → is_unexposed (W q) ≡ unexposed d (padded d q)
  unexposed-is q m = sym (weight-unexposed (W q)) ∙ ap (λ n. eqb n 0) (j.class_is q m) ∙ class-unexposed d (padded d q)

  -- together with both tests it shows which are rows
  pub is-row : (q : List ℕ) → Memᴰ q (met d t) → (is_unexposed (W q) && passes (T q)) ≡ (secure d (padded d q) && stands d (padded d q))
  is-row q m =
      ap₂ (λ x y. x && (y && stands_by t n q)) (unexposed-is q m) (j.apart_is q m) ∙
      go (unexposed d (padded d q)) (not (broken_apart d (padded d q))) (j.stands_is q m)
    where
      go : (x y : Bool) → ((x && y) ≡ true → stands_by t n q ≡ stands d (padded d q)) → (x && (y && stands_by t n q)) ≡ ((x && y) && stands d (padded d q))
      go true true h = h refl
      go true false h = refl
      go false y h = refl

  -- ---- a walk that counts sees the census

  abbrev seen : Count
  seen = see_all counted t n to_count

  counters-are : Counted W pack T (met d t) to_count seen
  counters-are =
      subst (Counted W pack T (met d t) to_count) (sym (seen-in-turn counted t n to_count)) (counters W pack T (met d t) to_count)

  -- a counter, which begins at 0, counts the candidates that pass a test
  counted-as : (count : ℕ) (mine : List ℕ → Bool) → count ≡ 0 + length (keep mine (met d t)) → (test : List ℕ → Bool)
      → ((q : List ℕ) → Memᴰ q (met d t) → mine q ≡ test (padded d q)) → count ≡ length (keep test (candidates d))
  counted-as count mine e test same = e ∙ zero-add _ ∙ among test mine same

  -- a class that the edges decide
  edges-class : (k : ℕ) → secure_class < k → k < clash_class → (q : List ℕ) → Memᴰ q (met d t)
      → eqb (class_at (W q) (T q)) k ≡ eqb (class_in d (padded d q)) k
  edges-class k low high q m = class-exposed (W q) (T q) k low high ∙ ap (λ c. eqb c k) (j.class_is q m)

  pub sees-16 : seen.breaks_first ≡ (census d).breaking16
  unfolding census
  sees-16 = counted-as seen.breaks_first _ counters-are.breaks_first (broken16 d)
      (λ q m. edges-class 1 (omega arith) (omega arith) q m ∙ class-16 d (padded d q))

  pub sees-17 : seen.breaks_second ≡ (census d).breaking17only
  unfolding census
  sees-17 = counted-as seen.breaks_second _ counters-are.breaks_second (λ p. not (broken16 d p) && broken17 d p)
      (λ q m. edges-class 2 (omega arith) (omega arith) q m ∙ class-17 d (padded d q))

  pub sees-apart : seen.clashes ≡ (census d).apartonly
  unfolding census
  sees-apart = counted-as seen.clashes _ counters-are.clashes (λ p. unexposed d p && broken_apart d p) (λ q m.
      class-clash (W q) (T q) ∙ ap₂ (λ x y. x && not y) (unexposed-is q m) (j.apart_is q m) ∙
      ap (λ b. unexposed d (padded d q) && b) (not-not (broken_apart d (padded d q))))

  pub sees-secure : seen.secure ≡ (census d).secure
  unfolding census secure_placements
  sees-secure = counted-as seen.secure _ counters-are.secure (secure d)
      (λ q m. class-secure (W q) (T q) ∙ ap₂ ◌&&◌ (unexposed-is q m) (j.apart_is q m))

  pub sees-options : seen.rows ≡ (census d).options
  sees-options =
      counted-as seen.rows _ counters-are.rows (λ p. secure d p && stands d p) is-row ∙ sym (rows-number d) ∙ options-number d

  -- ---- a walk that draws keeps the row that the draw answers, if numbers order placements and the floor is the cursor's

  module _ (c : Cursor) (cost₀ place₀ : ℕ)
      (ordered : (q r : List ℕ) → Memᴰ q (met d t) → Memᴰ r (met d t) → before (padded d q) (padded d r) ≡ ltb (pack q) (pack r))
      (floor : (q : List ℕ) → Memᴰ q (met d t)
      → later c (row_of d (padded d q)) ≡ not (walk_earlier (cost d (padded d q)) (pack q) cost₀ place₀)) where
    abbrev row : List ℕ → Row
    row q = row_of d (padded d q)

    abbrev Keeps : Draw → Option Row → Type 0
    Keeps = Kept earlier (later c) row (λ r. r.cost) W pack T (λ q. unexposed d (padded d q)) cost₀ place₀ (met d t)

    fits : Fits earlier (later c) row (λ r. r.cost) W pack T (λ q. unexposed d (padded d q)) cost₀ place₀ (met d t)
    fits = record {
      unexposed_is = unexposed-is;
      price_is = j.cost_is;
      order_is = λ q r a b.
          ap (λ x. ltb (cost d (padded d q)) (cost d (padded d r)) || (eqb (cost d (padded d q)) (cost d (padded d r)) && x)) (ordered q r a b);
      later_is = floor;
    }

    -- the better of what is kept and a placement, by the walk's row test and by the definition's
    agree : (o : Option Row) (q : List ℕ) → Memᴰ q (met d t)
        → better_if earlier (later c) (λ a. unexposed d (padded d a) && passes (T a)) row o q ≡
        better_if earlier (later c) (λ p. secure d p && stands d p) (row_of d) o (padded d q)
    agree o q m =
        ap (λ x. cond (x && later c (row q) && beats earlier (row q) o) (some (row q)) o)
        (sym (ap (λ x. x && passes (T q)) (unexposed-is q m)) ∙ is-row q m)

    nothing-kept : Keeps (to_draw cost₀ place₀) none
    nothing-kept = record { asked = refl; best = refl }

    pub draws : Keeps (see_all drawn t n (to_draw cost₀ place₀)) (draw d c)
    draws =
        let better = better_if earlier (later c) (λ p. secure d p && stands d p) (row_of d) in
        let same = foldl-agree _ _ (met d t) agree none ∙ sym (foldl-map (padded d) better (met d t) none) ∙
        ap (foldl better none) j.candidates_are ∙ sym (draw-walks d c) in
        subst (λ s. Keeps s (draw d c)) (sym (seen-in-turn drawn t n (to_draw cost₀ place₀)))
        (subst (Keeps (foldl (λ s q. drawn (W q) (pack q) (T q) s) (to_draw cost₀ place₀) (met d t))) same
        (kept-all earlier (later c) row (λ r. r.cost) W pack T (λ q. unexposed d (padded d q)) cost₀ place₀ (met d t) fits
        (met d t) (λ q m. m) (to_draw cost₀ place₀) none nothing-kept))
