-- The keys of a description's rows: one walk keeps exactly these, in the walk's order, and they are ordered as the rows are.
use Prim.Native.Nat.{ℕ, ◌*◌, ◌-◌, ◌≤◌}
use native.Mathlib.Nat.{zero-add}
use native.Mathlib.Omega.{arith}
use mathlib.Core.Path.{◌≡◌, sym, ap, ap₂, subst, subst₂, ◌∙◌}
use mathlib.Core.Bool.{Bool, ◌&&◌, ◌||◌}
use mathlib.Core.List.Memᴰ
use mathlib.Core.List.{List, ◌++◌, map, map-map, Memᴰ}
use lib.Dec.{ltb, eqb}
use lib.ListN.{length, take, drop, replicate, length-map}
use lib.Seq.{take_at}
use Rattle.sequences.specs.Lists.{keep, before}
use Rattle.sequences.proofs.Agreeing.{keep-agree, keep-map, map-agree}
use Rattle.sequences.proofs.Members.{keep-members}
use Rattle.sequences.proofs.Parts.{keep-both, two-parts}
use Rattle.sequences.proofs.Sorting.{sort-members}
use Rattle.sequences.proofs.Tests.{both-pass}
use Rattle.description.specs.Declarations.{Description}
use Rattle.security.specs.Accepted.{Admitted}
use Rattle.security.specs.Soundness.{candidates, count}
use Rattle.security.specs.Placements.{secure}
use Rattle.security.proofs.Candidates.{count-is-length}
use Rattle.costs.specs.Cost.{cost}
use Rattle.packing.specs.Packing.{pack, digits}
use Rattle.packing.proofs.Digits.{digits-pack}
use Rattle.weights.specs.Weights.{is_unexposed}
use Rattle.visit.specs.Tables.{weight, tests_of}
use Rattle.visit.specs.declared.counts.Keep.{Keep}
use Rattle.visit.specs.Visits.{passes, to_count, kept}
use Rattle.visit.proofs.Counters.{counters, keeping-counts}
use Rattle.walk.proofs.Whole.{seen-in-turn}
use Rattle.sorting.specs.Rows.{flat, lower, pairs}
use Rattle.sorting.proofs.Rows.{length-flat, pairs-flat, lower-is}
use Rattle.security.specs.Masks.{padded}
use Rattle.table_entries.specs.Building.{tables_of}
use Rattle.survey.specs.declared.Row.{Row}
use Rattle.survey.specs.Joining.{Joined, met}
use Rattle.survey.specs.Rows.{secure_placements, row_of, earlier, stands, rows}
use Rattle.survey.specs.RowWords.{row_key, keys_needed, unsorted}
use Rattle.survey.specs.Surveys.{seen_of}
use Rattle.survey.proofs.Counting.{rows-length}
use Rattle.survey.proofs.Drawing.{standing}
use Rattle.survey.proofs.Joins.{joined, ordered}
use Rattle.survey.proofs.Keeping.{kept-words, kept-reference}
use Rattle.survey.proofs.Walked.{unexposed-is, is-row}

module _ (d : Description) (a : Admitted d) where
  abbrev n : ℕ
  n = length d.blocks

  abbrev W : List ℕ → ℕ
  W q = weight (tables_of d) n q

  abbrev met' : List (List ℕ)
  met' = met d (tables_of d)

  j : Joined d (tables_of d)
  j = joined d a

  abbrev is_row : List ℕ → Bool
  is_row q = is_unexposed (W q) && passes (tests_of (tables_of d) n q)

  standing-met : map (padded d) (keep is_row met') ≡ standing d
  unfolding secure_placements
  standing-met =
      ap (map (padded d)) (keep-agree is_row (λ q. secure d (padded d q) && stands d (padded d q)) met' (is-row d (tables_of d) j))
      ∙ sym (keep-map (padded d) (λ p. secure d p && stands d p) met') ∙ ap (keep (λ p. secure d p && stands d p)) j.candidates_are
      ∙ sym (keep-both (secure d) (stands d) (candidates d))

  -- the blocks of a padded placement that was met are that placement
  blocks-of : (q : List ℕ) → Memᴰ q met' → take n (padded d q) ≡ q
  blocks-of q m = take_at q (replicate (16 - n) 0) n (j.sized q m)

  words-met : (q : List ℕ) → Memᴰ q (keep is_row met') → ◌≡◌ {A = ℕ × ℕ} (W q, pack q) (row_key d (row_of d (padded d q)))
  words-met q m =
      let (k, row) = (keep-members is_row met' q).0 m in
      let light = sym (unexposed-is d (tables_of d) j q k) ∙ ((both-pass (is_unexposed (W q)) (passes (tests_of (tables_of d) n q))).0 row).0 in
      let same = sym (blocks-of q k) in
      λ i. (j.cost_is q k light i, pack (same i))

  kept-unsorted : flat (map (λ q. (W q, pack q)) (keep is_row met')) ≡ unsorted d
  unfolding unsorted
  kept-unsorted =
      let words : List ℕ → ℕ × ℕ = λ p. row_key d (row_of d p) in
      ap flat (map-agree _ _ (keep is_row met') words-met ∙ sym (map-map words (padded d) (keep is_row met')) ∙ ap (map words) standing-met)

  rows-number : length (keep is_row met') ≡ length (rows d)
  rows-number = sym (length-map (keep is_row met') (padded d)) ∙ ap length standing-met ∙ sym (rows-length d)

  -- there are no more rows than candidates
  pub rows_few : length (rows d) ≤ count d
  rows_few =
      omega (arith, rows-number, two-parts is_row met', length-map met' (padded d), ap length j.candidates_are, count-is-length d)

  -- A WALK THAT COUNTS KEEPS THE ROWS, in the walk's order, if there is room
  pub walk-keeps : (k : Keep) → k.count ≡ to_count → keys_needed d ≤ length k.keys.now
      → (seen_of kept d k).keys.now ≡ unsorted d ++ drop (keys_needed d) k.keys.now
  walk-keeps k e h =
      let none : k.count.rows ≡ 0 = ap (λ c. c.rows) e in
      ap (λ x. x.keys.now) (seen-in-turn kept (tables_of d) n k)
      ∙ kept-words W pack (tests_of (tables_of d) n) met' k (rw (none, zero-add, rows-number) h)
      ∙ rw (none, zero-add) (ap₂ (λ a b. a ++ drop (b * 2) k.keys.now) kept-unsorted rows-number)

  -- and it counts them
  pub walk-counts : (k : Keep) → k.count ≡ to_count → (seen_of kept d k).count.rows ≡ length (rows d)
  walk-counts k e =
      ap (λ x. x.count.rows) (seen-in-turn kept (tables_of d) n k)
      ∙ ap (λ c. c.rows) (keeping-counts W pack (tests_of (tables_of d) n) met' k)
      ∙ (counters W pack (tests_of (tables_of d) n) met' k.count).rows
      ∙ rw (e, zero-add) rows-number

  pub walk-lends : (k : Keep) → (seen_of kept d k).keys.ghost_name ≡ k.keys.ghost_name
  walk-lends k = ap (λ x. x.keys.ghost_name) (seen-in-turn kept (tables_of d) n k) ∙ kept-reference W pack (tests_of (tables_of d) n) met' k

  -- a row is that of a placement that was met
  met_of : (x : Row) → Memᴰ x (map (row_of d) (standing d)) → (q : List ℕ) × Memᴰ q met' × (row_of d (padded d q) ≡ x)
  met_of x member =
      let (p, m, e) = Memᴰ.of_map (row_of d) (standing d) member in
      let (q, k, f) = Memᴰ.of_map (padded d) (keep is_row met') (subst (Memᴰ p) (sym standing-met) m) in
      (q, ((keep-members is_row met' q).0 k).0, ap (row_of d) f ∙ e)

  -- NOTHING IS LOST IN PACKING: the clouds packed in a row's second word, followed by zeros, are the row's sixteen bytes
  pub words_row : (r : Row) → Memᴰ r (rows d) → digits n (row_key d r).1 ++ replicate (16 - n) 0 ≡ r.placement
  unfolding rows
  words_row r m =
      let (q, k, e) = met_of r ((sort-members earlier (map (row_of d) (standing d)) r).0 m) in
      subst (λ x. digits n (row_key d x).1 ++ replicate (16 - n) 0 ≡ x.placement) e
      (ap (λ l. digits n (pack l) ++ replicate (16 - n) 0) (blocks-of q k) ∙
      ap (λ l. l ++ replicate (16 - n) 0) (digits-pack n q (j.sized q k) (j.low q k)))

  -- WORDS ORDER ROWS as cost and then bytes do
  pub ordered-rows : (x y : Row) → Memᴰ x (map (row_of d) (standing d)) → Memᴰ y (map (row_of d) (standing d))
      → lower (row_key d x) (row_key d y) ≡ earlier x y
  ordered-rows x y in-x in-y =
      let (q, m, e) = met_of x in-x in
      let (u, k, f) = met_of y in-y in
      let same : ltb (pack (take n (padded d q))) (pack (take n (padded d u))) ≡ before (padded d q) (padded d u) =
      ap₂ (λ v w. ltb (pack v) (pack w)) (blocks-of q m) (blocks-of u k) ∙ sym (ordered d j q u m k) in
      subst₂ (λ v w. lower (row_key d v) (row_key d w) ≡ earlier v w) e f
      (lower-is _ _ ∙ ap (λ z. ltb (cost d (padded d q)) (cost d (padded d u)) || (eqb (cost d (padded d q)) (cost d (padded d u)) && z)) same)

  pub unsorted-length : length (unsorted d) ≡ keys_needed d
  unfolding unsorted
  unsorted-length =
      let words : List ℕ → ℕ × ℕ = λ p. row_key d (row_of d p) in
      length-flat (map words (standing d)) ∙ ap (λ k. k * 2) (length-map (standing d) words ∙ sym (rows-length d))

  -- the rows that the words make
  pub unsorted-pairs : pairs (unsorted d) ≡ map (row_key d) (map (row_of d) (standing d))
  unfolding unsorted
  unsorted-pairs = pairs-flat (map (λ p. row_key d (row_of d p)) (standing d)) ∙ sym (map-map (row_key d) (row_of d) (standing d))
