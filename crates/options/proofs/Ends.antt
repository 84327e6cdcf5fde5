-- The only data that can move within an option: those with a writer on one cloud and their only reader on another can move from the one
-- cloud to the other. Only their storage changes, and which end has the copy.
use Prim.Native.Nat.{ℕ, ◌+◌, ◌*◌, ◌≤◌}
use native.Mathlib.Omega.{arith}
use mathlib.Core.Path.{◌≡◌, refl, sym, ap, ◌∙◌}
use mathlib.Core.Logic.{◌↔◌}
use mathlib.Core.Bool.{Bool, true, false, not, ◌&&◌, cond, true≢false}
use mathlib.Core.List.{List, [], ◌∷◌, map, Memᴰ, head-eq_of_cons-eq}
use mathlib.Core.Option.{none, some, some-ne-none}
use lib.Dec.{eqb}
use lib.ListN.{length, get_or}
use borrow.Author.Tests.{eqb-true, not-true}
use Rattle.description.specs.declared.workflow.Kind.{Kind}
use Rattle.description.specs.declared.workflow.Edge.{Edge}
use Rattle.description.specs.Declarations.{Description, block, cloud, no_edge, is_datum, is_write}
use Rattle.description.specs.Invariants.{WellFormed}
use Rattle.security.specs.Placements.{service_cloud, datum_cloud, moves}
use Rattle.costs.specs.Cost.{charged_of, copy_of, edge_cost}
use Rattle.options.specs.Options.{writers_of, readers_of, stem, branch, joined, part, part_of}
use Rattle.options.specs.Representatives.{data_of, stored_on, kept_on, share, between, moves_to, SameServices}
use Rattle.options.proofs.Locality.{data-are, edge-service, edge-datum}
use Rattle.security.proofs.Moves.{moves-apart}
use Rattle.costs.proofs.EdgeCosts.{edge-cost}
use Rattle.options.proofs.Options.{datum-part}
use Rattle.options.proofs.Paths.{beside, path, path-ends, end-apart, end-paths, carried, end-carried}
use Rattle.sequences.specs.Lists.{keep, before, other_end}
use Rattle.sequences.proofs.Tests.{both-pass, not-passed}
use Rattle.sequences.proofs.Members.{keep-members}
use Rattle.sequences.proofs.Agreeing.{keep-none, keep_one}
use Rattle.sequences.proofs.Equality.{snoc-same}
use Rattle.sequences.proofs.Grouping.{sum-split}
use Rattle.sequences.proofs.Lexicographic.{before-plus}

-- ---- a datum with one writer and one reader

-- what carrying datum n from one cloud to another costs, and a copy of it
abbrev carry : Description → ℕ → ℕ → ℕ → ℕ
carry d n from to = ((cloud d from).outward + (cloud d to).inward) * charged_of (block d n).kind

abbrev copy_on : Description → ℕ → ℕ → ℕ
copy_on d n k = copy_of (cloud d k) (block d n).kind

-- the stem and the branch of one edge, if its service is on the datum's cloud and if it is not
lead-away : (t : Bool) (f : Edge → ℕ) (e : Edge) → map f (cond (not t) (e ∷ []) []) ≡ cond t [] (f e ∷ [])
lead-away true f e = refl
lead-away false f e = refl

tip-away : (t : Bool) (k : ℕ) → cond (not t) (k ∷ []) [] ≡ cond t [] (k ∷ [])
tip-away true k = refl
tip-away false k = refl

-- by the clouds of writer and reader in p, for any placement q that has the services on the same clouds
module _ (d : Description) (w : WellFormed d) (p q : List ℕ) (same : SameServices d q p) (n : ℕ)
    (x y : Edge) (writers : writers_of d n ≡ x ∷ []) (readers : readers_of d n ≡ y ∷ []) where
  writer-is : Memᴰ x d.edges × (is_write x.way ≡ true) × (x.datum ≡ n)
  writer-is =
      let m : Memᴰ x (writers_of d n) = rw writers (mathlib.Core.List.Memᴰ.head refl) in
      let (k, t) = (keep-members (λ e. is_write e.way && eqb e.datum n) d.edges x).0 m in
      let (writes, here) = (both-pass (is_write x.way) (eqb x.datum n)).0 t in
      (k, writes, eqb-true x.datum n here)

  reader-is : Memᴰ y d.edges × (is_write y.way ≡ false) × (y.datum ≡ n)
  reader-is =
      let m : Memᴰ y (readers_of d n) = rw readers (mathlib.Core.List.Memᴰ.head refl) in
      let (k, t) = (keep-members (λ e. not (is_write e.way) && eqb e.datum n) d.edges y).0 m in
      let (reads, here) = (both-pass (not (is_write y.way)) (eqb y.datum n)).0 t in
      (k, not-true _ reads, eqb-true y.datum n here)

  writer-cloud : service_cloud q x ≡ service_cloud p x
  writer-cloud = same x.service (edge-service d w x writer-is.0)

  reader-cloud : service_cloud q y ≡ service_cloud p y
  reader-cloud = same y.service (edge-service d w y reader-is.0)

  writer-lead : map (service_cloud q) (keep (moves q) (x ∷ [])) ≡ beside (get_or q n 0) (service_cloud p x)
  writer-lead =
      ap (λ (t : Bool). map (service_cloud q) (cond t (x ∷ []) [])) (moves-apart q x) ∙
      lead-away (eqb (service_cloud q x) (datum_cloud q x)) (service_cloud q) x ∙ (rw (writer-is.2, writer-cloud) refl)

  reader-tip : branch q y ≡ beside (get_or q n 0) (service_cloud p y)
  reader-tip =
      ap (λ (t : Bool). cond t (service_cloud q y ∷ []) []) (moves-apart q y) ∙
      tip-away (eqb (service_cloud q y) (datum_cloud q y)) (service_cloud q y) ∙ (rw (reader-is.2, reader-cloud) refl)

  -- its part is the one path
  one-part : (k : Kind) → is_datum k ≡ true → part d q n k ≡ path (service_cloud p x) (service_cloud p y) (get_or q n 0) ∷ []
  one-part k t = datum-part d q n k t ∙ (rw (writers, readers, writer-lead, reader-tip) refl)

  writer-cost : edge_cost d q x ≡
      cond (eqb (service_cloud p x) (get_or q n 0)) 0 (carry d n (service_cloud p x) (get_or q n 0) + copy_on d n (service_cloud p x))
  writer-cost = edge-cost d q x ∙ (rw (writer-is.1, writer-is.2, writer-cloud) refl)

  reader-cost : edge_cost d q y ≡
      cond (eqb (service_cloud p y) (get_or q n 0)) 0 (carry d n (get_or q n 0) (service_cloud p y) + copy_on d n (service_cloud p y))
  reader-cost = edge-cost d q y ∙ (rw (reader-is.1, reader-is.2, reader-cloud) refl)

  -- its share is its storage, and what the two edges carry and copy
  one-share : share d q n ≡ stored_on d n (get_or q n 0) + carried (carry d n) (copy_on d n) (service_cloud p x) (service_cloud p y) (get_or q n 0)
  unfolding share
  one-share =
      let split = rw (writers, readers) at (sum-split (λ e. is_write e.way) (λ e. eqb e.datum n) (edge_cost d q) d.edges) in
      omega (arith, split, writer-cost, reader-cost)

-- ---- the two ends

-- a datum's part, whatever the numbers of its kind
abbrev paths : Description → List ℕ → ℕ → List (List ℕ)
paths d p n = joined (stem d p n) (map (branch p) (readers_of d n))

-- one writer and one reader; n is on the cloud of one, and k is the cloud of the other
record Ends (d : Description) (p : List ℕ) (n k : ℕ) : Type 0 where
  writer : Edge
  reader : Edge
  writers : writers_of d n ≡ writer ∷ []
  readers : readers_of d n ≡ reader ∷ []
  ends : other_end (service_cloud p writer) (service_cloud p reader) (get_or p n 0) ≡ some k

-- a block moves only between two ends
ends_of_lem : (d : Description) (p : List ℕ) (n k : ℕ) → (moves_to d p n ≡ some k) ↔ Ends d p n k
unfolding moves_to
ends_of_lem d p n k = (go (writers_of d n) (readers_of d n) refl refl, λ e. rw (e.writers, e.readers) e.ends)
  where
    go : (ws rs : List Edge) → writers_of d n ≡ ws → readers_of d n ≡ rs → between p (get_or p n 0) ws rs ≡ some k → Ends d p n k
    go [] rs ew er e = absurd (some-ne-none k (sym e))
    go (x ∷ v ∷ ws) rs ew er e = absurd (some-ne-none k (sym e))
    go (x ∷ []) [] ew er e = absurd (some-ne-none k (sym e))
    go (x ∷ []) (y ∷ z ∷ rs) ew er e = absurd (some-ne-none k (sym e))
    go (x ∷ []) (y ∷ []) ew er e = record { writer = x; reader = y; writers = ew; readers = er; ends = e }

module _ (d : Description) (w : WellFormed d) where
  -- no datum has two writers
  one_writer_lem : (n : ℕ) → length (writers_of d n) ≤ 1
  one_writer_lem n = keep_one (λ e. is_write e.way && eqb e.datum n) no_edge d.edges (λ i j a b t u.
      let (writes, here) = (both-pass _ _).0 t in
      let (writes', here') = (both-pass _ _).0 u in
      w.one_writer i j a b writes writes' (eqb-true _ _ here ∙ sym (eqb-true _ _ here')))

  -- A service has no writer, so it moves nowhere.
  pub service-still : (p : List ℕ) (n : ℕ) → is_datum (block d n).kind ≡ false → moves_to d p n ≡ none
  unfolding moves_to
  service-still p n f =
      let unwritten : writers_of d n ≡ [] = keep-none (λ e. is_write e.way && eqb e.datum n) d.edges (λ e m. not-passed _ (λ t.
      let here = eqb-true e.datum n ((both-pass (is_write e.way) (eqb e.datum n)).0 t).1 in
      true≢false (sym ((data-are d e.datum).0 (edge-datum d w e m)).1 ∙ (rw here f)))) in
      rw unwritten refl

  -- n in two placements that have the services on the same clouds
  module _ (p q : List ℕ) (services : SameServices d q p) (n : ℕ) (datum : Memᴰ n (data_of d)) where
    is-datum : is_datum (block d n).kind ≡ true
    is-datum = ((data-are d n).0 datum).1

    ours : SameServices d p p
    ours m s = refl

    -- the last cloud of the stem is that of the datum
    stems-tell : stem d q n ≡ stem d p n → get_or q n 0 ≡ get_or p n 0
    stems-tell e =
        (snoc-same (map (service_cloud q) (keep (moves q) (writers_of d n))) (map (service_cloud p) (keep (moves p) (writers_of d n))) (get_or q n 0) (get_or p n 0) e).1

    -- if its part is the same on two clouds, these are its two ends
    part-moves : (get_or p n 0 ≡ get_or q n 0 → ⊥) → part_of d q n ≡ part_of d p n → moves_to d p n ≡ some (get_or q n 0)
    unfolding moves_to
    part-moves other alike = go (writers_of d n) (readers_of d n) refl refl
      where
        equal : paths d q n ≡ paths d p n
        equal = sym (datum-part d q n (block d n).kind is-datum) ∙ alike ∙ datum-part d p n (block d n).kind is-datum

        stuck : {A : Type 0} → stem d q n ≡ stem d p n → A
        stuck e = absurd (other (sym (stems-tell e)))

        go : (ws rs : List Edge) → writers_of d n ≡ ws → readers_of d n ≡ rs → moves_to d p n ≡ some (get_or q n 0)
        go ws [] ew er = stuck (head-eq_of_cons-eq (rw er at equal))
        go ws (y ∷ z ∷ rs) ew er = stuck (head-eq_of_cons-eq (rw er at equal))
        go [] (y ∷ []) ew er = absurd (other (sym (head-eq_of_cons-eq (head-eq_of_cons-eq (rw (ew, er) at equal)))))
        go (x ∷ v ∷ ws) (y ∷ []) ew er = absurd (omega (arith, rw ew at (one_writer_lem n)))
        go (x ∷ []) (y ∷ []) ew er =
            let one-path = sym (one-part d w p q services n x y ew er (block d n).kind is-datum) ∙ alike
            ∙ one-part d w p p ours n x y ew er (block d n).kind is-datum in
            (ends_of_lem d p n (get_or q n 0)).1 (record {
              writer = x;
              reader = y;
              writers = ew;
              readers = er;
              ends = path-ends (service_cloud p x) (service_cloud p y) (get_or p n 0) (get_or q n 0) other (head-eq_of_cons-eq one-path);
            })

    moves-away : moves_to d p n ≡ some (get_or q n 0) → get_or p n 0 ≡ get_or q n 0 → ⊥
    moves-away e =
        let ends = (ends_of_lem d p n (get_or q n 0)).0 e in
        end-apart (service_cloud p ends.writer) (service_cloud p ends.reader) (get_or p n 0) (get_or q n 0) ends.ends

    moves-part : moves_to d p n ≡ some (get_or q n 0) → part_of d q n ≡ part_of d p n
    moves-part e =
        let record { writer = x; reader = y; writers = ew; readers = er; ends = ends } = (ends_of_lem d p n (get_or q n 0)).0 e in
        one-part d w p q services n x y ew er (block d n).kind is-datum
        ∙ ap (λ (l : List ℕ). l ∷ []) (end-paths (service_cloud p x) (service_cloud p y) (get_or p n 0) (get_or q n 0) ends)
        ∙ sym (one-part d w p p ours n x y ew er (block d n).kind is-datum)

    -- The one other cloud on which a datum has the same part is the one it can move to.
    pub moves-to : (moves_to d p n ≡ some (get_or q n 0)) ↔ ((get_or p n 0 ≡ get_or q n 0 → ⊥) × (part_of d q n ≡ part_of d p n))
    moves-to = (λ e. (moves-away e, moves-part e), λ h. part-moves h.0 h.1)

    -- Comparing its shares on both, or its storage there and the copy on the other end, gives the same order.
    pub moves-cost : moves_to d p n ≡ some (get_or q n 0) → (ks ls : List ℕ)
        → before (share d q n ∷ ks) (share d p n ∷ ls) ≡ before (kept_on d n (get_or q n 0) (get_or p n 0) ∷ ks) (kept_on d n (get_or p n 0) (get_or q n 0) ∷ ls)
    moves-cost e ks ls =
        let record { writer = x; reader = y; writers = ew; readers = er; ends = ends } = (ends_of_lem d p n (get_or q n 0)).0 e in
        let b = get_or p n 0 in
        let k = get_or q n 0 in
        let carries = carry d n (service_cloud p x) (service_cloud p y) in
        let (here, there) = end-carried (carry d n) (copy_on d n) (service_cloud p x) (service_cloud p y) b k ends in
        let moved : share d q n ≡ kept_on d n k b + carries = omega (arith, one-share d w p q services n x y ew er, there) in
        let stays : share d p n ≡ kept_on d n b k + carries = omega (arith, one-share d w p p ours n x y ew er, here) in
        rw (moved, stays) (before-plus (kept_on d n k b) (kept_on d n b k) carries ks ls)
