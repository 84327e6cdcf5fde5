-- The tables of a well-formed description: they are what the walk asks for, a placement has the same weight by them as by the
-- description, and the placements by them are the candidates.
use Prim.Native.Nat.{ℕ, ◌+◌, ◌-◌, ◌*◌, ◌/◌, ◌%◌, ◌≤◌, ◌<◌}
use native.Mathlib.Omega.{arith}
use mathlib.Core.Path.{◌≡◌, refl, sym, ap, ap₂, subst, ◌∙◌}
use mathlib.Core.Bool.{Bool, true, false, ◌&&◌, cond}
use mathlib.Core.List.Memᴰ
use mathlib.Core.List.{List, map, Memᴰ}
use lib.Dec.{ltb, lit<}
use lib.ListN.{length, get_or, replicate, length-append, length-replicate}
use borrow.Author.Tests.{lt-ltb}
use Rattle.description.specs.declared.workflow.Edge.{Edge}
use Rattle.description.specs.Declarations.{Description, no_edge, edge}
use Rattle.description.specs.Invariants.{Limits, WellFormed, InRange}
use Rattle.security.specs.Soundness.{may_stand, candidates}
use Rattle.security.specs.Placements.{service_cloud, datum_cloud}
use Rattle.costs.specs.Terms.{block_term, edge_term, weight_of}
use Rattle.costs.proofs.Charges.{weight-terms, block-small}
use Rattle.security.proofs.Candidates.{candidates-placed}
use Rattle.security.proofs.PermittedClouds.{mask_low, block-masks, masks-choose}
use Rattle.security.proofs.Standing.{may-stand}
use Rattle.sequences.specs.Bits.{bit_choices}
use Rattle.sequences.specs.Lists.{below, sum}
use Rattle.sequences.proofs.Counting.{length-below}
use Rattle.sequences.proofs.Numbers.{kept-most}
use Rattle.sequences.proofs.Positions.{everywhere}
use Rattle.sequences.proofs.Tests.{cond_ind}
use Rattle.visit.specs.Tables.{mask, term, end, far_end, start, placements, own_term, edge_term as term_of_edge, weight, Ready}
use Rattle.visit.proofs.Defined.{placements-of, weight-of}
use Rattle.weights.specs.Weights.{term_limit}
use Rattle.table_entries.specs.Building.{own_of, later, other, late_in, edges_before, starts_of, order_of, edge_in, end_of, ends_of}
use Rattle.security.specs.Masks.{mask_of, masks_of, block_masks, padded}
use Rattle.table_entries.specs.Building.{term_of, has_clouds, term_at, terms_of, exchanges_of, tables_of, joined, group}
use Rattle.table_entries.proofs.EdgeSides.{term-small}
use Rattle.table_entries.proofs.Ends.{other-least, later-low}
use Rattle.table_entries.proofs.Exchanging.{own_at, mask_is}
use Rattle.sequences.proofs.Filling.{get_or-table, get_or-table_to, table-all}
use Rattle.table_entries.proofs.Groups.{keep_all, joined-grows, joined-count, regroup}
use Rattle.sequences.proofs.Indexing.{map_below, index-map, get_or-padded}
use Rattle.table_entries.proofs.Places.{term_in, end-in, start-in, on_both}
use Rattle.description.proofs.Named.{service-block, datum-block}
use Rattle.table_entries.proofs.Ordering.{order-before, order-at}
use Rattle.table_entries.proofs.Paired.{paired}

-- ---- entries

module _ (d : Description) where
  -- where the edges of a later end begin
  start_is : (k : ℕ) → k ≤ length d.blocks → k < 17 → start (tables_of d) k ≡ edges_before d k
  unfolding tables_of starts_of
  start_is k h l = start-in d (exchanges_of d) k l ∙ get_or-table_to 17 (length d.blocks + 1) (edges_before d) k l (omega arith)

  -- the two ends of the edge at a place
  first-end : (i : ℕ) → i < length d.edges → i < 32 → end (tables_of d) (2 * i) ≡ later (edge_in d i)
  unfolding tables_of ends_of
  first-end i l h =
      let q : 2 * i / 2 ≡ i = omega arith in
      let r : 2 * i % 2 ≡ 0 = omega arith in
      end-in d (exchanges_of d) (2 * i) (omega arith) ∙
      get_or-table_to 64 (length d.edges * 2) (λ j. end_of (edge_in d (j / 2)) (j % 2)) (2 * i) (omega arith) (omega arith) ∙
      ap₂ (λ (a b : ℕ). end_of (edge_in d a) b) q r

  second-end : (i : ℕ) → i < length d.edges → i < 32 → end (tables_of d) (2 * i + 1) ≡ 3 * (later (edge_in d i) - other (edge_in d i))
  unfolding tables_of ends_of
  second-end i l h =
      let q : (2 * i + 1) / 2 ≡ i = omega arith in
      let r : (2 * i + 1) % 2 ≡ 1 = omega arith in
      end-in d (exchanges_of d) (2 * i + 1) (omega arith) ∙
      get_or-table_to 64 (length d.edges * 2) (λ j. end_of (edge_in d (j / 2)) (j % 2)) (2 * i + 1) (omega arith) (omega arith) ∙
      ap₂ (λ (a b : ℕ). end_of (edge_in d a) b) q r

  far-end : (i : ℕ) → i < length d.edges → i < 32 → far_end (tables_of d) i ≡ other (edge_in d i)
  far-end i l h = omega (arith, first-end i l h, second-end i l h, other-least (edge_in d i))

  -- what a block adds, and what the edge at a place adds
  own_is : (q : List ℕ) (b : ℕ) → b < 16 → get_or q b 0 < 8 → own_term (tables_of d) q b ≡ block_term d b (get_or q b 0)
  unfolding tables_of
  own_is q b h l = own_at d b (get_or q b 0) h l

  entry-is : Limits d → (i x y : ℕ) → i < length d.edges → x < length d.clouds → y < length d.clouds
      → term (tables_of d) (i * 64 + x * 8 + y) ≡ term_of d (edge_in d i) x y
  unfolding tables_of terms_of
  entry-is few i x y h l k =
      let a : (i * 64 + x * 8 + y) / 64 ≡ i = omega (arith, few.clouds) in
      let b : (i * 64 + x * 8 + y) / 8 % 8 ≡ x = omega (arith, few.clouds) in
      let c : (i * 64 + x * 8 + y) % 8 ≡ y = omega (arith, few.clouds) in
      term_in d (i * 64 + x * 8 + y) ∙ get_or-table 2048 (term_at d) (i * 64 + x * 8 + y) (omega (arith, few.edges, few.clouds)) ∙
      rw (a, b, c) (simp (lt-ltb i (length d.edges) h, lt-ltb x (length d.clouds) l, lt-ltb y (length d.clouds) k))

  -- by its own ends, whichever is the later one
  turned : (e : Edge) (q : List ℕ) → term_of d e (get_or q (later e) 0) (get_or q (other e) 0) ≡ edge_term d e (get_or q e.service 0) (get_or q e.datum 0)
  unfolding term_of
  turned e q = go (ltb e.service e.datum)
    where
      go : (b : Bool) → cond b (edge_term d e (get_or q (cond b e.service e.datum) 0) (get_or q (cond b e.datum e.service) 0))
          (edge_term d e (get_or q (cond b e.datum e.service) 0) (get_or q (cond b e.service e.datum) 0))
          ≡ edge_term d e (get_or q e.service 0) (get_or q e.datum 0)
      go true = refl
      go false = refl

  term_is : Limits d → (q : List ℕ) → ((b : ℕ) → get_or q b 0 < length d.clouds) → (i : ℕ) → i < length d.edges
      → term_of_edge (tables_of d) q i ≡ edge_term d (edge_in d i) (get_or q (edge_in d i).service 0) (get_or q (edge_in d i).datum 0)
  term_is few q there i h =
      let i32 : i < 32 = omega (arith, few.edges) in
      rw (far-end i h i32, first-end i h i32)
      (entry-is few i (get_or q (later (edge_in d i)) 0) (get_or q (other (edge_in d i)) 0) h (there _) (there _) ∙ turned (edge_in d i) q)

module _ (d : Description) (wf : WellFormed d) where
  -- every later end is a block
  late-low : (n : ℕ) → late_in d n < length d.blocks
  late-low = everywhere (λ (e : Edge). later e < length d.blocks) no_edge d.edges wf.some_block (λ i h.
      later-low (length d.blocks) (edge d i) (service-block d wf i h) (datum-block d wf i h))

  -- all edges have later ends below the number of blocks, and at most 32 have them below any number
  all-before : (k : ℕ) → length d.blocks ≤ k → edges_before d k ≡ length d.edges
  all-before k h =
      ap length (keep_all (λ n. ltb (late_in d n) k) (λ n. lt-ltb (late_in d n) k (omega (arith, late-low n))) (below (length d.edges))) ∙
      length-below (length d.edges)

  few-before : (k : ℕ) → edges_before d k ≤ length d.edges
  few-before k = omega (arith, kept-most (λ n. ltb (late_in d n) k) (below (length d.edges)), length-below (length d.edges))

  earlier-ends : (k i : ℕ) → k ≤ length d.blocks → i < start (tables_of d) k
      → (end (tables_of d) (2 * i) < k) × (end (tables_of d) (2 * i + 1) ≡ 3 * (end (tables_of d) (2 * i) - far_end (tables_of d) i))
  earlier-ends k i l h =
      let j : i < edges_before d k = omega (arith, start_is d k l (omega (arith, wf.limits.blocks))) in
      let there : i < length d.edges = omega (arith, few-before k) in
      let i32 : i < 32 = omega (arith, wf.limits.edges) in
      let late = first-end d i there i32 in
      (rw late (order-before d k i l j), omega (arith, late, second-end d i there i32, other-least (edge_in d i)))

  later-ends : (k i : ℕ) → k < length d.blocks → start (tables_of d) k ≤ i → i < start (tables_of d) (k + 1) → end (tables_of d) (2 * i) ≡ k
  later-ends k i l g h =
      let k16 : k < 16 = omega (arith, wf.limits.blocks) in
      let a : edges_before d k ≤ i = omega (arith, start_is d k (omega arith) (omega arith)) in
      let b : i < edges_before d (k + 1) = omega (arith, start_is d (k + 1) (omega arith) (omega arith)) in
      let there : i < length d.edges = omega (arith, few-before (k + 1)) in
      first-end d i there (omega (arith, wf.limits.edges)) ∙ order-at d k i l a b

  rising-starts : (k : ℕ) → k < length d.blocks → start (tables_of d) k ≤ start (tables_of d) (k + 1)
  rising-starts k l =
      let k16 : k < 16 = omega (arith, wf.limits.blocks) in
      let m = length d.edges in
      omega (
        arith,
        start_is d k (omega arith) (omega arith),
        start_is d (k + 1) (omega arith) (omega arith),
        joined-count (late_in d) m k,
        joined-count (late_in d) m (k + 1),
        joined-grows (group (late_in d) m) k 1,
      )

  no_start : start (tables_of d) 0 ≡ 0
  unfolding joined
  no_start = start_is d 0 (omega arith) (omega arith) ∙ sym (joined-count (late_in d) (length d.edges) 0)

  -- ---- what a placement weighs

  -- the sum over the edges in the order of their later ends is the sum in edge order
  edges-sum : (f : Edge → ℕ) → sum (map (λ i. f (edge_in d i)) (below (length d.edges))) ≡ sum (map f d.edges)
  unfolding order_of
  edges-sum f =
      let m = length d.edges in
      let n = length d.blocks in
      let count : m ≡ length (order_of d) = sym (all-before n (omega arith)) ∙ sym (joined-count (late_in d) m n) in
      ap (λ (n : ℕ). sum (map (λ i. f (edge_in d i)) (below n))) count ∙
      ap sum (index-map (λ n. f (edge d n)) (order_of d) 0) ∙
      regroup (late_in d) (λ n. f (edge d n)) m n late-low ∙
      ap sum (index-map f d.edges no_edge)

  module _ (q : List ℕ) (there : (b : ℕ) → get_or q b 0 < length d.clouds) where
    own-sum : sum (map (own_term (tables_of d) q) (below (length d.blocks))) ≡
        sum (map (λ b. block_term d b (get_or (padded d q) b 0)) (below (length d.blocks)))
    own-sum = ap sum (map_below (own_term (tables_of d) q) (λ b. block_term d b (get_or (padded d q) b 0)) (length d.blocks) (λ b h.
        own_is d q b (omega (arith, wf.limits.blocks)) (omega (arith, there b, wf.limits.clouds)) ∙
        ap (block_term d b) (sym (get_or-padded q (16 - length d.blocks) b))))

    -- what an edge adds at the placement
    added : Edge → ℕ
    added e = edge_term d e (service_cloud (padded d q) e) (datum_cloud (padded d q) e)

    at_place : (i : ℕ) → i < length d.edges → term_of_edge (tables_of d) q i ≡ added (edge_in d i)
    unfolding added
    at_place i h =
        let z = 16 - length d.blocks in
        term_is d wf.limits q there i h ∙
        ap₂ (edge_term d (edge_in d i)) (sym (get_or-padded q z (edge_in d i).service)) (sym (get_or-padded q z (edge_in d i).datum))

    edge-sum : sum (map (term_of_edge (tables_of d) q) (below (start (tables_of d) (length d.blocks)))) ≡ sum (map added d.edges)
    edge-sum =
        let all : start (tables_of d) (length d.blocks) ≡ length d.edges =
        start_is d (length d.blocks) (omega arith) (omega (arith, wf.limits.blocks)) ∙ all-before (length d.blocks) (omega arith) in
        ap (λ (n : ℕ). sum (map (term_of_edge (tables_of d) q) (below n))) all ∙
        ap sum (map_below (term_of_edge (tables_of d) q) (λ i. added (edge_in d i)) (length d.edges) at_place) ∙ edges-sum added

    -- a placement of the blocks has the same weight by the tables as its sixteen clouds have by the description
    pub weights : weight (tables_of d) (length d.blocks) q ≡ weight_of d (padded d q)
    unfolding added
    weights = weight-of (tables_of d) (length d.blocks) q ∙ ap₂ ◌+◌ own-sum edge-sum ∙ sym (weight-terms d (padded d q))

  -- ---- where blocks stand

  mask-of-block : (b : ℕ) → b < length d.blocks → mask (tables_of d) b ≡ mask_of d b
  unfolding tables_of
  mask-of-block b h = mask_is d (exchanges_of d) b (omega (arith, wf.limits.blocks))

  masks-low : (b : ℕ) → b < length d.blocks → mask (tables_of d) b < 256
  masks-low b h = rw (mask-of-block b h) (mask_low d b)

  -- the placements by the tables are the choices by the masks
  pub placements-by-masks : placements (tables_of d) (length d.blocks) ≡ bit_choices (block_masks d (masks_of d))
  placements-by-masks =
      let n = length d.blocks in
      placements-of (tables_of d) n ∙ ap bit_choices (map_below (mask (tables_of d)) (mask_of d) n mask-of-block ∙ sym (block-masks d wf.limits))

  -- so, as sixteen clouds, they are the candidates, in the same order
  pub placements-are : map (padded d) (placements (tables_of d) (length d.blocks)) ≡ candidates d
  placements-are = ap (map (padded d)) placements-by-masks ∙ (masks-choose d wf.limits).exactly

  -- a placement by the tables has a declared cloud for each block
  pub placement-there : (q : List ℕ) → Memᴰ q (placements (tables_of d) (length d.blocks))
      → (length q ≡ length d.blocks) × ((b : ℕ) → get_or q b 0 < length d.clouds) ×
      ((b : ℕ) → b < length d.blocks → may_stand d b (get_or q b 0) ≡ true)
  placement-there q m =
      let n = length d.blocks in
      let z = 16 - n in
      let candidate = subst (λ (l : List (List ℕ)). Memᴰ (padded d q) l) placements-are (Memᴰ.map (padded d) m) in
      let (sixteen, placed) = (candidates-placed d wf.limits.clouds (padded d q)).0 candidate in
      let size : length q ≡ n = omega (arith, sixteen, length-append q (replicate z 0), length-replicate {A = ℕ} z 0, wf.limits.blocks) in (
        size,
        everywhere (λ (x : ℕ). x < length d.clouds) 0 q wf.some_cloud (λ b h.
            let there : b < n = omega (arith, size) in
            rw (get_or-padded q z b) at ((placed b (omega (arith, wf.limits.blocks))).stands there).declared),
        λ b there. rw (get_or-padded q z b) at ((may-stand d (padded d q) b).1 (placed b (omega (arith, wf.limits.blocks)))),
      )

  -- ---- what the walk asks

  module _ (r : InRange d) where
    own-low : (i : ℕ) → get_or (own_of d) i 0 < term_limit
    unfolding own_of
    own-low = table-all (λ (x : ℕ). x < term_limit) 128 (λ i. block_term d (i / 8) (i % 8)) (lit< tt) (λ i. block-small d r (i / 8) (i % 8))

    terms-low : (i : ℕ) → get_or (terms_of d) i 0 < term_limit
    unfolding terms_of
    terms-low = table-all (λ (x : ℕ). x < term_limit) 2048 (term_at d) (lit< tt) (λ i.
        cond_ind (λ (x : ℕ). x < term_limit) (ltb (i / 64) (length d.edges) && has_clouds (length d.clouds) i)
        (term_of d (edge_in d (i / 64)) (i / 8 % 8) (i % 8)) 0 (λ _. term-small d r (edge_in d (i / 64)) (i / 8 % 8) (i % 8)) (λ _. lit< tt))

    words-low : (i : ℕ) → get_or (tables_of d).words i 0 < term_limit
    unfolding tables_of
    words-low = on_both (λ (x : ℕ). x < term_limit) (own_of d) (terms_of d) own-low terms-low

    -- the tables of a well-formed description whose numbers are in their ranges are as the walk asks
    pub ready : Ready (tables_of d) (length d.blocks)
    ready = record {
      inhabited = wf.some_block;
      few = wf.limits.blocks;
      earlier = earlier-ends;
      later = later-ends;
      rising = rising-starts;
      none = no_start;
      all = λ k l. omega (arith, start_is d k l (omega (arith, wf.limits.blocks)), few-before k, wf.limits.edges);
      small = words-low;
      masked = masks-low;
      paired = paired d wf;
    }
