-- If the services stand on the same clouds, what a datum adds to the option and to the cost depends only on its own cloud; and the cost
-- is the services' computing and one share for each datum.
use Prim.Native.Nat.{ℕ, ◌+◌, ◌<◌}
use native.Mathlib.Omega.{arith}
use mathlib.Core.Path.{◌≡◌, refl, sym, ap, ap₂, ◌∙◌}
use mathlib.Core.Logic.Iff
use mathlib.Core.Logic.{◌↔◌}
use mathlib.Core.Bool.{Bool, true, false, not, ◌&&◌}
use mathlib.Core.List.{List, [], ◌∷◌, ◌++◌, map, Memᴰ}
use lib.Dec.{eqb, ltb}
use lib.ListN.{length, get_or}
use borrow.Author.Tests.{eqb-true, ltb-true, lt-ltb, le-ltb}
use Rattle.description.specs.declared.workflow.Cloud.{Cloud}
use Rattle.description.specs.declared.workflow.Kind.{Kind}
use Rattle.description.specs.declared.workflow.Edge.{Edge}
use Rattle.description.specs.Declarations.{Description, block, cloud, edge, no_edge, is_datum, is_write, names_service}
use Rattle.description.specs.Invariants.{WellFormed}
use Rattle.security.specs.Placements.{service_cloud, datum_cloud, moves}
use Rattle.costs.specs.Cost.{cpu_of, of_blocks, edge_cost, cost}
use Rattle.options.specs.Options.{writers_of, readers_of, stem, branch, joined, part}
use Rattle.options.specs.Representatives.{data_of, edges_of, stored_on, share, SameServices}
use Rattle.security.proofs.Moves.{moves-alike}
use Rattle.costs.proofs.BlockCosts.{service-stores-nothing, datum-computes-nothing}
use Rattle.costs.proofs.EdgeCosts.{edge_cost-alike, cost-by-edges}
use Rattle.options.proofs.Options.{service-part, datum-part}
use Rattle.sequences.specs.Ascending.{Once}
use Rattle.sequences.specs.Lists.{keep, below, sum}
use Rattle.sequences.proofs.Tests.{both-pass}
use Rattle.sequences.proofs.Members.{keep-members, below-members}
use Rattle.sequences.proofs.Ascending.{keep-ascends, from-ascends, ascending-once}
use Rattle.sequences.proofs.Agreeing.{member-at, map-agree, keep-agree}
use Rattle.sequences.proofs.Grouping.{sum-plus, sum_kept, sum-groups}

-- ---- the data

module _ (d : Description) where
  -- they are the declared blocks that are data
  pub data-are : (n : ℕ) → Memᴰ n (data_of d) ↔ ((n < length d.blocks) × (is_datum (block d n).kind ≡ true))
  data-are n = Iff.trans (keep-members (λ n. is_datum (block d n).kind) (below (length d.blocks)) n)
      (Iff.and (below-members (length d.blocks) n) Iff.rfl)

  -- each is there once
  pub data-once : Once (data_of d)
  data-once = ascending-once ltb (λ n. le-ltb n n (omega arith)) (data_of d)
      (keep-ascends ltb (λ n. is_datum (block d n).kind) (below (length d.blocks)) (from-ascends 0 (length d.blocks)))

-- ---- a datum's part and its share

-- the branch of an edge whose service and datum stand on the same clouds in two placements
branch-alike : (p q : List ℕ) (e : Edge) → service_cloud p e ≡ service_cloud q e → datum_cloud p e ≡ datum_cloud q e → branch p e ≡ branch q e
branch-alike p q e at_service at_datum = rw (moves-alike p q e at_service at_datum, at_service) refl

-- e is one of the edges of datum n that a test keeps: of its writers, of its readers, of all
abbrev Kept : Description → (Edge → Bool) → ℕ → Edge → Type 0
Kept d test n e = Memᴰ e (keep (λ f. test f && eqb f.datum n) d.edges)

abbrev writes : Edge → Bool
writes e = is_write e.way

module _ (d : Description) (w : WellFormed d) where
  -- every edge names a service and a datum
  pub edge-service : (e : Edge) → Memᴰ e d.edges → names_service d e.service ≡ true
  edge-service e m = let (n, h, at) = member-at no_edge m in rw (← at) (w.service n h)

  pub edge-datum : (e : Edge) → Memᴰ e d.edges → Memᴰ e.datum (data_of d)
  edge-datum e m =
      let (n, h, at) = member-at no_edge m in
      let (low, datum) = (both-pass _ _).0 (w.datum n h) in
      rw (← at) ((data-are d (edge d n).datum).1 (ltb-true _ _ low, datum))

  module _ (p q : List ℕ) (same : SameServices d p q) (n : ℕ) (own : get_or p n 0 ≡ get_or q n 0) where
    -- functions that agree on edges with the same clouds agree on the edges of datum n
    alike : {A : Type 0} (f g : Edge → A) → ((e : Edge) → service_cloud p e ≡ service_cloud q e → datum_cloud p e ≡ datum_cloud q e → f e ≡ g e)
        → (test : Edge → Bool) (e : Edge) → Kept d test n e → f e ≡ g e
    alike f g h test e m =
        let (k, t) = (keep-members (λ f. test f && eqb f.datum n) d.edges e).0 m in
        let here = eqb-true e.datum n ((both-pass (test e) (eqb e.datum n)).0 t).1 in
        h e (same e.service (edge-service e k)) (rw here own)

    stem-local : stem d p n ≡ stem d q n
    stem-local = ap₂ ◌++◌
        (ap (map (service_cloud p)) (keep-agree (moves p) (moves q) (writers_of d n) (alike (moves p) (moves q) (moves-alike p q) writes)) ∙
        map-agree (service_cloud p) (service_cloud q) (keep (moves q) (writers_of d n))
        (λ e m. alike (service_cloud p) (service_cloud q) (λ e s _. s) writes e ((keep-members (moves q) (writers_of d n) e).0 m).0))
        (ap (λ (k : ℕ). k ∷ []) own)

    branches-local : map (branch p) (readers_of d n) ≡ map (branch q) (readers_of d n)
    branches-local = map-agree (branch p) (branch q) (readers_of d n) (alike (branch p) (branch q) (branch-alike p q) (λ e. not (writes e)))

    -- The part of a datum, its stem and branches, depends only on its own cloud.
    pub part-local : (k : Kind) → part d p n k ≡ part d q n k
    part-local k = go (is_datum k) refl
      where
        go : (t : Bool) → is_datum k ≡ t → part d p n k ≡ part d q n k
        go true t = datum-part d p n k t ∙ ap₂ joined stem-local branches-local ∙ sym (datum-part d q n k t)
        go false f = service-part d p n k f ∙ ap (λ (c : ℕ). (c ∷ []) ∷ []) own ∙ sym (service-part d q n k f)

    -- So does its share of the cost.
    pub share-local : share d p n ≡ share d q n
    unfolding share
    share-local = ap₂ ◌+◌ (ap (stored_on d n) own)
        (ap sum (map-agree (edge_cost d p) (edge_cost d q) (edges_of d n) (alike (edge_cost d p) (edge_cost d q) (edge_cost-alike d p q) (λ e. true))))

-- ---- the cost by shares

-- The cost is the services' computing, and one share for each datum.
pub cost-shares : (d : Description) → WellFormed d → (p : List ℕ) → cost d p ≡ of_blocks cpu_of d p + sum (map (share d p) (data_of d))
unfolding share
cost-shares d w p =
    let storage : ℕ → ℕ = λ n. stored_on d n (get_or p n 0) in
    let carried : ℕ → ℕ = λ n. sum (map (edge_cost d p) (edges_of d n)) in
    omega (
      arith,
      sum-plus storage carried (data_of d),
      sum_kept (λ n. is_datum (block d n).kind) storage (below (length d.blocks))
          (λ n _ f. service-stores-nothing (cloud d (get_or p n 0)) (block d n).kind f),
      cost-by-edges d p,
      sum-groups (λ e. e.datum) (edge_cost d p) (data_of d) (data-once d) d.edges (edge-datum d w),
    )

cpu-alike : (b c : Cloud) (k : Kind) → (is_datum k ≡ false → b ≡ c) → cpu_of b k ≡ cpu_of c k
cpu-alike b c k h = go (is_datum k) refl
  where
    go : (t : Bool) → is_datum k ≡ t → cpu_of b k ≡ cpu_of c k
    go true t = datum-computes-nothing b k t ∙ sym (datum-computes-nothing c k t)
    go false f = ap (λ (x : Cloud). cpu_of x k) (h f)

-- The computing depends only on where the services stand.
pub cpu-local : (d : Description) (p q : List ℕ) → SameServices d p q → of_blocks cpu_of d p ≡ of_blocks cpu_of d q
cpu-local d p q same = ap sum (map-agree _ _ (below (length d.blocks))
    (λ n m. cpu-alike (cloud d (get_or p n 0)) (cloud d (get_or q n 0)) (block d n).kind
    (λ f. ap (cloud d) (same n ((both-pass _ _).1 (lt-ltb n (length d.blocks) ((below-members (length d.blocks) n).0 m), ap not f))))))
