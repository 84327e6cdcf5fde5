-- The weight of a placement gives its cost and what it breaks, and fits in 64 bits.
use Prim.Native.Nat.{ℕ, ◌+◌, ◌*◌, ◌^◌, ◌≤◌, ◌<◌}
use native.Mathlib.Omega.{arith}
use mathlib.Core.Path.{◌≡◌, refl, sym, ap₂}
use mathlib.Core.Bool.{Bool, true, false, not, ◌&&◌, cond}
use mathlib.Core.List.{List, map}
use lib.Dec.{eqb}
use lib.ListN.{length}
use borrow.Author.Tests.{not-true}
use Rattle.sequences.proofs.Tests.{both-pass}
use Rattle.sequences.specs.Lists.{keep, below, sum}
use Rattle.sequences.proofs.Numbers.{some-kept, none_kept, kept-most, sum-passing, sum_both, sum_same}
use Rattle.description.specs.declared.workflow.Edge.{Edge}
use Rattle.description.specs.Declarations.{Description, is_write}
use Rattle.description.specs.Invariants.{Bounded}
use Rattle.costs.specs.Cost.{storage_of, cpu_of, of_block, cost, edge_cost}
use Rattle.security.specs.Placements.{service_cloud, datum_cloud, exposes, breaks16, breaks17, broken16, broken17, unexposed}
use Rattle.security.proofs.Moves.{exposes-apart, read-breaks, write-breaks}
use Rattle.costs.specs.Terms.{block_term, edge_exposes, penalty, edge_term, weight_of, class_in}
use Rattle.weights.specs.Weights.{cost_limit, radix, first_penalty, second_penalty, class_of}
use Rattle.weights.proofs.Classes.{class-light, class-first, class-second}
use Rattle.costs.proofs.CostBound.{bounded-cost}
use Rattle.costs.proofs.EdgeCosts.{edge-cost, cost-by-edges}

module _ (d : Description) (p : List ℕ) where
  -- how many edges break rule 16, and rule 17
  abbrev pub number16 : ℕ
  number16 = length (keep (breaks16 d p) d.edges)

  abbrev pub number17 : ℕ
  number17 = length (keep (breaks17 d p) d.edges)

  -- ---- an edge's term on the clouds of the placement: its cost, and what it breaks

  penalty-is : (e : Edge)
      → cond (edge_exposes d e (service_cloud p e) (datum_cloud p e)) (penalty e.way) 0 ≡
      cond (breaks16 d p e) first_penalty 0 + cond (breaks17 d p e) second_penalty 0
  penalty-is e = rw (← exposes-apart d p e) (go (is_write e.way) refl)
    where
      go : (write : Bool) → is_write e.way ≡ write
          → cond (exposes d p e) (cond write second_penalty first_penalty) 0 ≡ cond (breaks16 d p e) first_penalty 0 + cond (breaks17 d p e) second_penalty 0
      go true w = let (never, breaks) = write-breaks d p e w in rw (never, breaks) (omega arith)
      go false w = let (breaks, never) = read-breaks d p e w in rw (breaks, never) (omega arith)

  term_is : (e : Edge)
      → edge_term d e (service_cloud p e) (datum_cloud p e) ≡ edge_cost d p e + (cond (breaks16 d p e) first_penalty 0 + cond (breaks17 d p e) second_penalty 0)
  unfolding edge_term
  term_is e = ap₂ ◌+◌ (sym (edge-cost d p e)) (penalty-is e)

  -- ---- sums over edges and blocks

  edges-sum : sum (map (λ e. edge_term d e (service_cloud p e) (datum_cloud p e)) d.edges) ≡
      sum (map (edge_cost d p) d.edges) + cost_limit * (number16 + radix * number17)
  edges-sum =
      let s =
      sum_same (λ e. edge_term d e (service_cloud p e) (datum_cloud p e))
      (λ e. edge_cost d p e + (cond (breaks16 d p e) first_penalty 0 + cond (breaks17 d p e) second_penalty 0)) term_is d.edges in
      let a = sum_both (edge_cost d p) (λ e. cond (breaks16 d p e) first_penalty 0 + cond (breaks17 d p e) second_penalty 0) d.edges in
      let b = sum_both (λ e. cond (breaks16 d p e) first_penalty 0) (λ e. cond (breaks17 d p e) second_penalty 0) d.edges in
      let r = sum-passing first_penalty (breaks16 d p) d.edges in
      let w = sum-passing second_penalty (breaks17 d p) d.edges in
      omega arith

  -- The weight is the cost, plus 2^53 for each edge that breaks rule 16 and 33 times that for each that breaks rule 17.
  pub weight_is : weight_of d p ≡ cost d p + cost_limit * (number16 + radix * number17)
  unfolding weight_of block_term
  weight_is =
      let b = sum_both (of_block storage_of d p) (of_block cpu_of d p) (below (length d.blocks)) in
      let e = edges-sum in
      let c = cost-by-edges d p in
      omega arith

  -- ---- if the description keeps the format's limits and ranges

  module _ (h : Bounded d) where
    at_most : (cost d p < cost_limit) × (number16 ≤ 32) × (number17 ≤ 32)
    at_most =
        let l = h.limits.edges in
        (bounded-cost d p h, omega (arith, kept-most (breaks16 d p) d.edges), omega (arith, kept-most (breaks17 d p) d.edges))

    -- the weight fits in 64 bits
    pub weight-small : weight_of d p < 2 ^ 64
    weight-small = omega (arith, weight_is, at_most)

    -- THE CLASS of its weight is the placement's: the numbers of the two kinds of broken edges are the weight's digits to the base `radix`
    pub weight-class : class_of (weight_of d p) ≡ class_in d p
    unfolding class_in
    weight-class = go (broken16 d p) (broken17 d p) refl refl
      where
        go : (a b : Bool) → broken16 d p ≡ a → broken17 d p ≡ b → class_of (weight_of d p) ≡ cond a 1 (cond b 2 0)
        go true b e f =
            let some = some-kept (breaks16 d p) d.edges e in
            class-first (weight_of d p) (omega (arith, weight_is, some)) (λ z. omega (arith, weight_is, at_most, some))
        go false true e f =
            let none = none_kept (breaks16 d p) d.edges e in
            let some = some-kept (breaks17 d p) d.edges f in
            class-second (weight_of d p) (omega (arith, weight_is, some)) (omega (arith, weight_is, at_most, none, some))
        go false false e f =
            class-light (weight_of d p) (omega (arith, weight_is, at_most, none_kept (breaks16 d p) d.edges e, none_kept (breaks17 d p) d.edges f))

    -- if it keeps both rules, its weight is its cost
    pub weight-cost : unexposed d p ≡ true → weight_of d p ≡ cost d p
    weight-cost s =
        let (keeps16, keeps17) = (both-pass (not (broken16 d p)) (not (broken17 d p))).0 s in
        omega (
          arith,
          weight_is,
          none_kept (breaks16 d p) d.edges (not-true _ keeps16),
          none_kept (breaks17 d p) d.edges (not-true _ keeps17),
        )

  -- ---- the classes, one by one

  pub class-unexposed : eqb (class_in d p) 0 ≡ unexposed d p
  unfolding class_in
  class-unexposed = go (broken16 d p) (broken17 d p)
    where
      go : (a b : Bool) → eqb (cond a 1 (cond b 2 0)) 0 ≡ (not a && not b)
      go true b = refl
      go false true = refl
      go false false = refl

  pub class-16 : eqb (class_in d p) 1 ≡ broken16 d p
  unfolding class_in
  class-16 = go (broken16 d p) (broken17 d p)
    where
      go : (a b : Bool) → eqb (cond a 1 (cond b 2 0)) 1 ≡ a
      go true b = refl
      go false true = refl
      go false false = refl

  pub class-17 : eqb (class_in d p) 2 ≡ (not (broken16 d p) && broken17 d p)
  unfolding class_in
  class-17 = go (broken16 d p) (broken17 d p)
    where
      go : (a b : Bool) → eqb (cond a 1 (cond b 2 0)) 2 ≡ (not a && b)
      go true b = refl
      go false true = refl
      go false false = refl
