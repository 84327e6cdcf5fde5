-- What blocks and edges add to a weight: undeclared ones are charged nothing, a datum is charged its storage, and what one block or one
-- edge adds is small if the description's numbers are in their ranges.
use Prim.Native.Nat.{ℕ, ◌+◌, ◌*◌, ◌≤◌, ◌<◌, zero-le}
use native.Mathlib.Nat.{mul-le-mul, add-le-add, zero-mul, mul-zero, add-zero}
use native.Mathlib.Omega.{arith}
use mathlib.Core.Path.{◌≡◌, refl, ap, ◌∙◌}
use mathlib.Core.Bool.{true, cond}
use mathlib.Core.List.{List, map}
use lib.Dec.{eqb}
use lib.ListN.{length, get_or, get_or-eq_default}
use Rattle.description.specs.declared.workflow.Block.{Block}
use Rattle.description.specs.declared.workflow.Cloud.{Cloud}
use Rattle.description.specs.declared.workflow.Edge.{Edge}
use Rattle.description.specs.declared.workflow.Kind.{Kind}
use Rattle.description.specs.Declarations.{Description, no_cloud, no_block, cloud, block, is_datum, is_write}
use Rattle.description.specs.Invariants.{InRange}
use Rattle.security.specs.Placements.{service_cloud, datum_cloud}
use Rattle.weights.specs.Weights.{first_penalty, second_penalty, term_limit}
use Rattle.costs.specs.Cost.{charged_of, storage_of, cpu_of, copy_of}
use Rattle.costs.specs.Terms.{block_term, edge_charge, edge_exposes, penalty, edge_term, weight_of}
use Rattle.costs.proofs.BlockCosts.{datum-computes-nothing}
use Rattle.costs.proofs.CostBound.{most_transfer, most_copy, charged-most, storage-most, copy-most, cpu-most}
use Rattle.sequences.specs.Lists.{below, sum}
use Rattle.sequences.proofs.Tests.{cond_ind}

-- a weight is the sum of what each block and each edge adds
pub weight-terms : (d : Description) (p : List ℕ)
    → weight_of d p ≡ sum (map (λ b. block_term d b (get_or p b 0)) (below (length d.blocks))) +
    sum (map (λ e. edge_term d e (service_cloud p e) (datum_cloud p e)) d.edges)
unfolding weight_of
weight-terms d p = refl

-- what a block adds is its storage and its computing
pub block-term : (d : Description) (b k : ℕ) → block_term d b k ≡ storage_of (cloud d k) (block d b).kind + cpu_of (cloud d k) (block d b).kind
unfolding block_term
block-term d b k = refl

free : (k : Kind) → storage_of no_cloud k + cpu_of no_cloud k ≡ 0
free k = simp (zero-mul)

module _ (d : Description) (b k : ℕ) where
  pub no-cloud-charge : length d.clouds ≤ k → block_term d b k ≡ 0
  unfolding block_term
  no-cloud-charge h =
      ap (λ (c : Cloud). storage_of c (block d b).kind + cpu_of c (block d b).kind) (get_or-eq_default d.clouds no_cloud {n = k} h) ∙
      free (block d b).kind

  pub no-block-charge : length d.blocks ≤ b → block_term d b k ≡ 0
  unfolding block_term
  no-block-charge h =
      ap (λ (x : Block). storage_of (cloud d k) x.kind + cpu_of (cloud d k) x.kind) (get_or-eq_default d.blocks no_block {n = b} h) ∙
      simp (mul-zero)

  pub datum-charge : is_datum (block d b).kind ≡ true → block_term d b k ≡ storage_of (cloud d k) (block d b).kind
  unfolding block_term
  datum-charge h =
      let stored = storage_of (cloud d k) (block d b).kind in
      ap (λ n. stored + n) (datum-computes-nothing (cloud d k) (block d b).kind h) ∙ add-zero stored

module _ (d : Description) (r : InRange d) where
  pub block-small : (b k : ℕ) → block_term d b k < term_limit
  unfolding block_term
  block-small b k =
      let stored = storage-most (cloud d k) (r.rates k) (block d b).kind (r.kinds b) in
      let computed = cpu-most (cloud d k) (r.rates k) (block d b).kind (r.kinds b) in
      omega (arith, stored, computed)

  charge-small : (e : Edge) (x y : ℕ) → edge_charge d e x y ≤ most_transfer + most_copy
  charge-small e x y =
      let out = (cloud d x).outward + (cloud d y).inward in
      let back = (cloud d y).outward + (cloud d x).inward in
      let rate = cond_ind (λ (n : ℕ). n ≤ 131070) (is_write e.way) out back
      (λ _. omega (arith, (r.rates x).outward, (r.rates y).inward)) (λ _. omega (arith, (r.rates y).outward, (r.rates x).inward)) in
      let kind = (block d e.datum).kind in
      let fits = r.kinds e.datum in
      cond_ind (λ (n : ℕ). n ≤ most_transfer + most_copy) (eqb x y) 0 (cond (is_write e.way) out back * charged_of kind + copy_of (cloud d x) kind)
      (λ _. zero-le) (λ _. add-le-add (mul-le-mul rate (charged-most kind fits)) (copy-most (cloud d x) (r.rates x) kind fits))

  pub edge-small : (e : Edge) (x y : ℕ) → edge_term d e x y < term_limit
  unfolding edge_term
  edge-small e x y =
      let broken = cond_ind (λ (n : ℕ). n ≤ second_penalty) (edge_exposes d e x y) (penalty e.way) 0
      (λ _. cond_ind (λ (n : ℕ). n ≤ second_penalty) (is_write e.way) second_penalty first_penalty (λ _. omega arith) (λ _. omega arith)) (λ _. zero-le) in
      omega (arith, charge-small e x y, broken)
