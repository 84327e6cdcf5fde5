-- What the code adds up is the cost; a secure placement has only cloud numbers below 8.
use Prim.Native.Nat.{ℕ, ◌+◌, ◌≤◌, ◌<◌}
use native.Mathlib.Decide.{dec_lt}
use native.Mathlib.Omega.{arith}
use mathlib.Core.Path.{◌≡◌, sym, ap, ◌∙◌}
use mathlib.Core.Bool.{Bool, true, false, cond}
use mathlib.Core.List.{List, map}
use lib.Dec.{eqb}
use lib.ListN.{length, drop, get_or, get_or-eq_default}
use borrow.Author.Tests.{not-true, not-false}
use Rattle.description.specs.declared.workflow.Edge.{Edge}
use Rattle.description.specs.Declarations.{Description, cloud, block}
use Rattle.description.specs.Invariants.{WellFormed}
use Rattle.security.specs.Placements.{service_cloud, datum_cloud, moves}
use Rattle.security.specs.Statements.{Placed}
use Rattle.security.proofs.Moves.{moves-apart}
use Rattle.costs.specs.Cost.{storage_of, cpu_of, of_block, edge_cost, cost}
use Rattle.costs.specs.Terms.{block_term}
use Rattle.costs.proofs.Charges.{block-term}
use Rattle.costs.proofs.EdgeCosts.{edge-cost, cost-by-edges}
use Rattle.sequences.specs.Arrays.{AllBelow}
use Rattle.sequences.specs.Lists.{below, sum}
use Rattle.sequences.proofs.Counting.{length-below, get_or-below}
use Rattle.sequences.proofs.Loops.{sum-next, sum-end}
use Rattle.sequences.proofs.Numbers.{sum_both, sum_same}
use Rattle.billing.specs.Charges.{charge_between}

pub blocks-and-edges : (d : Description) (p : List ℕ)
    → sum (map (λ b. block_term d b (get_or p b 0)) (below (length d.blocks))) + sum (map (edge_cost d p) d.edges) ≡ cost d p
blocks-and-edges d p =
    let bs = below (length d.blocks) in
    let terms = sum_same (λ b. block_term d b (get_or p b 0)) (λ b. of_block storage_of d p b + of_block cpu_of d p b) (λ b. block-term d b (get_or p b 0)) bs in
    let split = sum_both (of_block storage_of d p) (of_block cpu_of d p) bs in
    omega (arith, terms, split, cost-by-edges d p)

-- the sum of the blocks from b on is that of b and of those after it
module _ (own : ℕ → ℕ) (n b : ℕ) where
  pub next-block : b < n → sum (map own (drop b (below n))) ≡ own b + sum (map own (drop (b + 1) (below n)))
  next-block h =
      sum-next own (below n) 0 b (simp length-below h) ∙ ap (λ (i : ℕ). own i + sum (map own (drop (b + 1) (below n)))) (get_or-below n b 0 h)

  pub past-blocks : n ≤ b → sum (map own (drop b (below n))) ≡ 0
  past-blocks h = sum-end (below n) b (simp length-below h) own

-- an edge that moves its datum, and one that does not
module _ (d : Description) (p : List ℕ) (e : Edge) where
  abbrev here : ℕ
  here = service_cloud p e

  abbrev there : ℕ
  there = datum_cloud p e

  abbrev moved : ℕ
  moved = charge_between e.way (cloud d here) (cloud d there) (block d e.datum).kind

  pub edge_stays : moves p e ≡ false → edge_cost d p e ≡ 0
  edge_stays h = edge-cost d p e ∙ ap (λ (t : Bool). cond t 0 moved) (not-false (eqb here there) (sym (moves-apart p e) ∙ h))

  pub edge_moves : moves p e ≡ true → edge_cost d p e ≡ moved
  edge_moves h = edge-cost d p e ∙ ap (λ (t : Bool). cond t 0 moved) (not-true (eqb here there) (sym (moves-apart p e) ∙ h))

pub placed-low : (d : Description) (p : List ℕ) → WellFormed d → length p ≡ 16 → Placed d p → AllBelow 8 p
placed-low d p w sixteen placed b = elim (dec_lt b 16) [
  | no past ↦ let none = get_or-eq_default p 0 {n = b} (omega (arith, sixteen)) in omega (arith, none)
  | yes low ↦ elim (dec_lt b (length d.blocks)) [
    | yes named ↦ omega (arith, ((placed b low).stands named).declared, w.limits.clouds)
    | no past ↦ omega (arith, (placed b low).beyond (omega arith))
  ]
]
