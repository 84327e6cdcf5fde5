-- The sum so far and the sum from edge e on make up the whole.
use Rattle.std.proofs.Common.{◌≡◌, ℕ, ◌+◌, ◌*◌, ◌≤◌, map, drop}
use Rattle.description.specs.declared.workflow.Edge.{Edge}
use Rattle.costs.specs.Prices.{most_amount, rates_of, quantities_of, copy_by}
use Rattle.sequences.specs.Lists.{sum}
use Rattle.costs.proofs.bills.Prices.copies_cost.Given as goal

abbrev pub invariant-loop-e : goal.invariant-loop-e
invariant-loop-e l =
    let d = l.self in
    let copy : Edge → ℕ = copy_by (rates_of d) (quantities_of d) l.placement in
    (l.total ≤ l.e-index * most_amount) × (sum (map copy d.edges) ≡ l.total + sum (map copy (drop l.e-index d.edges)))
