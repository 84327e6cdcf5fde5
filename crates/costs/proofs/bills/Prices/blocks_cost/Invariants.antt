-- The sum so far and the sum from block b on make up the whole.
use Rattle.std.proofs.Common.{◌≡◌, ◌+◌, ◌*◌, ◌≤◌, map, length, get_or, drop}
use Rattle.costs.specs.Prices.{most_amount, rates_of, quantities_of, amount_by, blocks_by}
use Rattle.sequences.specs.Lists.{sum, below}
use Rattle.costs.proofs.bills.Prices.blocks_cost.Given as goal

abbrev pub invariant-loop-b : goal.invariant-loop-b
invariant-loop-b l =
    let d = l.self in
    let amount = amount_by (rates_of d) (quantities_of d) l.charge in
    (l.total ≤ l.b * most_amount)
    × (blocks_by (rates_of d) (quantities_of d) l.charge (length d.blocks) l.placement
    ≡ l.total + sum (map (λ i. amount (get_or l.placement i 0) i) (drop l.b (below (length d.blocks)))))
