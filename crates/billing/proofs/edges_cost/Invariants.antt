-- The sum so far and that of the edges from this one on make the whole.
use Rattle.std.proofs.Common.{◌≡◌, ◌+◌, ◌*◌, ◌≤◌, map, drop}
use Rattle.costs.specs.Cost.{edge_cost}
use Rattle.sequences.specs.Lists.{sum}
use Rattle.billing.specs.Charges.{most_edge}
use Rattle.billing.proofs.edges_cost.Given as goal

abbrev pub invariant-loop-e : goal.invariant-loop-e
invariant-loop-e l = record {
  made : l.total + sum (map (edge_cost l.w l.placement) (drop l.e-index l.w.edges)) ≡ sum (map (edge_cost l.w l.placement) l.w.edges);
  few : l.total ≤ l.e-index * most_edge;
}
