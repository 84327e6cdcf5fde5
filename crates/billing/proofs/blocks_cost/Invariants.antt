-- The sum so far and that of the blocks from block b on make the whole.
use Rattle.std.proofs.Common.{ℕ, ◌≡◌, ◌+◌, ◌*◌, ◌^◌, ◌≤◌, map, length, get_or, drop}
use Rattle.costs.specs.Terms.{block_term}
use Rattle.sequences.specs.Lists.{sum, below}
use Rattle.billing.proofs.blocks_cost.Given as goal

abbrev pub invariant-loop-b : goal.invariant-loop-b
invariant-loop-b l = record {
  made : l.total + sum (map (λ (i : ℕ). block_term l.w i (get_or l.placement i 0)) (drop l.b (below (length l.w.blocks)))) ≡
      sum (map (λ (i : ℕ). block_term l.w i (get_or l.placement i 0)) (below (length l.w.blocks)));
  few : l.total ≤ l.b * 2 ^ 49;
}
