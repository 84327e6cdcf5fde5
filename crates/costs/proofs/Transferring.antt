-- The cost of transfers and of their copies, summed edge by edge.
use mathlib.Core.Path.{◌≡◌, refl, sym, ◌∙◌}
use mathlib.Core.Bool.{cond}
use mathlib.Core.List.{List, map}
use Prim.Native.Nat.{ℕ, ◌+◌}
use Rattle.description.specs.Declarations.{Description}
use Rattle.security.specs.Placements.{moves}
use Rattle.transfer_list.specs.Transfers.{transfer_of, transfers}
use Rattle.transfer_list.proofs.Transferring.{by-edge}
use Rattle.costs.specs.Cost.{transfer_cost, copy_cost, edge_cost}
use Rattle.sequences.specs.Lists.{sum}
use Rattle.sequences.proofs.Numbers.{sum_both}

-- transfers with their copies
pub transfers-by-edge : (d : Description) (p : List ℕ)
    → sum (map (transfer_cost d) (transfers d p)) + sum (map (copy_cost d) (transfers d p)) ≡ sum (map (edge_cost d p) d.edges)
unfolding edge_cost
transfers-by-edge d p =
    sym (sum_both (transfer_cost d) (copy_cost d) (transfers d p)) ∙
    by-edge (λ t. transfer_cost d t + copy_cost d t) d p (λ n e. refl)

-- the copies by themselves
pub copies-by-edge : (d : Description) (p : List ℕ)
    → sum (map (copy_cost d) (transfers d p)) ≡ sum (map (λ e. cond (moves p e) (copy_cost d (transfer_of 0 p e)) 0) d.edges)
copies-by-edge d p = by-edge (copy_cost d) d p (λ n e. refl)
