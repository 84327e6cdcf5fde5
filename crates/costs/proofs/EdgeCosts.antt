-- What the transfer of an edge and its copy cost depends on its way and on the clouds of its service and its datum, and on nothing else of
-- the placement. A placement costs the storage of its data, the transfers of its edges with their copies, and its computing.
use Prim.Native.Nat.{ℕ, ◌+◌, ◌*◌}
use native.Mathlib.Omega.{arith}
use mathlib.Core.Path.{◌≡◌, refl, sym, ap, ◌∙◌}
use mathlib.Core.Bool.{Bool, true, false, not, cond}
use mathlib.Core.List.{List, map}
use lib.Dec.{eqb}
use Rattle.description.specs.declared.workflow.Edge.{Edge}
use Rattle.description.specs.declared.workflow.Kind.{Kind}
use Rattle.description.specs.Declarations.{Description, cloud, block, is_write}
use Rattle.security.specs.Placements.{service_cloud, datum_cloud}
use Rattle.security.proofs.Moves.{moves-apart}
use Rattle.transfer_list.specs.Transfers.{transfer_of}
use Rattle.costs.specs.Cost.{charged_of, storage_of, cpu_of, copy_of, transfer_cost, copy_cost, of_blocks, cost, edge_cost}
use Rattle.costs.specs.Terms.{edge_charge}
use Rattle.costs.proofs.Transferring.{transfers-by-edge}
use Rattle.sequences.specs.Lists.{sum}

module _ (d : Description) (p : List ℕ) where
  -- nothing if the two stand on one cloud; otherwise what the source charges for sending, the destination for taking, and the service's
  -- cloud for the copy
  pub edge-cost : (e : Edge) → edge_cost d p e ≡ edge_charge d e (service_cloud p e) (datum_cloud p e)
  unfolding edge_cost
  edge-cost e =
      ap (λ (t : Bool). cond t (transfer_cost d (transfer_of 0 p e) + copy_cost d (transfer_of 0 p e)) 0) (moves-apart p e) ∙ go (eqb x y) (is_write e.way)
    where
      x : ℕ
      x = service_cloud p e

      y : ℕ
      y = datum_cloud p e

      k : Kind
      k = (block d e.datum).kind

      go : (same write : Bool)
          → cond (not same) (((cloud d (cond write x y)).outward + (cloud d (cond write y x)).inward) * charged_of k + copy_of (cloud d x) k) 0 ≡
          cond same 0 (cond write ((cloud d x).outward + (cloud d y).inward) ((cloud d y).outward + (cloud d x).inward) * charged_of k + copy_of (cloud d x) k)
      go true write = refl
      go false true = refl
      go false false = refl

  -- the transfers' part of the cost, with their copies, is a sum over the edges
  pub cost-by-edges : cost d p ≡ of_blocks storage_of d p + sum (map (edge_cost d p) d.edges) + of_blocks cpu_of d p
  unfolding cost
  cost-by-edges = omega (arith, transfers-by-edge d p)

-- an edge whose service and datum stand on the same clouds in two placements
pub edge_cost-alike : (d : Description) (p q : List ℕ) (e : Edge) → service_cloud p e ≡ service_cloud q e → datum_cloud p e ≡ datum_cloud q e
    → edge_cost d p e ≡ edge_cost d q e
edge_cost-alike d p q e at_service at_datum = edge-cost d p e ∙ (rw (at_service, at_datum) (sym (edge-cost d q e)))
