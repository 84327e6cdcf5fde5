-- Placements are ordered strictly by cost and then by their sixteen bytes. Rows as values are not: two may differ only in their bills.
use Prim.Native.Nat.{ℕ}
use mathlib.Core.List.{List, ◌∷◌, tail-eq_of_cons-eq}
use Rattle.description.specs.Declarations.{Description}
use Rattle.costs.specs.Cost.{cost}
use Rattle.survey.specs.Rows.{earlier, row_of}
use Rattle.sequences.specs.Orders.{StrictOrder}
use Rattle.sequences.proofs.Orders.{before-order, pulled-back}

-- placements by the order of their rows
pub placement-order : (d : Description) → StrictOrder (λ p q. earlier (row_of d p) (row_of d q))
placement-order d = pulled-back (λ (p : List ℕ). cost d p ∷ p) (λ p q e. tail-eq_of_cons-eq e) before-order
