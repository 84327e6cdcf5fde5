-- The cost and the bill of a row are those of its placement; the three amounts add up to the cost, and none reaches 2^53.
use Prim.Native.Nat.{ℕ}
use mathlib.Core.Path.{◌≡◌, refl, sym, ap, subst, ◌∙◌}
use mathlib.Core.List.{List, Memᴰ}
use Rattle.decoding.specs.Bytes.{Bytes}
use Rattle.description.specs.Declarations.{Description}
use Rattle.security.specs.Accepted.{Admitted}
use Rattle.security.specs.Soundness.{read}
use Rattle.security.proofs.Accepted.{admitted-bounded, read-admitted}
use Rattle.sequences.specs.Results.{ok}
use Rattle.costs.specs.Cost.{bill_of, total, cost, AmountsBelow}
use Rattle.costs.proofs.CostBound.{cost-total, bounded-amounts}
use Rattle.survey.specs.declared.Row.{Row}
use Rattle.survey.specs.Rows.{rows}
use Rattle.survey.proofs.Drawing.{rows-standing}

module _ (d : Description) (r : Row) (m : Memᴰ r (rows d)) where
  pub row-billed : r.bill ≡ bill_of d r.placement
  row-billed = let (p, i, t, e) = (rows-standing d r).0 m in rw (← e) refl

  pub row-costs : r.cost ≡ cost d r.placement
  row-costs = let (p, i, t, e) = (rows-standing d r).0 m in rw (← e) refl

  pub row-adds-up : r.cost ≡ total r.bill
  row-adds-up = row-costs ∙ cost-total d r.placement ∙ ap total (sym row-billed)

  pub row-amounts : Admitted d → AmountsBelow r.bill
  row-amounts a = subst AmountsBelow (sym row-billed) (bounded-amounts d r.placement (admitted-bounded a))

-- the same holds for every row of an accepted description
pub amounts-below : (s : List ℕ) (d : Description) → Bytes s → read s ≡ ok d → (r : Row) → Memᴰ r (rows d) → AmountsBelow r.bill
amounts-below s d bytes accepted r m = row-amounts d r m (read-admitted s d accepted bytes)
