-- Draws in a row answer the rows one by one and then finished.
use Prim.Native.Nat.{ℕ}
use mathlib.Core.Path.{◌≡◌, refl, sym, ap, ◌∙◌}
use mathlib.Core.Bool.{Bool, true, false, ◌||◌}
use mathlib.Core.List.{List, ◌∷◌, ◌++◌, map}
use mathlib.Core.Option.{Option, none, some}
use lib.ListN.{take, replicate}
use Rattle.description.specs.Declarations.{Description}
use Rattle.costs.specs.Cost.{cost}
use Rattle.survey.specs.declared.Row.{Row}
use Rattle.survey.specs.declared.Cursor.{Cursor}
use Rattle.survey.specs.Rows.{earlier, row_of, rows, later}
use Rattle.survey.proofs.RowOrder.{placement-order}
use Rattle.survey.proofs.Drawing.{standing, standing-once, rows-sorted, draw-finds}
use Rattle.lister.specs.DrawsListEveryRow.{past, at_start, answers}
use Rattle.sequences.specs.Draws.{moved, chained, Cursors}
use Rattle.sequences.specs.Lists.{before}
use Rattle.sequences.proofs.Mapped.{draws-answer-mapped}
use Rattle.sequences.proofs.Orders.{before-order}

module _ (d : Description) where
  -- the cursors of placements' rows
  cursors : Cursors (λ p q. earlier (row_of d p) (row_of d q)) (λ c p. later c (row_of d p)) (λ p. past (row_of d p))
  cursors = record { after = λ p q. refl; upward = λ c. upward c.start (c.cost ∷ c.placement) }
    where
      upward : (start : Bool) (last p q : List ℕ) → (start || before last (cost d p ∷ p)) ≡ true → earlier (row_of d p) (row_of d q) ≡ true
          → (start || before last (cost d q ∷ q)) ≡ true
      upward true last p q t e = refl
      upward false last p q t e = before-order.transitive last (cost d p ∷ p) (cost d q ∷ q) t e

  -- a draw answers the first of the sorted rows that is past its cursor
  pub answers-rows : (n : ℕ) → answers d n ≡ take n (map some (rows d) ++ replicate n none)
  unfolding answers
  answers-rows n =
      ap (λ (one : Cursor → Option Row). chained one (moved past) at_start n) (λ i c. draw-finds d c i) ∙
      draws-answer-mapped (row_of d) earlier (placement-order d) later past cursors (standing d) (standing-once d) at_start (λ p. refl) n ∙
      ap (λ l. take n (map some l ++ replicate n none)) (sym (rows-sorted d))
