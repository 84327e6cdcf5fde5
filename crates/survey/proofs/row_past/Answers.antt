-- The row that the walk kept is the row that the draw answers.
use Rattle.std.proofs.Common.{ℕ, ◌≡◌, ◌-◌, ◌++◌, sym, ap, ◌∙◌}
use Rattle.description.specs.Declarations.{Description}
use mathlib.Core.Path.{subst}
use mathlib.Core.Option.{some}
use lib.ListN.{replicate, length}
use Rattle.costs.specs.declared.answers.Bill.{Bill}
use Rattle.costs.specs.Cost.{bill_of, cost}
use Rattle.packing.specs.Packing.{digits}
use Rattle.packing.proofs.Digits.{padded-low}
use Rattle.sequences.specs.Arrays.{AllBelow}
use Rattle.visit.specs.Visits.{found}
use Rattle.survey.specs.declared.Row.{Row}
use Rattle.sequences.specs.Options.{given}
use Rattle.survey.specs.Rows.{draw}
use Rattle.survey.specs.Surveys.{Asks}
use Rattle.survey.proofs.Joins.{KeptRow, kept_by, none_kept, some-kept}
use Rattle.survey.proofs.row_past.Goals as goal
use Rattle.survey.proofs.row_past.Goals.{After-walk_candidates, After-unpacked-placement}

-- how many blocks there are
same-count : {n : ℕ} {w : Description} (d : Description) → n ≡ length w.blocks → w ≡ d → n ≡ length d.blocks
same-count d v e = v ∙ ap (λ x. length x.blocks) e

-- what the walk kept
kept : (c : After-walk_candidates) → KeptRow c.args.admitted.now (draw c.args.admitted.now c.args.cursor) (found c.walk_candidates.new.visitor)
kept c =
    let d = c.args.admitted.now in
    let draws = c.to_draw_past-draw in
    let asked = subst (λ n. Asks c.args.cursor n draws.result) (same-count d c.block_count-blocks.ensures.value c.description-w.ensures.value) draws.ensures in
    subst (λ x. KeptRow d (draw d c.args.cursor) (found x)) (sym c.walk_candidates.ensures.seen)
    (kept_by d c.walk_candidates.ensures.admitted c.args.cursor draws.result asked)

pub returns-in_err-best : goal.returns-in_err-best
returns-in_err-best c =
    let d = c.args.admitted.now in
    let row = draw d c.args.cursor in
    let seen = (goal.at.returns-in_err-best c).After-walk_candidates in
    ap given c.from_residual.ensures ∙ sym (none_kept d row (subst (KeptRow d row) (sym c.in_err-best.ensures) (kept seen)))

-- the kept cost, and the row that the draw answers
answered : (c : After-unpacked-placement) → KeptRow c.args.admitted.now (draw c.args.admitted.now c.args.cursor) (found c.walk_candidates.new.visitor)
    → let best = c.in_ok-best.best in
    let d = c.args.admitted.now in
    let p = c.unpacked-placement.result in
    (best.weight ≡ cost d p) × (draw d c.args.cursor ≡ some (record { cost = best.weight; placement = p; bill = bill_of d p }))
answered c k =
    let best = c.in_ok-best.best in
    let d = c.args.admitted.now in
    let p = c.unpacked-placement in
    let n = same-count d c.block_count-blocks.ensures.value c.description-w.ensures.value in
    let bytes = p.ensures ∙ ap (λ n. digits n best.place ++ replicate (16 - n) 0) n in
    some-kept d (draw d c.args.cursor) best (subst (KeptRow d (draw d c.args.cursor)) (sym c.in_ok-best.ensures) k) p.result bytes

pub bill_of-bill-requires-clause-all_below : goal.bill_of-bill-requires-clause-all_below
bill_of-bill-requires-clause-all_below c =
    let n = c.block_count-blocks.result in
    let p = c.unpacked-placement in
    let at = goal.at.bill_of-bill-requires-clause-all_below c in (
      subst (AllBelow 8) (sym p.ensures) (padded-low n c.in_ok-best.best.place (16 - n)),
      (answered at.After-unpacked-placement (kept at.After-walk_candidates)).0 ∙
          ap (λ d. cost d p.result) (sym c.description-w.ensures.value),
    )

pub returns : goal.returns
returns c =
    let at = goal.at.returns c in
    let p = c.unpacked-placement.result in
    let row : Bill → Row = λ bill. record { cost = c.in_ok-best.best.weight; placement = p; bill = bill } in
    ap (λ bill. some (row bill)) (c.bill_of-bill.ensures ∙ ap (λ d. bill_of d p) c.description-w.ensures.value) ∙
    sym (answered at.After-unpacked-placement (kept at.After-walk_candidates)).1
