-- What was judged is what the words describe, so a secure placement has only clouds that are declared.
use Rattle.std.proofs.Common.{sym}
use borrow.Author.Rules.{rules}
use Rattle.security.proofs.Accepted.{read-well_formed}
use Rattle.judging.proofs.Judged.{judged-secure}
use Rattle.billing.proofs.Costs.{placed-low}
use Rattle.billing.proofs.bill.Goals as goal

pub bill_of-bill-requires-clause-well_formed : goal.bill_of-bill-requires-clause-well_formed
bill_of-bill-requires-clause-well_formed c =
    let a = c.args in
    let d = c.secured.new.w in
    read-well_formed a.description.now d ((judged-secure a.description.now a.placement d).0 (sym c.in_ok-secured.ensures.w_after)).0

pub bill_of-bill-requires-clause-all_below : goal.bill_of-bill-requires-clause-all_below
bill_of-bill-requires-clause-all_below c =
    let a = c.args in
    let d = c.secured.new.w in
    let (accepted, secure) = (judged-secure a.description.now a.placement d).0 (sym c.in_ok-secured.ensures.w_after) in
    (placed-low d a.placement (read-well_formed a.description.now d accepted) (search rules) secure.placed, c.cost_of-cost.ensures)
