-- The five words of a row.
use Rattle.std.proofs.Common.{◌+◌, ◌-◌, [], ◌∷◌, arith}
use Rattle.sequences.proofs.Joined.{stored}
use Rattle.whole_list.proofs.billing.put_row.Goals as goal

pub returns : goal.returns
returns c =
    let a = c.args in
    let words = a.cost ∷ a.place ∷ a.bill.storage ∷ a.bill.transfer ∷ a.bill.cpu ∷ [] in
    stored a.rows.now a.at (a.at + 5 - a.at) c.copy_from_slice.new.self words c.copy_from_slice.ensures.after (omega arith) (omega (arith, c.requires))
