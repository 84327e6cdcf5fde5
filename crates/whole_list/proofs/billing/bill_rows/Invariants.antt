-- Row by row: the keys before the next one are cleared, and their rows are stored with their bills.
use Rattle.std.proofs.Common.{◌≡◌, ◌++◌, ◌*◌, drop}
use Rattle.whole_list.specs.Billing.{billed_front}
use Rattle.whole_list.proofs.Billed.{cleared_keys}
use Rattle.whole_list.proofs.billing.bill_rows.Given as goal

abbrev pub invariant-loop-i : goal.invariant-loop-i
invariant-loop-i l =
    (l.keys ≡ cleared_keys l.i l.initial.keys) × (l.rows ≡ billed_front l.w l.i l.initial.keys ++ drop (l.i * 5) l.initial.rows)
