-- The bills of `specs/Interview.antt`, by computation from the bytes.
use mathlib.Core.Path.{refl}
use Rattle.decoding.specs.Format.{same_pair, decode}
use Rattle.labels.specs.Labels.{covers}
use Rattle.sequences.specs.Bits.{bit}
use Rattle.security.specs.Soundness.{breaks2, breaks3, breaks4, may_stand, choices_of, count, sound, read}
use Rattle.security.specs.Placements.{moves, exposes, breaks16, breaks17, copies, holds, holds_both, together, bad_position, judge}
use Rattle.transfer_list.specs.Transfers.{transfers}
use Rattle.costs.specs.Cost.{gigabytes, cost}
use Rattle.judging.specs.Calls.{judged}
use Rattle.billing.specs.Calls.{bill_call}
use Rattle.billing.specs.Interview.{Interview}

pub interview : Interview
unfolding
    same_pair decode
    read sound breaks2 breaks3 breaks4 may_stand covers bit choices_of count
    judge bad_position breaks16 breaks17 exposes moves together holds_both holds copies
    transfers cost gigabytes
    judged bill_call
interview = record { row11111 = refl; row11000 = refl; other11100 = refl; exposed = refl; apart = refl; nothing = refl }
