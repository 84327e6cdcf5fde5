-- The example of `specs/Apart.antt`, by computation from the bytes.
use mathlib.Core.Path.{refl}
use Rattle.decoding.specs.Format.{same_pair, decode}
use Rattle.labels.specs.Labels.{covers}
use Rattle.sequences.specs.Bits.{bit}
use Rattle.security.specs.Soundness.{breaks2, breaks3, breaks4, may_stand, choices_of, candidates, count, sound, read}
use Rattle.security.specs.Placements.{moves, exposes, breaks16, breaks17, copies, holds, holds_both, together, broken_apart, bad_position, judge}
use Rattle.transfer_list.specs.Transfers.{transfers}
use Rattle.costs.specs.Cost.{gigabytes, cost}
use Rattle.options.specs.Options.{option, same_option}
use Rattle.judging.specs.Calls.{read_call, judge_call}
use Rattle.survey.specs.Rows.{secure_placements, census, stands, rows}
use Rattle.lister.specs.Calls.{census_call}
use Rattle.lister.specs.Apart.{Apart}

-- M with two data apart: every line holds
pub apart : Apart
unfolding
    same_pair decode
    read sound breaks2 breaks3 breaks4 may_stand covers bit choices_of count candidates
    judge bad_position breaks16 breaks17 exposes moves together holds_both holds copies broken_apart
    transfers cost gigabytes option same_option
    read_call judge_call census_call
    secure_placements census stands rows
apart = record { counts = refl; single = refl; figures = refl; beside = refl; copied = refl; kept = refl }
