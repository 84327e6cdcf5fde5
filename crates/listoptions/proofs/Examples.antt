-- The examples of `specs/Printed.antt`: by computation from the bytes.
use mathlib.Core.Path.{refl}
use Rattle.decoding.specs.Format.{same_pair, decode}
use Rattle.labels.specs.Labels.{covers}
use Rattle.sequences.specs.Bits.{bit}
use Rattle.security.specs.Soundness.{breaks2, breaks3, breaks4, may_stand, choices_of, candidates, count, sound, read}
use Rattle.security.specs.Placements.{moves, exposes, breaks16, breaks17, copies, holds, holds_both, together, broken_apart}
use Rattle.transfer_list.specs.Transfers.{transfers}
use Rattle.costs.specs.Cost.{gigabytes, cost}
use Rattle.options.specs.Options.{option, same_option}
use Rattle.survey.specs.Rows.{secure_placements, stands, rows}
use Rattle.list_text.specs.Lines.{digits, decimal}
use Rattle.listoptions.specs.Printed.{printed, Examples}

pub examples : Examples
unfolding
    printed same_pair decode
    read sound breaks2 breaks3 breaks4 may_stand covers bit choices_of count candidates
    breaks16 breaks17 exposes moves broken_apart together holds_both holds copies
    transfers cost gigabytes option same_option
    secure_placements stands rows
    decimal digits
examples = record { interview = refl; apart = refl; end_alone = refl; nothing = refl }
