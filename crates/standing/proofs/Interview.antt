-- The answers of `specs/Interview.antt`, by computation from the bytes.
use mathlib.Core.Path.{refl}
use Rattle.decoding.specs.Format.{same_pair, decode}
use Rattle.labels.specs.Labels.{covers}
use Rattle.sequences.specs.Bits.{bit}
use Rattle.security.specs.Soundness.{breaks2, breaks3, breaks4, may_stand, choices_of, count, sound, read}
use Rattle.standing.specs.Reasons.{reason, standing_call}
use Rattle.standing.specs.Interview.{Interview}

pub interview : Interview
unfolding
    same_pair decode
    read sound breaks2 breaks3 breaks4 may_stand covers bit choices_of count
    reason standing_call
interview = record {
  levels = (refl, refl, refl);
  past = (refl, refl, refl);
  pinned = refl;
  low = refl;
  missing = refl;
  nothing = refl;
}
