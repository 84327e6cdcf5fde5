-- The table of `specs/Marks.antt`, by computation.
use mathlib.Core.Path.{refl}
use Rattle.decoding.specs.Format.{same_pair, decode}
use Rattle.labels.specs.Labels.{covers}
use Rattle.security.specs.Masks.{mask_of, masks_of}
use Rattle.security.specs.Soundness.{breaks2, breaks3, breaks4, may_stand, choices_of, count, sound, read}
use Rattle.security.specs.Placements.{moves, exposes, breaks16, breaks17, bad_position, judge}
use Rattle.judging.specs.Calls.{read_call, judge_call, masks_call}
use Rattle.judging.specs.Marks.{Marked}
use Rattle.sequences.specs.Arrays.{table}
use Rattle.sequences.specs.Bits.{bit, bits}

pub marked : Marked
unfolding
    same_pair decode
    read sound breaks2 breaks3 breaks4 may_stand covers bit choices_of count
    judge bad_position breaks16 breaks17 exposes moves
    read_call judge_call masks_call masks_of mask_of table bits
marked = record {
  rule2 = (refl, refl, refl, refl);
  rule3 = (refl, refl, refl, refl);
  rule4 = (refl, refl, refl, refl);
  rule7 = (refl, refl, refl, refl);
  rule16 = (refl, refl, refl, refl);
  rule17 = (refl, refl, refl, refl);
  covered = (refl, refl, refl);
  masks = refl;
}
