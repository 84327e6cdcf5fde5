-- The table of `specs/Reached.antt`, by computation.
use mathlib.Core.Path.{refl}
use Rattle.decoding.specs.Format.{same_pair, decode}
use Rattle.labels.specs.Labels.{covers}
use Rattle.sequences.specs.Bits.{bit}
use Rattle.security.specs.Soundness.{breaks2, breaks3, breaks4, may_stand, choices_of, count, sound, read}
use Rattle.security.specs.Placements.{moves, exposes, breaks16, breaks17, copies, holds, holds_both, together, bad_position, judge}
use Rattle.transfer_list.specs.Transfers.{transfers}
use Rattle.judging.specs.Calls.{read_call, judge_call, transfers_call}
use Rattle.decoding.proofs.BothFaults.{in_order}
use Rattle.judging.specs.Reached.{Reached}

-- each number is reached, and they are given in their order
pub reached : Reached
unfolding
    same_pair decode
    read sound breaks2 breaks3 breaks4 may_stand covers bit choices_of count
    judge bad_position breaks16 breaks17 exposes moves together holds_both holds copies transfers
    read_call judge_call transfers_call
reached = record {
  number1 = (refl, refl);
  number2 = refl;
  number3 = refl;
  number4 = (refl, refl, refl, refl);
  number5 = (refl, refl, refl, refl);
  number6 = (refl, refl, refl, refl);
  number7 = (refl, refl, refl, refl, refl, refl);
  number8 = (refl, refl);
  number9 = refl;
  number10 = refl;
  number11 = refl;
  number12 = refl;
  number13 = (refl, refl, refl, refl);
  number14 = refl;
  number15 = refl;
  number16 = refl;
  number17 = (refl, refl, refl);
  order1_to8 = in_order;
  order9_to12 = (refl, refl, refl, refl);
  order13_to17 = (refl, refl, refl, refl, refl, refl);
}
