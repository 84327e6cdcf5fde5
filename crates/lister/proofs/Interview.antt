-- The table of `specs/Interview.antt`: by computation from the bytes, and if there are many candidates, by the law that counts them.
use Prim.Native.Nat.{ℕ}
use mathlib.Core.Path.{◌≡◌, refl, ap}
use Rattle.description.specs.Declarations.{Description}
use Rattle.decoding.specs.Format.{decode}
use Rattle.decoding.specs.Inputs.{flat}
use Rattle.labels.specs.Labels.{covers}
use Rattle.sequences.specs.Bits.{bit}
use Rattle.security.specs.Soundness.{breaks2, breaks3, breaks4, may_stand, choices_of, candidates, count, sound, read}
use Rattle.security.specs.Placements.{moves, exposes, breaks16, breaks17, broken_apart, bad_position, judge}
use Rattle.transfer_list.specs.Transfers.{transfers}
use Rattle.costs.specs.Cost.{gigabytes, cost}
use Rattle.options.specs.Options.{option, same_option}
use Rattle.judging.specs.Calls.{read_call, judge_call}
use Rattle.security.proofs.Candidates.{count-is-length}
use Rattle.survey.specs.Rows.{secure_placements, census, stands, rows, draw}
use Rattle.lister.specs.Calls.{census_call, draw_call}
use Rattle.lister.specs.Interview.{Interview, candidates_of}
use Rattle.sequences.specs.Results.{Result, ok, refused, and_then}

-- the number of candidates by the law that counts them, so that no list of them is made
counted : (r : Result Description) → candidates_of r ≡ and_then r (λ d. ok (count d))
counted (ok d) = ap {B = Result ℕ} ok (count-is-length d)
counted (refused number place) = refl

-- the interview table: every case holds
pub interview : Interview
unfolding
    decode
    read sound breaks2 breaks3 breaks4 may_stand covers bit choices_of count candidates
    judge bad_position breaks16 breaks17 exposes moves broken_apart
    transfers cost gigabytes option same_option
    read_call judge_call census_call draw_call
    secure_placements census stands rows draw
interview = record {
  case1 = refl;
  case2 = refl;
  case3 = (refl, refl, refl);
  case4 = refl;
  case5 = refl;
  case6 = refl;
  case7 = (refl, refl, λ cost placement. refl);
  case8 = refl;
  case9 = (refl, counted (read (flat 16 2)));
  case10 = (refl, counted (read (flat 10 3)));
  case11 = (refl, counted (decode (flat 11 3)));
}
