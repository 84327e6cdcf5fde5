-- What Standing answers: for every case the number.
use Rattle.std.specs.Prelude.{ℕ}
use Rattle.std.specs.Prelude as std
use Rattle.refusals.specs.declared.Refusal.{Refusal}
use Rattle.refusals.specs.Refusals.{answered}
use Rattle.sequences.specs.Results.{Result}
use Rattle.standing.specs.declared.Reason.{Reason}
use Rattle.standing.specs.declared.Reason.TheVariants.{Allowed, NoSuchCloud, NotCovered, NotPermitted, NoBlock}

abbrev pub reason_number : Reason → ℕ
reason_number Allowed = 0
reason_number NoSuchCloud = 1
reason_number NotCovered = 2
reason_number NotPermitted = 3
reason_number NoBlock = 4

abbrev pub standing_answer : std.Result Reason Refusal → Result ℕ
standing_answer r = answered reason_number r
