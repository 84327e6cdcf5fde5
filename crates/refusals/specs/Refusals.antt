-- The scope's number of each fault, and the result that the code's answer is.
use Rattle.std.specs.Prelude.{ℕ, Ok, Err}
use Rattle.std.specs.Prelude as std
use Rattle.refusals.specs.declared.Fault.{Fault}
use Rattle.refusals.specs.declared.Fault.TheVariants.{CutShort, UnknownCommand, AfterEnd, TooMany, LabelTooHigh, NotDeclared, Repeated, NothingDeclared}
use Rattle.refusals.specs.declared.Fault.TheVariants.{LocationNotCleared, ReadUp, WriteDown, TooManyCandidates}
use Rattle.refusals.specs.declared.Fault.TheVariants.{NoCandidate, ReadExposes, WriteExposes, ShortBuffer, PairMeets}
use Rattle.refusals.specs.declared.Refusal.{Refusal}
use Rattle.sequences.specs.Results.{Result, ok, refused}

abbrev pub fault_number : Fault → ℕ
fault_number CutShort = 1
fault_number UnknownCommand = 2
fault_number AfterEnd = 3
fault_number TooMany = 4
fault_number LabelTooHigh = 5
fault_number NotDeclared = 6
fault_number Repeated = 7
fault_number NothingDeclared = 8
fault_number LocationNotCleared = 9
fault_number ReadUp = 10
fault_number WriteDown = 11
fault_number TooManyCandidates = 12
fault_number NoCandidate = 13
fault_number ReadExposes = 14
fault_number WriteExposes = 15
fault_number ShortBuffer = 16
fault_number PairMeets = 17

-- A value, by what it means; or a refusal with its number and place.
abbrev pub answered : {A B : Type 0} → (A → B) → std.Result A Refusal → Result B
answered f (Ok a) = ok (f a)
answered f (Err r) = refused (fault_number r.fault) r.place
