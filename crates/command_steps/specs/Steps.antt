-- What reading one command gives.
use Rattle.std.specs.Prelude.{ℕ, ◌≡◌, List, Ok, Err, cond, eqb}
use Rattle.std.specs.Prelude as std
use Rattle.std.proofs.Math.Option.{Option, none, some}
use Rattle.command_steps.specs.declared.BadCommand.{BadCommand}
use Rattle.command_steps.specs.declared.Command.{Command}
use Rattle.command_steps.specs.declared.Command.TheVariants as names
use Rattle.decoding.specs.Format.{fault_of}
use Rattle.decoding.specs.Format as format
use Rattle.description.specs.declared.workflow.Way.TheVariants.{Reads, Writes}
use Rattle.description.specs.Declarations.{Description}
use Rattle.refusals.specs.declared.Fault.{Fault}
use Rattle.refusals.specs.declared.Fault.TheVariants.{UnknownCommand}
use Rattle.refusals.specs.Refusals.{fault_number}

-- the command that a byte names
abbrev pub named : ℕ → std.Result Command Fault
named byte =
    cond (eqb byte 1) (Ok names.Cloud)
    (cond (eqb byte 2) (Ok names.Datum)
    (cond (eqb byte 3) (Ok names.Service)
    (cond (eqb byte 4) (Ok (names.Edge Reads))
    (cond (eqb byte 5) (Ok (names.Edge Writes))
    (cond (eqb byte 6) (Ok names.Pin)
    (cond (eqb byte 7) (Ok names.Pair)
    (Err UnknownCommand)))))))

abbrev pub Names : ℕ → std.Result Command Fault → Type 0
Names byte r = r ≡ named byte

-- the number that one command is refused with, if any
abbrev pub fault_in : std.Result ℕ BadCommand → Option ℕ
fault_in (Ok width) = none
fault_in (Err bad) = some (fault_number bad.fault)

-- how many bytes it has, refused or not
abbrev pub width_in : std.Result ℕ BadCommand → ℕ
width_in (Ok width) = width
width_in (Err bad) = bad.width

-- What a step says of the command at the front of s: its fault, its width, and if it has no fault, that d is the description after it.
pub record Steps (s : List ℕ) (c : format.Command) (d : Description) (r : std.Result ℕ BadCommand) : Type 0 where
  pub fault : fault_in r ≡ fault_of s c
  pub width : width_in r ≡ c.width
  pub after : fault_of s c ≡ none → d ≡ c.after
