-- What is read from here on is what is read from the start.
use Rattle.std.proofs.Common.{◌-◌, ◌≡◌, ◌≤◌, length, drop}
use Rattle.description.specs.Declarations.{nothing}
use Rattle.decoding.specs.Format.{read_from}
use Rattle.reading.proofs.read_commands.Given as goal

abbrev pub invariant-loop-at : goal.invariant-loop-at
invariant-loop-at l = (l.at ≤ length l.s) × (read_from (drop l.at l.s) 0 l.at l.w ≡ read_from l.s 0 0 nothing)

abbrev pub decreases-loop-at : goal.decreases-loop-at
decreases-loop-at l = length l.s - l.at
