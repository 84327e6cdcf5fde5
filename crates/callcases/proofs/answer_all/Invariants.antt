-- There is room for a line before each case, and what was written stays.
use Rattle.standard_input.specs.Failures.{Grows}
use Rattle.callcases.specs.Room.{Roomy}
use Rattle.callcases.proofs.answer_all.Given as goal

abbrev pub invariant-loop : goal.invariant-loop
invariant-loop g l = record {
  room : Roomy l.out;
  kept : Grows (g.W.Write.contents l.initial.writer) (g.W.Write.contents l.writer);
}
