-- What each case writes comes after what was written before.
use Rattle.std.proofs.Common.{rules}
use Rattle.standard_input.proofs.Breaking.{grows_twice}
use Rattle.callcases.proofs.answer_all.Goals as goal

pub returns-in_err-next_case : goal.returns-in_err-next_case
returns-in_err-next_case g c = grows_twice _ _ _ c.loop.invariant.kept c.in_err-next_case.ensures.kept

pub returns-in_default : goal.returns-in_default
returns-in_default g c = grows_twice _ _ _ c.loop.invariant.kept c.in_ok-next_case.ensures.kept

pub loop-preserved : goal.loop-preserved
loop-preserved g c = record {
  room = search rules;
  kept = grows_twice _ _ _ c.loop.invariant.kept c.in_ok-next_case.ensures.kept;
}
