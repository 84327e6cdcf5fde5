-- Each return follows from the tests that lead there.
use mathlib.Core.Path.{sym, ◌∙◌}
use Rattle.decoding.proofs.Equations.{same-pair}
use Rattle.command_steps.proofs.repeats.same_pair.Goals as goal

pub returns-then-named_by : goal.returns-then-named_by
returns-then-named_by c = rw (same-pair c.args.a c.args.b) (simp (sym c.named_by.ensures ∙ c.if-named_by.true))

pub returns : goal.returns
returns c = rw (same-pair c.args.a c.args.b) (simp (sym c.named_by.ensures ∙ c.if-named_by.false, c.named_by-2.ensures))
