-- By its weight, and if no edge breaks a rule, by the conflict test.
use Rattle.std.proofs.Common.{sym, ◌∙◌, arith}
use Rattle.visit.specs.Lent.{tests_in}
use Rattle.visit.proofs.Classes.{at-secure}
use Rattle.visit.proofs.counts.class_at.Goals as goal

pub returns-then-is_apart : goal.returns-then-is_apart
returns-then-is_apart c =
    let a = c.args in
    sym (at-secure a.met.weight (tests_in a.tables.now a.met.place) (omega arith) (sym c.is_apart.ensures ∙ c.if-is_apart.true))
