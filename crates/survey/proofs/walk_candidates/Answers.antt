-- If there are no candidates, there is nothing to walk over.
use Rattle.std.proofs.Common.{sym, ap, ◌∙◌}
use Rattle.security.specs.Soundness.{count}
use Rattle.survey.proofs.Joins.{none_seen}
use Rattle.survey.proofs.walk_candidates.Goals as goal

pub returns-then-candidates-eq0-clause-seen : goal.returns-then-candidates-eq0-clause-seen
returns-then-candidates-eq0-clause-seen g c =
    let a = c.args in
    let choices = c.choices-choices.ensures in
    let none = ap count (sym choices.value) ∙ sym c.candidates.ensures ∙ c.if-candidates-eq0.true in
    sym (none_seen g.V.Visitor.see a.admitted.now choices.admitted.well_formed none a.visitor.now)
