-- A walk that counts sees the census.
use Rattle.std.proofs.Common.{ap, ◌∙◌}
use mathlib.Core.Path.{sym, subst}
use Rattle.security.specs.Soundness.{count}
use Rattle.visit.specs.Visits.{counted}
use Rattle.survey.specs.Surveys.{seen_of}
use Rattle.survey.proofs.Joins.{Sees, census-is, counted-by}
use Rattle.survey.proofs.count_all.Goals as goal

pub returns : goal.returns
returns c =
    let d = c.args.admitted.now in
    let choices = c.choices-choices.ensures in
    let after = c.walk_candidates.ensures.seen ∙ ap (seen_of counted d) c.new-count.ensures in
    census-is d c.candidates.result c.walk_candidates.new.visitor (c.candidates.ensures ∙ ap count choices.value)
    (subst (Sees d) (sym after) (counted-by d choices.admitted))
