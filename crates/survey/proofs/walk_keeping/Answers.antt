-- A walk that counts keeps the rows.
use Rattle.std.proofs.Common.{ap, ◌∙◌}
use Rattle.survey.proofs.RowsInWords.{walk-keeps, walk-counts, walk-lends}
use Rattle.survey.proofs.walk_keeping.Goals as goal

pub returns : goal.returns
returns c =
    let d = c.args.admitted.now in
    let a = c.walk_candidates.ensures.admitted in
    let k = c.args.rows.now in
    let after = c.walk_candidates.ensures.seen in
    record {
      same_reference = ap (λ x. x.keys.ghost_name) after ∙ walk-lends d a k;
      value = ap (λ x. x.count.rows) after ∙ walk-counts d a k c.requires.fresh;
      keys_after = ap (λ x. x.keys.now) after ∙ walk-keeps d a k c.requires.fresh c.requires.room;
    }
