-- How many rows there are, if there is less room.
use Rattle.std.specs.Prelude.{None, Some}
use Rattle.std.proofs.Common.{◌≡◌, cond, length, sym, ap, ◌∙◌, arith}
use borrow.Author.Tests.{le-leb, lt-leb}
use Rattle.security.specs.Soundness.{count}
use Rattle.survey.specs.Rows.{rows}
use Rattle.survey.proofs.Counting.{options-number}
use Rattle.survey.proofs.RowsInWords.{rows_few}
use Rattle.whole_list.proofs.missing.Goals as goal

pub returns-then-candidates-room-clause-value : goal.returns-then-candidates-room-clause-value
returns-then-candidates-room-clause-value c =
    let d = c.args.admitted.now in
    let n = length (rows d) in
    let fits = le-leb n c.args.room (omega (arith, rows_few d c.choices-choices.ensures.admitted, ap count c.choices-choices.ensures.value)) in
    sym (ap (λ b. cond b None (Some n)) fits)

-- there are as many options as rows
pub returns-then-rows-room-clause-value : goal.returns-then-rows-room-clause-value
returns-then-rows-room-clause-value c =
    let d = c.args.admitted.now in
    let n = length (rows d) in
    let counted : c.count_all-figures.result.options ≡ n = ap (λ x. x.options) c.count_all-figures.ensures ∙ sym (options-number d) in
    sym (ap (λ b. cond b None (Some n)) (le-leb n c.args.room (omega arith)))

pub returns-else-rows-room-clause-value : goal.returns-else-rows-room-clause-value
returns-else-rows-room-clause-value c =
    let d = c.args.admitted.now in
    let n = length (rows d) in
    let counted : c.count_all-figures.result.options ≡ n = ap (λ x. x.options) c.count_all-figures.ensures ∙ sym (options-number d) in
    ap Some counted ∙ sym (ap (λ b. cond b None (Some n)) (lt-leb n c.args.room (omega arith)))

pub returns-else-rows-room-clause-few : goal.returns-else-rows-room-clause-few
returns-else-rows-room-clause-few c =
    let d = c.args.admitted.now in
    let admitted = c.choices-choices.ensures.admitted in
    let counted : c.count_all-figures.result.options ≡ length (rows d) = ap (λ x. x.options) c.count_all-figures.ensures ∙ sym (options-number d) in
    omega (arith, counted, rows_few d admitted, admitted.few)
