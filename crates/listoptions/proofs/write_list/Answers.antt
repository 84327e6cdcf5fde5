-- The pages and the last line, one after the other, are what is printed.
use Rattle.std.proofs.Common.{[], sym, subst, ◌∙◌, append-nil}
use Rattle.std.proofs.lemmas.Result.{err_from_is_err_and, on_err_weaker}
use Rattle.standard_input.specs.Failures.{BreaksOff}
use Rattle.standard_input.proofs.Breaking.{broken_within, broken_last}
use Rattle.whole_list.specs.WholeList.{list_answer}
use Rattle.listoptions.specs.Making.{last_line, NextBytes}
use Rattle.listoptions.specs.Printed.{printed}
use Rattle.listoptions.proofs.Printing.{next-bytes, front-is}
use Rattle.listoptions.proofs.write_list.Goals as goal

pub write_pages-requires-clause-begins_with : goal.write_pages-requires-clause-begins_with
write_pages-requires-clause-begins_with g c = (last_line (list_answer c.list_rows-listed.result.0), c.list_rows-listed.ensures.lines)

pub returns-in_err-sent-clause-broken : goal.returns-in_err-sent-clause-broken
returns-in_err-sent-clause-broken g c =
    let error = err_from_is_err_and c.from_residual.result c.from_residual.ensures.1 in
    rw error.1 (subst (BreaksOff _ _) c.list_rows-listed.ensures.lines (broken_within _ _ _ _ c.in_err-sent.ensures.broken))

pub write_next-requires-clause-next_bytes : goal.write_next-requires-clause-next_bytes
write_next-requires-clause-next_bytes g c =
    let last = last_line (list_answer c.list_rows-listed.result.0) in
    subst (NextBytes (printed c.args.description.now) c.in_ok-sent.sent)
    (sym (front-is last _ c.put_last-end.ensures.value c.put_last-end.ensures.text_after))
    (next-bytes _ last [] (append-nil _ ∙ c.list_rows-listed.ensures.lines) c.in_ok-sent.ensures.whole)

pub returns-clause-broken : goal.returns-clause-broken
returns-clause-broken g c =
    let last = last_line (list_answer c.list_rows-listed.result.0) in
    let put = c.put_last-end.ensures in
    on_err_weaker c.write_next.result
    (λ broken. subst (BreaksOff _ _) c.list_rows-listed.ensures.lines
    (broken_last _ _ _ _ last c.in_ok-sent.ensures.taken (subst (BreaksOff _ _) (front-is last _ put.value put.text_after) broken)))
    c.write_next.ensures.broken
