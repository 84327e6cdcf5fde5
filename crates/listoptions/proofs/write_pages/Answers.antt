-- Page by page: the lines of the rows before those that are left were handed over.
use Rattle.std.proofs.Common.{ℕ, ◌+◌, ◌*◌, arith, sym, ap, subst, ◌∙◌, length, drop, length-append, length-take}
use Rattle.std.specs.Io.KnownBytes.{Appends}
use Rattle.std.specs.Iterator.Adapters.{enumerate_source, enumerate_count}
use Rattle.std.specs.Slice.Iter.{chunks_rest}
use Rattle.std.proofs.lemmas.Result.{err_from_is_err_and}
use Rattle.standard_input.specs.Failures.{BreaksOff}
use Rattle.listoptions.specs.Making.{page_rows, page_text, NextBytes}
use Rattle.listoptions.specs.Printed.{printed}
use Rattle.listoptions.proofs.Printing.{cut-page, cut-rest, cut-next, page-handed, cut-broken, front-is, text-within}
use Rattle.listoptions.proofs.write_pages.Goals as goal

-- the chunk of a turn is the page of its number
pub put_page-end-requires-clause-in_rows : goal.put_page-end-requires-clause-in_rows
put_page-end-requires-clause-in_rows g c =
    let l = c.loop-page in
    let steps = c.in-Some.ensures.steps in
    let cut = steps.0.1 in
    cut-page _ _ _ cut.0 (omega (arith, cut.1, l.invariant.pages)) c.args.rows.now c.in-Some.page
    (l.invariant.rest ∙ ap (λ (k : ℕ). drop (k * page_rows * 5) c.args.rows.now) (sym steps.1))

pub write_next-requires-clause-next_bytes : goal.write_next-requires-clause-next_bytes
write_next-requires-clause-next_bytes g c =
    let l = c.loop-page in
    let put = c.put_page-end in
    let cut = c.in-Some.ensures.steps.0.1 in
    let page = page_text c.args.blocks c.args.rows.now c.in-Some.page in
    subst (NextBytes (printed c.args.description.now) l.sent) (sym (front-is page l.text put.ensures.value put.ensures.text_after ∙ put.ensures.lines))
    (cut-next _ _ _ _ _ _ _ _ l.invariant.handed cut.0 (omega (arith, cut.1, l.invariant.pages)) _ c.requires.begins_with)

-- the page that broke off comes after those that were handed over
pub returns-in_err-sent-clause-broken : goal.returns-in_err-sent-clause-broken
returns-in_err-sent-clause-broken g c =
    let l = c.loop-page in
    let put = c.put_page-end in
    let cut = c.in-Some.ensures.steps.0.1 in
    let page = page_text c.args.blocks c.args.rows.now c.in-Some.page in
    let error = err_from_is_err_and c.from_residual.result c.from_residual.ensures.1 in
    rw error.1
    (cut-broken _ _ _ _ _ _ _ _ l.invariant.handed cut.0 (omega (arith, cut.1, l.invariant.pages)) _
    (subst (BreaksOff _ _) (front-is page l.text put.ensures.value put.ensures.text_after ∙ put.ensures.lines) c.in_err-sent.ensures.broken))

pub loop-page-preserved : goal.loop-page-preserved
loop-page-preserved g c =
    let l = c.loop-page in
    let put = c.put_page-end in
    let steps = c.in-Some.ensures.steps in
    let cut = steps.0.1 in
    let rows = c.args.rows.now in
    let page = page_text c.args.blocks rows c.in-Some.page in
    let front = front-is page l.text put.ensures.value put.ensures.text_after ∙ put.ensures.lines in
    let sent = c.in_ok-sent.ensures in
    let within = text-within page l.text put.ensures.value put.ensures.text_after in
    record {
      pages = steps.0.0 ∙ l.invariant.pages;
      rest =
          cut-rest c.in-Some.words.now (chunks_rest (enumerate_source c.next.new.self)) (chunks_rest (enumerate_source l.page-iterator)) cut.0
          (omega (arith, cut.1, l.invariant.pages)) rows (enumerate_count l.page-iterator) l.invariant.rest ∙
          ap (λ (k : ℕ). drop (k * page_rows * 5) rows) (sym steps.2);
      size = put.auto.text ∙ l.invariant.size;
      bound = omega (arith, sent.bytes, length-take put.result put.new.text, ap length cut.0 ∙ length-append c.in-Some.words.now (chunks_rest (enumerate_source c.next.new.self)), cut.1, l.invariant.pages, l.invariant.bound, within, put.auto.text, l.invariant.size);
      handed =
          page-handed _ _ _ _ _ _ _ _ l.invariant.handed cut.0 (omega (arith, cut.1, l.invariant.pages)) _ _ (sent.bytes ∙ ap (λ t. l.sent + length t) front)
          (subst (Appends _ _) front sent.taken);
    }
