-- A page has as many rows as fit.
use Rattle.std.proofs.Common.{ℕ, ◌*◌, ◌≤◌, List, arith, sym, ap, ◌∙◌, length, drop, length-take}
use Rattle.list_text.specs.Lines.{written}
use Rattle.listoptions.specs.Making.{page_rows, page_words, lines_in}
use Rattle.listoptions.proofs.Printing.{lines-made}
use Rattle.listoptions.proofs.put_page.Goals as goal

pub returns : goal.returns
returns c =
    let a = c.args in
    let left = drop (a.page * page_rows * 5) a.rows.now in
    let few : length a.words.now ≤ page_words =
    omega (arith, ap (λ (l : List ℕ). length l) c.requires.in_rows, length-take page_words left) in
    let lines = ap (lines_in a.blocks) c.requires.in_rows in
    let made = lines-made a.blocks a.words.now a.text.now few c.requires.room ∙ lines in
    record {
      value = c.put_rows.ensures.value ∙ ap (λ (l : List ℕ). length l) made;
      text_after = c.put_rows.ensures.buffer_after ∙ ap (λ l. written l a.text.now 0) made;
      lines = sym lines;
    }
