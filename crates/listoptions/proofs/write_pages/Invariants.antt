-- Page by page: the lines of the rows before those that are left were handed over. What is left are the words from the next page on, and each
-- page of them takes no more than its bytes.
use Rattle.std.proofs.Common.{◌+◌, ◌*◌, ◌/◌, ◌≤◌, ◌≡◌, length, drop}
use Rattle.std.specs.Iterator.Adapters.{enumerate_source, enumerate_count}
use Rattle.std.specs.Slice.Iter.{chunks_rest, chunks_size}
use Rattle.listoptions.specs.Making.{held_bytes, page_rows, page_words}
use Rattle.listoptions.proofs.Printing.{Handed}
use Rattle.listoptions.proofs.write_pages.Given as goal

abbrev pub invariant-loop-page : goal.invariant-loop-page
invariant-loop-page g l = record {
  pages : chunks_size (enumerate_source l.page-iterator) ≡ page_words;
  rest : chunks_rest (enumerate_source l.page-iterator) ≡ drop (enumerate_count l.page-iterator * page_rows * 5) l.rows;
  size : length l.text ≡ held_bytes;
  bound : l.sent + (length (chunks_rest (enumerate_source l.page-iterator)) + 5119) / 5120 * held_bytes ≤ 64 * held_bytes;
  handed : Handed l.blocks l.rows (chunks_rest (enumerate_source l.page-iterator)) l.sent (g.W.Write.contents l.initial.out) (g.W.Write.contents l.out);
}
