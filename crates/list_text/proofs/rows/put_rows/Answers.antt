-- Row by row: the lines of the rows before the next one are in the buffer, and there is room for the lines of the rows that are left.
use Rattle.std.proofs.Common.{◌≡◌, ◌*◌, ap, length, refl, arith}
use Rattle.list_text.specs.RowLines.{words_of_row, words_line}
use Rattle.list_text.proofs.RowLines.{line_at, line_length, line-few, next_row}
use Rattle.list_text.proofs.Writing.{then-put}
use Rattle.list_text.proofs.rows.put_rows.Goals as goal

pub put_line-end-requires-clause-room : goal.put_line-end-requires-clause-room
put_line-end-requires-clause-room c =
    let words = c.args.words.now in
    let row = c.row_at.result in
    let digits = c.min-digits.result in
    let line = words_line digits row.cost row.place row.storage row.transfer row.cpu in
    let r = c.row_at.ensures in
    let same : line ≡ line_at digits words (c.loop-k.k * words_of_row) = rw (r.cost, r.place, r.storage, r.transfer, r.cpu) refl in
    let l = line_length digits row.cost row.place row.storage row.transfer row.cpu in
    let few = line-few digits words (c.loop-k.k * words_of_row) (omega arith) (λ k. (c.type_inv.words k).fits) in
    omega (arith, ap length same)

pub loop-k-preserved : goal.loop-k-preserved
loop-k-preserved c =
    let w = c.loop-k in
    let words = c.args.words.now in
    let row = c.row_at.result in
    let digits = c.min-digits.result in
    let line = words_line digits row.cost row.place row.storage row.transfer row.cpu in
    let r = c.row_at.ensures in
    let same : line ≡ line_at digits words (w.k * words_of_row) = rw (r.cost, r.place, r.storage, r.transfer, r.cpu) refl in
    let few = line-few digits words (w.k * words_of_row) (omega arith) (λ k. (c.type_inv.words k).fits) in
    let more = then-put w.invariant.1 line (omega arith) c.put_line-end.ensures.value c.put_line-end.ensures.buffer_after in
    (omega (arith, ap length same), rw (next_row digits words w.k (omega arith)) (rw same at more))
