-- Each part of the line is written after the one before it.
use Rattle.std.proofs.Common.{[], ◌∷◌, arith}
use Rattle.list_text.specs.Lines.{amount_text}
use Rattle.list_text.specs.RowLines.{front_text}
use Rattle.list_text.proofs.RowLines.{line-parts, line_length, front_length}
use Rattle.list_text.proofs.Writing.{Put, then-put}
use Rattle.list_text.proofs.rows.put_line.Goals as goal

pub returns-clause-buffer_after : goal.returns-clause-buffer_after
returns-clause-buffer_after c =
    let args = c.args in
    let row = c.args.row.now in
    let n = front_length args.blocks row.cost row.place in
    let l = line_length args.blocks row.cost row.place row.storage row.transfer row.cpu in
    let p₀ : Put (front_text args.blocks row.cost row.place) args.buffer.now c.put_front-front.new.buffer args.at c.put_front-front.result =
    record { ends = omega arith; bytes = c.put_front-front.ensures.buffer_after } in
    let p₁ = then-put p₀ (amount_text row.storage) (omega arith) c.put_amount-stored.ensures.value c.put_amount-stored.ensures.buffer_after in
    let p₂ = then-put p₁ (amount_text row.transfer) (omega arith) c.put_amount-moved.ensures.value c.put_amount-moved.ensures.buffer_after in
    let p₃ = then-put p₂ (amount_text row.cpu) (omega arith) c.put_amount-newline.ensures.value c.put_amount-newline.ensures.buffer_after in
    rw line-parts (then-put p₃ (10 ∷ []) (omega arith) c.put_newline.ensures.value c.put_newline.ensures.buffer_after).bytes
