-- The line of a refusal, for which the text has room.
use Rattle.std.proofs.Common.{ℕ, arith, sym, subst}
use Rattle.list_text.specs.Lines.{refusal_line}
use Rattle.lister.specs.Answers.{draw_answer}
use Rattle.drawoptions.specs.Drawing.{line_for, Front}
use Rattle.drawoptions.proofs.Lines.{placed-front}
use Rattle.drawoptions.proofs.put_line.Goals as goal

pub returns-in-Err : goal.returns-in-Err
returns-in-Err c =
    let place = c.in-Err.refusal.place in
    let number = c.number-number in
    let put = c.put_refusal in
    let line = refusal_line number.result place in
    let front = placed-front line c.args.text.now 33 (omega arith) put.ensures.place_len_bound put.ensures.value put.ensures.buffer_after in
    let told = subst (λ (n : ℕ). Front (refusal_line n place) put.result put.new.buffer) number.ensures.value front in
    subst (λ a. Front (line_for c.args.digits c.args.draw (draw_answer a)) put.result put.new.buffer) (sym c.in-Err.is) told
