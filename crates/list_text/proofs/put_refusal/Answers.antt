-- The parts make up the line, and it is put into the buffer.
use Rattle.std.proofs.Common.{[], ◌∷◌, arith}
use Rattle.list_text.specs.Lines.{ascii, decimal}
use Rattle.list_text.proofs.Placing.{line_put}
use Rattle.list_text.proofs.Sizes.{sizes}
use Rattle.list_text.proofs.Writing.{Put, then-put}
use Rattle.list_text.proofs.put_refusal.Goals as goal

pub returns-then-not-has_room-clause-place_len_bound : goal.returns-then-not-has_room-clause-place_len_bound
returns-then-not-has_room-clause-place_len_bound c = (sizes.refusal c.args.number c.args.place c.ranges.number.fits c.ranges.place.fits).few

pub returns-clause-buffer_after : goal.returns-clause-buffer_after
returns-clause-buffer_after c =
    let p₀ : Put (ascii "refused ") c.args.buffer.now c.put_text-named.new.buffer c.args.at c.put_text-named.result =
    record { ends = c.put_text-named.ensures.value; bytes = c.put_text-named.ensures.buffer_after } in
    let p₁ = then-put p₀ (decimal c.args.number) (omega arith) (rw c.from-number.ensures at c.put_number-numbered.ensures.value) (rw c.from-number.ensures at c.put_number-numbered.ensures.buffer_after) in
    let p₂ = then-put p₁ (32 ∷ []) (omega arith) c.put_text-spaced.ensures.value c.put_text-spaced.ensures.buffer_after in
    let p₃ = then-put p₂ (decimal c.args.place) (omega arith) c.put_number-placed.ensures.value c.put_number-placed.ensures.buffer_after in
    let p₄ = then-put p₃ (10 ∷ []) (omega arith) c.put_newline.ensures.value c.put_newline.ensures.buffer_after in
    (line_put p₄ (omega (arith, p₄.ends))).1

pub returns-clause-place_len_bound : goal.returns-clause-place_len_bound
returns-clause-place_len_bound c = (sizes.refusal c.args.number c.args.place c.ranges.number.fits c.ranges.place.fits).few
