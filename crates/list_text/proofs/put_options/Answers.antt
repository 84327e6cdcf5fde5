-- The parts make up the line, and it is put into the buffer.
use Rattle.std.proofs.Common.{[], ◌∷◌, arith}
use Rattle.list_text.specs.Lines.{ascii, decimal}
use Rattle.list_text.proofs.Placing.{line_put}
use Rattle.list_text.proofs.Sizes.{sizes}
use Rattle.list_text.proofs.Writing.{Put, then-put}
use Rattle.list_text.proofs.put_options.Goals as goal

pub returns-then-not-has_room-clause-count_len_bound : goal.returns-then-not-has_room-clause-count_len_bound
returns-then-not-has_room-clause-count_len_bound c = (sizes.options c.args.count c.ranges.count.fits).few

pub returns-clause-buffer_after : goal.returns-clause-buffer_after
returns-clause-buffer_after c =
    let p₀ : Put (ascii "options ") c.args.buffer.now c.put_text-named.new.buffer c.args.at c.put_text-named.result =
    record { ends = c.put_text-named.ensures.value; bytes = c.put_text-named.ensures.buffer_after } in
    let p₁ = then-put p₀ (decimal c.args.count) (omega arith) c.put_number-counted.ensures.value c.put_number-counted.ensures.buffer_after in
    let p₂ = then-put p₁ (10 ∷ []) (omega arith) c.put_newline.ensures.value c.put_newline.ensures.buffer_after in
    (line_put p₂ (omega (arith, p₂.ends))).1

pub returns-clause-count_len_bound : goal.returns-clause-count_len_bound
returns-clause-count_len_bound c = (sizes.options c.args.count c.ranges.count.fits).few
