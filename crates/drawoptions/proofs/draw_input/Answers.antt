-- What was read is all that the reader had, or as much as fits.
use Rattle.std.proofs.Common.{◌≡◌, ℕ, ◌∙◌, arith, Ok}
use Rattle.std.specs.Io.KnownBytes.{Appends}
use Rattle.std.proofs.lemmas.Result.{IfErr-weaker, on_ok_weaker, on_err_weaker}
use Rattle.standard_input.specs.Failures.{BreaksOff}
use Rattle.standard_input.proofs.Outcomes.{ok_stays, err_stays}
use Rattle.standard_input.proofs.Reading.{read_front}
use Rattle.drawoptions.specs.Drawing.{lines_before}
use Rattle.drawoptions.proofs.draw_input.Goals as goal

pub returns-clause-ok : goal.returns-clause-ok
returns-clause-ok g c =
    let read = c.read_full in
    let came : read.result ≡ Ok c.in_ok-count.count = grind arith in
    let counted = rw came at read.ensures.counted in
    let taken = rw came at read.ensures.taken in
    let held = g.W.Write.contents c.args.out.now in
    let after = g.W.Write.contents c.write_draws.new.out in
    ok_stays _ _ _ c.map_err-2.ensures.variant
    (on_ok_weaker c.write_draws.result
    (read_front (λ s. (n : ℕ) × Appends held after (lines_before s n)) _ _ read.new.buffer 4096 c.in_ok-count.count
    (read.auto.buffer ∙ c.filled-space.ensures.size) counted.0 taken.0 taken.1)
    c.write_draws.ensures.ok)

pub returns-clause-broken : goal.returns-clause-broken
returns-clause-broken g c =
    let read = c.read_full in
    let came : read.result ≡ Ok c.in_ok-count.count = grind arith in
    let counted = rw came at read.ensures.counted in
    let taken = rw came at read.ensures.taken in
    let held = g.W.Write.contents c.args.out.now in
    let after = g.W.Write.contents c.write_draws.new.out in
    IfErr-weaker c.map_err-2.result _ _ (λ e lines output. lines)
    (err_stays _ _ _ c.map_err-2.ensures.variant
    (on_err_weaker c.write_draws.result
    (read_front (λ s. (n : ℕ) × BreaksOff held after (lines_before s n)) _ _ read.new.buffer 4096 c.in_ok-count.count
    (read.auto.buffer ∙ c.filled-space.ensures.size) counted.0 taken.0 taken.1)
    c.write_draws.ensures.err))
