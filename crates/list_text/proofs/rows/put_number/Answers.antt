-- std writes the digits, so that they end where the number ends.
use Rattle.std.proofs.Common.{◌≡◌, ℕ, ap, length, arith}
use Rattle.std.proofs.lemmas.List.{length-set, take-set, drop-set-lt}
use Rattle.list_text.specs.Lines.{decimal}
use Rattle.list_text.proofs.Decimals.{std-decimal}
use Rattle.list_text.proofs.Writing.{stands}
use Rattle.list_text.proofs.rows.put_number.Goals as goal

pub write_digits-requires : goal.write_digits-requires
write_digits-requires c =
    let same = ap length (std-decimal c.args.n c.ranges.n.fits) in
    (omega arith, omega (arith, length-set {A = ℕ}))

pub returns-clause-buffer_after : goal.returns-clause-buffer_after
returns-clause-buffer_after c =
    let same = std-decimal c.args.n c.ranges.n.fits in
    let first : c.write_digits.result ≡ c.args.at = omega (arith, ap length same) in
    let w = c.write_digits.ensures in
    let before = rw first at w.before in
    let written = rw (first, same, c.places.ensures.value) at w.written in
    stands (decimal c.args.n) c.args.buffer.now c.write_digits.new.buf c.args.at (grind (arith, before, take-set)) (grind (arith, written, drop-set-lt))
