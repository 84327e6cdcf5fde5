-- A number of two digits is its tenth, which is a digit, and one more.
use Rattle.std.proofs.Common.{◌+◌, ◌/◌, ◌%◌, ◌∷◌, [], ◌++◌, length, ap, ◌∙◌, arith, length-append}
use mathlib.Core.List.{append_assoc}
use Rattle.list_text.proofs.Decimals.{small, large}
use Rattle.picture.proofs.sheet.Sheet.put_tens.Goals as goal

pub put_byte-requires-2 : goal.put_byte-requires-2
put_byte-requires-2 c =
    let whole = simp length-append at (ap length (large c.args.n c.if-n-lt10.false)) in
    omega (arith, c.requires.room)

pub put_byte-requires-3 : goal.put_byte-requires-3
put_byte-requires-3 c =
    let first = simp length-append at (ap length c.put_byte-2.ensures) in
    let whole = simp length-append at (ap length (large c.args.n c.if-n-lt10.false)) in
    let tenth = ap length (small (c.args.n / 10) (omega (arith, c.requires.few))) in
    omega (arith, c.requires.room)

pub returns : goal.returns
returns c =
    let first = ap (λ s. s ++ ((48 + c.args.n % 10) ∷ [])) c.put_byte-2.ensures in
    c.put_byte-3.ensures ∙ first ∙ rw (large c.args.n c.if-n-lt10.false, small (c.args.n / 10) (omega (arith, c.requires.few))) (simp append_assoc)
