-- A number of three digits is its tenth and one more digit.
use Rattle.std.proofs.Common.{◌+◌, ◌%◌, ◌∷◌, [], ◌++◌, length, ap, ◌∙◌, arith, length-append}
use mathlib.Core.List.{append_assoc}
use Rattle.list_text.proofs.Decimals.{large}
use Rattle.picture.proofs.sheet.Sheet.put_number.Goals as goal

pub put_byte-requires : goal.put_byte-requires
put_byte-requires c =
    let tenth = simp length-append at (ap length c.put_tens-2.ensures) in
    let whole = simp length-append at (ap length (large c.args.n (omega arith))) in
    omega arith

pub returns : goal.returns
returns c =
    let tenth = ap (λ s. s ++ ((48 + c.args.n % 10) ∷ [])) c.put_tens-2.ensures in
    c.put_byte.ensures ∙ tenth ∙ rw (large c.args.n (omega arith)) (simp append_assoc)

pub put_tens-requires-2-clause-room : goal.put_tens-requires-2-clause-room
put_tens-requires-2-clause-room c =
    let whole = simp length-append at (ap length (large c.args.n (omega arith))) in
    omega (arith, c.requires)
