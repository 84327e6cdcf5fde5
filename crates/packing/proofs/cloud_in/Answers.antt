-- The digit by its position.
use Rattle.std.proofs.Common.{arith, sym}
use Rattle.packing.proofs.Digits.{digit}
use Rattle.packing.proofs.cloud_in.Goals as goal

pub returns : goal.returns
returns c =
    let a = c.args in
    (sym (digit a.blocks a.b a.place c.requires.1), omega arith)
