-- The last return follows from the tests that lead there.
use Rattle.std.proofs.Common.{◌<◌, arith}
use borrow.Author.Tests.{lt-ltb}
use Rattle.sequences.proofs.Bits.{bit_is}
use Rattle.verdicts.proofs.is_bad.Goals as goal

pub returns : goal.returns
returns c =
    let a = c.args in
    let known : a.b < a.n = omega arith in
    let low : a.k < 8 = omega arith in
    simp (lt-ltb _ _ known, lt-ltb _ _ low, bit_is a.m a.k)
