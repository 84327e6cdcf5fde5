-- The next cloud is the next digit.
use Rattle.std.proofs.Common.{◌-◌, ◌≡◌, ◌++◌, replicate, ap, ◌∙◌, arith}
use lib.Seq.{take_all}
use Rattle.packing.specs.Packing.{digits}
use Rattle.packing.proofs.Digits.{digits-length, fill-next}
use Rattle.packing.proofs.unpacked.Goals as goal

pub loop-b-preserved : goal.loop-b-preserved
loop-b-preserved c =
    let a = c.args in
    let n = digits-length a.blocks a.place in
    rw (c.loop-b.invariant, c.cloud_in.ensures.0) (fill-next (digits a.blocks a.place) c.loop-b.b (omega arith) (omega arith))

pub returns : goal.returns
returns c =
    let a = c.args in
    let n = digits-length a.blocks a.place in
    let e : c.loop-b.b ≡ a.blocks = omega arith in
    (rw e at c.loop-b.invariant) ∙ ap (λ d. d ++ replicate (16 - a.blocks) 0) (take_all a.blocks (digits a.blocks a.place) (omega arith))
