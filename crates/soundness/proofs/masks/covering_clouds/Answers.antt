-- After i turns the mask has the highest i bits.
use Rattle.std.proofs.Common.{◌≡◌, ℕ, ◌+◌, ◌-◌, ◌*◌, Bool, sym, ap, ap₂, ◌∙◌, arith}
use mathlib.Core.Bool.{cond}
use Rattle.security.specs.Soundness.{cloud_covers}
use Rattle.security.proofs.Choices.{not-declared}
use Rattle.sequences.specs.Bits.{bits}
use Rattle.sequences.proofs.Bits.{bits_none, bits-room, bits-next, bits-cut}
use Rattle.soundness.proofs.masks.covering_clouds.Goals as goal

pub loop-i-init : goal.loop-i-init
loop-i-init c = sym (bits_none _ _)

pub with_bit-m-requires : goal.with_bit-m-requires
with_bit-m-requires c =
    let at = c.loop-i in
    let clouds = c.cloud_count-clouds in
    let stands = cloud_covers c.args.w.now c.args.label in
    rw at.invariant (bits-room stands (clouds.result - at.i) at.i (omega (arith, clouds.ensures.upper_bound)))

pub loop-i-preserved : goal.loop-i-preserved
loop-i-preserved c =
    let at = c.loop-i in
    c.with_bit-m.ensures ∙ ap₂ (λ (on : Bool) (m : ℕ). cond on 1 0 + 2 * m) c.cloud_covers.ensures at.invariant ∙
    sym (bits-next (cloud_covers c.args.w.now c.args.label) c.cloud_count-clouds.result at.i (omega arith))

pub returns : goal.returns
returns c =
    let at = c.loop-i in
    let n = c.cloud_count-clouds in
    let all : at.i ≡ n.result = omega arith in
    let low : n.result - n.result ≡ 0 = omega arith in
    let high = cloud_covers c.args.w.now c.args.label in
    at.invariant ∙ ap (λ (i : ℕ). bits high (n.result - i) i) all ∙ ap (λ (k : ℕ). bits high k n.result) low ∙
    bits-cut high n.result 8 n.ensures.upper_bound (λ i l. not-declared c.args.w.now c.args.label i (omega (arith, n.ensures.value)))
