-- Each step of the loop is one byte more, and a byte that is no cloud scales the next number up.
use Rattle.std.proofs.Common.{◌-◌, ◌^◌, ◌<◌, ◌≡◌, ◌+◌, ◌∙◌, arith}
use native.Mathlib.Nat.{pow-suc, pow-le-pow_right, mod-eq_of_lt}
use native.Mathlib.Numerals.{add-one}
use Rattle.packing.proofs.Digits.{place-small}
use Rattle.packing.proofs.Floors.{floor_from, floor-is, floor-next, floor-stop}
use Rattle.packing.proofs.floor_place.Goals as goal

pub returns-then-cloud-ge8 : goal.returns-then-cloud-ge8
returns-then-cloud-ge8 c =
    let s = c.args in
    let l = c.loop-b in
    let f = l.invariant.rest ∙ floor-stop l.packed s.blocks l.b s.bytes (omega arith) (omega arith) (omega arith) in
    let r = floor-is s.bytes s.blocks c.requires (omega arith) in
    let power = pow-le-pow_right {n = 8} (omega arith) {i = s.blocks} {j = 16} c.requires in
    let small : floor_from 0 s.blocks s.bytes < 2 ^ 64 = omega (arith, r.within, power) in
    rw (← f, mod-eq_of_lt small) r

pub loop-b-preserved : goal.loop-b-preserved
loop-b-preserved c =
    let s = c.args in
    let l = c.loop-b in
    record {
      few = rw (add-one l.b) (omega (arith, pow-suc 8 l.b));
      rest = l.invariant.rest ∙ rw c.from-cloud.ensures (floor-next l.packed s.blocks l.b s.bytes (omega arith) (omega arith) (omega arith));
    }

pub returns : goal.returns
returns c =
    let s = c.args in
    let l = c.loop-b in
    let e : s.blocks - l.b ≡ 0 = omega arith in
    let f : floor_from 0 s.blocks s.bytes ≡ l.packed + 1 = rw e at l.invariant.rest in
    rw (← f) (floor-is s.bytes s.blocks c.requires (omega arith))

pub overflow_add-result : goal.overflow_add-result
overflow_add-result c = omega (arith, place-small c.loop-b.b c.loop-b.packed (omega arith) c.loop-b.invariant.few)

pub overflow_mul-packed : goal.overflow_mul-packed
overflow_mul-packed c = omega (arith, place-small c.loop-b.b c.loop-b.packed (omega arith) c.loop-b.invariant.few)

pub overflow_add-packed : goal.overflow_add-packed
overflow_add-packed c = omega (arith, place-small c.loop-b.b c.loop-b.packed (omega arith) c.loop-b.invariant.few)

pub overflow_add-result-2 : goal.overflow_add-result-2
overflow_add-result-2 c = omega (arith, place-small c.loop-b.b c.loop-b.packed (omega arith) c.loop-b.invariant.few)
