-- Digit by digit. A byte may be no cloud: with sixteen of them the number still fits.
use Rattle.std.proofs.Common.{◌≡◌, ◌+◌, ◌*◌, ◌^◌, [], ◌∷◌, ◌++◌, arith, sym, ap, ap₂, ◌∙◌, take, get_or, add-one}
use native.Mathlib.Nat.{pow-suc, pow-le-pow_right}
use lib.Seq.{take-suc}
use Rattle.packing.specs.Packing.{pack}
use Rattle.packing.proofs.Digits.{digits-none, pack-digits, pack-snoc}
use Rattle.drawoptions.proofs.packed.Goals as goal

pub loop-cloud-init : goal.loop-cloud-init
loop-cloud-init c =
    let none : pack [] ≡ 0 = ap pack (sym (digits-none 0)) ∙ pack-digits 0 0 (omega arith) in record { small = omega arith; value = sym none }

pub overflow_mul-place : goal.overflow_mul-place
overflow_mul-place c =
    let most = pow-le-pow_right {n = 8} (omega arith) {i = c.loop-cloud.cloud-index} {j = 16} (omega arith) in
    omega (arith, c.loop-cloud.invariant.small, most)

pub overflow_add-place : goal.overflow_add-place
overflow_add-place c =
    let most = pow-le-pow_right {n = 8} (omega arith) {i = c.loop-cloud.cloud-index} {j = 16} (omega arith) in
    omega (arith, c.loop-cloud.invariant.small, most)

pub loop-cloud-preserved : goal.loop-cloud-preserved
loop-cloud-preserved c =
    let l = c.loop-cloud in
    let clouds = c.args.clouds.now in
    let power : 8 ^ (l.cloud-index + 1) ≡ 8 ^ l.cloud-index * 8 = rw add-one (pow-suc 8 l.cloud-index) in
    let more : take (l.cloud-index + 1) clouds ≡ take l.cloud-index clouds ++ (get_or clouds l.cloud-index 0 ∷ []) =
    rw add-one (take-suc clouds l.cloud-index 0 (omega arith)) in
    record {
      small = omega arith;
      value = ap₂ (λ p k. p * 8 + k) l.invariant.value c.from.ensures ∙
          sym (ap pack more ∙ pack-snoc (take l.cloud-index clouds) (get_or clouds l.cloud-index 0));
    }
