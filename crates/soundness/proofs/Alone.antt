-- One bit, or none: what the tests say of the bit.
use Rattle.std.proofs.Common.{◌≡◌, ℕ, ◌*◌, ◌/◌, ◌%◌, ◌^◌, ◌≤◌, ◌<◌, Bool, sym, ap, ◌∙◌, arith, eq-eqb, ne_eqb}
use native.Mathlib.Nat.{pow-le-pow_right, mod-eq_of_lt, one-mul}
use mathlib.Core.Bool.{cond}
use lib.Dec.{lit<}
use Rattle.sequences.specs.Bits.{bit}
use Rattle.sequences.proofs.Bits.{bit_is, bit_past}

-- the answer, by the bit
answered : (m c : ℕ) {t : Bool} → bit m c ≡ t → cond t (2 ^ c) 0 ≡ cond (bit m c) (2 ^ c) 0
answered m c e = sym (ap (λ (b : Bool). cond b (2 ^ c) 0) e)

-- past the bits of a byte
pub alone_past : (m c : ℕ) → m < 256 → 8 ≤ c → 0 ≡ cond (bit m c) (2 ^ c) 0
alone_past m c h l = answered m c (bit_past 8 m c h l)

-- a bit that is set, as the shifted byte
pub alone_on : (m c : ℕ) → c < 8 → m / 2 ^ c % 2 ≡ 1 → 1 * 2 ^ c % 256 ≡ cond (bit m c) (2 ^ c) 0
alone_on m c l e =
    let most : 2 ^ c ≤ 2 ^ 7 = pow-le-pow_right {n = 2} (lit< tt) {j = 7} (omega arith) in
    let small : 1 * 2 ^ c < 256 = omega arith in
    mod-eq_of_lt small ∙ one-mul (2 ^ c) ∙ answered m c (bit_is m c ∙ eq-eqb _ 1 e)

-- a bit that is not set
pub alone_off : (m c : ℕ) → (m / 2 ^ c % 2 ≡ 1 → ⊥) → 0 ≡ cond (bit m c) (2 ^ c) 0
alone_off m c e = answered m c (bit_is m c ∙ ne_eqb _ 1 e)
