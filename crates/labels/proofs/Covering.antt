-- Covering is an order of labels; and without marks it is the order of the levels.
use Prim.Native.Nat.{ℕ, ◌+◌, ◌*◌, ◌/◌, ◌%◌, ◌^◌, ◌<◌}
use native.Mathlib.Omega.{arith}
use mathlib.Core.Path.{◌≡◌, refl, sym, ap, ◌∙◌}
use mathlib.Core.Logic.{◌↔◌}
use mathlib.Core.Bool.{Bool, true, false, not, ◌&&◌, ◌||◌, true≢false}
use native.Mathlib.Decide.{ℕ_discrete}
use lib.Dec.{leb, eqb}
use borrow.Author.Tests.{leb-true, le-leb, eqb-true, eq-eqb, ne_eqb}
use Rattle.sequences.specs.Bits.{bit}
use Rattle.sequences.proofs.Bits.{bit_is, bit-off}
use Rattle.sequences.proofs.Tests.{both-pass, not-passed}
use Rattle.labels.specs.Labels.{level_of, embargoed, names_source, covers, Covers}

-- the test of a mark, bit k: if the low label has it, the high one has it
mark-kept : (high low k : ℕ) → (not (bit low k) || bit high k ≡ true) ↔ (low / 2 ^ k % 2 ≡ 1 → high / 2 ^ k % 2 ≡ 1)
mark-kept high low k = rw (bit_is low k, bit_is high k) (elim (ℕ_discrete (low / 2 ^ k % 2) 1) [
  | yes e ↦ rw (eq-eqb (low / 2 ^ k % 2) 1 e) (λ t _. eqb-true (high / 2 ^ k % 2) 1 t, λ f. eq-eqb (high / 2 ^ k % 2) 1 (f e))
  | no n ↦ rw (ne_eqb (low / 2 ^ k % 2) 1 n) (λ _ e. absurd (n e), λ _. refl)
])

pub covers-is : (high low : ℕ) → (covers high low ≡ true) ↔ Covers high low
unfolding covers
covers-is high low = (
  λ e.
      let (first, source) = (both-pass _ _).0 e in
      let (level, embargo) = (both-pass _ _).0 first in
      record { level = leb-true _ _ level; embargo = (mark-kept high low 4).0 embargo; source = (mark-kept high low 5).0 source },
  λ k.
      (both-pass _ _).1
      ((both-pass _ _).1 (le-leb _ _ k.level, (mark-kept high low 4).1 k.embargo), (mark-kept high low 5).1 k.source),
)

-- the test fails exactly if the label is not covered, which in a partial order does not mean that it is higher
pub covers-not : (high low : ℕ) → (covers high low ≡ false) ↔ (Covers high low → ⊥)
covers-not high low = (
  λ f k. true≢false (sym ((covers-is high low).1 k) ∙ f),
  λ n. not-passed (covers high low) (λ t. n ((covers-is high low).0 t)),
)

pub covers-reflexive : (x : ℕ) → covers x x ≡ true
covers-reflexive x = (covers-is x x).1 (record { level = omega arith; embargo = λ e. e; source = λ e. e })

pub covers-transitive : (x y z : ℕ) → covers x y ≡ true → covers y z ≡ true → covers x z ≡ true
covers-transitive x y z a b =
    let k = (covers-is x y).0 a in
    let l = (covers-is y z).0 b in
    (covers-is x z).1 (record {
      level = omega (arith, k.level, l.level);
      embargo = λ e. k.embargo (l.embargo e);
      source = λ e. k.source (l.source e);
    })

-- two binary digits are equal if each is 1 whenever the other is
same-digit : (m n : ℕ) → m < 2 → n < 2 → (m ≡ 1 → n ≡ 1) → (n ≡ 1 → m ≡ 1) → m ≡ n
same-digit m n a b f g = elim (ℕ_discrete m 1) [
  | yes e ↦ e ∙ sym (f e)
  | no other ↦ let others : n ≡ 1 → ⊥ = λ e. other (g e) in omega (arith, a, b, other, others)
]

-- A label, which is below 64, is made of its level and its marks. So two labels that cover each other are equal.
made : (x : ℕ) → x < 64 → x ≡ x % 16 + x / 16 % 2 * 16 + x / 32 % 2 * 32
made x h =
    let q : x / 16 ≡ x / 32 * 2 + x / 16 % 2 = omega arith in
    let r : x / 32 % 2 ≡ x / 32 = omega arith in
    omega (arith, q, r)

pub covers-antisymmetric : (x y : ℕ) → x < 64 → y < 64 → covers x y ≡ true → covers y x ≡ true → x ≡ y
covers-antisymmetric x y hx hy a b =
    let k = (covers-is x y).0 a in
    let l = (covers-is y x).0 b in
    let level : x % 16 ≡ y % 16 = omega (arith, k.level, l.level) in
    let embargo = same-digit (x / 16 % 2) (y / 16 % 2) (omega arith) (omega arith) l.embargo k.embargo in
    let source = same-digit (x / 32 % 2) (y / 32 % 2) (omega arith) (omega arith) l.source k.source in
    made x hx ∙ rw (level, embargo, source) (sym (made y hy))

-- without marks a label is its level
unmarked : (x : ℕ) → x < 16 → (level_of x ≡ x) × (embargoed x ≡ false) × (names_source x ≡ false)
unmarked x h = (omega arith, bit-off x 4 (omega arith), bit-off x 5 (omega arith))

pub covers-levels : (high low : ℕ) → high < 16 → low < 16 → covers high low ≡ leb low high
unfolding covers
covers-levels high low hh hl =
    let (a, _, _) = unmarked high hh in
    let (b, e, s) = unmarked low hl in
    rw (a, b, e, s) (go (leb low high))
  where
    go : (t : Bool) → (t && true && true) ≡ t
    go true = refl
    go false = refl

-- bits from 6 on do not count
low-level : (n : ℕ) → n % 64 % 16 ≡ n % 16
low-level n = omega arith

low_bit : (n k : ℕ) → n % 64 / 2 ^ k % 2 ≡ n / 2 ^ k % 2 → bit (n % 64) k ≡ bit n k
low_bit n k e = bit_is (n % 64) k ∙ ap (λ (m : ℕ). eqb m 1) e ∙ sym (bit_is n k)

low-embargo : (n : ℕ) → bit (n % 64) 4 ≡ bit n 4
low-embargo n = low_bit n 4 (let q : n / 16 ≡ n / 64 * 4 + n % 64 / 16 = omega arith in omega (arith, q))

low-source : (n : ℕ) → bit (n % 64) 5 ≡ bit n 5
low-source n = low_bit n 5 (let q : n / 32 ≡ n / 64 * 2 + n % 64 / 32 = omega arith in omega (arith, q))

pub covers-left : (high low : ℕ) → covers (high % 64) low ≡ covers high low
unfolding covers
covers-left high low = rw (low-level high, low-embargo high, low-source high) refl

pub covers-right : (high low : ℕ) → covers high (low % 64) ≡ covers high low
unfolding covers
covers-right high low = rw (low-level low, low-embargo low, low-source low) refl
