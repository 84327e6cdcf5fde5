-- The bits that a number has set, in rising order: the lowest of them and the others, how many there are, and the choices of one of each.
use Prim.Native.Nat.{ℕ, zero, suc, ◌+◌, ◌-◌, ◌*◌, ◌/◌, ◌%◌, ◌^◌, ◌<◌, min}
use native.Mathlib.Nat.{zero-div, suc-add, pow-succ'}
use native.Mathlib.Omega.{arith}
use mathlib.Core.Path.{◌≡◌, refl, sym, ap, ap₂, ◌∙◌}
use mathlib.Core.Bool.{Bool}
use mathlib.Core.List.Memᴰ
use mathlib.Core.List.{List, [], ◌∷◌, map, Memᴰ}
use lib.Bits.{bit_and, and_step, and_self}
use lib.Count.{ones, ones_step, ones-le, count_trailing_zeros, under}
use lib.Dec.{ltb}
use lib.ListN.{length, length-map}
use Rattle.sequences.specs.Ascending.{Ascending, Once}
use Rattle.sequences.specs.Bits.{bit, bits, set_bits, bit_choices}
use Rattle.sequences.specs.Lists.{keep, from, below, before}
use Rattle.sequences.proofs.Agreeing.{keep-agree, keep-map, keep-none}
use Rattle.sequences.proofs.Ascending.{keep-ascends, from-ascends}
use Rattle.sequences.proofs.Bits.{bit-off, bit-on, bit-half, bit-bits}
use Rattle.sequences.proofs.Choices.{sequences-ascend, sequences-once}
use Rattle.sequences.proofs.Members.{keep-members, below-members}

-- ---- by halves

from-shift : (k n : ℕ) → from (suc k) n ≡ map suc (from k n)
from-shift k zero = refl
from-shift k (suc n) = ap (λ l. suc k ∷ l) (from-shift (suc k) n)

-- the bits below n that are set
abbrev set_below : (n m : ℕ) → List ℕ
set_below n m = keep (bit m) (below n)

-- those above the lowest bit are those of the half
upper : (n m : ℕ) → keep (bit m) (from 1 n) ≡ map suc (set_below n (m / 2))
upper n m =
    ap (keep (bit m)) (from-shift 0 n) ∙ keep-map suc (bit m) (below n) ∙
    ap (map suc) (keep-agree (λ i. bit m (suc i)) (bit (m / 2)) (below n) (λ i _. sym (bit-half m i)))

set-even : (n m : ℕ) → m % 2 ≡ 0 → set_below (suc n) m ≡ map suc (set_below n (m / 2))
set-even n m e = let low : m / 2 ^ 0 % 2 ≡ 0 = omega arith in rw (bit-off m 0 low) (upper n m)

set-odd : (n m : ℕ) → m % 2 ≡ 1 → set_below (suc n) m ≡ 0 ∷ map suc (set_below n (m / 2))
set-odd n m e = let low : m / 2 ^ 0 % 2 ≡ 0 → ⊥ = λ z. omega arith in rw (bit-on m 0 low) (ap (λ l. 0 ∷ l) (upper n m))

-- ---- the lowest, and the others

-- What m and m - 1 have in common: if m is odd, all of m but its lowest bit; if m is even, twice what m / 2 and m / 2 - 1 have in common.
and-odd : (m : ℕ) → m % 2 ≡ 1 → bit_and m (m - 1) ≡ m / 2 * 2
and-odd m e =
    let half : (m - 1) / 2 ≡ m / 2 = omega arith in
    let even : (m - 1) % 2 ≡ 0 = omega arith in
    and_step m (m - 1) ∙ ap₂ (λ x y. bit_and (m / 2) x * 2 + min (m % 2) y) half even ∙
    ap₂ (λ x y. x * 2 + min y 0) (and_self (m / 2)) e ∙ (omega arith)

and-even : (m : ℕ) → m % 2 ≡ 0 → (m ≡ 0 → ⊥) → bit_and m (m - 1) ≡ bit_and (m / 2) (m / 2 - 1) * 2
and-even m e n =
    let half : (m - 1) / 2 ≡ m / 2 - 1 = omega arith in
    let odd : (m - 1) % 2 ≡ 1 = omega arith in
    let both = bit_and (m / 2) (m / 2 - 1) in
    let end : both * 2 + 0 ≡ both * 2 = omega arith in
    and_step m (m - 1) ∙ ap₂ (λ x y. bit_and (m / 2) x * 2 + min (m % 2) y) half odd ∙ ap (λ x. both * 2 + min x 1) e ∙ end

-- doubling a number moves its bits up by one
set_twice : (n x : ℕ) → set_below (suc n) (x * 2) ≡ map suc (set_below n x)
set_twice n x =
    let half : x * 2 / 2 ≡ x = omega arith in
    set-even n (x * 2) (omega arith) ∙ ap (λ y. map suc (set_below n y)) half

-- the lowest bit that is set, and the bits of the number without it
lowest-below : (n m : ℕ) → m < 2 ^ n → (m ≡ 0 → ⊥) → set_below n m ≡ count_trailing_zeros n m ∷ set_below n (bit_and m (m - 1))
unfolding count_trailing_zeros
lowest-below zero m h some = absurd (some (omega arith))
lowest-below (suc n) m h some =
    let less : m / 2 < 2 ^ n = omega (arith, pow-succ' 2 n) in
    go (lowest-below n (m / 2) less) (m % 2) refl
  where
    -- the lowest bit of the half is known if the half is not 0
    go : ((m / 2 ≡ 0 → ⊥) → set_below n (m / 2) ≡ count_trailing_zeros n (m / 2) ∷ set_below n (bit_and (m / 2) (m / 2 - 1)))
        → (d : ℕ) → m % 2 ≡ d → set_below (suc n) m ≡ under d (count_trailing_zeros n (m / 2)) ∷ set_below (suc n) (bit_and m (m - 1))
    go half zero e =
        set-even n m e ∙ ap (map suc) (half (λ z. some (omega arith))) ∙
        ap (λ l. suc (count_trailing_zeros n (m / 2)) ∷ l) (sym (ap (set_below (suc n)) (and-even m e some) ∙ set_twice n (bit_and (m / 2) (m / 2 - 1))))
    go half (suc d) e =
        let odd : m % 2 ≡ 1 = omega arith in
        set-odd n m odd ∙ ap (λ l. 0 ∷ l) (sym (ap (set_below (suc n)) (and-odd m odd) ∙ set_twice n (m / 2)))

-- it is the same in a wider number
trailing_wider : (n k m : ℕ) → m < 2 ^ n → (m ≡ 0 → ⊥) → count_trailing_zeros (n + k) m ≡ count_trailing_zeros n m
unfolding count_trailing_zeros
trailing_wider zero k m h some = absurd (some (omega arith))
trailing_wider (suc n) k m h some =
    let less : m / 2 < 2 ^ n = omega (arith, pow-succ' 2 n) in
    ap (λ w. count_trailing_zeros w m) (suc-add n k) ∙ go (trailing_wider n k (m / 2) less) (m % 2) refl
  where
    go : ((m / 2 ≡ 0 → ⊥) → count_trailing_zeros (n + k) (m / 2) ≡ count_trailing_zeros n (m / 2)) → (d : ℕ) → m % 2 ≡ d
        → under d (count_trailing_zeros (n + k) (m / 2)) ≡ under d (count_trailing_zeros n (m / 2))
    go half zero e = ap suc (half (λ z. some (omega arith)))
    go half (suc d) e = refl

-- for a byte in a machine word
module _ (m : ℕ) (byte : m < 256) where
  pub lowest-and-rest : (m ≡ 0 → ⊥) → set_bits m ≡ count_trailing_zeros 64 m ∷ set_bits (bit_and m (m - 1))
  lowest-and-rest some = lowest-below 8 m byte some ∙ ap (λ c. c ∷ set_bits (bit_and m (m - 1))) (sym (trailing_wider 8 56 m byte some))

  pub lowest-low : (m ≡ 0 → ⊥) → count_trailing_zeros 64 m < 8
  lowest-low some =
      (below-members 8 (count_trailing_zeros 64 m)).0
      ((keep-members (bit m) (below 8) (count_trailing_zeros 64 m)).0 (rw (lowest-and-rest some) (Memᴰ.head refl))).0

pub none-set : set_bits 0 ≡ []
none-set = keep-none (bit 0) (below 8) (λ k _. bit-off 0 k (ap (λ n. n % 2) (zero-div (2 ^ k))))

-- ---- how many they are

ones_below : (n m : ℕ) → m < 2 ^ n → ones m ≡ length (set_below n m)
ones_below zero m h = omega (arith, ones-le 0 m h)
ones_below (suc n) m h =
    let less : m / 2 < 2 ^ n = omega (arith, pow-succ' 2 n) in
    go (length-map (set_below n (m / 2)) suc ∙ sym (ones_below n (m / 2) less)) (m % 2) refl
  where
    go : length (map suc (set_below n (m / 2))) ≡ ones (m / 2) → (d : ℕ) → m % 2 ≡ d → ones m ≡ length (set_below (suc n) m)
    go half zero e = omega (arith, ones_step m, ap length (set-even n m e), half)
    go half (suc d) e = let odd : m % 2 ≡ 1 = omega arith in omega (arith, ones_step m, ap length (set-odd n m odd), half)

pub ones-set : (m : ℕ) → m < 256 → ones m ≡ length (set_bits m)
ones-set m byte = ones_below 8 m byte

-- ---- of a number made of bits

pub set-of-bits : (t : ℕ → Bool) → set_bits (bits t 0 8) ≡ keep t (below 8)
set-of-bits t =
    keep-agree (bit (bits t 0 8)) t (below 8) (λ k m.
    let same : 0 + k ≡ k = omega arith in
    bit-bits t 0 8 k ((below-members 8 k).0 m) ∙ ap t same)

-- ---- choices of one bit of each

bits-ascend : (ms c : List ℕ) → Memᴰ c (map set_bits ms) → Ascending ltb c
bits-ascend ms c i = let (m, _, e) = Memᴰ.of_map set_bits ms i in rw (← e) (keep-ascends ltb (bit m) (below 8) (from-ascends 0 8))

module _ (ms : List ℕ) where
  pub bit-choices-ascend : Ascending before (bit_choices ms)
  bit-choices-ascend = sequences-ascend (map set_bits ms) (bits-ascend ms)

  pub bit-choices-once : Once (bit_choices ms)
  bit-choices-once = sequences-once (map set_bits ms) (bits-ascend ms)
