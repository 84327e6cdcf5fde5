-- Numbers by their bits. A mask has one bit for each of some numbers, set if a test holds for it.
use Rattle.std.specs.Prelude.{ℕ, zero, suc, ◌+◌, ◌*◌, ◌/◌, ◌%◌, ◌^◌, Bool, cond, List, map, eqb}
use Rattle.sequences.specs.Lists.{keep, below, sequences}

-- bit k of m
unfoldable pub bit : ℕ → ℕ → Bool
bit m k = eqb (m / 2 ^ k % 2) 1

-- the number whose bit i, for each i below n, says whether t holds for k + i
unfoldable pub bits : (ℕ → Bool) → (k n : ℕ) → ℕ
bits t k zero = 0
bits t k (suc n) = cond (t k) 1 0 + 2 * bits t (suc k) n

-- the bits that a byte has set, in rising order
abbrev pub set_bits : ℕ → List ℕ
set_bits m = keep (bit m) (below 8)

-- all choices of one set bit of each byte, in lexicographic order
abbrev pub bit_choices : List ℕ → List (List ℕ)
bit_choices ms = sequences (map set_bits ms)
