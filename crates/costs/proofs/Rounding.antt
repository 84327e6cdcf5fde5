-- The gigabytes charged are what the rule asks for: nearest to a tenth of the size, and at the half even.
use Prim.Native.Nat.{ℕ, ◌+◌, ◌*◌, ◌/◌, ◌%◌, ◌≤◌, ◌<◌}
use native.Mathlib.Omega.{arith}
use native.Mathlib.Decide.{dec_lt}
use mathlib.Core.Path.{◌≡◌, ◌∙◌, refl, ap, subst}
use mathlib.Core.List.{[], ◌∷◌, map}
use Rattle.costs.specs.Cost.{gigabytes, difference, Nearest}

-- ---- the charge is as the rule asks

-- a size that differs from a multiple of 10 by 5 ends in 5
at-half : (size g : ℕ) → difference (10 * g) size ≡ 5 → size % 10 ≡ 5
at-half size g e = omega arith

-- then the charge is the whole part, or one more if that is odd
charge-at-half : (size : ℕ) → size % 10 ≡ 5 → gigabytes size ≡ size / 10 + size / 10 % 2
unfolding gigabytes
charge-at-half size e = omega arith

-- which is even
even-above : (n : ℕ) → (n + n % 2) % 2 ≡ 0
even-above n = omega arith

charge-within : (size : ℕ) → difference (10 * gigabytes size) size ≤ 5
unfolding gigabytes
charge-within size = omega arith

pub charge-nearest : (size : ℕ) → Nearest size (gigabytes size)
charge-nearest size = record {
  within = charge-within size;
  half = λ e. (ap (λ g. g % 2) (charge-at-half size (at-half size (gigabytes size) e)) ∙ even-above (size / 10));
}

-- ---- and no other number is

-- no two neighbours are even
even-apart : (n : ℕ) → n % 2 ≡ 0 → (n + 1) % 2 ≡ 0 → ⊥
even-apart n e f = omega arith

-- two different numbers would both be 5 away, one on either side, and so both even
not-below : (size g h : ℕ) → Nearest size g → Nearest size h → g < h → ⊥
not-below size g h m n l =
    let low = m.within in
    let high = n.within in
    let next : h ≡ g + 1 = omega arith in
    even-apart g (m.half (omega arith)) (subst (λ k. k % 2 ≡ 0) next (n.half (omega arith)))

nearest-one : (size g h : ℕ) → Nearest size g → Nearest size h → g ≡ h
nearest-one size g h m n = go (dec_lt g h) (dec_lt h g)
  where
    go : Dec (g < h) → Dec (h < g) → g ≡ h
    go (yes l) below = absurd (not-below size g h m n l)
    go (no l) (yes b) = absurd (not-below size h g n m b)
    go (no l) (no b) = omega arith

pub charge-alone : (size g : ℕ) → Nearest size g → g ≡ gigabytes size
charge-alone size g n = nearest-one size g (gigabytes size) n (charge-nearest size)

-- nearest in the usual sense: no number is nearer
pub none-nearer : (size h : ℕ) → difference (10 * gigabytes size) size ≤ difference (10 * h) size
none-nearer size h = let w = charge-within size in omega arith

-- ---- sizes around a half

pub sizes-charged : map gigabytes (4 ∷ 5 ∷ 6 ∷ 15 ∷ 25 ∷ 35 ∷ []) ≡ 0 ∷ 0 ∷ 1 ∷ 2 ∷ 2 ∷ 4 ∷ []
unfolding gigabytes
sizes-charged = refl
