-- The floor of sixteen bytes: bytes are packed one by one while they are below 8; at one that is not, the next number is scaled up.
use Prim.Native.Nat.{ℕ, zero, suc, ◌+◌, ◌-◌, ◌*◌, ◌^◌, ◌≤◌, ◌<◌}
use native.Mathlib.Omega.{arith}
use native.Mathlib.Decide.{ℕ_discrete, dec_lt}
use mathlib.Core.Path.{◌≡◌, refl, sym, ap}
use mathlib.Core.Bool.{true, false, not, cond}
use mathlib.Core.List.{List, [], ◌∷◌, ◌++◌}
use lib.Dec.{ltb}
use lib.ListN.{length, get_or, drop, replicate, length-replicate}
use borrow.Author.Tests.{lt-ltb, le-ltb, eq-eqb, ne_eqb}
use Rattle.sequences.specs.Lists.{before}
use Rattle.sequences.proofs.Loops.{rest}
use Rattle.packing.specs.Packing.{pack_from, pack, Low}
use Rattle.packing.specs.Floors.{FloorOf}
use Rattle.packing.proofs.Digits.{eight, pack-less, pack_from-zeros}

-- the floor of n more bytes, with those before them packed as `a`
abbrev pub floor_from : (a n : ℕ) → List ℕ → ℕ
floor_from a zero bytes = a + 1
floor_from a (suc n) [] = pack_from (a + 1) (replicate (suc n) 0)
floor_from a (suc n) (b ∷ bytes) = cond (ltb b 8) (floor_from (a * 8 + b) n bytes) (pack_from (a + 1) (replicate (suc n) 0))

zeros-least : (a b : ℕ) (q : List ℕ) → a ≤ b → pack_from a (replicate (length q) 0) ≤ pack_from b q
zeros-least a b [] h = h
zeros-least a b (k ∷ q) h = zeros-least (a * 8 + 0) (b * 8 + k) q (omega arith)

-- nothing is before zeros
before-zeros : (bytes : List ℕ) → before bytes (replicate (length bytes) 0) ≡ false
before-zeros [] = refl
before-zeros (zero ∷ bytes) = before-zeros bytes
before-zeros (suc b ∷ bytes) = simp (le-ltb (suc b) 0 (omega arith), ne_eqb (suc b) 0 (λ e. omega arith))

-- a floor is at most what starts above it, and above what starts below it
floor-most : (a b : ℕ) (bytes q : List ℕ) → a < b → floor_from a (length q) bytes ≤ pack_from b q
floor-most a b bytes [] h = omega arith
floor-most a b [] (k ∷ q) h = zeros-least (a + 1) b (k ∷ q) (omega arith)
floor-most a b (x ∷ bytes) (k ∷ q) h = elim (dec_lt x 8) [
  | yes u ↦ rw (lt-ltb x 8 u) (floor-most (a * 8 + x) (b * 8 + k) bytes q (omega arith))
  | no u ↦ rw (le-ltb x 8 (omega arith)) (zeros-least (a + 1) b (k ∷ q) (omega arith))
]

floor-above : (a b : ℕ) (bytes q : List ℕ) → Low q → a < b → pack_from a q < floor_from b (length q) bytes
floor-above a b bytes [] l h = omega arith
floor-above a b [] (k ∷ q) l h =
    pack-less a (b + 1) (k ∷ q) (replicate (suc (length q)) 0) (ap suc (sym (length-replicate (length q) 0))) l (omega arith)
floor-above a b (x ∷ bytes) (k ∷ q) l h = elim (dec_lt x 8) [
  | yes u ↦ rw (lt-ltb x 8 u) (floor-above (a * 8 + k) (b * 8 + x) bytes q (λ i. l (suc i)) (omega (arith, l 0)))
  | no u ↦ rw (le-ltb x 8 (omega arith))
      (pack-less a (b + 1) (k ∷ q) (replicate (suc (length q)) 0) (ap suc (sym (length-replicate (length q) 0))) l (omega arith))
]

floor-after : (a m : ℕ) (bytes q : List ℕ) → length bytes ≡ length q + m → Low q
    → before bytes (q ++ replicate m 0) ≡ not (ltb (pack_from a q) (floor_from a (length q) bytes))
floor-after a m bytes [] e l =
    let f : m ≡ length bytes = omega arith in
    rw (lt-ltb a (a + 1) (omega arith), f) (before-zeros bytes)
floor-after a m [] (k ∷ q) e l = absurd (omega arith)
floor-after a m (x ∷ bytes) (k ∷ q) e l = elim (dec_lt x 8) [
  | no u ↦
      let low : ltb (pack_from a (k ∷ q)) (pack_from (a + 1) (replicate (suc (length q)) 0)) ≡ true =
      lt-ltb _ _ (pack-less a (a + 1) (k ∷ q) (replicate (suc (length q)) 0) (ap suc (sym (length-replicate (length q) 0))) l (omega arith)) in
      simp (le-ltb x 8 (omega arith), le-ltb x k (omega (arith, l 0)), ne_eqb x k (λ f. omega (arith, l 0)), low)
  | yes u ↦ elim (ℕ_discrete x k) [
    | yes f ↦ rw (f, lt-ltb k 8 (l 0)) (simp (le-ltb k k (omega arith), eq-eqb k k refl) (floor-after (a * 8 + k) m bytes q (omega arith) (λ i. l (suc i))))
    | no f ↦ elim (dec_lt x k) [
      | yes v ↦
          let most = floor-most (a * 8 + x) (a * 8 + k) bytes q (omega arith) in
          simp (lt-ltb x 8 u, lt-ltb x k v, le-ltb (pack_from (a * 8 + k) q) (floor_from (a * 8 + x) (length q) bytes) most)
      | no v ↦
          let above = floor-above (a * 8 + k) (a * 8 + x) bytes q (λ i. l (suc i)) (omega arith) in
          let low = lt-ltb (pack_from (a * 8 + k) q) (floor_from (a * 8 + x) (length q) bytes) above in
          simp (lt-ltb x 8 u, le-ltb x k (omega arith), ne_eqb x k f, low)
    ]
  ]
]

-- `floor_from` is the floor
pub floor-is : (bytes : List ℕ) (n : ℕ) → n ≤ 16 → length bytes ≡ 16 → FloorOf bytes n (floor_from 0 n bytes)
unfolding pack
floor-is bytes n h e = record {
  within =
      let z = length-replicate {A = ℕ} n 0 in
      omega (arith, rw z at (floor-most 0 1 bytes (replicate n 0) (omega arith)), pack_from-zeros 1 n);
  after = λ q f l. rw (← f) (floor-after 0 (16 - length q) bytes q (omega arith) l);
}

module _ (a n b : ℕ) (bytes : List ℕ) (h : b < n) (l : n ≤ length bytes) where
  -- a byte that is a cloud is packed
  pub floor-next : get_or bytes b 0 < 8 → floor_from a (n - b) (drop b bytes) ≡ floor_from (a * 8 + get_or bytes b 0) (n - (b + 1)) (drop (b + 1) bytes)
  floor-next u =
      let e : n - b ≡ suc (n - (b + 1)) = omega arith in
      rw (e, rest bytes 0 b (omega arith), lt-ltb (get_or bytes b 0) 8 u)

  -- at one that is not, the next number is scaled up
  pub floor-stop : 8 ≤ get_or bytes b 0 → floor_from a (n - b) (drop b bytes) ≡ (a + 1) * 2 ^ (3 * (n - b))
  floor-stop u =
      let e : n - b ≡ suc (n - (b + 1)) = omega arith in
      rw (e, rest bytes 0 b (omega arith), le-ltb (get_or bytes b 0) 8 u, ← eight (suc (n - (b + 1)))) (pack_from-zeros (a + 1) (suc (n - (b + 1))))
