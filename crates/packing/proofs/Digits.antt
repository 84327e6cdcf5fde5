-- Packing: digits and number determine each other; a digit by its position; packed placements compare as their lists do.
use Prim.Native.Nat.{ℕ, zero, suc, ◌+◌, ◌-◌, ◌*◌, ◌/◌, ◌%◌, ◌^◌, ◌≤◌, ◌<◌}
use native.Mathlib.Nat.{le_refl, suc_inj, div-one, mul_assoc, pow-suc, pow-succ', pow-le-pow_right}
use native.Mathlib.Numerals.{add-one}
use native.Mathlib.Omega.{arith}
use native.Mathlib.Decide.{ℕ_discrete, dec_lt}
use mathlib.Core.Path.{◌≡◌, refl, sym, ap, ap₂, ◌∙◌}
use mathlib.Core.List.{List, [], ◌∷◌, ◌++◌, append-nil, append_assoc}
use lib.Dec.{ltb, eqb}
use lib.ListN.{length, get_or, set, take, replicate, length-append, get_or-append, get_or-eq_default}
use lib.Seq.{get_or_at, set_at, take-suc, length-take-le}
use lib.Pow.{shr-shr, pow-add}
use borrow.Author.Tests.{lt-ltb, le-ltb, eq-eqb, ne_eqb}
use Rattle.sequences.specs.Lists.{same, before}
use Rattle.sequences.proofs.Indexing.{zeros-at}
use Rattle.packing.specs.Packing.{pack_from, pack, digits, Low}

-- a packed placement of at most 16 blocks
pub place-small : (n p : ℕ) → n ≤ 16 → p < 8 ^ n → p < 2 ^ 48
place-small n p h l = omega (arith, pow-le-pow_right {n = 8} (omega arith) {i = n} {j = 16} (omega arith))

-- a shift by three bits for each digit
pub eight : (n : ℕ) → 8 ^ n ≡ 2 ^ (3 * n)
eight zero = refl
eight (suc n) =
    let e : 3 * suc n ≡ 3 * n + 3 = omega arith in
    rw (e, pow-add 2 (3 * n) 3, pow-suc 8 n, eight n)

-- no blocks have no digits
pub digits-none : (p : ℕ) → digits 0 p ≡ []
unfolding digits
digits-none p = refl

-- the last digit of one block more
pub digits_last : (n p : ℕ) → digits (suc n) p ≡ digits n (p / 8) ++ (p % 8 ∷ [])
unfolding digits
digits_last n p = refl

pub digits-length : (n p : ℕ) → length (digits n p) ≡ n
unfolding digits
digits-length zero p = refl
digits-length (suc n) p = omega (arith, length-append (digits n (p / 8)) (p % 8 ∷ []), digits-length n (p / 8))

-- one block more
pub digits-snoc : (n p c : ℕ) → c < 8 → digits (suc n) (p * 8 + c) ≡ digits n p ++ (c ∷ [])
unfolding digits
digits-snoc n p c h =
    let a : (p * 8 + c) / 8 ≡ p = omega arith in
    let b : (p * 8 + c) % 8 ≡ c = omega arith in
    ap₂ (λ x y. digits n x ++ (y ∷ [])) a b

pack_from-snoc : (a : ℕ) (q : List ℕ) (k : ℕ) → pack_from a (q ++ (k ∷ [])) ≡ pack_from a q * 8 + k
pack_from-snoc a [] k = refl
pack_from-snoc a (j ∷ q) k = pack_from-snoc (a * 8 + j) q k

pub pack-snoc : (q : List ℕ) (k : ℕ) → pack (q ++ (k ∷ [])) ≡ pack q * 8 + k
unfolding pack
pack-snoc q k = pack_from-snoc 0 q k

pub pack-digits : (n p : ℕ) → p < 8 ^ n → pack (digits n p) ≡ p
unfolding digits pack
pack-digits zero p h = omega (arith, h)
pack-digits (suc n) p h =
    let l : p / 8 < 8 ^ n = omega (arith, pow-suc 8 n) in
    let i : pack_from 0 (digits n (p / 8)) ≡ p / 8 = pack-digits n (p / 8) l in
    omega (arith, pack_from-snoc 0 (digits n (p / 8)) (p % 8))

digits-pack_from : (m a : ℕ) (q : List ℕ) → Low q → digits (m + length q) (pack_from a q) ≡ digits m a ++ q
digits-pack_from m a [] l = let e : m + 0 ≡ m = omega arith in rw e (sym (append-nil (digits m a)))
digits-pack_from m a (k ∷ q) l =
    let e : m + suc (length q) ≡ suc m + length q = omega arith in
    rw e (digits-pack_from (suc m) (a * 8 + k) q (λ i. l (suc i)) ∙ ap (λ d. d ++ q) (digits-snoc m a k (l 0)) ∙ append_assoc (digits m a) (k ∷ []) q)

pub digits-pack : (n : ℕ) (q : List ℕ) → length q ≡ n → Low q → digits n (pack q) ≡ q
unfolding digits pack
digits-pack n q h l = let e : 0 + length q ≡ n = omega arith in rw e at (digits-pack_from 0 0 q l)

-- ---- a digit by its position

last-digit : (k d p : ℕ) → d ≡ k → get_or (digits (suc k) p) d 0 ≡ p / 2 ^ (3 * (k - d)) % 8
unfolding digits
last-digit k d p e =
    let z : 3 * (k - d) ≡ 0 = omega arith in
    rw z (get_or_at (digits k (p / 8)) (p % 8) [] 0 d (digits-length k (p / 8) ∙ sym e) ∙ ap (λ x. x % 8) (sym (div-one p)))

digit_at : (k d p : ℕ) → d ≤ k → get_or (digits (suc k) p) d 0 ≡ p / 2 ^ (3 * (k - d)) % 8
unfolding digits
digit_at zero d p h = last-digit 0 d p (omega arith)
digit_at (suc j) d p h = elim (ℕ_discrete d (suc j)) [
  | yes e ↦ last-digit (suc j) d p e
  | no n ↦
      let z : 3 * (suc j - d) ≡ 3 + 3 * (j - d) = omega arith in
      rw z (get_or-append (digits (suc j) (p / 8)) (p % 8 ∷ []) 0 d (omega (arith, digits-length (suc j) (p / 8)))
      ∙ digit_at j d (p / 8) (omega arith) ∙ ap (λ x. x % 8) (shr-shr p 3 (3 * (j - d))))
]

-- the digit of block b
pub digit : (n b p : ℕ) → b < n → get_or (digits n p) b 0 ≡ p / 2 ^ (3 * (n - 1 - b)) % 8
digit zero b p h = absurd (omega arith)
digit (suc k) b p h = let e : suc k - 1 ≡ k = omega arith in rw e (digit_at k b p (omega arith))

pub digits_low : (n p : ℕ) → Low (digits n p)
digits_low n p i = elim (dec_lt i n) [
  | yes h ↦ omega (arith, digit n i p h)
  | no h ↦ omega (arith, get_or-eq_default (digits n p) 0 {n = i} (omega (arith, digits-length n p)))
]

-- also with zeros after them
pub padded-low : (n p m : ℕ) → Low (digits n p ++ replicate m 0)
padded-low n p m = go (digits n p) (digits_low n p)
  where
    go : (q : List ℕ) → Low q → Low (q ++ replicate m 0)
    go [] l i = omega (arith, zeros-at m i)
    go (k ∷ q) l zero = l 0
    go (k ∷ q) l (suc i) = go q (λ j. l (suc j)) i

-- ---- order

-- a lower start makes a lower number
pub pack-less : (a b : ℕ) (p q : List ℕ) → length p ≡ length q → Low p → a < b → pack_from a p < pack_from b q
pack-less a b [] [] e l h = h
pack-less a b [] (y ∷ q) e l h = absurd (omega arith)
pack-less a b (x ∷ p) [] e l h = absurd (omega arith)
pack-less a b (x ∷ p) (y ∷ q) e l h =
    pack-less (a * 8 + x) (b * 8 + y) p q (suc_inj e) (λ i. l (suc i)) (omega (arith, l 0))

-- zeros after a number scale it up
pub pack_from-zeros : (a n : ℕ) → pack_from a (replicate n 0) ≡ a * 8 ^ n
pack_from-zeros a zero = omega arith
pack_from-zeros a (suc n) =
    let e : a * 8 + 0 ≡ a * 8 = omega arith in
    pack_from-zeros (a * 8 + 0) n ∙ rw (e, mul_assoc, pow-succ')

pack_from-before : (a : ℕ) (p q : List ℕ) → length p ≡ length q → Low p → Low q → ltb (pack_from a p) (pack_from a q) ≡ before p q
pack_from-before a [] [] e l m = le-ltb a a (le_refl a)
pack_from-before a [] (y ∷ q) e l m = absurd (omega arith)
pack_from-before a (x ∷ p) [] e l m = absurd (omega arith)
pack_from-before a (x ∷ p) (y ∷ q) e l m = elim (ℕ_discrete x y) [
  | yes h ↦ rw h (simp (le-ltb y y (le_refl y), eq-eqb y y refl) (pack_from-before (a * 8 + y) p q (suc_inj e) (λ i. l (suc i)) (λ i. m (suc i))))
  | no h ↦ elim (dec_lt x y) [
    | yes u ↦ simp (lt-ltb x y u)
        (lt-ltb (pack_from (a * 8 + x) p) (pack_from (a * 8 + y) q) (pack-less (a * 8 + x) (a * 8 + y) p q (suc_inj e) (λ i. l (suc i)) (omega arith)))
    | no u ↦ simp (le-ltb x y (omega arith), ne_eqb x y h)
        (le-ltb (pack_from (a * 8 + x) p) (pack_from (a * 8 + y) q)
        (omega (arith, pack-less (a * 8 + y) (a * 8 + x) q p (sym (suc_inj e)) (λ i. m (suc i)) (omega arith))))
  ]
]

-- numeric order is lexicographic order
pub pack-before : (p q : List ℕ) → length p ≡ length q → Low p → Low q → ltb (pack p) (pack q) ≡ before p q
unfolding pack
pack-before p q = pack_from-before 0 p q

pack_from-same : (a : ℕ) (p q : List ℕ) → length p ≡ length q → Low p → Low q → eqb (pack_from a p) (pack_from a q) ≡ same p q
pack_from-same a [] [] e l m = eq-eqb a a refl
pack_from-same a [] (y ∷ q) e l m = absurd (omega arith)
pack_from-same a (x ∷ p) [] e l m = absurd (omega arith)
pack_from-same a (x ∷ p) (y ∷ q) e l m = elim (ℕ_discrete x y) [
  | yes h ↦ rw h (simp (eq-eqb y y refl) (pack_from-same (a * 8 + y) p q (suc_inj e) (λ i. l (suc i)) (λ i. m (suc i))))
  | no h ↦ simp (ne_eqb x y h) (ne_eqb (pack_from (a * 8 + x) p) (pack_from (a * 8 + y) q) (λ f. elim (dec_lt x y) [
    | yes u ↦ omega (arith, pack-less (a * 8 + x) (a * 8 + y) p q (suc_inj e) (λ i. l (suc i)) (omega arith))
    | no u ↦ omega (arith, pack-less (a * 8 + y) (a * 8 + x) q p (sym (suc_inj e)) (λ i. m (suc i)) (omega arith))
  ]))
]

-- packed placements are equal exactly if the placements are
pub pack-same : (p q : List ℕ) → length p ≡ length q → Low p → Low q → eqb (pack p) (pack q) ≡ same p q
unfolding pack
pack-same p q = pack_from-same 0 p q

-- ---- sixteen bytes

-- the next element of a list, stored after the earlier ones
pub fill-next : (l : List ℕ) (b : ℕ) → b < length l → length l ≤ 16
    → set (take b l ++ replicate (16 - b) 0) b (get_or l b 0) ≡ take (b + 1) l ++ replicate (16 - (b + 1)) 0
fill-next l b h k =
    let e : 16 - b ≡ suc (16 - (b + 1)) = omega arith in
    rw e (set_at (take b l) 0 (replicate (16 - (b + 1)) 0) (get_or l b 0) b (length-take-le b l (omega arith))
    ∙ sym (append_assoc (take b l) (get_or l b 0 ∷ []) (replicate (16 - (b + 1)) 0))
    ∙ ap (λ x. x ++ replicate (16 - (b + 1)) 0) (sym (ap (λ n. take n l) (add-one b) ∙ take-suc l b 0 h)))

-- the same for one block more than k
pub digit-below : (k d p : ℕ) → d ≤ k → get_or (digits (suc k) p) d 0 ≡ p / 2 ^ (3 * (k - d)) % 8
digit-below k d p h = let e : suc k - 1 - d ≡ k - d = omega arith in digit (suc k) d p (omega arith) ∙ (rw e refl)
