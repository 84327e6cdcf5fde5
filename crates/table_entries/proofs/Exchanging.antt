-- The table of exchanges: made from the other tables it is what the description says, and its bits say where a datum would do better.
use Prim.Native.Nat.{ℕ, zero, suc, ◌+◌, ◌-◌, ◌*◌, ◌/◌, ◌%◌, ◌≤◌, ◌<◌}
use native.Mathlib.Nat.{zero-add, add-mul, mul-zero, mul-one, mul_assoc, mul-le-mul, le_refl}
use native.Mathlib.Decide.{dec_lt}
use native.Mathlib.Omega.{arith}
use mathlib.Core.Path.{◌≡◌, refl, sym, ap, ap₂, ◌∙◌}
use mathlib.Core.Bool.{Bool, true, false, ◌&&◌, ◌||◌, cond, false≢true}
use mathlib.Core.List.{List, [], ◌∷◌, ◌++◌}
use lib.Dec.{ltb, eqb}
use lib.ListN.{length, get_or, take, replicate}
use borrow.Author.Tests.{lt-ltb, le-ltb, eq-eqb, ne_eqb}
use Rattle.description.specs.declared.workflow.Cloud.{Cloud}
use Rattle.description.specs.declared.workflow.Kind.{Kind}
use Rattle.description.specs.declared.workflow.Kind.TheVariants.{Datum, Service}
use Rattle.description.specs.Declarations.{Description, cloud, block, is_datum}
use Rattle.description.specs.declared.workflow.Way.TheVariants.{Reads, Writes}
use Rattle.description.specs.Invariants.{WellFormed}
use Rattle.security.specs.Soundness.{may_stand}
use Rattle.security.proofs.Choices.{no-cloud}
use Rattle.security.proofs.PermittedClouds.{mask_at, mask-stands}
use Rattle.costs.specs.Cost.{gigabytes, storage_of, copy_of}
use Rattle.costs.specs.Terms.{block_term}
use Rattle.costs.proofs.Charges.{datum-charge}
use Rattle.options.specs.Representatives.{exchanges}
use Rattle.options.proofs.Exchanges.{exchanges-are}
use Rattle.sequences.specs.Lists.{before}
use Rattle.sequences.proofs.Lexicographic.{before-as}
use Rattle.sequences.specs.Bits.{bit}
use Rattle.visit.specs.Tables.{tables, exchange}
use Rattle.sequences.specs.Bits.{bits}
use Rattle.security.specs.Masks.{mask_of}
use Rattle.table_entries.specs.Building.{own_of, only, of_pair, pair_at, exchange_bits, exchange_at, exchanges_of, kept_longer, deciding}
use Rattle.table_entries.specs.Building.{better_by, bits_by, may_exchange, exchange_by, exchanges_by, words_of, bytes_of, tables_of}
use Rattle.sequences.proofs.Bits.{bit-bits, bits-same, bits-cut}
use Rattle.sequences.proofs.Filling.{get_or-table, get_or-table_to, table_to-same}
use Rattle.table_entries.proofs.Places.{own_in, mask-in, last-in, other_last}
use Rattle.table_entries.proofs.Paired.{first-of-pair}

-- ---- two pairs of numbers

nothing-more : (s t : Bool) → (s || (t && false)) ≡ s
nothing-more true t = refl
nothing-more false true = refl
nothing-more false false = refl

-- the first numbers decide, and if they are equal, the second
pub pairs-tie : (x y k h : ℕ) → x ≡ y → before (x ∷ k ∷ []) (y ∷ h ∷ []) ≡ ltb k h
pairs-tie x y k h e = simp (le-ltb x y (omega arith), eq-eqb x y e) (nothing-more (ltb k h) (eqb k h))

pub pairs-differ : (x y k h : ℕ) → (x ≡ y → ⊥) → before (x ∷ k ∷ []) (y ∷ h ∷ []) ≡ ltb x y
pairs-differ x y k h e = simp (ne_eqb x y e) (nothing-more (ltb x y) false)

-- ---- entries

where-passed : (t : Bool) (x y : ℕ) → (t ≡ true → x ≡ y) → cond t x 0 ≡ cond t y 0
where-passed true x y h = h refl
where-passed false x y h = refl

-- if an entry has no exchange, the rest of its row has none
pub none_after : (bytes : List ℕ) (clouds i j : ℕ) → may_exchange bytes clouds i ≡ false → i % 8 ≤ j % 8 → j / 8 ≡ i / 8 → may_exchange bytes clouds j ≡ false
none_after bytes clouds i j h l row = elim (dec_lt (j % 8) clouds) [
  | yes there ↦
      let pair : ltb (get_or bytes (97 + 2 * (i / 8)) 0) 16 ≡ false = simp (lt-ltb (i % 8) clouds (omega arith)) at h in
      simp (row, lt-ltb (j % 8) clouds there) pair
  | no past ↦ simp (le-ltb (j % 8) clouds (omega arith))
]

-- what a block adds
pub own_at : (d : Description) (b k : ℕ) → b < 16 → k < 8 → get_or (words_of d) (b * 8 + k) 0 ≡ block_term d b k
unfolding own_of
own_at d b k h l =
    let i = b * 8 + k in
    let low : i < 128 = omega arith in
    let quo : i / 8 ≡ b = omega arith in
    let rem : i % 8 ≡ k = omega arith in
    own_in d i low ∙ get_or-table 128 (λ j. block_term d (j / 8) (j % 8)) i low ∙ ap₂ (block_term d) quo rem

-- a block's mask
pub mask_is : (d : Description) (last : List ℕ) (b : ℕ) → b < 16 → get_or (bytes_of d last) (81 + b) 0 ≡ mask_of d b
mask_is d last b low = mask-in d last b low ∙ mask_at d b low

-- ---- what decides between two ends

-- if a < b and n is at least 2, then a * n is below b * n by more than b exceeds a
more-apart : (a b n : ℕ) → 2 ≤ n → a < b → (a * n < b * n) × (a * n + b < b * n + a)
more-apart a b n two low =
    let whole : b ≡ a + (b - a) = omega arith in
    let parts : b * n ≡ a * n + (b - a) * n = ap (λ (m : ℕ). m * n) whole ∙ add-mul a (b - a) n in
    let twice : (b - a) * 2 ≤ (b - a) * n = mul-le-mul (le_refl (b - a)) two in
    (omega arith, omega arith)

-- so a copy on the other end makes no difference
copies-pass : (a b n : ℕ) (xs ys : List ℕ) → 2 ≤ n → before ((a * n + b) ∷ xs) ((b * n + a) ∷ ys) ≡ before ((a * n) ∷ xs) ((b * n) ∷ ys)
copies-pass a b n xs ys two =
    let tied : a ≡ b → (a * n ≡ b * n) × (a * n + b ≡ b * n + a) = λ e. (ap (λ (m : ℕ). m * n) e, ap₂ (λ (m k : ℕ). m * n + k) e (sym e)) in
    before-as a b (a * n + b) (b * n + a) xs ys (λ l. (more-apart a b n two l).1) (λ e. (tied e).1) (λ h. (more-apart b a n two h).1) ∙
    sym (before-as a b (a * n) (b * n) xs ys (λ l. (more-apart a b n two l).0) (λ e. (tied e).0) (λ h. (more-apart b a n two h).0))

-- Comparing what decides orders two ends as comparing all that they cost does.
decides : (c e : Cloud) (kind : Kind) (xs ys : List ℕ)
    → before (deciding kind c e ∷ xs) (deciding kind e c ∷ ys) ≡ before ((storage_of c kind + copy_of e kind) ∷ xs) ((storage_of e kind + copy_of c kind) ∷ ys)
decides c e (Datum size zero) xs ys =
    let g = gigabytes size in
    rw (mul-zero g, mul-zero c.storage, mul-zero e.storage, zero-add (e.storage * g), zero-add (c.storage * g)) refl
decides c e (Datum size (suc zero)) xs ys =
    let g = gigabytes size in
    let even = before-as 0 0 (c.storage * g + e.storage * g) (e.storage * g + c.storage * g) xs ys
    (λ l. absurd (omega arith)) (λ _. omega arith) (λ h. absurd (omega arith)) in
    rw (mul-one g, mul-zero c.storage, mul-zero e.storage) (sym even)
decides c e (Datum size (suc (suc longevity))) xs ys =
    let g = gigabytes size in
    let n = suc (suc longevity) in
    let longer : ltb 1 n ≡ true = lt-ltb 1 n (omega arith) in
    rw (longer, ← mul_assoc c.storage g n, ← mul_assoc e.storage g n)
    (sym (copies-pass (c.storage * g) (e.storage * g) n xs ys (omega arith)))
decides c e (Service clearance units) xs ys = rw (mul-zero c.storage, mul-zero e.storage) refl

longer-datum : (k : Kind) → kept_longer k ≡ true → is_datum k ≡ true
longer-datum (Datum size longevity) t = refl
longer-datum (Service clearance units) t = absurd (false≢true t)

-- the words of the walk have the storage of such a datum
pub words-storage : (d : Description) (m k h : ℕ) → m < 16 → k < 8 → kept_longer (block d m).kind ≡ true
    → get_or (words_of d) (m * 8 + k) 0 ≡ deciding (block d m).kind (cloud d k) (cloud d h)
words-storage d m k h low klow t = own_at d m k low klow ∙ datum-charge d m k (longer-datum (block d m).kind t) ∙ sym (simp t)

module _ (d : Description) (wf : WellFormed d) where
  -- the pair of datum m
  pair_of : (m : ℕ) → pair_at d (2 * m) ≡ of_pair (only d Writes m) (only d Reads m) 0
  pair_of m =
      let q : 2 * m / 2 ≡ m = omega arith in
      let r : 2 * m % 2 ≡ 0 = omega arith in
      ap₂ (λ (a b : ℕ). of_pair (only d Writes a) (only d Reads a) b) q r

  -- for a datum, by its mask
  better-is : (last : List ℕ) (m h k : ℕ) → m < length d.blocks → k < 8 → better_by d (get_or (bytes_of d last) (81 + m) 0) m h k ≡ exchanges d m h k
  better-is last m h k there klow =
      let low : m < 16 = omega (arith, wf.limits.blocks) in
      ap₂ ◌&&◌ (ap (λ (x : ℕ). bit x k) (mask_is d last m low) ∙ mask-stands d m k there klow)
      (decides (cloud d k) (cloud d h) (block d m).kind (k ∷ []) (h ∷ [])) ∙ sym (exchanges-are d m h k)

  -- only on declared clouds
  no-exchange : (m h k : ℕ) → m < length d.blocks → length d.clouds ≤ k → exchanges d m h k ≡ false
  no-exchange m h k there past = exchanges-are d m h k ∙ simp (no-cloud d m k there past)

  -- an entry by the other tables
  exchange-is : (last : List ℕ) (i : ℕ) → i < length d.blocks * 8 → exchange_by d (bytes_of d last) (length d.clouds) i ≡ exchange_at d i
  exchange-is last i h =
      let m = i / 8 in
      let c = i % 8 in
      let n = length d.clouds in
      let there : m < length d.blocks = omega arith in
      let few = wf.limits.clouds in
      let tell = first-of-pair d wf last m there in
      let mask = get_or (bytes_of d last) (81 + m) 0 in
      let permitted = ap (λ (x : ℕ). bit x c) (mask_is d last m (omega (arith, wf.limits.blocks))) ∙ mask-stands d m c there (omega arith) in
      ap (λ (p : ℕ). cond (ltb c n && ltb p 16) (bits_by d mask n m c) 0) (tell ∙ sym (pair_of m)) ∙
      where-passed (ltb c n && ltb (pair_at d (2 * m)) 16) (bits_by d mask n m c) (exchange_bits d m c) (λ _.
      ap₂ (λ (t : Bool) (x : ℕ). cond t x 0) permitted
      (bits-same _ (exchanges d m c) 0 n (λ k l u. better-is last m c k there (omega arith)) ∙
      bits-cut (exchanges d m c) n 8 few (λ k l. no-exchange m c k there l)))

  -- a bit of the table of the description
  pub exchange-bit : (m h k : ℕ) → m < length d.blocks → h < length d.clouds → may_stand d m h ≡ true → k < 8
      → of_pair (only d Writes m) (only d Reads m) 0 < 16 → bit (exchange (tables_of d) (m * 8 + h)) k ≡ exchanges d m h k
  unfolding tables_of exchanges_of
  exchange-bit m h k there declared stands klow pair =
      let i = m * 8 + h in
      let few = wf.limits.clouds in
      let quo : i / 8 ≡ m = omega arith in
      let rem : i % 8 ≡ h = omega arith in
      let low : i < 128 = omega (arith, wf.limits.blocks) in
      let first : pair_at d (2 * m) < 16 = rw (pair_of m) pair in
      let entry : get_or (exchanges_of d) i 0 ≡ bits (exchanges d m h) 0 8 =
      get_or-table_to 128 (length d.blocks * 8) (exchange_at d) i low (omega arith) ∙
      rw (quo, rem) (simp (lt-ltb h (length d.clouds) declared, lt-ltb (pair_at d (2 * m)) 16 first, stands)) in
      ap (λ (x : ℕ). bit x k) (last-in d (exchanges_of d) i ∙ entry) ∙ bit-bits (exchanges d m h) 0 8 k klow ∙ ap (exchanges d m h) (zero-add k)

  -- ---- all tables, with the exchanges after the others

  pub tables-are : {words before after : List ℕ} {blocks clouds : ℕ} → words ≡ words_of d → before ≡ bytes_of d (replicate 128 0)
      → blocks ≡ length d.blocks → clouds ≡ length d.clouds
      → after ≡ take 266 before ++ exchanges_by d before blocks clouds → tables words after ≡ tables_of d
  unfolding tables_of exchanges_of
  tables-are {words} {before} {blocks = blocks} {clouds = clouds} w b m n e =
      let zeros : List ℕ = replicate 128 0 in
      let count = ap (λ (x : ℕ). x * 8) m in
      let last : exchanges_by d before blocks clouds ≡ exchanges_of d =
      table_to-same 128 (blocks * 8) (length d.blocks * 8) (exchange_by d before clouds) (exchange_at d) count (λ i l.
      let by : exchange_by d before clouds i ≡ exchange_by d (bytes_of d zeros) (length d.clouds) i = rw (b, n) refl in
      by ∙ exchange-is zeros i (omega (arith, count))) in
      ap₂ tables w (e ∙ ap₂ (λ (x y : List ℕ). take 266 x ++ y) b last ∙ other_last d zeros (exchanges_of d))
