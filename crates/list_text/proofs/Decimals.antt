-- The decimal of a number: a single digit, or the decimal of n / 10 and one more digit. So it has only digits, is read back, has no
-- leading zero, and has at most 20 digits for 64 bits.
use Prim.Native.Nat.{ℕ, zero, suc, ◌+◌, ◌-◌, ◌*◌, ◌/◌, ◌^◌, ◌≤◌, ◌<◌, max}
use native.Mathlib.Nat.{pow-suc, div-lt_iff_lt-mul, le-div_iff_mul-le, one-le-pow}
use native.Mathlib.Decide.{dec_lt}
use native.Mathlib.Omega.{arith}
use mathlib.Core.Path.{◌≡◌, refl, sym, ap, ◌∙◌}
use mathlib.Core.List.{List, [], ◌∷◌, ◌++◌}
use lib.ListN.{length, get_or, length-append, get_or-append}
use lib.Seq.{get_or_at}
use lib.Dec.{lit≤}
use borrow.Author.Tests.{lt-ltb, le-ltb}
use Rattle.std.specs.Fmt.{decimal as std_decimal}
use Rattle.std.proofs.lemmas.Fmt.{decimal_from_appends, length-decimal-le_succ}
use Rattle.list_text.specs.Lines.{digit, digits, decimal}
use Rattle.list_text.specs.Statements.{value_after, value, Decimal}

one_place : (places n : ℕ) → n < 10 → digits (suc places) n ≡ digit n ∷ []
unfolding digits
one_place places n h = rw (lt-ltb n 10 h, digits)

more-places : (places n : ℕ) → 10 ≤ n → digits (suc places) n ≡ digits places (n / 10) ++ (digit n ∷ [])
unfolding digits
more-places places n h = rw (le-ltb n 10 h, digits)

-- places that are not needed change nothing
enough : (a b n : ℕ) → n < a → n < b → digits a n ≡ digits b n
enough zero b n p q = absurd (omega arith)
enough (suc a) zero n p q = absurd (omega arith)
enough (suc a) (suc b) n p q = go (dec_lt n 10) (λ h. enough a b (n / 10) (omega arith) (omega arith))
  where
    go : Dec (n < 10) → (10 ≤ n → digits a (n / 10) ≡ digits b (n / 10)) → digits (suc a) n ≡ digits (suc b) n
    go (yes h) same = one_place a n h ∙ sym (one_place b n h)
    go (no h) same =
        let l : 10 ≤ n = omega arith in
        more-places a n l ∙ ap (λ s. s ++ (digit n ∷ [])) (same l) ∙ sym (more-places b n l)

pub small : (n : ℕ) → n < 10 → decimal n ≡ digit n ∷ []
unfolding decimal
small n h = one_place n n h

pub large : (n : ℕ) → 10 ≤ n → decimal n ≡ decimal (n / 10) ++ (digit n ∷ [])
unfolding decimal
large n h = more-places n n h ∙ ap (λ s. s ++ (digit n ∷ [])) (enough n (suc (n / 10)) (n / 10) (omega arith) (omega arith))

-- what holds of every digit, and of a number if it holds of its tenth, holds of every number
by-tenths : (P : ℕ → Type 0) → ((n : ℕ) → n < 10 → P n) → ((n : ℕ) → 10 ≤ n → P (n / 10) → P n) → (n : ℕ) → P n
by-tenths P alone longer n = go (suc n) n (omega arith)
  where
    step : (n : ℕ) → Dec (n < 10) → (10 ≤ n → P (n / 10)) → P n
    step n (yes h) tenth = alone n h
    step n (no h) tenth = let l : 10 ≤ n = omega arith in longer n l (tenth l)

    go : (bound n : ℕ) → n < bound → P n
    go zero n h = absurd (omega arith)
    go (suc bound) n h = step n (dec_lt n 10) (λ l. go bound (n / 10) (omega arith))

value-snoc : (front : ℕ) (s : List ℕ) (d : ℕ) → value_after front (s ++ (d ∷ [])) ≡ value_after front s * 10 + (d - 48)
value-snoc front [] d = refl
value-snoc front (x ∷ s) d = value-snoc (front * 10 + (x - 48)) s d

first-stays : (s t : List ℕ) → (get_or s 0 48 ≡ 48 → ⊥) → get_or (s ++ t) 0 48 ≡ get_or s 0 48
first-stays [] t h = absurd (h refl)
first-stays (x ∷ s) t h = refl

abbrev IsDigit : ℕ → Type 0
IsDigit d = (48 ≤ d) × (d < 58)

digits-snoc : (s : List ℕ) (d : ℕ) → ((k : ℕ) → k < length s → IsDigit (get_or s k 0)) → IsDigit d → (k : ℕ) → k < length (s ++ (d ∷ []))
    → IsDigit (get_or (s ++ (d ∷ [])) k 0)
digits-snoc s d all one k h = go (dec_lt k (length s))
  where
    go : Dec (k < length s) → IsDigit (get_or (s ++ (d ∷ [])) k 0)
    go (yes l) = rw (get_or-append s (d ∷ []) 0 k l) (all k l)
    go (no l) = rw (get_or_at s d [] 0 k (let e = length-append s (d ∷ []) in omega arith)) one

pub decimals : (n : ℕ) → Decimal n (decimal n)
decimals = by-tenths (λ n. Decimal n (decimal n)) alone longer
  where
    alone : (n : ℕ) → n < 10 → Decimal n (decimal n)
    alone n h = rw (small n h) record {
      digits = digits-snoc [] (digit n) (λ k l. absurd (omega arith)) (omega arith);
      back = omega arith;
      leading = λ e. ap (λ d. d ∷ []) e;
    }

    longer : (n : ℕ) → 10 ≤ n → Decimal (n / 10) (decimal (n / 10)) → Decimal n (decimal n)
    longer n h tenth =
        let s = decimal (n / 10) in
        let begins : get_or s 0 48 ≡ 48 → ⊥ = λ e. (let z : value s ≡ 0 = ap value (tenth.leading e) in let b = tenth.back in omega arith) in
        rw (large n h) record {
          digits = digits-snoc s (digit n) tenth.digits (omega arith);
          back = value-snoc 0 s (digit n) ∙ (let b = tenth.back in omega arith);
          leading = λ e. absurd (begins (sym (first-stays s (digit n ∷ []) begins) ∙ e));
        }

-- a number below a power of ten has at most as many digits
pub length-bound : (k n : ℕ) → n < 10 ^ suc k → length (decimal n) ≤ suc k
length-bound zero n h = rw (small n h) (lit≤ tt)
length-bound (suc k) n h = go (dec_lt n 10) (λ l. length-bound k (n / 10) ((div-lt_iff_lt-mul (omega arith)).1 (rw pow-suc at h)))
  where
    go : Dec (n < 10) → (10 ≤ n → length (decimal (n / 10)) ≤ suc k) → length (decimal n) ≤ suc (suc k)
    go (yes l) tenth = rw (small n l) (omega arith)
    go (no l) tenth = let l : 10 ≤ n = omega arith in rw (large n l, length-append) (let b = tenth l in omega arith)

pub fits_word : (n : ℕ) → n < 2 ^ 64 → length (decimal n) ≤ 20
fits_word n h = length-bound 19 n (omega arith)

pub fit_words : (a b c d : ℕ) → a < 2 ^ 64 → b < 2 ^ 64 → c < 2 ^ 64 → d < 2 ^ 64
    → length (decimal a) + length (decimal b) + length (decimal c) + length (decimal d) ≤ 80
fit_words a b c d h₁ h₂ h₃ h₄ = omega (arith, fits_word a h₁, fits_word b h₂, fits_word c h₃, fits_word d h₄)

pub fits_byte : (n : ℕ) → n < 2 ^ 8 → length (decimal n) ≤ 3
fits_byte n h = length-bound 2 n (omega arith)

-- std's decimal of a number is this one
pub std-decimal : (n : ℕ) → n < 2 ^ 64 → std_decimal n ≡ decimal n
unfolding decimal
std-decimal n h = sym (decimal_from_appends digits (record { one = one; more = more-places }) (suc n) n h (omega (arith, length-decimal-le_succ n h)))
  where
    one : (k n : ℕ) → n < 10 → digits (suc k) n ≡ (48 + n) ∷ []
    one k n l = one_place k n l ∙ ap (λ (d : ℕ). d ∷ []) (omega arith)

-- a number from a power of ten on has more digits than the power
length-least : (k n : ℕ) → 10 ^ k ≤ n → suc k ≤ length (decimal n)
length-least zero n h = go (dec_lt n 10)
  where
    go : Dec (n < 10) → 1 ≤ length (decimal n)
    go (yes l) = rw (small n l) (lit≤ tt)
    go (no l) = let l : 10 ≤ n = omega arith in rw (large n l, length-append) (omega arith)
length-least (suc k) n h =
    let whole : 10 ^ k * 10 ≤ n = rw pow-suc at h in
    let tenth : 10 ^ k ≤ n / 10 = (le-div_iff_mul-le {k = 10} (omega arith)).1 whole in
    let some : 1 ≤ 10 ^ k = one-le-pow k 10 (omega arith) in
    let least = length-least k (n / 10) tenth in
    rw (large n (omega arith), length-append) (omega arith)

-- The number of digits, by the greatest power of ten that is not above the number. Zero has as many as one.
pub places_are : (n k : ℕ) → 10 ^ k ≤ max n 1 → max n 1 < 10 * 10 ^ k → k + 1 ≡ length (decimal n)
places_are zero k low high =
    let some = length-least k 1 low in
    let few = length-bound k 1 (rw pow-suc (omega arith)) in
    let one = ap length (small 1 (omega arith)) in
    let none = ap length (small 0 (omega arith)) in
    omega arith
places_are (suc n) k low high =
    let same : max (suc n) 1 ≡ suc n = omega arith in
    let some = length-least k (suc n) (rw same at low) in
    let few = length-bound k (suc n) (rw pow-suc (omega arith)) in
    omega arith
