-- Arrays that a loop fills from the front, entry by entry.
use Prim.Native.Nat.{ℕ, ◌+◌, ◌-◌, ◌≤◌, ◌<◌}
use native.Mathlib.Decide.{dec_lt, ℕ_discrete}
use native.Mathlib.Omega.{arith}
use mathlib.Core.Path.{◌≡◌, refl, sym, ap, ◌∙◌}
use mathlib.Core.Bool.{cond}
use mathlib.Core.List.{List, map, map-append}
use lib.Dec.{ltb}
use lib.ListN.{length, get_or, set, take, replicate, length-set, length-map, length-replicate, get_or-eq_default}
use lib.Seq.{take_at, get_or-set_same, get_or-set_other, ext_get_or}
use borrow.Author.Tests.{lt-ltb, le-ltb}
use Rattle.sequences.specs.Arrays.{table, up_to, table_to}
use Rattle.sequences.specs.Lists.{from, below}
use Rattle.sequences.proofs.Counting.{length-below, get_or-below, from-split}
use Rattle.sequences.proofs.Indexing.{map_below, map-constant, zeros-at}
use Rattle.sequences.proofs.Members.{get_d_map}

-- a table's length, and its entries
pub length-table : (n : ℕ) (f : ℕ → ℕ) → length (table n f) ≡ n
unfolding table
length-table n f = length-map (below n) f ∙ length-below n

pub get_or-table : (n : ℕ) (f : ℕ → ℕ) (i : ℕ) → i < n → get_or (table n f) i 0 ≡ f i
unfolding table
get_or-table n f i h =
    let l : i < length (below n) = omega (arith, length-below n) in
    get_d_map f (below n) i 0 0 l ∙ ap f (get_or-below n i 0 h)

-- as a list
pub table-map : (n : ℕ) (f : ℕ → ℕ) → table n f ≡ map f (below n)
unfolding table
table-map n f = refl

-- its first entries
pub take-table : (m n : ℕ) (f : ℕ → ℕ) → n ≤ m → take n (table m f) ≡ table n f
unfolding table
take-table m n f h =
    let split : m ≡ n + (m - n) = omega arith in
    ap (λ k. take n (map f (below k))) split ∙ ap (λ l. take n (map f l)) (from-split 0 n (m - n)) ∙
    ap (take n) (map-append f (below n) (from (0 + n) (m - n))) ∙
    take_at (map f (below n)) (map f (from (0 + n) (m - n))) n (length-map (below n) f ∙ length-below n)

-- the entries of a list are the list
pub table-of-list : (n : ℕ) (l : List ℕ) → length l ≡ n → table n (λ i. get_or l i 0) ≡ l
table-of-list n l e = ext_get_or 0 (table n _) l (length-table n _ ∙ sym e) (λ i h. get_or-table n _ i (omega (arith, length-table n (λ i. get_or l i 0))))

-- two functions that agree below n
pub table_same : (n : ℕ) (f g : ℕ → ℕ) → ((i : ℕ) → i < n → f i ≡ g i) → table n f ≡ table n g
unfolding table
table_same n f g h = map_below f g n h

-- entries that are all 0
pub table-zeros : (n : ℕ) (f : ℕ → ℕ) → ((i : ℕ) → f i ≡ 0) → table n f ≡ replicate n 0
unfolding table
table-zeros n f h = map-constant f 0 0 n (λ i _. h i)

-- what holds of each entry and of 0 holds everywhere
pub table-all : (P : ℕ → Type 0) (n : ℕ) (f : ℕ → ℕ) → P 0 → ((i : ℕ) → P (f i)) → (i : ℕ) → P (get_or (table n f) i 0)
table-all P n f z h i = elim (dec_lt i n) [
  | yes l ↦ rw (get_or-table n f i l) (h i)
  | no l ↦ rw (get_or-eq_default (table n f) 0 {n = i} (omega (arith, length-table n f))) z
]

-- the first i entries of an array of n are those of f, the others are 0
pub record Filled (n : ℕ) (f : ℕ → ℕ) (a : List ℕ) (i : ℕ) : Type 0 where
  pub size : length a ≡ n
  pub upto : i ≤ n
  pub done : (j : ℕ) → j < i → get_or a j 0 ≡ f j
  pub left : (j : ℕ) → i ≤ j → get_or a j 0 ≡ 0

module _ {n : ℕ} {f : ℕ → ℕ} where
  -- none is stored yet
  pub fill_begins : Filled n f (replicate n 0) 0
  fill_begins = record { size = length-replicate n 0; upto = omega arith; done = λ j l. absurd (omega arith); left = λ j l. zeros-at n j }

  module _ {a : List ℕ} {i : ℕ} where
    -- one more
    pub fill_more : {v : ℕ} → Filled n f a i → i < n → v ≡ f i → Filled n f (set a i v) (i + 1)
    fill_more {v} k h e = record {
      size = length-set a i v ∙ k.size;
      upto = omega arith;
      done = λ j l. elim (ℕ_discrete j i) [
        | yes p ↦ rw p (get_or-set_same a i v 0 (omega (arith, k.size)) ∙ e)
        | no p ↦ get_or-set_other a i j v 0 p ∙ k.done j (omega arith)
      ];
      left = λ j l. get_or-set_other a i j v 0 (λ p. omega arith) ∙ k.left j (omega arith);
    }

    -- entries up to m that are 0 are filled already
    pub fill-skip : {m : ℕ} → Filled n f a i → i ≤ m → m ≤ n → ((j : ℕ) → i ≤ j → j < m → f j ≡ 0) → Filled n f a m
    fill-skip k l h z = record {
      size = k.size;
      upto = h;
      done = λ j b. elim (dec_lt j i) [ yes p ↦ k.done j p | no p ↦ k.left j (omega arith) ∙ sym (z j (omega arith) b) ];
      left = λ j b. k.left j (omega arith);
    }

    -- all entries are filled, or the others are 0
    pub fill-ends : Filled n f a i → n ≤ i → a ≡ table n f
    fill-ends k h =
        ext_get_or 0 a (table n f) (k.size ∙ sym (length-table n f))
        (λ j l. let m : j < n = omega (arith, k.size) in k.done j (omega arith) ∙ sym (get_or-table n f j m))

  pub fill_stops : {a : List ℕ} {i : ℕ} → Filled n f a i → ((j : ℕ) → i ≤ j → j < n → f j ≡ 0) → a ≡ table n f
  fill_stops k z = fill-ends (fill-skip k k.upto (omega arith) z) (omega arith)

-- the same up to m: an entry, one more, and all
pub get_or-table_to : (n m : ℕ) (f : ℕ → ℕ) (i : ℕ) → i < n → i < m → get_or (table_to n m f) i 0 ≡ f i
get_or-table_to n m f i h l = get_or-table n (up_to m f) i h ∙ simp (lt-ltb i m l)

module _ {n : ℕ} (m : ℕ) (f : ℕ → ℕ) {a : List ℕ} {i : ℕ} where
  pub fill-next : {v : ℕ} → Filled n (up_to m f) a i → i < n → i < m → v ≡ f i → Filled n (up_to m f) (set a i v) (i + 1)
  fill-next k h l e = fill_more k h (e ∙ sym (simp (lt-ltb i m l)))

  pub fill-last : Filled n (up_to m f) a i → m ≤ i → a ≡ table_to n m f
  fill-last k h = fill_stops k (λ j l b. simp (le-ltb j m (omega arith)))

-- two functions that agree below m
pub table_to-same : (n m k : ℕ) (f g : ℕ → ℕ) → m ≡ k → ((i : ℕ) → i < m → f i ≡ g i) → table_to n m f ≡ table_to n k g
table_to-same n m k f g e h =
    table_same n (up_to m f) (up_to m g) (λ i _. elim (dec_lt i m) [
      | yes l ↦ ap (λ (v : ℕ). cond (ltb i m) v 0) (h i l)
      | no l ↦ simp (le-ltb i m (omega arith))
    ]) ∙ ap (λ (j : ℕ). table_to n j g) e

-- an array that is lent full of zeros
pub fill-lent : {n : ℕ} {f : ℕ → ℕ} {a : List ℕ} → a ≡ replicate n 0 → Filled n f a 0
fill-lent e = rw e fill_begins

-- it keeps its length
pub fill-kept : {n : ℕ} {f : ℕ → ℕ} {a lent : List ℕ} {i : ℕ} → Filled n f a i → lent ≡ replicate n 0 → length a ≡ length lent
fill-kept {n} k e = k.size ∙ sym (ap length e ∙ length-replicate {A = ℕ} n 0)
