-- The rule of the table, carried to its rows and entries.
use Prim.Native.Nat.{ℕ, ◌+◌, ◌%◌, ◌<◌}
use native.Mathlib.Nat.{zero-add}
use native.Mathlib.Omega.{arith}
use mathlib.Core.Path.{◌≡◌, refl, ap, ◌∙◌}
use mathlib.Core.Bool.{Bool, true, false, cond}
use mathlib.Core.List.{List, []}
use lib.Dec.{eqb}
use lib.ListN.{length, get_or}
use Rattle.sequences.specs.Arrays.{table}
use Rattle.sequences.specs.Bits.{bit, bits}
use Rattle.sequences.specs.Lists.{below}
use Rattle.sequences.proofs.Bits.{bit-bits, bits-same}
use Rattle.sequences.proofs.Counting.{length-below, get_or-below}
use Rattle.sequences.proofs.Filling.{get_or-table, table_same}
use Rattle.sequences.proofs.Members.{get_d_map}
use Rattle.labels.specs.Labels.{covers, entry_of, digit_rows, row_of}
use Rattle.labels.proofs.Covering.{covers-left, covers-right}

-- a row of the table, and an entry of it
row-there : (row : ℕ) → row < 64 → get_or digit_rows row [] ≡ table 64 (λ column. 48 + entry_of row column)
unfolding digit_rows
row-there row h =
    let inside : row < length (below 64) = omega (arith, length-below 64) in
    get_d_map (λ (r : ℕ). table 64 (λ column. 48 + entry_of r column)) (below 64) row 0 [] inside ∙
    ap (λ (r : ℕ). table 64 (λ column. 48 + entry_of r column)) (get_or-below 64 row 0 h)

is_one : (b : Bool) → eqb (48 + cond b 1 0) 49 ≡ b
is_one true = refl
is_one false = refl

-- Each entry of each row says what the rule says.
pub entry_is : (row column : ℕ) → row < 64 → column < 64 → eqb (get_or (get_or digit_rows row []) column 0) 49 ≡ covers row column
entry_is row column r c =
    ap (λ (l : List ℕ). eqb (get_or l column 0) 49) (row-there row r) ∙
    ap (λ (n : ℕ). eqb n 49) (get_or-table 64 (λ k. 48 + entry_of row k) column c) ∙
    is_one (covers row column)

-- bits from 6 on do not count
pub found : (high low : ℕ) → eqb (get_or (get_or digit_rows (high % 64) []) (low % 64) 0) 49 ≡ covers high low
found high low =
    entry_is (high % 64) (low % 64) (omega arith) (omega arith) ∙ covers-left high (low % 64) ∙ covers-right high low

-- a row in a word, a bit for each entry
abbrev pub word_of : ℕ → ℕ
word_of row = bits (λ column. eqb (get_or (get_or digit_rows row []) column 0) 49) 0 64

-- the table by its rows
pub rows_in_words : table 64 word_of ≡ table 64 row_of
unfolding row_of
rows_in_words =
    table_same 64 word_of row_of (λ row h. bits-same _ (covers row) 0 64 (λ column _ c. entry_is row column h (omega arith)))

-- the row of a label, at its place
pub row_at : (label : ℕ) → get_or (table 64 row_of) (label % 64) 0 ≡ row_of label
unfolding row_of
row_at label =
    get_or-table 64 row_of (label % 64) (omega arith) ∙ bits-same (covers (label % 64)) (covers label) 0 64 (λ column _ _. covers-left label column)

-- the bits of a row
pub row-bit : (row column : ℕ) → bit (row_of row) (column % 64) ≡ covers row column
unfolding row_of
row-bit row column =
    bit-bits (covers row) 0 64 (column % 64) (omega arith) ∙ ap (covers row) (zero-add (column % 64)) ∙ covers-right row column
