-- Labels: clouds and data have one, services have two, a location and a clearance. Bits 0 to 3 are the level, bit 4 is the embargo mark, bit 5
-- the source mark.
use Rattle.std.specs.Prelude.{ℕ, ◌+◌, ◌/◌, ◌%◌, ◌≤◌, ◌≡◌, Bool, not, ◌&&◌, ◌||◌, cond, ltb, leb, List, map}
use Rattle.sequences.specs.Arrays.{table}
use Rattle.sequences.specs.Bits.{bit, bits}
use Rattle.sequences.specs.Lists.{below}

-- a byte above 63 is no label
abbrev pub no_label : ℕ → Bool
no_label byte = ltb 63 byte

abbrev pub level_of : ℕ → ℕ
level_of label = label % 16

-- the label has the mark
abbrev pub embargoed : ℕ → Bool
embargoed label = bit label 4

abbrev pub names_source : ℕ → Bool
names_source label = bit label 5

-- One label covers another: its level is at least as high, and it has every mark of the other. Each ≥ between labels in the rules is this.
unfoldable pub covers : (high low : ℕ) → Bool
covers high low =
    leb (level_of low) (level_of high) && (not (embargoed low) || embargoed high) && (not (names_source low) || names_source high)

-- The same in numbers, without the tests: bit 4 of a label is label / 16 % 2, bit 5 is label / 32 % 2.
pub record Covers (high low : ℕ) : Type 0 where
  pub level : low % 16 ≤ high % 16
  pub embargo : low / 16 % 2 ≡ 1 → high / 16 % 2 ≡ 1
  pub source : low / 32 % 2 ≡ 1 → high / 32 % 2 ≡ 1

-- the table's entry: 1 if the row's label covers the column's
abbrev pub entry_of : (row column : ℕ) → ℕ
entry_of row column = cond (covers row column) 1 0

-- the table: 64 rows of 64 entries, as digits in ASCII
unfoldable pub digit_rows : List (List ℕ)
digit_rows = map (λ row. table 64 (λ column. 48 + entry_of row column)) (below 64)

-- a row of 64 entries in a word, bit c for column c
unfoldable pub row_of : ℕ → ℕ
row_of row = bits (covers row) 0 64
