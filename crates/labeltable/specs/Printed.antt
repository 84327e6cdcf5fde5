-- What `labeltable` prints: a line for each row of the table of labels.
use Rattle.std.specs.Prelude.{ℕ, ◌+◌, ◌/◌, ◌%◌, cond, List, [], ◌∷◌, ◌++◌, map, eqb}
use Rattle.labels.specs.Labels.{entry_of}
use Rattle.sequences.specs.Lists.{below, joined}

-- the digit of an entry, 0 or 1, and the newline byte, in ASCII
abbrev digit : ℕ → ℕ
digit entry = 48 + entry

abbrev newline : ℕ
newline = 10

-- a row as 64 digits and a newline byte
abbrev pub row_line : ℕ → List ℕ
row_line row = map (λ column. digit (entry_of row column)) (below 64) ++ (newline ∷ [])

unfoldable pub printed : List ℕ
printed = joined (map row_line (below 64))

-- the same by the place of a byte: lines of 65
abbrev pub byte_at : ℕ → ℕ
byte_at k = cond (eqb (k % 65) 64) newline (digit (entry_of (k / 65) (k % 65)))
