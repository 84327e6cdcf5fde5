-- What is proved of the lines: a decimal is read back and has no leading zero, no line is empty or longer than stated here, and worked
-- examples.
use Rattle.std.specs.Prelude.{ℕ, ◌+◌, ◌-◌, ◌*◌, ◌^◌, ◌<◌, ◌≤◌, ◌≡◌, List, [], ◌∷◌, length, get_or}
use Rattle.list_text.specs.Lines.{ascii, digit, decimal, row_line, options_line, refusal_line}
use Rattle.list_text.specs.RowLines.{bytes_of_line, words_line, lines_of}

-- the number that digits mean, after digits that mean `front`
abbrev pub value_after : ℕ → List ℕ → ℕ
value_after front [] = front
value_after front (d ∷ ds) = value_after (front * 10 + (d - 48)) ds

abbrev pub value : List ℕ → ℕ
value = value_after 0

-- s is n in decimal: it has only digits, n is read back from it, and it is not empty and begins with 0 only if it is "0" itself
pub record Decimal (n : ℕ) (s : List ℕ) : Type 0 where
  pub digits : (k : ℕ) → k < length s → (48 ≤ get_or s k 0) × (get_or s k 0 < 58)
  pub back : value s ≡ n
  pub leading : get_or s 0 48 ≡ 48 → s ≡ ascii "0"

-- a line of at most `most` bytes, and at least one, so the offset after it differs from the offset before it
pub record Sized (line : List ℕ) (most : ℕ) : Type 0 where
  pub some : 0 < length line
  pub few : length line ≤ most

pub record Sizes : Type 0 where
  pub row : (cost : ℕ) (placement : List ℕ) (blocks storage transfer cpu : ℕ) → length placement ≡ 16 → cost < 2 ^ 64 → storage < 2 ^ 64
      → transfer < 2 ^ 64 → cpu < 2 ^ 64 → Sized (row_line cost placement blocks storage transfer cpu) bytes_of_line
  pub options : (count : ℕ) → count < 2 ^ 64 → Sized (options_line count) 29
  pub refusal : (number place : ℕ) → number < 2 ^ 8 → place < 2 ^ 64 → Sized (refusal_line number place) 33

pub record RowLines : Type 0 where
  pub line : (blocks cost place storage transfer cpu : ℕ) → blocks ≤ 16 → cost < 2 ^ 64 → storage < 2 ^ 64 → transfer < 2 ^ 64 → cpu < 2 ^ 64
      → Sized (words_line blocks cost place storage transfer cpu) bytes_of_line

pub record Examples : Type 0 where
  pub zero : decimal 0 ≡ ascii "0"
  pub nine : decimal 9 ≡ ascii "9"
  pub ten : decimal 10 ≡ ascii "10"
  pub largest : decimal (2 ^ 64 - 1) ≡ ascii "18446744073709551615"
  pub row : row_line 2820 (1 ∷ 1 ∷ 1 ∷ 1 ∷ 1 ∷ 0 ∷ 0 ∷ 0 ∷ 0 ∷ 0 ∷ 0 ∷ 0 ∷ 0 ∷ 0 ∷ 0 ∷ 0 ∷ []) 5 1320 0 1500 ≡ ascii "2820 11111 1320 0 1500\n"
  pub next_row : row_line 2850 (1 ∷ 1 ∷ 1 ∷ 1 ∷ 0 ∷ 0 ∷ 0 ∷ 0 ∷ 0 ∷ 0 ∷ 0 ∷ 0 ∷ 0 ∷ 0 ∷ 0 ∷ 0 ∷ []) 5 1330 20 1500 ≡ ascii "2850 11110 1330 20 1500\n"
  -- the same two rows as words; four more words are no row
  pub rows : lines_of 5 (2820 ∷ 4681 ∷ 1320 ∷ 0 ∷ 1500 ∷ 2850 ∷ 4680 ∷ 1330 ∷ 20 ∷ 1500 ∷ 2860 ∷ 4679 ∷ 1320 ∷ 40 ∷ [])
      ≡ ascii "2820 11111 1320 0 1500\n2850 11110 1330 20 1500\n"
  pub options : options_line 6 ≡ ascii "options 6\n"
  pub refusal : refusal_line 14 0 ≡ ascii "refused 14 0\n"
  -- the bytes of two texts, written out
  pub bytes : (ascii "options " ≡ 111 ∷ 112 ∷ 116 ∷ 105 ∷ 111 ∷ 110 ∷ 115 ∷ 32 ∷ []) × (ascii "09\n" ≡ 48 ∷ 57 ∷ 10 ∷ [])
  pub clouds : (k : ℕ) → k < 8 → digit k ≡ 48 + k
