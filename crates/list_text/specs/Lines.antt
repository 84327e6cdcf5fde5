-- The lines that `listoptions` prints, as bytes, and what putting one into a buffer does.
use Rattle.std.specs.Prelude.{ℕ, zero, suc, ◌+◌, ◌/◌, ◌%◌, Bool, true, false, cond, List, [], ◌∷◌, ◌++◌, map, length, take, drop, ltb, leb}
use Prim.Native.Char.{code}
use Prim.Native.String as Strings
use Prim.Native.String.{String}

-- the bytes of a text of ASCII characters
abbrev pub ascii : String → List ℕ
ascii Strings.[] = []
ascii (Strings.◌∷◌ c s) = code c ∷ ascii s

-- the byte of a number's last digit; for a cloud's number, which is below 8, this is the digit of the number itself
abbrev pub digit : ℕ → ℕ
digit k = 48 + k % 10

-- the digits of n, in at most `places` places: those of n / 10, and then its last digit
unfoldable pub digits : ℕ → ℕ → List ℕ
digits zero n = []
digits (suc places) n = elim (ltb n 10) [ true ↦ digit n ∷ [] | false ↦ digits places (n / 10) ++ (digit n ∷ []) ]

-- n in decimal: n + 1 places are always enough
unfoldable pub decimal : ℕ → List ℕ
decimal n = digits (suc n) n

-- an amount after other text
abbrev pub amount_text : ℕ → List ℕ
amount_text n = ascii " " ++ decimal n

-- a row: its cost, the cloud of each block, and the amounts for storage, transfers and computing
abbrev pub row_line : (cost : ℕ) (placement : List ℕ) (blocks storage transfer cpu : ℕ) → List ℕ
row_line cost placement blocks storage transfer cpu =
    decimal cost ++ ascii " " ++ map digit (take blocks placement) ++ amount_text storage ++ amount_text transfer ++ amount_text cpu ++ ascii "\n"

-- the last line: how many options there are
abbrev pub options_line : ℕ → List ℕ
options_line count = ascii "options " ++ decimal count ++ ascii "\n"

abbrev pub refusal_line : (number place : ℕ) → List ℕ
refusal_line number place = ascii "refused " ++ decimal number ++ ascii " " ++ decimal place ++ ascii "\n"

-- the line fits into the buffer from `at` on
abbrev pub fits : List ℕ → List ℕ → ℕ → Bool
fits line buffer at = leb (at + length line) (length buffer)

-- the buffer after a text that fits was put into it at `at`
abbrev pub written : List ℕ → List ℕ → ℕ → List ℕ
written text buffer at = take at buffer ++ text ++ drop (at + length text) buffer

-- The buffer after a line was put into it at `at`, and the offset after the line. A line that does not fit changes nothing, and
-- the offset stays.
abbrev pub placed : List ℕ → List ℕ → ℕ → List ℕ
placed line buffer at = cond (fits line buffer at) (written line buffer at) buffer

abbrev pub placed_end : List ℕ → List ℕ → ℕ → ℕ
placed_end line buffer at = cond (fits line buffer at) (at + length line) at
