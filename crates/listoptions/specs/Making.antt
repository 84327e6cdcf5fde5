-- How the program makes what it prints: pages of the lines of the rows that List leaves, and a last line for its answer.
use Rattle.std.specs.Prelude.{ℕ, ◌*◌, min, ◌≡◌, Option, IfOk, OnOk, OnErr, List, ◌++◌, length, take, drop, Result as IoResult}
use Rattle.std.specs.Io.KnownBytes.{Appends}
use Rattle.standard_input.specs.Failures.{BreaksOff}
use Rattle.list_text.specs.Lines.{options_line, refusal_line}
use Rattle.list_text.specs.RowLines.{words_of_row, bytes_of_line, lines_of}
use Rattle.whole_list.specs.WholeList.{most_words}
use Rattle.sequences.specs.Results.{Result, ok, refused}

-- words for 65,536 rows, as many as there can be candidates, and for their keys
abbrev pub held_words : ℕ
held_words = most_words

abbrev pub held_keys : ℕ
held_keys = 131072

-- the rows of a page, the words that they are, and bytes for their lines
abbrev pub page_rows : ℕ
page_rows = 1024

abbrev pub page_words : ℕ
page_words = page_rows * words_of_row

abbrev pub held_bytes : ℕ
held_bytes = page_rows * bytes_of_line

-- how many rows are printed, and how many digits each has
abbrev pub rows_of : Result (ℕ × ℕ) → ℕ
rows_of (ok extent) = extent.0
rows_of (refused number place) = 0

abbrev pub blocks_of : Result (ℕ × ℕ) → ℕ
blocks_of (ok extent) = extent.1
blocks_of (refused number place) = 0

-- the words of page k of the rows that words make
abbrev pub page_of : List ℕ → (k : ℕ) → List ℕ
page_of words k = take page_words (drop (k * page_rows * words_of_row) words)

-- the lines of the rows that words make, and those of page k of them
abbrev pub lines_in : (blocks : ℕ) → List ℕ → List ℕ
lines_in blocks words = lines_of (min blocks 16) words

abbrev pub page_text : (blocks : ℕ) → List ℕ → (k : ℕ) → List ℕ
page_text blocks words k = lines_in blocks (page_of words k)

-- the line after the rows: their number, or why there are none
abbrev pub last_line : Result (ℕ × ℕ) → List ℕ
last_line (ok extent) = options_line extent.0
last_line (refused number place) = refusal_line number place

-- a text begins with a part; a part is what comes next in it after `done` bytes
abbrev pub BeginsWith : (text part : List ℕ) → Type 0
BeginsWith text part = (rest : List ℕ) × (part ++ rest ≡ text)

abbrev pub NextBytes : (text : List ℕ) (done : ℕ) (part : List ℕ) → Type 0
NextBytes text done part = part ≡ take (length part) (drop done text)

-- if the writer took all that it was given, it was given as many bytes as the text has
abbrev pub Whole : {E : Type 0} → IoResult ℕ E → List ℕ → Type 0
Whole sent text = IfOk sent (λ bytes. bytes ≡ length text)

-- and if its bytes are known, they have become the ones before and then the text
abbrev pub Taken : {E : Type 0} → IoResult ℕ E → (old new : Option (List ℕ)) → (text : List ℕ) → Type 0
Taken sent old new text = OnOk sent (Appends old new text)

-- if it did not take all, it took the first ones
abbrev pub BrokeOff : {E : Type 0} → IoResult ℕ E → (old new : Option (List ℕ)) → (text : List ℕ) → Type 0
BrokeOff sent old new text = OnErr sent (BreaksOff old new text)
