-- The lines of many rows at once. A row is five words: its cost, the clouds of its blocks packed into one number, and the amounts for
-- storage, transfers and computing.
use Rattle.std.specs.Prelude.{ℕ, ◌*◌, ◌/◌, min, List, [], ◌∷◌, ◌++◌, map, length, take}
use Rattle.packing.specs.Packing.{digits as clouds}
use Rattle.list_text.specs.Lines.{ascii, digit, decimal, row_line}
use Rattle.list_text.specs.declared.rows.Row.{Row}

abbrev pub words_of_row : ℕ
words_of_row = 5

-- the most bytes of a line: 20 for the cost, a space and 16 for the blocks, a space and 20 for each of three amounts, and a newline
abbrev pub bytes_of_line : ℕ
bytes_of_line = 101

-- the line of a row
unfoldable pub words_line : (blocks cost place storage transfer cpu : ℕ) → List ℕ
words_line blocks cost place storage transfer cpu = row_line cost (clouds blocks place) blocks storage transfer cpu

-- the same of a row whose words were taken apart
abbrev pub row_text : (blocks : ℕ) → Row → List ℕ
row_text blocks row = words_line blocks row.cost row.place row.storage row.transfer row.cpu

-- its front, before the amounts
unfoldable pub front_text : (blocks cost place : ℕ) → List ℕ
front_text blocks cost place = decimal cost ++ ascii " " ++ map digit (clouds blocks place)

-- the lines of the rows in a list of words, one after the other; fewer than five words are no row
abbrev pub lines_of : (blocks : ℕ) → List ℕ → List ℕ
lines_of blocks [] = []
lines_of blocks (cost ∷ []) = []
lines_of blocks (cost ∷ place ∷ []) = []
lines_of blocks (cost ∷ place ∷ storage ∷ []) = []
lines_of blocks (cost ∷ place ∷ storage ∷ transfer ∷ []) = []
lines_of blocks (cost ∷ place ∷ storage ∷ transfer ∷ cpu ∷ words) = words_line blocks cost place storage transfer cpu ++ lines_of blocks words

-- how many of the rows are sure to fit into the buffer
abbrev pub fitting : (words buffer : List ℕ) → ℕ
fitting words buffer = min (length words / words_of_row) (length buffer / bytes_of_line)

-- the lines of these rows; a row has no more than sixteen blocks
abbrev pub rows_text : (words : List ℕ) (blocks : ℕ) (buffer : List ℕ) → List ℕ
rows_text words blocks buffer = lines_of (min blocks 16) (take (fitting words buffer * words_of_row) words)
