-- The whole list: the rows of a description as words in lent memory, and what the call answers.
use Rattle.std.specs.Prelude.{ℕ, ◌*◌, ◌/◌, min, cond, List, [], ◌∷◌, ◌++◌, map, leb, length, drop, replicate}
use Rattle.std.specs.Prelude as std
use Rattle.refusals.specs.declared.Refusal.{Refusal}
use Rattle.refusals.specs.Refusals.{answered}
use Rattle.description.specs.Declarations.{Description}
use Rattle.security.specs.Soundness.{read}
use Rattle.survey.specs.declared.Row.{Row}
use Rattle.survey.specs.Rows.{rows}
use Rattle.survey.specs.RowWords.{row_key, keys_needed}
use Rattle.sequences.specs.Lists.{joined}
use Rattle.sequences.specs.Results.{Result, ok, refused, and_then}
use Rattle.whole_list.specs.declared.Extent.{Extent}

-- the words of a row, and those of its key
abbrev pub words_of_row : ℕ
words_of_row = 5

abbrev pub words_of_key : ℕ
words_of_key = 2

-- a row in lent words: its cost, the clouds of its blocks as digits to the base 8, and the amounts for storage, transfers and computing
abbrev pub row_words : Description → Row → List ℕ
row_words d r = (row_key d r).0 ∷ (row_key d r).1 ∷ r.bill.storage ∷ r.bill.transfer ∷ r.bill.cpu ∷ []

-- the words of all rows, in the rows' order, and how many there are
unfoldable pub listed : Description → List ℕ
listed d = joined (map (row_words d) (rows d))

abbrev pub needed : Description → ℕ
needed d = length (rows d) * words_of_row

-- what is always enough: there are no more rows than candidates, of which there are at most 65,536
abbrev pub most_words : ℕ
most_words = 327680

-- how many rows the lent words have room for: the rows go into `rows`, and their keys are sorted in `scratch`
abbrev pub capacity : (rows scratch : ℕ) → ℕ
capacity rows scratch = min (rows / words_of_row) (scratch / words_of_key)

-- List: how many rows there are and how many blocks a row has, or a refusal with its number and place
abbrev pub list_answer : std.Result Extent Refusal → Result (ℕ × ℕ)
list_answer r = answered (λ e. (e.rows, e.blocks)) r

-- More rows than there is room for are refused as a short buffer is: with number 16, and the words that the rows need as the place.
abbrev pub listed_in : Description → (room : ℕ) → Result (ℕ × ℕ)
listed_in d room = cond (leb (length (rows d)) room) (ok (length (rows d), length d.blocks)) (refused 16 (needed d))

-- Read's refusal comes first.
unfoldable pub list_call : List ℕ → (room : ℕ) → Result (ℕ × ℕ)
list_call s room = and_then (read s) (λ d. listed_in d room)

-- lent words after the call: a new front, and beyond it unchanged; after a refusal all unchanged
abbrev pub replaced : Result Description → (room : ℕ) → (Description → List ℕ) → List ℕ → List ℕ
replaced (ok d) room front words = cond (leb (length (rows d)) room) (front d ++ drop (length (front d)) words) words
replaced (refused number place) room front words = words

-- the rows' words hold the list
unfoldable pub rows_after : List ℕ → (room : ℕ) → List ℕ → List ℕ
rows_after s room words = replaced (read s) room listed words

-- the scratch is cleared as far as it was used
abbrev pub cleared : Description → List ℕ
cleared d = replicate (keys_needed d) 0

unfoldable pub scratch_after : List ℕ → (room : ℕ) → List ℕ → List ℕ
scratch_after s room words = replaced (read s) room cleared words
