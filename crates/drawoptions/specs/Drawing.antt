-- What `drawoptions` prints: a line for each draw of a chain, up to and including the first that is no row.
use Rattle.std.specs.Prelude.{ℕ, ◌≤◌, min, ◌≡◌, List, length, take, map}
use Rattle.std.proofs.Math.Option.{Option, none, some}
use Rattle.sequences.specs.Lists.{below, joined}
use Rattle.sequences.specs.Results.{Result, ok, refused}
use Rattle.packing.specs.Packing.{pack}
use Rattle.survey.specs.declared.Row.{Row}
use Rattle.list_text.specs.Lines.{options_line, refusal_line}
use Rattle.list_text.specs.RowLines.{bytes_of_line, words_line}
use Rattle.judging.specs.Calls.{Counts, read_call}
use Rattle.lister.specs.Chain.{answer_at}

abbrev pub most_digits : ℕ
most_digits = 16

abbrev pub line_bytes : ℕ
line_bytes = bytes_of_line

-- how many digits a row has
abbrev pub digits_in : Result Counts → ℕ
digits_in (ok counts) = min counts.blocks most_digits
digits_in (refused number place) = 0

-- a row, by the words that its line is made of
abbrev pub row_text : (digits : ℕ) → Row → List ℕ
row_text digits r = words_line digits r.cost (pack (take digits r.placement)) r.bill.storage r.bill.transfer r.bill.cpu

-- a draw's answer: a row, or how many rows were drawn before, or why there is none
abbrev pub line_for : (digits draw : ℕ) → Result (Option Row) → List ℕ
line_for digits draw (ok (some r)) = row_text digits r
line_for digits draw (ok none) = options_line draw
line_for digits draw (refused number place) = refusal_line number place

-- the line of a draw of the chain; draw 0 is the first
unfoldable pub line_at : List ℕ → (draw : ℕ) → List ℕ
line_at s draw = line_for (digits_in (read_call s)) draw (answer_at s draw)

-- the lines of the first n draws
abbrev pub lines_before : List ℕ → (n : ℕ) → List ℕ
lines_before s n = joined (map (line_at s) (below n))

-- the line is at the front of a text, up to `end`
abbrev pub Front : (line : List ℕ) (end : ℕ) (text : List ℕ) → Type 0
Front line end text = (end ≤ length text) × (take end text ≡ line)
