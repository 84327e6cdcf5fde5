-- What `listoptions` prints for the bytes of a description: a line for each row, in the rows' order, and last how many there are; or why
-- there are none.
use Rattle.std.specs.Prelude.{ℕ, ◌≡◌, List, [], ◌∷◌, ◌++◌, length}
use Rattle.sequences.specs.Results.{Result, ok, refused}
use Rattle.description.specs.Declarations.{Description}
use Rattle.security.specs.Soundness.{read}
use Rattle.survey.specs.declared.Row.{Row}
use Rattle.survey.specs.Rows.{rows}
use Rattle.decoding.specs.Inputs.{m, m_apart}
use Rattle.list_text.specs.Lines.{ascii, row_line, options_line, refusal_line}

-- the lines of rows, one after the other
abbrev pub row_lines : (blocks : ℕ) → List Row → List ℕ
row_lines blocks [] = []
row_lines blocks (r ∷ rs) =
    row_line r.cost r.placement blocks r.bill.storage r.bill.transfer r.bill.cpu ++ row_lines blocks rs

abbrev pub printed_for : Result Description → List ℕ
printed_for (ok d) = row_lines (length d.blocks) (rows d) ++ options_line (length (rows d))
printed_for (refused number place) = refusal_line number place

unfoldable pub printed : List ℕ → List ℕ
printed s = printed_for (read s)

-- worked examples: the interview file, the same with two data apart, the end alone, and no input at all
pub record Examples : Type 0 where
  pub interview : printed m ≡ ascii "2820 11111 1320 0 1500\n2850 11110 1330 20 1500\n2970 11000 1370 100 1500\n" ++
      ascii "3000 11001 1380 120 1500\n3120 11011 1420 200 1500\n3150 11010 1430 220 1500\noptions 6\n"
  pub apart : printed m_apart ≡ ascii "2970 11000 1370 100 1500\noptions 1\n"
  pub end_alone : printed (0 ∷ []) ≡ ascii "refused 8 1\n"
  pub nothing : printed [] ≡ ascii "refused 1 0\n"
