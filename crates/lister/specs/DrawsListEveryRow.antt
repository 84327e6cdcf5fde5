-- The scope's item 3, for an accepted description: draws list every row. What draws in a row answer, what the rows are, and what the census
-- says of them.
use Rattle.std.specs.Prelude.{ℕ, ◌+◌, ◌≡◌, true, false, ◌↔◌, ◌⊎◌, length, take, replicate}
use mathlib.Core.List.{List, ◌++◌, map, Memᴰ}
use Rattle.std.proofs.Math.Option.{Option, none, some}
use Rattle.description.specs.Declarations.{Description}
use Rattle.security.specs.Placements.{judge}
use Rattle.costs.specs.Cost.{bill_of, total}
use Rattle.options.specs.Options.{same_option}
use Rattle.survey.specs.declared.Row.{Row}
use Rattle.survey.specs.declared.Cursor.{Cursor}
use Rattle.survey.specs.Rows.{census, earlier, row_of, rows, draw}
use Rattle.lister.specs.Calls.{census_call, draw_call}
use Rattle.sequences.specs.Ascending.{Ascending}
use Rattle.sequences.specs.Draws.{moved, chained}
use Rattle.sequences.specs.Results.{Result, ok, refused}

-- ---- draws in a row

-- the start, and the cursor of a row: its cost and sixteen bytes
abbrev pub at_start : Cursor
at_start = record { start = true; cost = 0; placement = replicate 16 0 }

abbrev pub past : Row → Cursor
past r = record { start = false; cost = r.cost; placement = r.placement }

-- The answers of n draws. The cursor of the first is the start; that of each later one is the last row answered, or the start if there is
-- none yet. None means finished.
unfoldable pub answers : Description → ℕ → List (Option Row)
answers d n = chained (draw d) (moved past) at_start n

-- The same by the call, on the description's bytes: what n draws in a row give, each a value or a refusal. A refusal leaves the cursor
-- unchanged.
abbrev pub moved_by : Cursor → Result (Option Row) → Cursor
moved_by c (ok answer) = moved past c answer
moved_by c (refused number place) = c

unfoldable pub results : List ℕ → ℕ → List (Result (Option Row))
results s n = chained (draw_call s) moved_by at_start n

-- ---- the statement

-- a secure placement, by Judge's answer: sixteen numbers that it calls secure
pub record SecurePlacement (d : Description) (p : List ℕ) : Type 0 where
  pub size : length p ≡ 16
  pub judged : judge d p ≡ ok tt

-- r is the row of p's option: its placement is the same option as p, and no other row's is. And p is that placement, or is strictly
-- later than r by cost and then bytes.
pub record RowFor (d : Description) (p : List ℕ) (r : Row) : Type 0 where
  pub listed : Memᴰ r (rows d)
  pub same : same_option d p r.placement ≡ true
  pub only : (t : Row) → Memᴰ t (rows d) → same_option d p t.placement ≡ true → t ≡ r
  pub earliest : (p ≡ r.placement) ⊎ (earlier r (row_of d p) ≡ true)

-- s are the accepted bytes, and d is what they describe
pub record DrawsListEveryRow (s : List ℕ) (d : Description) : Type 0 where
  -- n draws by the call give the first n rows; if there are fewer rows, all of them and then finished each time. None is refused.
  pub called : (n : ℕ) → results s n ≡ map ok (take n (map some (rows d) ++ replicate n none))
  -- the same list without the call around it: the answers of n draws
  pub drawn : (n : ℕ) → answers d n ≡ take n (map some (rows d) ++ replicate n none)
  -- the rows rise strictly by cost and then bytes
  pub rising : Ascending earlier (rows d)
  -- each row's placement is secure; the three amounts of its bill are those of that placement, and its cost is their sum
  pub secure : (r : Row) → Memᴰ r (rows d) → SecurePlacement d r.placement
  pub costs : (r : Row) → Memᴰ r (rows d) → (r.bill ≡ bill_of d r.placement) × (r.cost ≡ total r.bill)
  -- every secure placement is the same option as exactly one row's, and is that placement or strictly later than it
  pub represented : (p : List ℕ) → SecurePlacement d p → (r : Row) × RowFor d p r
  -- the first answer is finished exactly if no placement is secure
  pub finished : (draw_call s at_start ≡ ok none) ↔ ((p : List ℕ) → SecurePlacement d p → ⊥)
  -- Census answers these counts: as many options as there are rows, and the candidates split into four kinds
  pub counted : census_call s ≡ ok (census d)
  pub options : length (rows d) ≡ (census d).options
  pub parted : (census d).candidates ≡ (census d).breaking16 + (census d).breaking17only + (census d).apartonly + (census d).secure
