-- What a walk over the placements of a description leaves, and what a draw asks of it.
use Rattle.std.specs.Prelude.{ℕ, ◌-◌, ◌≡◌, not, List, ◌++◌, length, replicate}
use Rattle.description.specs.Declarations.{Description}
use Rattle.packing.specs.Packing.{pack, Low}
use Rattle.visit.specs.declared.draws.Draw.{Draw}
use Rattle.visit.specs.Tables.{Tests}
use Rattle.visit.specs.Visits.{earlier, to_draw}
use Rattle.walk.specs.Walking.{see_all}
use Rattle.table_entries.specs.Building.{tables_of}
use Rattle.survey.specs.declared.Cursor.{Cursor}
use Rattle.survey.specs.Rows.{is_past}

-- what is left after a walk over all placements; `see` says what is done at each
abbrev pub seen_of : {V : Type 0} (see : (weight place : ℕ) → Tests → V → V) → Description → V → V
seen_of see d v = see_all see (tables_of d) (length d.blocks) v

-- the draw's floor is the cursor: a row of n blocks is past the cursor exactly if it is not before the floor
pub record Asks (c : Cursor) (n : ℕ) (d : Draw) : Type 0 where
  pub floor : ℕ
  pub place : ℕ
  pub asked : d ≡ to_draw floor place
  pub past : (cost : ℕ) (q : List ℕ) → length q ≡ n → Low q
      → is_past c cost (q ++ replicate (16 - n) 0) ≡ not (earlier cost (pack q) floor place)
