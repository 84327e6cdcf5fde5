-- Census, rows and draw, for an accepted description.
use Rattle.std.specs.Prelude.{ℕ, Bool, not, ◌&&◌, ◌||◌, List, ◌∷◌, map, length}
use Rattle.std.proofs.Math.Option.{Option}
use Rattle.description.specs.Declarations.{Description}
use Rattle.security.specs.Soundness.{candidates}
use Rattle.security.specs.Placements.{broken16, broken17, unexposed, broken_apart, secure}
use Rattle.costs.specs.Cost.{bill_of, cost}
use Rattle.options.specs.Options.{same_option}
use Rattle.survey.specs.declared.Row.{Row}
use Rattle.survey.specs.declared.Cursor.{Cursor}
use Rattle.sequences.specs.Lists.{any, keep, find, distinct_by, before, sort}

unfoldable pub secure_placements : Description → List (List ℕ)
secure_placements d = keep (secure d) (candidates d)

-- Census. How many different options there are: of the placements of one option, only the last is counted.
abbrev pub distinct : Description → List (List ℕ) → List (List ℕ)
distinct d = distinct_by (same_option d)

pub record Census : Type 0 where
  pub candidates : ℕ
  pub breaking16 : ℕ
  pub breaking17only : ℕ
  pub apartonly : ℕ
  pub secure : ℕ
  pub options : ℕ

unfoldable pub census : Description → Census
census d = record {
  candidates = length (candidates d);
  breaking16 = length (keep (broken16 d) (candidates d));
  breaking17only = length (keep (λ p. not (broken16 d p) && broken17 d p) (candidates d));
  apartonly = length (keep (λ p. unexposed d p && broken_apart d p) (candidates d));
  secure = length (secure_placements d);
  options = length (distinct d (secure_placements d));
}

-- Rows are ordered by cost and then by their sixteen bytes, compared from the first; their bills do not matter.
abbrev pub earlier : Row → Row → Bool
earlier r s = before (r.cost ∷ r.placement) (s.cost ∷ s.placement)

abbrev pub row_of : Description → List ℕ → Row
row_of d p = record { cost = cost d p; placement = p; bill = bill_of d p }

-- p represents its option: no secure placement of the same option is earlier by cost and then bytes
unfoldable pub stands : Description → List ℕ → Bool
stands d p = not (any (λ q. same_option d q p && earlier (row_of d q) (row_of d p)) (secure_placements d))

-- one row for each option, in rising order
unfoldable pub rows : Description → List Row
rows d = sort earlier (map (row_of d) (keep (stands d) (secure_placements d)))

-- a cost and sixteen bytes are strictly later than a cursor; the same for a row's cost and placement
abbrev pub is_past : Cursor → (cost : ℕ) (placement : List ℕ) → Bool
is_past c cost placement = c.start || before (c.cost ∷ c.placement) (cost ∷ placement)

abbrev pub later : Cursor → Row → Bool
later c r = is_past c r.cost r.placement

-- Draw: the first row strictly later than the cursor; none means finished
unfoldable pub draw : Description → Cursor → Option Row
draw d c = find (later c) (rows d)
