-- The keys of rows, as words in lent memory.
use Rattle.std.specs.Prelude.{ℕ, ◌*◌, List, map, length, take}
use Rattle.sequences.specs.Lists.{keep}
use Rattle.description.specs.Declarations.{Description}
use Rattle.packing.specs.Packing.{pack}
use Rattle.sorting.specs.Rows.{flat}
use Rattle.survey.specs.declared.Row.{Row}
use Rattle.survey.specs.Rows.{secure_placements, row_of, stands, rows}

-- a row's key, the two words by which rows are kept and sorted: its cost, and the clouds of its blocks as digits to the base 8
abbrev pub row_key : Description → Row → ℕ × ℕ
row_key d r = (r.cost, pack (take (length d.blocks) r.placement))

-- how many words all keys take
abbrev pub keys_needed : Description → ℕ
keys_needed d = length (rows d) * 2

-- the keys of the rows in the order in which a walk meets them: by the bytes of their placements alone
unfoldable pub unsorted : Description → List ℕ
unsorted d = flat (map (λ p. row_key d (row_of d p)) (keep (stands d) (secure_placements d)))
