-- Arrays of numbers, entry by entry.
use Rattle.std.specs.Prelude.{ℕ, ◌<◌, cond, List, map, ltb, get_or}
use Rattle.sequences.specs.Lists.{below}

-- an array of n entries
unfoldable pub table : (n : ℕ) → (ℕ → ℕ) → List ℕ
table n f = map f (below n)

-- an array of n entries: the first m are filled, the others are 0
abbrev pub up_to : (m : ℕ) → (ℕ → ℕ) → ℕ → ℕ
up_to m f i = cond (ltb i m) (f i) 0

abbrev pub table_to : (n m : ℕ) → (ℕ → ℕ) → List ℕ
table_to n m f = table n (up_to m f)

-- every entry is below m
abbrev pub AllBelow : ℕ → List ℕ → Type 0
AllBelow m a = (i : ℕ) → get_or a i 0 < m
