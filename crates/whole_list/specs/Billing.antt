-- How a row gets its words: from its key, with the bill of the placement that the key packs.
use Rattle.std.specs.Prelude.{ℕ, ◌+◌, ◌-◌, ◌*◌, ◌<◌, ◌≡◌, List, [], ◌∷◌, ◌++◌, map, length, get_or, take, replicate}
use Rattle.description.specs.Declarations.{Description}
use Rattle.costs.specs.Cost.{bill_of, cost}
use Rattle.packing.specs.Packing.{digits}
use Rattle.sequences.specs.Lists.{joined}
use Rattle.sorting.specs.Rows.{pairs}

-- the sixteen bytes that a key packs
abbrev pub key_placement : Description → ℕ → List ℕ
key_placement d place = digits (length d.blocks) place ++ replicate (16 - length d.blocks) 0

-- key i
abbrev pub key_at : List ℕ → ℕ → ℕ × ℕ
key_at keys i = (get_or keys (i * 2) 0, get_or keys (i * 2 + 1) 0)

-- a key's cost is that of its placement; the same for the first n keys
abbrev pub Priced : Description → ℕ × ℕ → Type 0
Priced d key = key.0 ≡ cost d (key_placement d key.1)

abbrev pub AllPriced : Description → ℕ → List ℕ → Type 0
AllPriced d n keys = (i : ℕ) → i < n → Priced d (key_at keys i)

-- the words of the row that has the key
abbrev pub billed : Description → ℕ × ℕ → List ℕ
billed d key =
    key.0 ∷ key.1 ∷
    (bill_of d (key_placement d key.1)).storage ∷ (bill_of d (key_placement d key.1)).transfer ∷ (bill_of d (key_placement d key.1)).cpu ∷ []

-- the words of the first n keys' rows
abbrev pub billed_front : Description → ℕ → List ℕ → List ℕ
billed_front d n keys = joined (map (billed d) (pairs (take (n * 2) keys)))
