-- Placements as numbers: the clouds of the blocks are the digits to the base 8, so that numeric order is lexicographic order.
use Rattle.std.specs.Prelude.{ℕ, zero, suc, ◌+◌, ◌*◌, ◌/◌, ◌%◌, ◌<◌, List, [], ◌∷◌, ◌++◌, get_or}

-- the number of a placement
abbrev pub pack_from : ℕ → List ℕ → ℕ
pack_from a [] = a
pack_from a (k ∷ q) = pack_from (a * 8 + k) q

unfoldable pub pack : List ℕ → ℕ
pack q = pack_from 0 q

-- the placement of n blocks whose number it is: the last n digits
unfoldable pub digits : ℕ → ℕ → List ℕ
digits zero p = []
digits (suc n) p = digits n (p / 8) ++ (p % 8 ∷ [])

-- clouds are below 8
abbrev pub Low : List ℕ → Type 0
Low q = (i : ℕ) → get_or q i 0 < 8
