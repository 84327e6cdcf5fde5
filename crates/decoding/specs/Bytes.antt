-- A list of numbers that are bytes, and how many of them decide.
use Rattle.std.specs.Prelude.{ℕ, ◌+◌, ◌*◌, ◌<◌, List, get_or}

-- Every element is below 256. Past the last one there is 0, so no bound on the position is needed.
abbrev pub Bytes : List ℕ → Type 0
Bytes s = (i : ℕ) → get_or s i 0 < 256

-- How many bytes decide what Read answers, for input of any length (`front-decides`): good commands are at most 8 clouds of 10 bytes, 16
-- blocks of 7, and 32 edges, 16 pins and 8 pairs of 3; and the command after them has at most 10.
abbrev pub deciding_bytes : ℕ
deciding_bytes = 8 * 10 + 16 * 7 + 32 * 3 + 16 * 3 + 8 * 3 + 10
