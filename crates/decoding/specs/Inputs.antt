-- Small inputs for examples: the commands as bytes, and placements of a few blocks.
use Rattle.std.specs.Prelude.{ℕ, zero, suc, List, [], ◌∷◌, ◌++◌, take}

-- the commands, with rates, sizes, longevities and cpu units 0
abbrev pub cloud : (label : ℕ) → List ℕ
cloud label = 1 ∷ label ∷ 0 ∷ 0 ∷ 0 ∷ 0 ∷ 0 ∷ 0 ∷ 0 ∷ 0 ∷ []

abbrev pub datum : (label : ℕ) → List ℕ
datum label = 2 ∷ label ∷ 0 ∷ 0 ∷ 0 ∷ 0 ∷ []

abbrev pub service : (location clearance : ℕ) → List ℕ
service location clearance = 3 ∷ location ∷ clearance ∷ 0 ∷ 0 ∷ 0 ∷ 0 ∷ []

abbrev pub reads : (service datum : ℕ) → List ℕ
reads service datum = 4 ∷ service ∷ datum ∷ []

abbrev pub writes : (service datum : ℕ) → List ℕ
writes service datum = 5 ∷ service ∷ datum ∷ []

abbrev pub pin : (block cloud : ℕ) → List ℕ
pin block cloud = 6 ∷ block ∷ cloud ∷ []

abbrev pub pair : (left right : ℕ) → List ℕ
pair left right = 7 ∷ left ∷ right ∷ []

abbrev pub end : List ℕ
end = 0 ∷ []

-- the same command n times
abbrev pub times : ℕ → List ℕ → List ℕ
times zero command = []
times (suc n) command = command ++ times n command

-- as many unpinned data and clouds as given, all at level 0
abbrev pub flat : (blocks clouds : ℕ) → List ℕ
flat blocks clouds = times clouds (cloud 0) ++ times blocks (datum 0) ++ end

-- the placement of five blocks, or of fewer with 0 for the others
abbrev pub place : (a b c d e : ℕ) → List ℕ
place a b c d e = a ∷ b ∷ c ∷ d ∷ e ∷ 0 ∷ 0 ∷ 0 ∷ 0 ∷ 0 ∷ 0 ∷ 0 ∷ 0 ∷ 0 ∷ 0 ∷ 0 ∷ []

-- description M of `docs/FORMAT.md`, the interview file: 65 bytes
abbrev pub m : List ℕ
m =
    0x01 ∷ 0x00 ∷ 0x00 ∷ 0x0a ∷ 0x00 ∷ 0x0a ∷ 0x00 ∷ 0x0a ∷ 0x00 ∷ 0x0a ∷
    0x01 ∷ 0x01 ∷ 0x00 ∷ 0x0a ∷ 0x00 ∷ 0x0a ∷ 0x00 ∷ 0x0a ∷ 0x00 ∷ 0x0a ∷
    0x02 ∷ 0x01 ∷ 0x00 ∷ 0x64 ∷ 0x00 ∷ 0x0c ∷
    0x03 ∷ 0x00 ∷ 0x01 ∷ 0x00 ∷ 0x00 ∷ 0x00 ∷ 0x64 ∷
    0x02 ∷ 0x00 ∷ 0x00 ∷ 0x32 ∷ 0x00 ∷ 0x00 ∷
    0x03 ∷ 0x00 ∷ 0x00 ∷ 0x00 ∷ 0x00 ∷ 0x00 ∷ 0x32 ∷
    0x02 ∷ 0x00 ∷ 0x00 ∷ 0x0a ∷ 0x00 ∷ 0x0c ∷
    0x04 ∷ 0x01 ∷ 0x00 ∷
    0x05 ∷ 0x01 ∷ 0x02 ∷
    0x04 ∷ 0x03 ∷ 0x02 ∷
    0x05 ∷ 0x03 ∷ 0x04 ∷
    0x00 ∷ []

-- the same with data 0 and 4, the rushes and the finished film, never on one cloud: `examples/apart.bin`
abbrev pub m_apart : List ℕ
m_apart = take 64 m ++ pair 0 4 ++ end
