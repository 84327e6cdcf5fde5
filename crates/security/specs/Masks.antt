-- The permitted clouds as bits: a byte for each of the sixteen positions, from which a walk takes the clouds of the candidates.
use Rattle.std.specs.Prelude.{ℕ, ◌-◌, ◌^◌, ◌≤◌, ◌<◌, ◌≡◌, ◌↔◌, true, cond, List, ◌++◌, map, length, get_or, take, replicate}
use Rattle.std.specs.Prelude.{Some, None}
use Rattle.description.specs.Declarations.{Pin}
use Rattle.description.specs.Declarations.{Description, names_block}
use Rattle.security.specs.Soundness.{may_stand, candidates, count}
use Rattle.security.specs.Statements.{Stands}
use Rattle.sequences.specs.Arrays.{table}
use Rattle.sequences.specs.Ascending.{Ascending, Once}
use Rattle.sequences.specs.Bits.{bit, bits, set_bits, bit_choices}
use Rattle.sequences.specs.Lists.{before, product}

-- those of some clouds, as bits, that a pin leaves
abbrev pub left_by : Pin → ℕ → ℕ
left_by None clouds = clouds
left_by (Some c) clouds = cond (bit clouds c) (2 ^ c) 0

-- bit k is set if block b may stand on cloud k; past the last block there is 0, although a position there may have cloud 0
unfoldable pub mask_of : Description → ℕ → ℕ
mask_of d b = cond (names_block d b) (bits (may_stand d b) 0 8) 0

-- the sixteen bytes
unfoldable pub masks_of : Description → List ℕ
masks_of d = table 16 (mask_of d)

-- What sixteen bytes must be, from the rule itself: bit k of byte b is set exactly if b is a block that may stand on cloud k.
pub record Permitted (d : Description) (ms : List ℕ) : Type 0 where
  pub sixteen : length ms ≡ 16
  pub low : (b : ℕ) → get_or ms b 0 < 256
  pub exact : (b k : ℕ) → (bit (get_or ms b 0) k ≡ true) ↔ ((b < length d.blocks) × Stands d b k)
  pub beyond : (b : ℕ) → length d.blocks ≤ b → get_or ms b 0 ≡ 0

-- the masks of the blocks alone
abbrev pub block_masks : Description → List ℕ → List ℕ
block_masks d ms = take (length d.blocks) ms

-- a placement of the blocks alone, as sixteen clouds
abbrev pub padded : Description → List ℕ → List ℕ
padded d q = q ++ replicate (16 - length d.blocks) 0

-- What the bytes that a walk uses must be: the choices of a permitted cloud for each block are the candidates, each once and in order, and
-- the product of the numbers of set bits is the number of candidates.
pub record Chooses (d : Description) (ms : List ℕ) : Type 0 where
  pub exactly : map (padded d) (bit_choices (block_masks d ms)) ≡ candidates d
  pub once : Once (bit_choices (block_masks d ms))
  pub rising : Ascending before (bit_choices (block_masks d ms))
  pub number : product (map (λ m. length (set_bits m)) (block_masks d ms)) ≡ count d
