-- Where a walk over packed placements continues past sixteen bytes.
use Rattle.std.specs.Prelude.{ℕ, ◌-◌, ◌^◌, ◌≤◌, ◌≡◌, not, List, ◌++◌, ltb, length, replicate}
use Rattle.sequences.specs.Lists.{before}
use Rattle.packing.specs.Packing.{pack, Low}

-- The placements of n blocks that come after the bytes, filled up with zeros to sixteen, are those packed as `floor` or higher; if `floor`
-- is 8 ^ n there are none.
pub record FloorOf (bytes : List ℕ) (n floor : ℕ) : Type 0 where
  pub within : floor ≤ 8 ^ n
  pub after : (q : List ℕ) → length q ≡ n → Low q → before bytes (q ++ replicate (16 - n) 0) ≡ not (ltb (pack q) floor)
