-- The sixteen bytes of small descriptions, one for each thing that decides a bit.
use Rattle.std.specs.Prelude.{ℕ, ◌≡◌, List, [], ◌∷◌, ◌++◌}
use Rattle.judging.specs.Calls.{masks_call}
use Rattle.decoding.specs.Inputs.{cloud, datum, service, pin, end, times, flat, place, m}
use Rattle.sequences.specs.Results.{ok, refused}

-- three clouds of levels 2, 0 and 1
abbrev pub three_levels : List ℕ
three_levels = cloud 2 ++ cloud 0 ++ cloud 1

pub record Masked : Type 0 where
  -- description M: the first datum needs level 1, which only the second cloud has
  pub interview : masks_call m ≡ ok (place 2 3 3 3 3)
  -- levels 0, 1, 2 and 3 on clouds of levels 2, 0 and 1: all three, two with a gap, the first, none; a service goes by its location
  pub levels : masks_call (three_levels ++ datum 0 ++ datum 1 ++ service 2 3 ++ datum 3 ++ end) ≡ ok (place 7 5 1 0 0)
  -- a pin; one to a cloud that is too low
  pub pins : masks_call (three_levels ++ datum 0 ++ datum 1 ++ pin 0 1 ++ pin 1 1 ++ end) ≡ ok (place 2 0 0 0 0)
  -- eight clouds; sixteen blocks, and none past the last
  pub most : masks_call (flat 1 8) ≡ ok (place 255 0 0 0 0)
  pub all : masks_call (flat 16 1) ≡ ok (times 16 (1 ∷ []))
  -- 3^11 candidates
  pub too_many : masks_call (flat 11 3) ≡ refused 12 0
