-- Answers stated of the bytes: of description M, the interview file, and of small inputs that fail two tests at once.
use Rattle.std.specs.Prelude.{◌≡◌, ◌++◌}
use Rattle.decoding.specs.Inputs.{cloud, datum, pin, end, m}
use Rattle.sequences.specs.Results.{ok, refused}
use Rattle.standing.specs.Reasons.{standing_call}

pub record Interview : Type 0 where
  -- datum 0 of M needs level 1: cloud 0 does not cover it, cloud 1 does, and there is no cloud 2
  pub levels : (standing_call m 0 0 ≡ ok 2) × (standing_call m 0 1 ≡ ok 0) × (standing_call m 0 2 ≡ ok 1)
  -- M has five blocks
  pub past : (standing_call m 5 0 ≡ ok 0) × (standing_call m 5 1 ≡ ok 4) × (standing_call m 255 9 ≡ ok 4)
  -- a pin to another cloud; that, and too low a label; that, and no such cloud
  pub pinned : standing_call (cloud 0 ++ cloud 0 ++ datum 0 ++ pin 0 1 ++ end) 0 0 ≡ ok 3
  pub low : standing_call (cloud 0 ++ cloud 1 ++ datum 1 ++ pin 0 1 ++ end) 0 0 ≡ ok 2
  pub missing : standing_call (cloud 0 ++ cloud 0 ++ datum 0 ++ pin 0 1 ++ end) 0 2 ≡ ok 1
  -- Read's refusal goes first
  pub nothing : standing_call end 0 0 ≡ refused 8 1
