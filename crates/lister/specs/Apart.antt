-- An example, stated for the bytes: description M with data 0 and 4, the rushes and the finished film, never on one cloud.
use Rattle.std.specs.Prelude.{◌≡◌, [], ◌∷◌}
use Rattle.judging.specs.Calls.{read_call, judge_call}
use Rattle.decoding.specs.Inputs.{m_apart, place}
use Rattle.security.specs.Soundness.{read}
use Rattle.survey.specs.Rows.{rows}
use Rattle.lister.specs.Calls.{census_call}
use Rattle.lister.specs.Interview.{row, accepted}
use Rattle.sequences.specs.Results.{ok, refused, and_then}

pub record Apart : Type 0 where
  -- Read's counts stay the same
  pub counts : read_call m_apart ≡ accepted 2 5 4
  -- a single row is left
  pub single : and_then (read m_apart) (λ d. ok (rows d)) ≡ ok (row 2970 (place 1 1 0 0 0) 1370 100 1500 ∷ [])
  -- 16 = 8 + 0 + 6 + 2
  pub figures : census_call m_apart ≡
      ok (record { candidates = 16; breaking16 = 8; breaking17only = 0; apartonly = 6; secure = 2; options = 1 })
  -- both on one cloud; the copy that service 3 keeps of what it writes; a pair that is kept
  pub beside : judge_call m_apart (place 1 1 1 1 1) ≡ refused 17 0
  pub copied : judge_call m_apart (place 1 1 0 1 0) ≡ refused 17 0
  pub kept : judge_call m_apart (place 1 1 1 0 0) ≡ ok tt
