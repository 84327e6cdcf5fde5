-- What a C program can rely on when it takes a status apart: 0 is no refusal, and number and place of a refusal can be read off.
use Rattle.std.specs.Prelude.{ℕ, ◌/◌, ◌%◌, ◌<◌, ◌≡◌, List}
use Rattle.sequences.specs.Results.{Result, ok, refused}
use Rattle.judging.specs.Calls.{read_call, masks_call, judge_call, transfers_call}
use Rattle.picture.specs.Calls.{picture_call, size_call}
use Rattle.billing.specs.Calls.{bill_call}
use Rattle.standing.specs.Reasons.{standing_call}
use Rattle.survey.specs.declared.Cursor.{Cursor}
use Rattle.lister.specs.Calls.{census_call, draw_call}
use Rattle.whole_list.specs.WholeList.{list_call}
use Rattle.statuses.specs.Statuses.{status, refusal_status}

-- the status of an answer is 0; that of a refusal is not, its low 8 bits are the number, and the others are the place
abbrev pub Readable : {A : Type 0} → Result A → Type 0
Readable (ok a) = status (ok a) ≡ 0
Readable (refused number place) =
    (0 < refusal_status number place) × (refusal_status number place % 256 ≡ number) × (refusal_status number place / 256 ≡ place)

-- for every call
pub record NothingLost (s : List ℕ) : Type 0 where
  pub read : Readable (read_call s)
  pub masks : Readable (masks_call s)
  pub judge : (p : List ℕ) → Readable (judge_call s p)
  pub transfers : (p : List ℕ) (room : ℕ) → Readable (transfers_call s p room)
  pub picture : (p : List ℕ) (room : ℕ) → Readable (picture_call s p room)
  pub size : (p : List ℕ) → Readable (size_call s p)
  pub bill : (p : List ℕ) → Readable (bill_call s p)
  pub standing : (b k : ℕ) → Readable (standing_call s b k)
  pub census : Readable (census_call s)
  pub draw : (c : Cursor) → Readable (draw_call s c)
  pub list : (room : ℕ) → Readable (list_call s room)
