-- What a mark alone decides: each refusal for a missing mark although the level is high enough, and what is accepted with the mark.
use Rattle.std.specs.Prelude.{ℕ, ◌≡◌, List, ◌++◌}
use Rattle.judging.specs.Calls.{read_call, judge_call, masks_call}
use Rattle.decoding.specs.Inputs.{cloud, datum, service, reads, writes, end, place}
use Rattle.sequences.specs.Results.{ok, refused}

-- Labels of the highest level that do not cover labels of level 0: no mark against the embargo mark, no mark against the source mark, and
-- one mark against both.
abbrev pub Uncovered : (ℕ → ℕ → Type 0) → Type 0
Uncovered P = P 15 16 × P 15 32 × P 31 48 × P 47 48

-- a datum, and a service whose clearance is the datum's label, on clouds of two labels
abbrev pub on_two : (first second datum : ℕ) → List ℕ
on_two x y label = cloud x ++ cloud y ++ datum label ++ service 0 label

pub record Marked : Type 0 where
  pub rule2 : Uncovered (λ high low. read_call (cloud 0 ++ service low high ++ end) ≡ refused 9 0)
  pub rule3 : Uncovered (λ high low. read_call (cloud 0 ++ service 0 high ++ datum low ++ reads 0 1 ++ end) ≡ refused 10 0)
  pub rule4 : Uncovered (λ high low. read_call (cloud 0 ++ service low 63 ++ datum high ++ writes 0 1 ++ end) ≡ refused 11 0)
  pub rule7 : Uncovered (λ high low. judge_call (on_two high low low ++ end) (place 0 0 0 0 0) ≡ refused 13 0)
  pub rule16 : Uncovered (λ high low. judge_call (on_two high low low ++ reads 1 0 ++ end) (place 1 0 0 0 0) ≡ refused 14 0)
  pub rule17 : Uncovered (λ high low. judge_call (on_two high low low ++ writes 1 0 ++ end) (place 1 0 0 0 0) ≡ refused 15 0)
  -- the copy lies on a cloud that has the marks, of the same level or a higher one; marks do not make up for a level that is too low
  pub covered :
      (judge_call (on_two 16 16 16 ++ reads 1 0 ++ end) (place 1 0 0 0 0) ≡ ok tt) ×
      (judge_call (on_two 63 32 32 ++ writes 1 0 ++ end) (place 1 0 0 0 0) ≡ ok tt) ×
      (judge_call (on_two 48 1 1 ++ reads 1 0 ++ end) (place 1 0 0 0 0) ≡ refused 14 0)
  -- clouds of level 15 without marks, of level 0 with each mark, of level 15 with both; blocks of level 0 with no mark, with each and with both,
  -- and one of level 15 with both
  pub masks :
      masks_call (cloud 15 ++ cloud 16 ++ cloud 32 ++ cloud 63 ++ datum 0 ++ datum 16 ++ datum 32 ++ datum 48 ++ service 63 63 ++ end) ≡
      ok (place 15 10 12 8 8)
