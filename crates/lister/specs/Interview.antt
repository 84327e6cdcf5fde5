-- The scope's "interview file": description M, and the table of the eleven cases, each stated for the bytes.
use Rattle.std.specs.Prelude.{ℕ, ◌≡◌, true, List, [], ◌∷◌, ◌++◌, map, length}
use Rattle.std.proofs.Math.Option.{none}
use Rattle.description.specs.Declarations.{Description}
use Rattle.decoding.specs.Format.{decode}
use Rattle.decoding.specs.Inputs.{m, cloud, datum, end, flat, place}
use Rattle.security.specs.Soundness.{read, candidates}
use Rattle.costs.specs.Cost.{gigabytes}
use Rattle.options.specs.Options.{same_option}
use Rattle.judging.specs.Calls.{Counts, read_call, judge_call}
use Rattle.survey.specs.declared.Row.{Row}
use Rattle.survey.specs.Rows.{rows}
use Rattle.lister.specs.Calls.{census_call, draw_call}
use Rattle.sequences.specs.Results.{Result, ok, refused, and_then}

-- a row, by its cost, its placement and the three amounts of its bill
abbrev pub row : ℕ → List ℕ → (storage transfer cpu : ℕ) → Row
row cost placement storage transfer cpu =
    record { cost = cost; placement = placement; bill = record { storage = storage; transfer = transfer; cpu = cpu } }

-- M's six rows
abbrev pub rows_of_m : List Row
rows_of_m =
    row 2820 (place 1 1 1 1 1) 1320 0 1500 ∷ row 2850 (place 1 1 1 1 0) 1330 20 1500 ∷ row 2970 (place 1 1 0 0 0) 1370 100 1500 ∷
    row 3000 (place 1 1 0 0 1) 1380 120 1500 ∷ row 3120 (place 1 1 0 1 1) 1420 200 1500 ∷ row 3150 (place 1 1 0 1 0) 1430 220 1500 ∷ []

-- one cloud at level 0 with one datum at level 1
abbrev pub homeless : List ℕ
homeless = cloud 0 ++ datum 1 ++ end

abbrev pub accepted : (clouds blocks edges : ℕ) → Result Counts
accepted clouds blocks edges = ok (record { clouds = clouds; blocks = blocks; edges = edges })

-- how many candidates there are, if the description is not refused
abbrev pub candidates_of : Result Description → Result ℕ
candidates_of r = and_then r (λ d. ok (length (candidates d)))

pub record Interview : Type 0 where
  -- M's rows
  pub case1 : and_then (read m) (λ d. ok (rows d)) ≡ ok rows_of_m
  -- M's census, 16 = 8 + 0 + 0 + 8
  pub case2 : census_call m ≡ ok (record { candidates = 16; breaking16 = 8; breaking17only = 0; apartonly = 0; secure = 8; options = 6 })
  -- two placements of M are secure, and one option
  pub case3 : (judge_call m (place 1 1 0 0 0) ≡ ok tt) × (judge_call m (place 1 1 1 0 0) ≡ ok tt) ×
      (and_then (read m) (λ d. ok (same_option d (place 1 1 0 0 0) (place 1 1 1 0 0))) ≡ ok true)
  -- a placement of M that breaks rule 16 at edge 0
  pub case4 : judge_call m (place 1 0 0 0 0) ≡ refused 14 0
  -- the empty input; the end alone
  pub case5 : read_call [] ≡ refused 1 0
  pub case6 : read_call end ≡ refused 8 1
  -- no candidates: accepted, nothing counted, and finished at the start
  pub case7 : (read_call homeless ≡ accepted 1 1 0) ×
      (census_call homeless ≡ ok (record { candidates = 0; breaking16 = 0; breaking17only = 0; apartonly = 0; secure = 0; options = 0 })) ×
      ((cost : ℕ) (placement : List ℕ) → draw_call homeless (record { start = true; cost = cost; placement = placement }) ≡ ok none)
  -- the gigabytes that sizes 0, 1, 10 and 11 are charged as
  pub case8 : map gigabytes (0 ∷ 1 ∷ 10 ∷ 11 ∷ []) ≡ 0 ∷ 0 ∷ 1 ∷ 1 ∷ []
  -- 2^16 and 3^10 candidates are accepted, and 3^11 are too many
  pub case9 : (read_call (flat 16 2) ≡ accepted 2 16 0) × (candidates_of (read (flat 16 2)) ≡ ok 65536)
  pub case10 : (read_call (flat 10 3) ≡ accepted 3 10 0) × (candidates_of (read (flat 10 3)) ≡ ok 59049)
  pub case11 : (read_call (flat 11 3) ≡ refused 12 0) × (candidates_of (decode (flat 11 3)) ≡ ok 177147)
