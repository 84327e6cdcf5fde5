-- The order in which a description is refused, by inputs that have two faults at once. Within a command it is 2, 1, 4, 5, 6, 7; no command
-- can have both 5 and 6, since those with a label name nothing. After these come 3 and 8.
use Rattle.std.specs.Prelude.{◌≡◌, List, [], ◌∷◌, ◌++◌, ℕ, take}
use Rattle.decoding.specs.Format.{decode}
use Rattle.decoding.specs.Inputs.{cloud, datum, service, reads, pin, pair, end, times}
use Rattle.sequences.specs.Results.{refused}

-- six services and six data, and thirty-two reads
abbrev pub thirty_two_reads : List ℕ
thirty_two_reads =
    times 6 (service 0 0) ++ times 6 (datum 0) ++
    reads_of 0 ++ reads_of 1 ++ reads_of 2 ++ reads_of 3 ++ reads_of 4 ++ reads 5 6 ++ reads 5 7
  where
    reads_of : ℕ → List ℕ
    reads_of s = reads s 6 ++ reads s 7 ++ reads s 8 ++ reads s 9 ++ reads s 10 ++ reads s 11

-- five data, and eight pairs of them
abbrev pub eight_pairs : List ℕ
eight_pairs =
    times 5 (datum 0) ++ pair 0 1 ++ pair 0 2 ++ pair 0 3 ++ pair 0 4 ++ pair 1 2 ++ pair 1 3 ++ pair 1 4 ++ pair 2 3

pub record Order : Type 0 where
  -- an unknown command, and then the end without 00
  pub two-before-one : decode (cloud 0 ++ (9 ∷ [])) ≡ refused 2 10
  -- one too many, cut short: a cloud, a block, an edge, a pair
  pub one-before-four :
      (decode (times 8 (cloud 0) ++ take 9 (cloud 0)) ≡ refused 1 80) × (decode (times 16 (datum 0) ++ take 6 (service 0 0)) ≡ refused 1 96) ×
      (decode (thirty_two_reads ++ take 2 (reads 5 8)) ≡ refused 1 174) × (decode (eight_pairs ++ take 2 (pair 2 4)) ≡ refused 1 54)
  -- one too many, with a byte that is no label: a cloud, a datum, a service by its location and by its clearance
  pub four-before-five :
      (decode (times 8 (cloud 0) ++ cloud 64) ≡ refused 4 80) × (decode (times 16 (datum 0) ++ datum 64) ≡ refused 4 96) ×
      (decode (times 16 (datum 0) ++ service 64 0) ≡ refused 4 96) × (decode (times 16 (datum 0) ++ service 0 64) ≡ refused 4 96)
  -- one too many, with a name that is not declared: an edge, a pair; cut short, with a byte that is no label
  pub four-before-six : (decode (thirty_two_reads ++ reads 5 12) ≡ refused 4 174) × (decode (eight_pairs ++ pair 2 5) ≡ refused 4 54)
  pub one-before-five : decode (take 9 (cloud 64)) ≡ refused 1 0
  -- a wrong name and a clash: a pinned block and an undeclared cloud; a service paired with itself
  pub six-before-seven :
      (decode (cloud 0 ++ datum 0 ++ pin 0 0 ++ pin 0 1) ≡ refused 6 19) × (decode (service 0 0 ++ pair 0 0) ≡ refused 6 7)
  -- one too many, and repeated: an edge, a pair
  pub four-before-seven : (decode (thirty_two_reads ++ reads 5 7) ≡ refused 4 174) × (decode (eight_pairs ++ pair 0 1) ≡ refused 4 54)
  -- the first bad command decides, whatever the numbers: 7 and then 2
  pub first-decides : decode (datum 0 ++ pair 0 0 ++ (9 ∷ [])) ≡ refused 7 6
  -- a byte after 00, and nothing declared
  pub three-before-eight : decode (end ++ end) ≡ refused 3 1
