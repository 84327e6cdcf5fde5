-- Each of the scope's numbers is given for some input: a table of examples with their places, one for each cause of a number; and the order
-- in which they are given, by inputs that have two faults.
use Rattle.std.specs.Prelude.{ℕ, ◌≡◌, List, [], ◌∷◌, ◌++◌}
use Rattle.decoding.specs.Inputs.{cloud, datum, service, reads, writes, pin, pair, end, times, flat, place}
use Rattle.decoding.specs.Order.{Order, thirty_two_reads, eight_pairs}
use Rattle.judging.specs.Calls.{read_call, judge_call, transfers_call}
use Rattle.sequences.specs.Results.{refused}

-- a datum of level 1 and a service of location 0, on a cloud of each level
abbrev pub two_levels : List ℕ
two_levels = cloud 0 ++ cloud 1 ++ datum 1 ++ service 0 1

-- three data on two clouds; the first must not meet the second, nor the second the third
abbrev pub three_data : List ℕ
three_data = times 2 (cloud 0) ++ times 3 (datum 0) ++ pair 0 1 ++ pair 1 2 ++ end

-- two data on two clouds that must not meet, and a service that reads the first
abbrev pub read_away : List ℕ
read_away = times 2 (cloud 0) ++ datum 0 ++ datum 0 ++ service 0 0 ++ reads 2 0 ++ pair 0 1 ++ end

pub record Reached : Type 0 where
  -- the input ends inside a command; without 00
  pub number1 : (read_call (cloud 0 ++ (2 ∷ [])) ≡ refused 1 10) × (read_call (cloud 0 ++ datum 0) ≡ refused 1 16)
  -- an unknown command
  pub number2 : read_call (cloud 0 ++ (9 ∷ [])) ≡ refused 2 10
  -- a byte follows 00
  pub number3 : read_call (cloud 0 ++ datum 0 ++ end ++ end) ≡ refused 3 17
  -- a ninth cloud; a seventeenth block; a thirty-third edge; a ninth pair, though it repeats the first
  pub number4 :
      (read_call (flat 0 9) ≡ refused 4 80) × (read_call (flat 17 0) ≡ refused 4 96) × (read_call (thirty_two_reads ++ reads 5 8) ≡ refused 4 174) ×
      (read_call (eight_pairs ++ pair 0 1) ≡ refused 4 54)
  -- a byte above 63 for a cloud's or a datum's label, a location, a clearance
  pub number5 :
      (read_call (cloud 63 ++ cloud 64 ++ end) ≡ refused 5 10) × (read_call (datum 63 ++ datum 64) ≡ refused 5 6) ×
      (read_call (service 64 63) ≡ refused 5 0) × (read_call (service 63 64) ≡ refused 5 0)
  -- an undeclared name; one of the wrong kind; a pair's second name undeclared; a service paired with itself, whose kind is tested first
  pub number6 :
      (read_call (cloud 0 ++ pin 0 0) ≡ refused 6 10) × (read_call (datum 0 ++ datum 0 ++ reads 0 1) ≡ refused 6 12) ×
      (read_call (datum 0 ++ pair 0 1) ≡ refused 6 6) × (read_call (service 0 0 ++ pair 0 0) ≡ refused 6 7)
  -- an edge repeated; a second writer; a second pin; a pair of one datum; a pair repeated; in the other order
  pub number7 :
      (read_call (service 0 0 ++ datum 0 ++ reads 0 1 ++ reads 0 1) ≡ refused 7 16) ×
      (read_call (service 0 0 ++ service 0 0 ++ datum 0 ++ writes 0 2 ++ writes 1 2) ≡ refused 7 23) ×
      (read_call (cloud 0 ++ datum 0 ++ pin 0 0 ++ pin 0 0) ≡ refused 7 19) ×
      (read_call (datum 0 ++ pair 0 0) ≡ refused 7 6) ×
      (read_call (datum 0 ++ datum 0 ++ pair 0 1 ++ pair 0 1) ≡ refused 7 15) ×
      (read_call (datum 0 ++ datum 0 ++ pair 0 1 ++ pair 1 0) ≡ refused 7 15)
  -- no cloud; no block
  pub number8 : (read_call (datum 0 ++ end) ≡ refused 8 7) × (read_call (cloud 0 ++ end) ≡ refused 8 11)
  -- rule 2, of block 1
  pub number9 : read_call (cloud 0 ++ datum 0 ++ service 1 0 ++ end) ≡ refused 9 1
  -- rule 3, of edge 0
  pub number10 : read_call (cloud 0 ++ service 0 0 ++ datum 1 ++ reads 0 1 ++ end) ≡ refused 10 0
  -- rule 4, of edge 1: a read of the same service and datum is accepted
  pub number11 : read_call (cloud 0 ++ service 1 1 ++ datum 0 ++ reads 0 1 ++ writes 0 1 ++ end) ≡ refused 11 1
  -- 3^11 candidates
  pub number12 : read_call (flat 11 3) ≡ refused 12 0
  -- an undeclared cloud; a cloud of too low a level; a pin not kept; a position past the last block that is not 0
  pub number13 :
      (judge_call (flat 2 1) (place 0 1 0 0 0) ≡ refused 13 1) ×
      (judge_call (two_levels ++ end) (place 0 0 0 0 0) ≡ refused 13 0) ×
      (judge_call (two_levels ++ pin 1 0 ++ end) (place 1 1 0 0 0) ≡ refused 13 1) ×
      (judge_call (flat 2 2) (place 0 1 1 0 0) ≡ refused 13 2)
  -- rule 16, of edge 0
  pub number14 : judge_call (two_levels ++ reads 1 0 ++ end) (place 1 0 0 0 0) ≡ refused 14 0
  -- rule 17, of edge 0
  pub number15 : judge_call (two_levels ++ writes 1 0 ++ end) (place 1 0 0 0 0) ≡ refused 15 0
  -- a transfer needs 4 bytes, and the buffer has 3
  pub number16 : transfers_call (cloud 0 ++ cloud 0 ++ datum 0 ++ service 0 0 ++ reads 1 0 ++ end) (place 0 1 0 0 0) 3 ≡ refused 16 4
  -- the second of two pairs; both, and the first is reported; a copy that a read makes
  pub number17 :
      (judge_call three_data (place 0 1 1 0 0) ≡ refused 17 1) ×
      (judge_call three_data (place 0 0 0 0 0) ≡ refused 17 0) ×
      (judge_call read_away (place 0 1 1 0 0) ≡ refused 17 0)
  -- two faults in one command, and 3 with 8: the order of 1 to 8
  pub order1_to8 : Order
  -- rule 2 of block 0, before rule 3 of edge 0; rule 3 of edge 1, before rule 4 of edge 0; rule 4, before 3^11 candidates
  pub order9_to12 :
      (read_call (cloud 0 ++ service 1 0 ++ datum 1 ++ reads 0 1 ++ end) ≡ refused 9 0) ×
      (read_call (cloud 0 ++ service 1 1 ++ datum 0 ++ datum 2 ++ writes 0 1 ++ reads 0 2 ++ end) ≡ refused 10 1) ×
      (read_call (times 3 (cloud 1) ++ service 1 1 ++ times 10 (datum 0) ++ writes 0 1 ++ end) ≡ refused 11 0) ×
      (judge_call (flat 11 3) (place 9 0 0 0 0) ≡ refused 12 0)
  -- position 2, before rule 16; rule 16 of edge 1, before rule 17 of edge 0; rule 17, before a pair; a pair, before a short buffer; and
  -- rules 17 and 16, before a short buffer
  pub order13_to17 :
      (judge_call (two_levels ++ reads 1 0 ++ end) (place 1 0 1 0 0) ≡ refused 13 2) ×
      (judge_call (two_levels ++ writes 1 0 ++ reads 1 0 ++ end) (place 1 0 0 0 0) ≡ refused 14 1) ×
      (judge_call (two_levels ++ datum 0 ++ writes 1 0 ++ pair 0 2 ++ end) (place 1 0 0 0 0) ≡ refused 15 0) ×
      (transfers_call read_away (place 0 1 1 0 0) 0 ≡ refused 17 0) ×
      (transfers_call (two_levels ++ writes 1 0 ++ end) (place 1 0 0 0 0) 0 ≡ refused 15 0) ×
      (transfers_call (two_levels ++ reads 1 0 ++ end) (place 1 0 0 0 0) 0 ≡ refused 14 0)
