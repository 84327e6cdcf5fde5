-- Bills stated of the bytes: of description M, the interview file, and of the same with two data apart.
use Rattle.std.specs.Prelude.{ℕ, ◌≡◌}
use Rattle.decoding.specs.Inputs.{end, m, m_apart, place}
use Rattle.costs.specs.declared.answers.Bill.{Bill}
use Rattle.sequences.specs.Results.{Result, ok, refused}
use Rattle.billing.specs.Calls.{bill_call}

abbrev pub priced : (cost storage transfer cpu : ℕ) → Result (ℕ × Bill)
priced cost storage transfer cpu = ok (cost, record { storage = storage; transfer = transfer; cpu = cpu })

pub record Interview : Type 0 where
  -- the first row; a transfer with its copy
  pub row11111 : bill_call m (place 1 1 1 1 1) ≡ priced 2820 1320 0 1500
  pub row11000 : bill_call m (place 1 1 0 0 0) ≡ priced 2970 1370 100 1500
  -- secure and no row: the row of its option is 11000
  pub other11100 : bill_call m (place 1 1 1 0 0) ≡ priced 2970 1370 100 1500
  -- what is not secure has no price
  pub exposed : bill_call m (place 1 0 0 0 0) ≡ refused 14 0
  pub apart : bill_call m_apart (place 1 1 1 1 1) ≡ refused 17 0
  -- Read's refusal goes first
  pub nothing : bill_call end (place 9 0 0 0 0) ≡ refused 8 1
