-- What Bill promises beside the other calls.
use Rattle.std.specs.Prelude.{ℕ, ◌<◌, ◌≡◌, List}
use Rattle.decoding.specs.Bytes.{Bytes}
use Rattle.description.specs.Declarations.{Description}
use Rattle.security.specs.Soundness.{read}
use Rattle.costs.specs.declared.answers.Bill.{Bill}
use Rattle.costs.specs.Cost.{bill_of, total, cost, AmountsBelow}
use Rattle.judging.specs.Calls.{judge_call}
use Rattle.sequences.specs.Results.{ok, refused}
use Rattle.weights.specs.Weights.{cost_limit}
use Rattle.billing.specs.Calls.{bill_call}

-- of the bytes s of a description and a placement p
pub record Billing (s p : List ℕ) : Type 0 where
  -- every secure placement has a price, whether it is a row or not
  pub priced : judge_call s p ≡ ok tt → (d : Description) × (read s ≡ ok d) × (bill_call s p ≡ ok (cost d p, bill_of d p))
  -- what Read and Judge refuse is refused with the same number and place
  pub alike : (number place : ℕ) → judge_call s p ≡ refused number place → bill_call s p ≡ refused number place
  -- the three amounts add up to the cost
  pub adds-up : (c : ℕ) (b : Bill) → bill_call s p ≡ ok (c, b) → c ≡ total b
  -- the cost is below 2^53, and so is each amount
  pub below : Bytes s → (c : ℕ) (b : Bill) → bill_call s p ≡ ok (c, b) → (c < cost_limit) × AmountsBelow b
