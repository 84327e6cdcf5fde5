-- The call Bill: what Read and then Judge refuse goes first.
use Rattle.std.specs.Prelude.{ℕ, List}
use Rattle.costs.specs.declared.answers.Bill.{Bill}
use Rattle.costs.specs.Cost.{bill_of, cost}
use Rattle.judging.specs.Calls.{judged}
use Rattle.sequences.specs.Results.{Result, ok, and_then}

-- the cost of a secure placement, and the three amounts that it is the sum of
unfoldable pub bill_call : List ℕ → List ℕ → Result (ℕ × Bill)
bill_call s p = and_then (judged s p) (λ d. ok (cost d p, bill_of d p))
