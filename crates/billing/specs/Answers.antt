-- What Bill answers: for every case the number and values.
use Rattle.std.specs.Prelude.{ℕ}
use Rattle.std.specs.Prelude as std
use Rattle.refusals.specs.declared.Refusal.{Refusal}
use Rattle.refusals.specs.Refusals.{answered}
use Rattle.costs.specs.declared.answers.Bill.{Bill}
use Rattle.billing.specs.declared.Price.{Price}
use Rattle.sequences.specs.Results.{Result}

-- the cost with its bill, or a refusal with its number and place
abbrev pub price_of : Price → ℕ × Bill
price_of p = (p.cost, p.bill)

abbrev pub bill_answer : std.Result Price Refusal → Result (ℕ × Bill)
bill_answer r = answered price_of r
