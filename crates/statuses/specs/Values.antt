-- The values that answers put into lent arrays, in their order.
use Rattle.std.specs.Prelude.{ℕ, List, [], ◌∷◌, length, replicate}
use Rattle.std.proofs.Math.Option.{Option, none, some}
use Rattle.judging.specs.Calls.{Counts}
use Rattle.costs.specs.declared.answers.Bill.{Bill}
use Rattle.transfer_list.specs.Transfers.{Transfer}
use Rattle.survey.specs.declared.Row.{Row}
use Rattle.survey.specs.Rows.{Census}

-- Read: clouds, blocks, edges
abbrev pub counts : Counts → List ℕ
counts c = c.clouds ∷ c.blocks ∷ c.edges ∷ []

-- one number alone
abbrev pub one : ℕ → List ℕ
one n = n ∷ []

-- Transfers: how many
abbrev pub transfer_count : List Transfer → List ℕ
transfer_count ts = one (length ts)

-- Picture: how many bytes its text has
abbrev pub byte_count : List ℕ → List ℕ
byte_count text = one (length text)

-- Bill: the cost, then storage, transfer and cpu
abbrev pub price : ℕ × Bill → List ℕ
price p = p.0 ∷ p.1.storage ∷ p.1.transfer ∷ p.1.cpu ∷ []

-- Census: candidates, those that break rule 16, those that break rule 17 alone, those that break a pair alone, secure ones, options
abbrev pub figures : Census → List ℕ
figures c = c.candidates ∷ c.breaking16 ∷ c.breaking17only ∷ c.apartonly ∷ c.secure ∷ c.options ∷ []

-- Draw: 1, and the cost of a row with the three amounts of its bill; or zeros if there is none
abbrev pub row_or_none : Option Row → List ℕ
row_or_none (some row) = 1 ∷ row.cost ∷ row.bill.storage ∷ row.bill.transfer ∷ row.bill.cpu ∷ []
row_or_none none = 0 ∷ 0 ∷ 0 ∷ 0 ∷ 0 ∷ []

-- Draw: the sixteen bytes of the row, or zeros
abbrev pub row_bytes : Option Row → List ℕ
row_bytes (some row) = row.placement
row_bytes none = replicate 16 0

-- List: rows, blocks
abbrev pub extent : ℕ × ℕ → List ℕ
extent e = e.0 ∷ e.1 ∷ []
