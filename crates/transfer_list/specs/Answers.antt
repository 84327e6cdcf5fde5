-- Transfers' answer as a result of the definitions.
use Rattle.std.specs.Prelude.{ℕ}
use Rattle.std.specs.Prelude as std
use Rattle.refusals.specs.declared.Refusal.{Refusal}
use Rattle.refusals.specs.Refusals.{answered}
use Rattle.sequences.specs.Results.{Result}

-- how many, or a refusal with its number and place
abbrev pub transfers_answer : std.Result ℕ Refusal → Result ℕ
transfers_answer r = answered (λ n. n) r
