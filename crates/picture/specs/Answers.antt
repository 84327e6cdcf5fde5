-- The answer of both calls: the number and values for every case.
use Rattle.std.specs.Prelude.{ℕ, List, length}
use Rattle.std.specs.Prelude as std
use Rattle.refusals.specs.declared.Refusal.{Refusal}
use Rattle.refusals.specs.Refusals.{answered}
use Rattle.sequences.specs.Results.{Result, ok, and_then}

-- how many bytes the text has, or a refusal with its number and place
abbrev pub picture_answer : std.Result ℕ Refusal → Result ℕ
picture_answer r = answered (λ n. n) r

-- how many bytes were written
abbrev pub size_of : Result (List ℕ) → Result ℕ
size_of r = and_then r (λ text. ok (length text))
