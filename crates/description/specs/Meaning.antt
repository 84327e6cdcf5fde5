-- What the code's values mean: the result that an outcome represents, and what is left of a description after it.
use Rattle.std.specs.Prelude.{◌≡◌}
use Rattle.std.specs.Prelude as std
use Rattle.description.specs.Declarations.{Description, nothing}
use Rattle.refusals.specs.declared.Refusal.{Refusal}
use Rattle.refusals.specs.Refusals.{answered}
use Rattle.sequences.specs.Results.{Result, ok, refused}

-- a is what an outcome without a value accepts
abbrev pub outcome_of : {A : Type 0} → std.Result (Unit {0}) Refusal → A → Result A
outcome_of r a = answered (λ u. a) r

-- after a refusal nothing is declared
abbrev pub Cleared : {A : Type 0} → Result A → Description → Type 0
Cleared (ok a) d = Unit {0}
Cleared (refused number place) d = d ≡ nothing
