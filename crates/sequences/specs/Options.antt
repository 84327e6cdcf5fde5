-- The option of the definitions that an option of the code is.
use mathlib.Core.Option.{Option, none, some}
use Rattle.std.specs.Prelude.{Some, None}

abbrev pub given : {A : Type 0} → Rattle.std.specs.Prelude.Option A → Option A
given (Some x) = some x
given None = none
