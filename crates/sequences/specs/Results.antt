-- A value or a refusal: the result of every call.
use Rattle.std.specs.Prelude.{ℕ, ◌≤◌, ◌<◌}
use Rattle.std.proofs.Math.Option.{Option, none, some}

-- a value, or a refusal: its number and its place
pub data Result (A : Type 0) : Type 0 where
  ok : A → Result A
  refused : (number place : ℕ) → Result A

-- the number of a refusal, and 0 for a value
abbrev pub number_of : {A : Type 0} → Result A → ℕ
number_of (ok a) = 0
number_of (refused number place) = number

-- refused with this number if a place was found, otherwise the rest
abbrev pub unless : {A : Type 0} → Option ℕ → ℕ → Result A → Result A
unless (some place) number r = refused number place
unless none number r = r

-- go on with the value, or pass the refusal on
abbrev pub and_then : {A B : Type 0} → Result A → (A → Result B) → Result B
and_then (ok a) f = f a
and_then (refused number place) f = refused number place

-- a value, or a refusal with a number from 1 to `numbers` and a place of at most `places`
abbrev pub RefusalWithin : {A : Type 0} → (numbers places : ℕ) → Result A → Type 0
RefusalWithin numbers places (ok a) = Unit {0}
RefusalWithin numbers places (refused number place) = (0 < number) × (number ≤ numbers) × (place ≤ places)
