-- The result of a call as one number, and the lent values after it.
use Rattle.std.specs.Prelude.{ℕ, ◌+◌, ◌*◌, ◌-◌, ◌^◌, min, List}
use Rattle.sequences.specs.Results.{Result, ok, refused}

-- the highest place that 56 bits hold
abbrev pub highest_place : ℕ
highest_place = 2 ^ 56 - 1

-- a refusal: the number in the low 8 bits, the place in the other 56; a place that does not fit becomes the highest that does
abbrev pub refusal_status : (number place : ℕ) → ℕ
refusal_status number place = number + 256 * min place highest_place

-- 0 if the call is not refused
abbrev pub status : {A : Type 0} → Result A → ℕ
status (ok a) = 0
status (refused number place) = refusal_status number place

-- lent values after the call: those of the answer; unchanged after a refusal
abbrev pub values_after : {A : Type 0} → (A → List ℕ) → Result A → List ℕ → List ℕ
values_after values (ok a) before = values a
values_after values (refused number place) before = before
