-- What the contracts say of the room in the output, in bytes, and of what a failed write leaves.
use Rattle.std.specs.Prelude.{ℕ, ◌+◌, ◌≤◌, List, Option}
use Rattle.arrayvec.specs.ArrayVec.{ArrayVec, array_vec_len}
use Rattle.standard_input.specs.declared.failure.Failure.{Failure}
use Rattle.standard_input.specs.Failures.{OfOutput, BreaksOff}

-- a buffer
abbrev pub size : ℕ
size = 65536

-- the most bytes of a lent buffer
abbrev pub most_lent : ℕ
most_lent = 2048

-- the longest line takes less
abbrev pub line : ℕ
line = 8192

-- the words and numbers of an answer take less
abbrev pub words : ℕ
words = 160

-- there is room for the next line behind what is ready
abbrev pub Roomy : ArrayVec ℕ → Type 0
Roomy ready = array_vec_len ready + line ≤ size

-- if it was the output that failed, the writer took the first bytes of what was ready, and not all of it
abbrev pub BrokeOffIn : Failure → (old new : Option (List ℕ)) → (ready : ArrayVec ℕ) → Type 0
BrokeOffIn e old new ready = OfOutput e → BreaksOff old new ready.items
