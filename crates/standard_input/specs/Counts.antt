-- The result of reading into a buffer.
use Rattle.std.specs.Prelude.{ℕ, ◌≤◌, ◌<◌, ◌≡◌, List, length, take, Option, Result, Ok, Err}
use Rattle.std.specs.Io.KnownBytes.{Consumes, IsAtEnd}

-- the buffer has at least `count` bytes; the second part follows from the first, and is what lending these bytes as a slice asks for
abbrev pub Counted : {E : Type 0} → Result ℕ E → List ℕ → Type 0
Counted (Ok count) buffer = (count ≤ length buffer) × (count ≡ length (take count buffer))
Counted (Err error) buffer = Unit {0}

-- of a reader whose bytes are known, they were the first ones that it had left, and there are no more if they do not fill the buffer; if a
-- read failed, what it had given before is at the start of the buffer and does not fill it, and nothing else is gone
abbrev pub Taken : {E : Type 0} → (old new : Option (List ℕ)) → Result ℕ E → List ℕ → Type 0
Taken old new (Ok count) buffer = Consumes old new (take count buffer) × (count < length buffer → IsAtEnd new)
Taken old new (Err error) buffer = (n : ℕ) × (n < length buffer) × Consumes old new (take n buffer)
