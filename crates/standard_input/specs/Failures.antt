-- What is known of a writer after a failure of a stream.
use Rattle.std.specs.Prelude.{ℕ, ◌<◌, List, Option, length, take, ⊤}
use Rattle.std.specs.Io.KnownBytes.{Appends, Keeps}
use Rattle.standard_input.specs.declared.failure.Failure.{Failure}
use Rattle.standard_input.specs.declared.failure.Failure.TheVariants.{Input, Output}

-- it was the output that failed
abbrev pub OfOutput : Failure → Type 0
OfOutput (Input error) = ⊥
OfOutput (Output error) = ⊤

-- if it was the input that failed, nothing was written: of a writer whose bytes are known, they are the ones before
abbrev pub NotWritten : Failure → (old new : Option (List ℕ)) → Type 0
NotWritten (Input error) old new = Keeps old new
NotWritten (Output error) old new = ⊤

-- a write that failed broke off: of a writer whose bytes are known, they are the ones before and then a first part of the text, not all of it
abbrev pub BreaksOff : (old new : Option (List ℕ)) → (text : List ℕ) → Type 0
BreaksOff old new text = (n : ℕ) × (n < length text) × Appends old new (take n text)

-- of a writer whose bytes are known, those that it had stay in front, whatever was written after them
abbrev pub Grows : (old new : Option (List ℕ)) → Type 0
Grows old new = (text : List ℕ) × Appends old new text
