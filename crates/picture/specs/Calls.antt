-- The calls Picture and Picture size: first what Read and then Judge refuse; last, a buffer that is too short.
use Rattle.std.specs.Prelude.{ℕ, cond, List, ◌++◌, length, drop, ltb}
use Rattle.judging.specs.Calls.{judged}
use Rattle.sequences.specs.Results.{Result, ok, refused, and_then}
use Rattle.picture.specs.Picture.{picture}

-- the text, if a buffer of n bytes has room for it; 16, with the bytes needed, if it is too short
abbrev pub fitted : ℕ → List ℕ → Result (List ℕ)
fitted n text = cond (ltb n (length text)) (refused 16 (length text)) (ok text)

-- the text that is written to a buffer of n bytes
unfoldable pub picture_call : List ℕ → List ℕ → ℕ → Result (List ℕ)
picture_call s p n = and_then (judged s p) (λ d. fitted n (picture d p))

-- how many bytes it has
unfoldable pub size_call : List ℕ → List ℕ → Result ℕ
size_call s p = and_then (judged s p) (λ d. ok (length (picture d p)))

-- what a buffer holds after the call: the text and, beyond it, what it held before; after a refusal, what it held before
unfoldable pub buffer_after : Result (List ℕ) → List ℕ → List ℕ
buffer_after (ok text) buffer = text ++ drop (length text) buffer
buffer_after (refused number place) buffer = buffer
