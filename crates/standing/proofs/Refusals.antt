-- Standing refuses what Read refuses, and nothing else.
use Prim.Native.Nat.{ℕ}
use mathlib.Core.List.{List}
use Rattle.decoding.specs.Bytes.{deciding_bytes}
use Rattle.security.specs.Soundness.{read}
use Rattle.security.proofs.Refusals.{read-within}
use Rattle.sequences.specs.Results.{ok, RefusalWithin}
use Rattle.sequences.proofs.Results.{within-and_then}
use Rattle.standing.specs.Reasons.{reason, standing_call}

pub standing_call-within : (s : List ℕ) (b k : ℕ) → RefusalWithin 12 deciding_bytes (standing_call s b k)
unfolding standing_call
standing_call-within s b k = within-and_then 12 deciding_bytes (read s) (λ d. ok (reason d b k)) (read-within s) (λ d e. tt)
