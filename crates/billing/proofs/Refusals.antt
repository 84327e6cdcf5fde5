-- Which numbers Bill refuses with, and how high their places are.
use Prim.Native.Nat.{ℕ}
use mathlib.Core.List.{List}
use Rattle.decoding.specs.Bytes.{deciding_bytes}
use Rattle.costs.specs.Cost.{bill_of, cost}
use Rattle.judging.specs.Calls.{judged}
use Rattle.judging.proofs.Refusals.{judged-within}
use Rattle.sequences.specs.Results.{ok, RefusalWithin}
use Rattle.sequences.proofs.Results.{within-and_then}
use Rattle.billing.specs.Calls.{bill_call}

pub bill_call-within : (s p : List ℕ) → RefusalWithin 17 deciding_bytes (bill_call s p)
unfolding bill_call
bill_call-within s p = within-and_then 17 deciding_bytes (judged s p) (λ d. ok (cost d p, bill_of d p)) (judged-within s p) (λ d e. tt)
