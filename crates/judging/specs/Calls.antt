-- The calls Read, Masks, Judge and Transfers: each takes the description's bytes, and refuses first what Read refuses.
use Rattle.std.specs.Prelude.{ℕ, List, length}
use Rattle.description.specs.Declarations.{Description}
use Rattle.security.specs.Masks.{masks_of}
use Rattle.security.specs.Soundness.{read}
use Rattle.security.specs.Placements.{judge}
use Rattle.transfer_list.specs.Transfers.{Transfer, transfers, fitted}
use Rattle.sequences.specs.Results.{Result, ok, and_then}

-- the counts of clouds, blocks and edges
pub record Counts : Type 0 where
  pub clouds : ℕ
  pub blocks : ℕ
  pub edges : ℕ

abbrev pub counts_of : Description → Counts
counts_of d = record { clouds = length d.clouds; blocks = length d.blocks; edges = length d.edges }

unfoldable pub read_call : List ℕ → Result Counts
read_call s = and_then (read s) (λ d. ok (counts_of d))

-- the sixteen bytes that say which clouds each block may use
abbrev pub masked : Result Description → Result (List ℕ)
masked r = and_then r (λ d. ok (masks_of d))

unfoldable pub masks_call : List ℕ → Result (List ℕ)
masks_call s = masked (read s)

unfoldable pub judge_call : List ℕ → List ℕ → Result (Unit {0})
judge_call s p = and_then (read s) (λ d. judge d p)

-- what the bytes declare, if it is accepted and the placement is secure for it
unfoldable pub judged : List ℕ → List ℕ → Result Description
judged s p = and_then (read s) (λ d. and_then (judge d p) (λ secure. ok d))

-- the transfers that are written to a buffer of n bytes
unfoldable pub transfers_call : List ℕ → List ℕ → ℕ → Result (List Transfer)
transfers_call s p n = and_then (read s) (λ d. and_then (judge d p) (λ secure. fitted n (transfers d p)))
