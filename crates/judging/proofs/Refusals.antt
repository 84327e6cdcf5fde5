-- Which numbers Read, Masks, Judge and Transfers refuse with, and how high their places are.
use Prim.Native.Nat.{ℕ, ◌≤◌}
use native.Mathlib.Omega.{arith}
use mathlib.Core.Path.{◌≡◌}
use mathlib.Core.List.{List}
use lib.ListN.{length}
use lib.Dec.{ltb}
use Rattle.sequences.specs.Results.{ok, refused, and_then, RefusalWithin}
use Rattle.sequences.proofs.Results.{within_more, within-cond, within-and_then}
use Rattle.decoding.specs.Bytes.{deciding_bytes}
use Rattle.description.specs.Declarations.{Description}
use Rattle.security.specs.Masks.{masks_of}
use Rattle.security.specs.Soundness.{read}
use Rattle.security.specs.Placements.{judge}
use Rattle.security.proofs.Accepted.{read-well_formed}
use Rattle.security.proofs.Refusals.{read-within, judged-within as verdict-within}
use Rattle.transfer_list.specs.Transfers.{transfers, bytes_of, fitted}
use Rattle.transfer_list.proofs.Transferring.{bytes-length, transfers-few}
use Rattle.judging.specs.Calls.{counts_of, read_call, masks_call, judge_call, judged, transfers_call}

-- 128 bytes hold the transfers of any placement
pub transfers-room : (s : List ℕ) (d : Description) → read s ≡ ok d → (p : List ℕ) → length (bytes_of (transfers d p)) ≤ 128
transfers-room s d e p = omega (arith, bytes-length (transfers d p), transfers-few d p, (read-well_formed s d e).limits.edges)

module _ (s : List ℕ) where
  pub read_call-within : RefusalWithin 12 deciding_bytes (read_call s)
  unfolding read_call
  read_call-within = within-and_then 12 deciding_bytes (read s) (λ d. ok (counts_of d)) (read-within s) (λ d e. tt)

  pub masks_call-within : RefusalWithin 12 deciding_bytes (masks_call s)
  unfolding masks_call
  masks_call-within = within-and_then 12 deciding_bytes (read s) (λ d. ok (masks_of d)) (read-within s) (λ d e. tt)

  read-wider : (numbers : ℕ) → 12 ≤ numbers → RefusalWithin numbers deciding_bytes (read s)
  read-wider numbers h = within_more numbers deciding_bytes h (omega arith) (read s) (read-within s)

  pub judge_call-within : (p : List ℕ) → RefusalWithin 17 deciding_bytes (judge_call s p)
  unfolding judge_call
  judge_call-within p = within-and_then 17 deciding_bytes (read s) (λ d. judge d p) (read-wider 17 (omega arith)) (λ d e. verdict-within s d e p)

  pub judged-within : (p : List ℕ) → RefusalWithin 17 deciding_bytes (judged s p)
  unfolding judged
  judged-within p =
      within-and_then 17 deciding_bytes (read s) (λ d. and_then (judge d p) (λ secure. ok d)) (read-wider 17 (omega arith))
      (λ d e. within-and_then 17 deciding_bytes (judge d p) (λ secure. ok d) (verdict-within s d e p) (λ secure _. tt))

  pub transfers_call-within : (p : List ℕ) (n : ℕ) → RefusalWithin 17 deciding_bytes (transfers_call s p n)
  unfolding transfers_call
  transfers_call-within p n =
      within-and_then 17 deciding_bytes (read s) (λ d. and_then (judge d p) (λ secure. fitted n (transfers d p))) (read-wider 17 (omega arith))
      (λ d e. within-and_then 17 deciding_bytes (judge d p) (λ secure. fitted n (transfers d p))
      (verdict-within s d e p) (λ secure _. short d e))
    where
      short : (d : Description) → read s ≡ ok d → RefusalWithin 17 deciding_bytes (fitted n (transfers d p))
      short d e =
          let ts = transfers d p in
          within-cond 17 deciding_bytes (ltb n (length (bytes_of ts))) (refused 16 (length (bytes_of ts))) (ok ts)
          (λ _. (omega arith, omega arith, omega (arith, transfers-room s d e p))) (λ _. tt)
