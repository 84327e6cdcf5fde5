-- List refuses as Read does, or with 16 and the words that the rows need, which are at most five for each of 65,536 candidates.
use Prim.Native.Nat.{ℕ}
use native.Mathlib.Omega.{arith}
use mathlib.Core.List.{List}
use lib.ListN.{length}
use lib.Dec.{leb}
use Rattle.sequences.specs.Results.{ok, refused, RefusalWithin}
use Rattle.sequences.proofs.Results.{within_more, within-cond, within-and_then}
use Rattle.decoding.specs.Bytes.{Bytes}
use Rattle.security.specs.Soundness.{read}
use Rattle.security.proofs.Accepted.{read-admitted}
use Rattle.security.proofs.Refusals.{read-within}
use Rattle.survey.specs.Rows.{rows}
use Rattle.whole_list.specs.WholeList.{needed, most_words, list_call}
use Rattle.survey.proofs.RowsInWords.{rows_few}

pub list_call-within : (s : List ℕ) (room : ℕ) → Bytes s → RefusalWithin 16 most_words (list_call s room)
unfolding list_call
list_call-within s room bytes =
    within-and_then 16 most_words (read s) _ (within_more 16 most_words (omega arith) (omega arith) (read s) (read-within s))
    (λ d e.
    let a = read-admitted s d e bytes in
    within-cond 16 most_words (leb (length (rows d)) room) (ok (length (rows d), length d.blocks)) (refused 16 (needed d)) (λ _. tt)
    (λ _. (omega arith, omega arith, omega (arith, rows_few d a, a.few))))
