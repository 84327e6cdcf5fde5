-- Census and Draw refuse what Read refuses.
use Prim.Native.Nat.{ℕ}
use mathlib.Core.List.{List}
use Rattle.decoding.specs.Bytes.{deciding_bytes}
use Rattle.sequences.specs.Results.{ok, RefusalWithin}
use Rattle.sequences.proofs.Results.{within-and_then}
use Rattle.security.specs.Soundness.{read}
use Rattle.security.proofs.Refusals.{read-within}
use Rattle.survey.specs.declared.Cursor.{Cursor}
use Rattle.survey.specs.Rows.{census, draw}
use Rattle.lister.specs.Calls.{census_call, draw_call}

pub census_call-within : (s : List ℕ) → RefusalWithin 12 deciding_bytes (census_call s)
unfolding census_call
census_call-within s = within-and_then 12 deciding_bytes (read s) (λ d. ok (census d)) (read-within s) (λ d e. tt)

pub draw_call-within : (s : List ℕ) (c : Cursor) → RefusalWithin 12 deciding_bytes (draw_call s c)
unfolding draw_call
draw_call-within s c = within-and_then 12 deciding_bytes (read s) (λ d. ok (draw d c)) (read-within s) (λ d e. tt)
