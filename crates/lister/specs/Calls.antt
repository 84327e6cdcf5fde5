-- The calls Census and Draw: each takes the description's bytes, and refuses first what Read refuses.
use Rattle.std.specs.Prelude.{ℕ, List}
use Rattle.std.proofs.Math.Option.{Option}
use Rattle.security.specs.Soundness.{read}
use Rattle.survey.specs.declared.Row.{Row}
use Rattle.survey.specs.declared.Cursor.{Cursor}
use Rattle.survey.specs.Rows.{Census, census, draw}
use Rattle.sequences.specs.Results.{Result, ok, and_then}

unfoldable pub census_call : List ℕ → Result Census
census_call s = and_then (read s) (λ d. ok (census d))

-- none means finished
unfoldable pub draw_call : List ℕ → Cursor → Result (Option Row)
draw_call s c = and_then (read s) (λ d. ok (draw d c))
