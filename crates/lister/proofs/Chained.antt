-- The answers of a chain's links, in their order, are the answers in `draws-list-every-row`.
use Prim.Native.Nat.{ℕ, zero, suc}
use mathlib.Core.Path.{◌≡◌, refl, sym, ap, ◌∙◌}
use mathlib.Core.List.{List, ◌∷◌, ◌++◌, map}
use mathlib.Core.Option.{none, some}
use lib.ListN.{take, replicate}
use Rattle.description.specs.Declarations.{Description}
use Rattle.security.specs.Soundness.{read}
use Rattle.lister.specs.Calls.{draw_call}
use Rattle.lister.specs.DrawsListEveryRow.{at_start, moved_by, results}
use Rattle.survey.specs.Rows.{rows}
use Rattle.lister.proofs.DrawsListEveryRow.{draws-list-every-row}
use Rattle.lister.specs.Chain.{answer_at, cursor_after}
use Rattle.sequences.specs.Draws.{chained}
use Rattle.sequences.specs.Lists.{from, below}
use Rattle.sequences.specs.Results.{ok}

pub chain-begins : (s : List ℕ) → cursor_after s 0 ≡ at_start
unfolding cursor_after
chain-begins s = refl

-- from draw j on
chained-from : (s : List ℕ) (j n : ℕ) → chained (draw_call s) moved_by (cursor_after s j) n ≡ map (answer_at s) (from j n)
unfolding answer_at cursor_after
chained-from s j zero = refl
chained-from s j (suc n) = ap (λ l. draw_call s (cursor_after s j) ∷ l) (chained-from s (suc j) n)

-- n draws in a row are the links 0 to n - 1
pub chain-results : (s : List ℕ) (n : ℕ) → results s n ≡ map (answer_at s) (below n)
unfolding results cursor_after
chain-results s n = chained-from s 0 n

-- for an accepted description: the rows in their order, each once, and then finished
pub chain-rows : (s : List ℕ) (d : Description) → read s ≡ ok d → (n : ℕ) → map (answer_at s) (below n) ≡ map ok (take n (map some (rows d) ++ replicate n none))
chain-rows s d accepted n = sym (chain-results s n) ∙ (draws-list-every-row s d accepted).called n
