-- A chain of draws: the cursor of each draw, and what it answers. Draw 0 is the first.
use Rattle.std.specs.Prelude.{ℕ, zero, suc, ◌≡◌, List}
use Rattle.std.proofs.Math.Option.{Option}
use Rattle.survey.specs.declared.Row.{Row}
use Rattle.survey.specs.declared.Cursor.{Cursor}
use Rattle.lister.specs.Answers.{draw_answer}
use Rattle.lister.specs.Calls.{draw_call}
use Rattle.lister.specs.DrawsListEveryRow.{at_start, moved_by}
use Rattle.lister.specs.declared.chain.Link.{Link}
use Rattle.sequences.specs.Results.{Result}

-- the start for the first draw; for a later one, the cursor that the draw before it led to
unfoldable pub cursor_after : List ℕ → ℕ → Cursor
cursor_after s zero = at_start
cursor_after s (suc k) = moved_by (cursor_after s k) (draw_call s (cursor_after s k))

unfoldable pub answer_at : List ℕ → ℕ → Result (Option Row)
answer_at s k = draw_call s (cursor_after s k)

-- a link made from the cursor c belongs to the chain: if c is the cursor of draw k, it holds the answer of draw k and the cursor of the next
abbrev pub InChain : List ℕ → Cursor → Link → Type 0
InChain s c r = (k : ℕ) → c ≡ cursor_after s k → (draw_answer r.drawn ≡ answer_at s k) × (r.next ≡ cursor_after s (suc k))
