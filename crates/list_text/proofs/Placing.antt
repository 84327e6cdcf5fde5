-- A line that was put into a buffer where it fits, and a text that was copied byte by byte.
use Prim.Native.Nat.{ℕ, ◌+◌, ◌≤◌}
use mathlib.Core.Path.{◌≡◌, ap, ◌∙◌}
use mathlib.Core.List.{List, ◌++◌}
use lib.ListN.{length, take, drop}
use lib.Seq.{paste, take-length}
use borrow.Author.Tests.{le-leb}
use Rattle.list_text.specs.Lines.{written, placed, placed_end}
use Rattle.list_text.proofs.Writing.{Put}

pub line_put : {line buffer last : List ℕ} {at end : ℕ} → Put line buffer last at end → at + length line ≤ length buffer
    → (end ≡ placed_end line buffer at) × (last ≡ placed line buffer at)
line_put p room = rw (le-leb _ _ room) (p.ends, p.bytes)

pub whole : (text buffer : List ℕ) (at k : ℕ) → k ≡ length text → paste buffer at text k ≡ written text buffer at
whole text buffer at k e =
    ap (λ (n : ℕ). paste buffer at text n) e ∙ ap (λ l. take at buffer ++ l ++ drop (at + length text) buffer) (take-length text)
