-- The lines in the text.
use Prim.Native.Nat.{ℕ, ◌+◌, ◌≤◌, min}
use native.Mathlib.Nat.{zero-add}
use native.Mathlib.Omega.{arith}
use mathlib.Core.Path.{◌≡◌, ap, ap₂, ◌∙◌}
use mathlib.Core.List.{List, [], ◌∷◌, ◌++◌, map, append-nil, map-append}
use lib.ListN.{length, take, drop, length-append}
use lib.Seq.{take-append_seam}
use Rattle.std.specs.Prelude.{Result as StdResult, Ok, Err, OnErr}
use borrow.Author.Tests.{le-leb}
use Rattle.list_text.specs.Lines.{placed, placed_end, written}
use Rattle.list_text.specs.RowLines.{words_line, rows_text}
use Rattle.sequences.specs.Lists.{from, below, joined}
use Rattle.sequences.proofs.Counting.{from-split}
use Rattle.sequences.proofs.Joined.{joined-append}
use Rattle.drawoptions.specs.Drawing.{most_digits, line_bytes, line_at, lines_before, Front}

-- what is written at offset 0 is the front
pub written-front : (line old : List ℕ) {now : List ℕ} {end : ℕ} → end ≡ length line → now ≡ written line old 0 → Front line end now
written-front line old e h = (
  omega (arith, e, ap length h ∙ length-append line (drop (0 + length line) old)),
  ap₂ take e h ∙ take-append_seam line (drop (0 + length line) old),
)

-- the same for a line for which there is room
pub placed-front : (line old : List ℕ) (most : ℕ) {now : List ℕ} {end : ℕ} → most ≤ length old → length line ≤ most
    → end ≡ placed_end line old 0 → now ≡ placed line old 0 → Front line end now
placed-front line old most room few p q =
    let fits = le-leb (0 + length line) (length old) (omega arith) in written-front line old (rw fits at p ∙ zero-add _) (rw fits at q)

-- five words are one row, and a buffer for one line has room for it
pub one-row : (digits cost place storage transfer cpu : ℕ) (old : List ℕ) → digits ≤ most_digits → length old ≡ line_bytes
    → rows_text (cost ∷ place ∷ storage ∷ transfer ∷ cpu ∷ []) digits old ≡ words_line digits cost place storage transfer cpu
one-row digits cost place storage transfer cpu old few room =
    let all : min digits most_digits ≡ digits = omega arith in rw (room, all) (append-nil (words_line digits cost place storage transfer cpu))

-- one more draw
pub next-line : (s : List ℕ) (n : ℕ) → lines_before s (n + 1) ≡ lines_before s n ++ line_at s n
next-line s n =
    ap (λ l. joined (map (line_at s) l)) (from-split 0 n 1) ∙ ap joined (map-append (line_at s) (below n) (from (0 + n) 1)) ∙
    joined-append (map (line_at s) (below n)) (line_at s (0 + n) ∷ []) ∙
    ap (λ l. lines_before s n ++ l) (append-nil (line_at s (0 + n)) ∙ ap (line_at s) (zero-add n))

-- what holds anyway holds after an error
pub on_err : {T E P : Type 0} (r : StdResult T E) → P → OnErr r P
on_err (Ok x) p = tt
on_err (Err e) p = p
