-- The rows rise, and are those of the placements that represent their options; and a draw can be made by one walk over the candidates.
use Prim.Native.Nat.{ℕ}
use mathlib.Core.Path.{◌≡◌, refl, sym, ap, ◌∙◌}
use mathlib.Core.Logic.Iff
use mathlib.Core.Logic.{◌↔◌}
use mathlib.Core.Bool.{true, ◌&&◌}
use mathlib.Core.List.Memᴰ
use mathlib.Core.List.{List, map, foldl, Memᴰ}
use mathlib.Core.Option.{none}
use Rattle.description.specs.Declarations.{Description}
use Rattle.security.specs.Soundness.{candidates}
use Rattle.security.specs.Placements.{secure}
use Rattle.security.proofs.Candidates.{candidates-once}
use Rattle.survey.specs.declared.Row.{Row}
use Rattle.survey.specs.declared.Cursor.{Cursor}
use Rattle.survey.specs.Rows.{secure_placements, earlier, row_of, stands, rows, later, draw}
use Rattle.survey.proofs.RowOrder.{placement-order}
use Rattle.sequences.specs.Ascending.{Ascending, Once}
use Rattle.sequences.specs.Draws.{better_if}
use Rattle.sequences.specs.Lists.{keep, find, sort}
use Rattle.sequences.proofs.Ascending.{keep-once}
use Rattle.sequences.proofs.Mapped.{walk-is-first-mapped, sort-ascends-mapped}
use Rattle.sequences.proofs.Members.{keep-members}
use Rattle.sequences.proofs.Parts.{keep-both}
use Rattle.sequences.proofs.Sorting.{sort-members}

-- each secure placement occurs once
pub secure-once : (d : Description) → Once (secure_placements d)
unfolding secure_placements
secure-once d = keep-once (secure d) (candidates d) (candidates-once d)

module _ (d : Description) where
  -- the placements that represent their options, and their rows before they are sorted
  abbrev pub standing : List (List ℕ)
  standing = keep (stands d) (secure_placements d)

  pub standing-once : Once standing
  standing-once = keep-once (stands d) (secure_placements d) (secure-once d)

  abbrev pub unsorted : List Row
  unsorted = map (row_of d) standing

  unsorted-members : (r : Row)
      → Memᴰ r unsorted ↔ ((p : List ℕ) × Memᴰ p (secure_placements d) × (stands d p ≡ true) × (row_of d p ≡ r))
  unsorted-members r = (
    λ m.
        let (p, k, e) = Memᴰ.of_map (row_of d) standing m in
        let (i, s) = (keep-members (stands d) (secure_placements d) p).0 k in
        (p, i, s, e),
    λ (p, i, s, e). Memᴰ.cast (sym e) (Memᴰ.map (row_of d) ((keep-members (stands d) (secure_placements d) p).1 (i, s))),
  )

  -- the rows rise strictly
  pub rows-rise : Ascending earlier (rows d)
  unfolding rows
  rows-rise = sort-ascends-mapped (row_of d) earlier (placement-order d) standing standing-once

  -- they are the rows of the secure placements that represent their options
  pub rows-standing : (r : Row)
      → Memᴰ r (rows d) ↔ ((p : List ℕ) × Memᴰ p (secure_placements d) × (stands d p ≡ true) × (row_of d p ≡ r))
  unfolding rows
  rows-standing r = Iff.trans (sort-members earlier unsorted r) (unsorted-members r)

-- a draw is one walk over the candidates: of those that are secure and represent their options, it keeps the first past the cursor
pub draw-walks : (d : Description) (c : Cursor)
    → draw d c ≡ foldl (better_if earlier (later c) (λ p. secure d p && stands d p) (row_of d)) none (candidates d)
unfolding draw rows secure_placements
draw-walks d c =
    ap (λ (l : List (List ℕ)). find (later c) (sort earlier (map (row_of d) l))) (keep-both (secure d) (stands d) (candidates d)) ∙
    sym (walk-is-first-mapped (row_of d) earlier (placement-order d) (later c) (λ p. secure d p && stands d p) (candidates d))

-- the rows are those of these placements, sorted; and a draw answers the first of them that is past its cursor
module _ (d : Description) where
  pub rows-sorted : rows d ≡ sort earlier (unsorted d)
  unfolding rows
  rows-sorted = refl

  pub draw-finds : (c : Cursor) → draw d c ≡ find (later c) (sort earlier (unsorted d))
  unfolding draw rows
  draw-finds c = refl
