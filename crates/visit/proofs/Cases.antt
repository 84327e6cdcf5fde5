-- A row in lent words.
use Prim.Native.Nat.{ℕ, ◌+◌, ◌*◌, ◌≤◌, ◌<◌}
use native.Mathlib.Numerals.{add-one}
use mathlib.Core.Path.{◌≡◌, ap, ◌∙◌}
use mathlib.Core.Bool.{true, false}
use mathlib.Core.List.{List, [], ◌∷◌, ◌++◌}
use lib.ListN.{length, take, drop, set}
use lib.Seq.{sets-eq}
use borrow.Author.Tests.{lt-leb, le-leb}
use Rattle.visit.specs.declared.counts.Count.{Count}
use Rattle.visit.specs.Tables.{Tests}
use Rattle.visit.specs.Visits.{counted, with_row, keep_row}
use Rattle.visit.proofs.Classes.{is_row}

module _ (weight place : ℕ) (t : Tests) (c : Count) where
  pub row-counted : is_row weight t ≡ true → (counted weight place t c).rows ≡ c.rows + 1
  unfolding counted
  row-counted h = rw h

  pub other-counted : is_row weight t ≡ false → (counted weight place t c).rows ≡ c.rows + 0
  unfolding counted
  other-counted h = rw h

  pub kept-other : (words : List ℕ) → is_row weight t ≡ false → keep_row weight place t c words ≡ words
  unfolding keep_row
  kept-other words h = rw h

  pub kept_row : (words : List ℕ) → is_row weight t ≡ true → keep_row weight place t c words ≡ with_row c.rows weight place words
  unfolding keep_row
  kept_row words h = rw h

-- ---- a row in lent words

module _ (n cost place : ℕ) (words : List ℕ) where
  -- if there is no room, the words stay
  pub no_room : length words < n * 2 + 2 → with_row n cost place words ≡ words
  unfolding with_row
  no_room h = rw (lt-leb (n * 2 + 2) (length words) h)

  pub row-stored : n * 2 + 2 ≤ length words → with_row n cost place words ≡ set (set words (n * 2) cost) (n * 2 + 1) place
  unfolding with_row
  row-stored h = rw (le-leb (n * 2 + 2) (length words) h)

  -- if there is room it is stored after the n rows before it, and what is beyond stays
  pub row-behind : n * 2 + 2 ≤ length words → with_row n cost place words ≡ take (n * 2) words ++ (cost ∷ place ∷ []) ++ drop (n * 2 + 2) words
  row-behind h = row-stored h ∙ ap (λ k. set (set words (n * 2) cost) k place) (add-one (n * 2)) ∙ sets-eq (cost ∷ place ∷ []) words (n * 2) h
