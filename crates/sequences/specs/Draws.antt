-- Draws: the first element past a cursor, found by one walk over an unordered list; and draws in a row, each from the cursor that the
-- previous one left.
use Rattle.std.specs.Prelude.{ℕ, zero, suc, ◌≡◌, Bool, true, ◌&&◌, cond}
use mathlib.Core.List.{List, [], ◌∷◌, foldl}
use Rattle.std.proofs.Math.Option.{Option, none, some}

module _ {A : Type 0} where
  -- x is before the best so far, or there is none yet
  abbrev pub beats : (A → A → Bool) → A → Option A → Bool
  beats test x none = true
  beats test x (some best) = test x best

  -- the best so far after looking at x: x replaces it if x is past the cursor and beats it
  abbrev pub better : (test : A → A → Bool) (later : A → Bool) → Option A → A → Option A
  better test later best x = cond (later x && beats test x best) (some x) best

  -- the walk over the whole list
  abbrev pub best_of : (test : A → A → Bool) (later : A → Bool) → List A → Option A
  best_of test later xs = foldl (better test later) none xs

  -- the best so far after looking at b, which counts as the element f b if it passes t
  abbrev pub better_if : {B : Type 0} (test : A → A → Bool) (later : A → Bool) (t : B → Bool) (f : B → A) → Option A → B → Option A
  better_if test later t f best b = cond (t b && later (f b) && beats test (f b) best) (some (f b)) best

-- the cursor after an answer: past the answered element; unchanged if there was none
abbrev pub moved : {A C : Type 0} (past : A → C) → C → Option A → C
moved past c none = c
moved past c (some x) = past x

-- the answers of n draws: the first from cursor c, each later one from the cursor that the previous answer leads to
abbrev pub chained : {A C : Type 0} (draw : C → A) (next : C → A → C) → C → ℕ → List A
chained draw next c zero = []
chained draw next c (suc n) = draw c ∷ chained draw next (next c (draw c)) n

-- Cursors into an order: whatever comes after an element past a cursor is past that cursor too; and past the cursor of an element are
-- exactly the elements after it.
pub record Cursors {A C : Type 0} (test : A → A → Bool) (later : C → A → Bool) (past : A → C) : Type 0 where
  pub upward : (c : C) (x y : A) → later c x ≡ true → test x y ≡ true → later c y ≡ true
  pub after : (x y : A) → later (past x) y ≡ test x y
