-- The start has the lowest floor; any other cursor has its cost and the floor of its bytes.
use Rattle.std.proofs.Common.{ℕ, ◌-◌, Bool, ◌||◌, ◌&&◌, List, ◌∷◌, ◌++◌, sym, ap, ◌∙◌}
use lib.Dec.{ltb, eqb}
use lib.ListN.{replicate}
use Rattle.packing.specs.Packing.{pack}
use Rattle.sequences.specs.Lists.{before}
use Rattle.survey.specs.declared.Cursor.{Cursor}
use Rattle.survey.proofs.Cursors.{turned, lowest}
use Rattle.survey.proofs.to_draw_past.Goals as goal

-- a row of n blocks is past a cursor at the start, or after the cursor's cost and bytes
abbrev behind : Cursor → (n cost : ℕ) → List ℕ → Bool → Bool
behind c n cost q start =
    start || before (c.cost ∷ c.placement) (cost ∷ (q ++ replicate (16 - n) 0))

pub returns-then-cursor : goal.returns-then-cursor
returns-then-cursor c =
    let a = c.args in
    record {
      floor = 0;
      place = 0;
      asked = c.new.ensures;
      past = λ cost q size low. ap (behind a.cursor a.blocks cost q) c.if-cursor.true ∙ sym (lowest cost (pack q));
    }

pub returns : goal.returns
returns c =
    let floor = c.floor_place-place in
    let a = c.args in
    let from = a.cursor.cost in
    record {
      floor = from;
      place = floor.result;
      asked = c.new-2.ensures;
      past = λ cost q size low.
          ap (behind a.cursor a.blocks cost q) c.if-cursor.false ∙
          ap (λ b. ltb from cost || (eqb from cost && b)) (floor.ensures.after q size low) ∙
          turned from cost (ltb (pack q) floor.result);
    }
