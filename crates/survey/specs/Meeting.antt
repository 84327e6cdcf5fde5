-- What the walk over a description meets, using the sixteen bytes alone: exactly the candidates, each once, in lexicographic order.
use Rattle.std.specs.Prelude.{◌≡◌, ℕ, length}
use mathlib.Core.List.{List, foldl}
use Rattle.sequences.specs.Bits.{bit_choices}
use Rattle.description.specs.Declarations.{Description}
use Rattle.security.specs.Masks.{masks_of, block_masks, Permitted, Chooses}
use Rattle.visit.specs.Tables.{Tests}
use Rattle.walk.specs.Walking.{see_at}
use Rattle.table_entries.specs.Building.{tables_of}
use Rattle.survey.specs.Surveys.{seen_of}

-- the placements of the blocks that the sixteen bytes permit
abbrev pub by_masks : Description → List (List ℕ)
by_masks d = bit_choices (block_masks d (masks_of d))

pub record MeetsCandidates (d : Description) : Type 1 where
  -- whatever is done at a placement, what a walk leaves comes from these placements, one after the other
  pub sees : {V : Type 0} (see : (weight place : ℕ) → Tests → V → V) (v : V)
      → seen_of see d v ≡ foldl (see_at see (tables_of d) (length d.blocks)) v (by_masks d)
  -- the bytes are the rule, and the placements by them are the candidates
  pub permitted : Permitted d (masks_of d)
  pub chooses : Chooses d (masks_of d)
