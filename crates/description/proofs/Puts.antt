-- One more cloud, block, edge or pair leaves the others, in its list and in the other three; a pin leaves all but its block.
use mathlib.Core.Path.{◌≡◌, refl}
use Prim.Native.Nat.{ℕ, ◌<◌, ◌≤◌}
use mathlib.Core.List.{◌∷◌, [], ◌++◌}
use lib.ListN.{length, set, length-set, get_or-append}
use lib.Seq.{get_or-set_other}
use Rattle.description.specs.declared.workflow.Cloud.{Cloud}
use Rattle.description.specs.declared.workflow.Block.{Block}
use Rattle.description.specs.declared.workflow.Edge.{Edge}
use Rattle.description.specs.declared.workflow.Pair.{Pair}
use Rattle.description.specs.declared.workflow.Description.TheInside.{Inside}
use Rattle.description.specs.declared.workflow.Description.TheView.{view, invariant}
use Rattle.description.specs.Declarations.{Description, no_cloud, no_block, no_edge, no_pair, cloud, block, edge, pair, pinned, with_cloud, with_block, with_edge, with_pair, with_pin}
use Rattle.description.specs.Invariants.{Limits}
use Rattle.description.specs.Most.{most_clouds, most_blocks}

-- What is put in comes after the others of its list: those are looked up as before, and the other three lists are as they were.
module _ (d : Description) (k : ℕ) where
  pub one-more-cloud : (c : Cloud)
      → let n = with_cloud d c in
      (k < length d.clouds → cloud n k ≡ cloud d k) × (n.clouds ≡ d.clouds ++ (c ∷ [])) × (n.blocks ≡ d.blocks) × (n.edges ≡ d.edges) × (n.pairs ≡ d.pairs)
  one-more-cloud c = (get_or-append d.clouds (c ∷ []) no_cloud k, refl, refl, refl, refl)

  pub one-more-block : (b : Block)
      → let n = with_block d b in
      (k < length d.blocks → block n k ≡ block d k) × (n.blocks ≡ d.blocks ++ (b ∷ [])) × (n.clouds ≡ d.clouds) × (n.edges ≡ d.edges) × (n.pairs ≡ d.pairs)
  one-more-block b = (get_or-append d.blocks (b ∷ []) no_block k, refl, refl, refl, refl)

  pub one-more-edge : (e : Edge)
      → let n = with_edge d e in
      (k < length d.edges → edge n k ≡ edge d k) × (n.edges ≡ d.edges ++ (e ∷ [])) × (n.clouds ≡ d.clouds) × (n.blocks ≡ d.blocks) × (n.pairs ≡ d.pairs)
  one-more-edge e = (get_or-append d.edges (e ∷ []) no_edge k, refl, refl, refl, refl)

  pub one-more-pair : (a : Pair)
      → let n = with_pair d a in
      (k < length d.pairs → pair n k ≡ pair d k) × (n.pairs ≡ d.pairs ++ (a ∷ [])) × (n.clouds ≡ d.clouds) × (n.blocks ≡ d.blocks) × (n.edges ≡ d.edges)
  one-more-pair a = (get_or-append d.pairs (a ∷ []) no_pair k, refl, refl, refl, refl)

  -- block b with its pin in its place, and nothing else
  pub another_block : (b j : ℕ)
      → let n = with_pin d b j in
      ((k ≡ b → ⊥) → block n k ≡ block d k) × (n.blocks ≡ set d.blocks b (pinned (block d b) j)) × (length n.blocks ≡ length d.blocks) ×
      (n.clouds ≡ d.clouds) × (n.edges ≡ d.edges) × (n.pairs ≡ d.pairs)
  another_block b j =
      (get_or-set_other d.blocks b k (pinned (block d b) j) no_block, refl, length-set d.blocks b (pinned (block d b) j), refl, refl, refl)

-- ---- there are no more than the format allows

-- a value of the code's `Description`: its fields, of which the invariant of its model holds
pub record Value : Type 0 where
  pub fields : Inside
  pub kept : invariant fields

-- every one of them is within the limits
pub few-clouds : (w : Value) → length (view w.fields).clouds ≤ most_clouds
few-clouds w = w.kept.clouds

pub few-blocks : (w : Value) → length (view w.fields).blocks ≤ most_blocks
few-blocks w = w.kept.blocks

-- and so is what the limits hold of, whatever it stands for
module _ (d : Description) (limits : Limits d) where
  pub clouds-within : length d.clouds ≤ most_clouds
  clouds-within = limits.clouds

  pub blocks-within : length d.blocks ≤ most_blocks
  blocks-within = limits.blocks
