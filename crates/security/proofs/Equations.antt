-- What the rules are by definition, for the crates that test them.
use Prim.Native.Nat.{ℕ}
use mathlib.Core.Path.{◌≡◌, refl}
use mathlib.Core.Bool.{not, ◌&&◌}
use mathlib.Core.List.{List, map}
use lib.Dec.{eqb}
use lib.ListN.{length, get_or}
use Rattle.description.specs.declared.workflow.Block.{Block}
use Rattle.description.specs.declared.workflow.Edge.{Edge}
use Rattle.description.specs.declared.workflow.Pair.{Pair}
use Rattle.description.specs.Declarations.{Description, is_write}
use Rattle.labels.specs.Labels.{covers}
use Rattle.sequences.specs.Arrays.{table}
use Rattle.sequences.specs.Lists.{any, first, below, product}
use Rattle.sequences.specs.Results.{ok, unless}
use Rattle.security.specs.Masks.{mask_of, masks_of}
use Rattle.security.specs.Soundness.{cloud_label, block_label, clearance, breaks2_kind, breaks2, breaks3, breaks4, may_stand, choices_of, positions, count}
use Rattle.security.specs.Placements.{service_cloud, datum_cloud, moves, exposes, breaks16, breaks17, holds_both, together, bad_position, judge}

-- ---- the workflow and where blocks may stand

pub breaks2_of : (b : Block) → breaks2 b ≡ breaks2_kind b.label b.kind
unfolding breaks2
breaks2_of b = refl

module _ (d : Description) where
  pub breaks3_of : (e : Edge) → breaks3 d e ≡ not (is_write e.way) && not (covers (clearance d e.service) (block_label d e.datum))
  unfolding breaks3
  breaks3_of e = refl

  pub breaks4_of : (e : Edge) → breaks4 d e ≡ is_write e.way && not (covers (block_label d e.datum) (block_label d e.service))
  unfolding breaks4
  breaks4_of e = refl

  pub count_of : count d ≡ product (map (λ b. length (choices_of d b)) positions)
  unfolding count
  count_of = refl

  pub masks-of : masks_of d ≡ table 16 (mask_of d)
  unfolding masks_of
  masks-of = refl

-- ---- a placement

pub moves_of : (p : List ℕ) (e : Edge) → moves p e ≡ not (eqb (service_cloud p e) (datum_cloud p e))
unfolding moves
moves_of p e = refl

module _ (d : Description) (p : List ℕ) where
  pub exposes_of : (e : Edge) → exposes d p e ≡ moves p e && not (covers (cloud_label d (service_cloud p e)) (block_label d e.datum))
  unfolding exposes
  exposes_of e = refl

  pub breaks16_of : (e : Edge) → breaks16 d p e ≡ not (is_write e.way) && exposes d p e
  unfolding breaks16
  breaks16_of e = refl

  pub breaks17_of : (e : Edge) → breaks17 d p e ≡ is_write e.way && exposes d p e
  unfolding breaks17
  breaks17_of e = refl

  pub together_of : (a : Pair) → together d p a ≡ any (holds_both d p a) (below (length d.clouds))
  unfolding together
  together_of a = refl

  pub bad_position_of : (b : ℕ) → bad_position d p b ≡ not (may_stand d b (get_or p b 0))
  unfolding bad_position
  bad_position_of b = refl

  pub judge_of : judge d p ≡
      unless (first (bad_position d p) positions) 13
      (unless (first (breaks16 d p) d.edges) 14
      (unless (first (breaks17 d p) d.edges) 15
      (unless (first (together d p) d.pairs) 17
      (ok tt))))
  unfolding judge
  judge_of = refl
