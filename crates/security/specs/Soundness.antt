-- The rules on the workflow itself, where each block may stand, and what Read gives: refusals 9 to 12 after those of decoding.
use Rattle.std.specs.Prelude.{ℕ, Bool, true, false, not, ◌&&◌, cond, List, map, length, ltb, eqb}
use Rattle.std.specs.Prelude.{Some, None}
use Rattle.description.specs.Declarations.{Pin}
use Rattle.std.proofs.Math.Option.{Option, none, some}
use Rattle.description.specs.declared.workflow.Block.{Block}
use Rattle.description.specs.declared.workflow.Kind.{Kind}
use Rattle.description.specs.declared.workflow.Kind.TheVariants.{Datum, Service}
use Rattle.description.specs.declared.workflow.Edge.{Edge}
use Rattle.description.specs.Declarations.{Description, cloud, block, is_write, names_cloud, names_block}
use Rattle.decoding.specs.Format.{decode}
use Rattle.labels.specs.Labels.{covers}
use Rattle.sequences.specs.Lists.{keep, first, below, sequences, product}
use Rattle.sequences.specs.Results.{Result, ok, unless, and_then}

-- The label of a cloud and of a block, by number (l in the rules): for a datum its own, for a service its location. Clearances are labels
-- too. Each ≥ between them in the rules means covers.
abbrev pub cloud_label : Description → ℕ → ℕ
cloud_label d k = (cloud d k).label

abbrev pub block_label : Description → ℕ → ℕ
block_label d b = (block d b).label

-- the clearance of a service (c in the rules)
abbrev pub clearance_of : Kind → ℕ
clearance_of (Datum size longevity) = 0
clearance_of (Service clearance units) = clearance

abbrev pub clearance : Description → ℕ → ℕ
clearance d s = clearance_of (block d s).kind

-- rule 2: a service's clearance covers its location
abbrev pub breaks2_kind : ℕ → Kind → Bool
breaks2_kind location (Datum size longevity) = false
breaks2_kind location (Service clearance units) = not (covers clearance location)

unfoldable pub breaks2 : Block → Bool
breaks2 b = breaks2_kind b.label b.kind

-- rule 3: a reader's clearance covers the label of the datum
unfoldable pub breaks3 : Description → Edge → Bool
breaks3 d e = not (is_write e.way) && not (covers (clearance d e.service) (block_label d e.datum))

-- rule 4: the label of a datum covers its writer's location
unfoldable pub breaks4 : Description → Edge → Bool
breaks4 d e = is_write e.way && not (covers (block_label d e.datum) (block_label d e.service))

-- a pin lets its block stand on that cloud only
abbrev pub pin_allows : Pin → ℕ → Bool
pin_allows None k = true
pin_allows (Some c) k = eqb c k

-- cloud k is declared, and its label covers this one (rule 7)
abbrev pub cloud_covers : Description → (label k : ℕ) → Bool
cloud_covers d label k = names_cloud d k && covers (cloud_label d k) label

-- Block b may stand on cloud k: k is declared, its label covers that of b, and the pin of b allows it. A position past the last block has 0.
unfoldable pub may_stand : Description → ℕ → ℕ → Bool
may_stand d b k = cond (names_block d b) (cloud_covers d (block_label d b) k && pin_allows (block d b).pin k) (eqb k 0)

-- the clouds that position b may have, and the sixteen positions
unfoldable pub choices_of : Description → ℕ → List ℕ
choices_of d b = keep (may_stand d b) (below 8)

abbrev pub positions : List ℕ
positions = below 16

-- the candidates, in lexicographic order; how many there are, without listing them
unfoldable pub candidates : Description → List (List ℕ)
candidates d = sequences (map (choices_of d) positions)

unfoldable pub count : Description → ℕ
count d = product (map (λ b. length (choices_of d b)) positions)

-- 12: more than 65,536 candidates, place 0
abbrev pub too_many : Description → Option ℕ
too_many d = cond (ltb 65536 (count d)) (some 0) none

-- 9: rule 2, the lowest block; 10: rule 3, the first edge; 11: rule 4, the first edge; then 12
unfoldable pub sound : Description → Result Description
sound d =
    unless (first breaks2 d.blocks) 9
    (unless (first (breaks3 d) d.edges) 10
    (unless (first (breaks4 d) d.edges) 11
    (unless (too_many d) 12
    (ok d))))

-- the accepted description, or the first refusal of its bytes, 1 to 12
unfoldable pub read : List ℕ → Result Description
read s = and_then (decode s) sound
