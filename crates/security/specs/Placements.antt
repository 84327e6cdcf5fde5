-- Judging one placement, sixteen cloud numbers: refusals 13 to 15, and 17.
use Rattle.std.specs.Prelude.{ℕ, Bool, not, ◌&&◌, ◌||◌, List, length, get_or, eqb}
use Rattle.description.specs.declared.workflow.Edge.{Edge}
use Rattle.description.specs.declared.workflow.Pair.{Pair}
use Rattle.description.specs.Declarations.{Description, is_write}
use Rattle.security.specs.Soundness.{cloud_label, block_label, may_stand, positions}
use Rattle.labels.specs.Labels.{covers}
use Rattle.sequences.specs.Lists.{any, first, below}
use Rattle.sequences.specs.Results.{Result, ok, unless}

-- the clouds of an edge's service and of its datum
abbrev pub service_cloud : List ℕ → Edge → ℕ
service_cloud p e = get_or p e.service 0

abbrev pub datum_cloud : List ℕ → Edge → ℕ
datum_cloud p e = get_or p e.datum 0

-- the two differ: the edge makes a transfer, and so a copy of the datum on the service's cloud
unfoldable pub moves : List ℕ → Edge → Bool
moves p e = not (eqb (service_cloud p e) (datum_cloud p e))

-- the copy lies on a cloud whose label does not cover the datum's
unfoldable pub exposes : Description → List ℕ → Edge → Bool
exposes d p e = moves p e && not (covers (cloud_label d (service_cloud p e)) (block_label d e.datum))

-- rule 16, for a read; rule 17, for a write
unfoldable pub breaks16 : Description → List ℕ → Edge → Bool
breaks16 d p e = not (is_write e.way) && exposes d p e

unfoldable pub breaks17 : Description → List ℕ → Edge → Bool
breaks17 d p e = is_write e.way && exposes d p e

-- the transfer on edge e leaves a copy of datum n on cloud k
unfoldable pub copies : List ℕ → (n k : ℕ) → Edge → Bool
copies p n k e = eqb e.datum n && moves p e && eqb (service_cloud p e) k

-- Cloud k holds datum n: the datum stands there, or a transfer on one of its edges puts a copy there.
unfoldable pub holds : Description → List ℕ → (n k : ℕ) → Bool
holds d p n k = eqb (get_or p n 0) k || any (copies p n k) d.edges

-- cloud k holds both data of the pair
unfoldable pub holds_both : Description → List ℕ → Pair → ℕ → Bool
holds_both d p a k = holds d p a.left k && holds d p a.right k

-- The pair is broken: some cloud holds both.
unfoldable pub together : Description → List ℕ → Pair → Bool
together d p a = any (holds_both d p a) (below (length d.clouds))

-- position b has a cloud that it may not have
unfoldable pub bad_position : Description → List ℕ → ℕ → Bool
bad_position d p b = not (may_stand d b (get_or p b 0))

-- 13: the lowest bad position; 14: rule 16, the first edge; 15: rule 17, the first edge; 17: the first broken pair. A value means: secure.
unfoldable pub judge : Description → List ℕ → Result (Unit {0})
judge d p =
    unless (first (bad_position d p) positions) 13
    (unless (first (breaks16 d p) d.edges) 14
    (unless (first (breaks17 d p) d.edges) 15
    (unless (first (together d p) d.pairs) 17
    (ok tt))))

-- a candidate breaks rule 16; breaks rule 17; keeps both, so exposes no copy; breaks a pair; is secure
abbrev pub broken16 : Description → List ℕ → Bool
broken16 d p = any (breaks16 d p) d.edges

abbrev pub broken17 : Description → List ℕ → Bool
broken17 d p = any (breaks17 d p) d.edges

abbrev pub unexposed : Description → List ℕ → Bool
unexposed d p = not (broken16 d p) && not (broken17 d p)

unfoldable pub broken_apart : Description → List ℕ → Bool
broken_apart d p = any (together d p) d.pairs

abbrev pub secure : Description → List ℕ → Bool
secure d p = unexposed d p && not (broken_apart d p)
