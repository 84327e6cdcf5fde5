-- A placement's cost and what it breaks in one number, as a sum of one term for each block and one for each edge. Each term depends only on
-- where its own blocks stand, so a walk over placements can add them up on the way.
use Rattle.std.specs.Prelude.{ℕ, ◌+◌, ◌*◌, Bool, not, ◌&&◌, cond, List, map, eqb, length, get_or}
use Rattle.description.specs.declared.workflow.Block.{Block}
use Rattle.description.specs.declared.workflow.Cloud.{Cloud}
use Rattle.description.specs.declared.workflow.Edge.{Edge}
use Rattle.description.specs.declared.workflow.Way.{Way}
use Rattle.description.specs.Declarations.{Description, cloud, block, is_write}
use Rattle.labels.specs.Labels.{covers}
use Rattle.security.specs.Soundness.{cloud_label, block_label}
use Rattle.weights.specs.Weights.{first_penalty, second_penalty}
use Rattle.security.specs.Placements.{service_cloud, datum_cloud, broken16, broken17}
use Rattle.costs.specs.Cost.{charged_of, storage_of, cpu_of, copy_of}
use Rattle.sequences.specs.Lists.{below, sum}

-- what block b is charged on cloud k: storage or computing
unfoldable pub block_term : Description → (b k : ℕ) → ℕ
block_term d b k = storage_of (cloud d k) (block d b).kind + cpu_of (cloud d k) (block d b).kind

-- what the transfer of an edge and its copy are charged if its service stands on x and its datum on y; 0 if it makes none
abbrev pub edge_charge : Description → Edge → (x y : ℕ) → ℕ
edge_charge d e x y =
    cond (eqb x y) 0
    (cond (is_write e.way) ((cloud d x).outward + (cloud d y).inward) ((cloud d y).outward + (cloud d x).inward) * charged_of (block d e.datum).kind +
    copy_of (cloud d x) (block d e.datum).kind)

-- its copy there lies on a cloud whose label does not cover the datum's
abbrev pub edge_exposes : Description → Edge → (x y : ℕ) → Bool
edge_exposes d e x y = not (eqb x y) && not (covers (cloud_label d x) (block_label d e.datum))

-- what an edge adds if it exposes its copy: rule 16, for reads, is looked for before rule 17, for writes
abbrev pub penalty : Way → ℕ
penalty way = cond (is_write way) second_penalty first_penalty

-- the charge, with the penalty for what it breaks
unfoldable pub edge_term : Description → Edge → (x y : ℕ) → ℕ
edge_term d e x y = edge_charge d e x y + cond (edge_exposes d e x y) (penalty e.way) 0

-- what each end of an edge adds by its own cloud, if the two stand apart: the service's end with the copy and the penalty, and the datum's
unfoldable pub service_side : Way → Cloud → Block → ℕ
service_side way c datum =
    (cond (is_write way) c.outward c.inward + c.storage) * charged_of datum.kind + cond (covers c.label datum.label) 0 (penalty way)

unfoldable pub datum_side : Way → Cloud → Block → ℕ
datum_side way c datum = cond (not (is_write way)) c.outward c.inward * charged_of datum.kind

-- the weight of a placement
unfoldable pub weight_of : Description → List ℕ → ℕ
weight_of d p =
    sum (map (λ b. block_term d b (get_or p b 0)) (below (length d.blocks))) +
    sum (map (λ e. edge_term d e (service_cloud p e) (datum_cloud p e)) d.edges)

-- The class of a placement, by its edges: 0 if it keeps rules 16 and 17, 1 if it breaks rule 16, 2 if it breaks rule 17 alone.
unfoldable pub class_in : Description → List ℕ → ℕ
class_in d p = cond (broken16 d p) 1 (cond (broken17 d p) 2 0)
