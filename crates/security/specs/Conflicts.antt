-- The pairs in terms of blocks, for a walk over placements: which blocks may not stand on one cloud.
use Rattle.std.specs.Prelude.{ℕ, Bool, ◌&&◌, ◌||◌, eqb}
use Rattle.description.specs.declared.workflow.Edge.{Edge}
use Rattle.description.specs.declared.workflow.Pair.{Pair}
use Rattle.description.specs.Declarations.{Description}
use Rattle.sequences.specs.Lists.{any}

-- block u is the service of edge e, which is one of datum n
abbrev pub serves : (n u : ℕ) → Edge → Bool
serves n u e = eqb e.datum n && eqb e.service u

-- datum n lies on the cloud of block u: u is the datum itself, or the service of one of its edges
abbrev pub is_holder : Description → (n u : ℕ) → Bool
is_holder d n u = eqb u n || any (serves n u) d.edges

-- blocks u and v may not stand on one cloud: for some pair, u is one of the left datum's blocks and v one of the right datum's
abbrev pub conflict_by : Description → (u v : ℕ) → Pair → Bool
conflict_by d u v a = is_holder d a.left u && is_holder d a.right v

unfoldable pub conflicts : Description → (u v : ℕ) → Bool
conflicts d u v = any (conflict_by d u v) d.pairs
