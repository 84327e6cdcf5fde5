-- What a placement must be, from the scope's rules themselves: equations and the order of labels, without the tests that the definitions use.
use Rattle.std.specs.Prelude.{ℕ, ◌≤◌, ◌<◌, ◌≡◌, ◌⊎◌, List, length, get_or}
use Rattle.std.specs.Prelude.{Some}
use Rattle.description.specs.declared.workflow.Way.{Way}
use Rattle.description.specs.declared.workflow.Way.TheVariants.{Reads, Writes}
use Rattle.description.specs.declared.workflow.Edge.{Edge}
use Rattle.description.specs.declared.workflow.Pair.{Pair}
use Rattle.description.specs.Declarations.{Description, block, edge, pair}
use Rattle.labels.specs.Labels.{Covers}
use Rattle.security.specs.Soundness.{block_label, cloud_label}
use Rattle.security.specs.Placements.{service_cloud, datum_cloud}

-- Block b may stand on cloud k: k is declared, its label covers the block's (rule 7), and the block's pin, if it has one, is to k.
pub record Stands (d : Description) (b k : ℕ) : Type 0 where
  pub declared : k < length d.clouds
  pub rule7 : Covers (cloud_label d k) (block_label d b)
  pub pin : (c : ℕ) → (block d b).pin ≡ Some c → c ≡ k

-- Position b is good: its block stands where it may; past the last block there is 0.
pub record Good (d : Description) (p : List ℕ) (b : ℕ) : Type 0 where
  pub stands : b < length d.blocks → Stands d b (get_or p b 0)
  pub beyond : length d.blocks ≤ b → get_or p b 0 ≡ 0

-- every position is good: no 13
abbrev pub Placed : Description → List ℕ → Type 0
Placed d p = (b : ℕ) → b < 16 → Good d p b

-- An edge keeps the rule for its way, 16 for reads and 17 for writes: if the service is not on the datum's cloud, the label of the
-- service's cloud, which gets a copy, covers the datum's.
abbrev pub Keeps : Way → Description → List ℕ → Edge → Type 0
Keeps way d p e = e.way ≡ way → (service_cloud p e ≡ datum_cloud p e → ⊥) → Covers (cloud_label d (service_cloud p e)) (block_label d e.datum)

-- It breaks the rule: the label is not covered. This does not mean that it is higher.
pub record Breaks (way : Way) (d : Description) (p : List ℕ) (e : Edge) : Type 0 where
  pub goes : e.way ≡ way
  pub moves : service_cloud p e ≡ datum_cloud p e → ⊥
  pub exposes : Covers (cloud_label d (service_cloud p e)) (block_label d e.datum) → ⊥

abbrev pub AllKeep : Way → Description → List ℕ → Type 0
AllKeep way d p = (n : ℕ) → n < length d.edges → Keeps way d p (edge d n)

-- edge n is the first that breaks the rule
pub record FirstBreaks (way : Way) (d : Description) (p : List ℕ) (n : ℕ) : Type 0 where
  pub declared : n < length d.edges
  pub breaks : Breaks way d p (edge d n)
  pub earlier : (i : ℕ) → i < n → Keeps way d p (edge d i)

-- Edge e puts a copy of datum n on cloud k: it is an edge of that datum, its service stands on k, and the datum stands elsewhere.
pub record Copies (p : List ℕ) (n k : ℕ) (e : Edge) : Type 0 where
  pub of : e.datum ≡ n
  pub moves : service_cloud p e ≡ datum_cloud p e → ⊥
  pub there : service_cloud p e ≡ k

-- Cloud k holds datum n: the datum stands there, or an edge puts a copy there.
abbrev pub Holds : Description → List ℕ → (n k : ℕ) → Type 0
Holds d p n k = (get_or p n 0 ≡ k) ⊎ ((i : ℕ) × (i < length d.edges) × Copies p n k (edge d i))

-- a declared cloud holds both data of a pair
abbrev pub Meet : Description → List ℕ → Pair → Type 0
Meet d p a = (k : ℕ) × (k < length d.clouds) × Holds d p a.left k × Holds d p a.right k

abbrev pub AllApart : Description → List ℕ → Type 0
AllApart d p = (n : ℕ) → n < length d.pairs → Meet d p (pair d n) → ⊥

-- pair n is the first whose data meet
pub record FirstMeets (d : Description) (p : List ℕ) (n : ℕ) : Type 0 where
  pub declared : n < length d.pairs
  pub meet : Meet d p (pair d n)
  pub earlier : (i : ℕ) → i < n → Meet d p (pair d i) → ⊥

-- A secure placement: a candidate that keeps rules 16 and 17 and in which the data of no pair meet.
pub record Secure (d : Description) (p : List ℕ) : Type 0 where
  pub placed : Placed d p
  pub rule16 : AllKeep Reads d p
  pub rule17 : AllKeep Writes d p
  pub apart : AllApart d p
