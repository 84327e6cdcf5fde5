-- What Read asks of a decoded description, from the scope's rules themselves: equations, plain orders and the order of labels, without the
-- tests that the definitions use.
use Rattle.std.specs.Prelude.{ℕ, ◌≤◌, ◌<◌, ◌≡◌, length}
use mathlib.Core.List.{List, Memᴰ}
use Rattle.description.specs.declared.workflow.Kind.TheVariants.{Service}
use Rattle.description.specs.declared.workflow.Way.TheVariants.{Reads, Writes}
use Rattle.description.specs.Declarations.{Description, block, edge}
use Rattle.labels.specs.Labels.{Covers}
use Rattle.security.specs.Statements.{Placed}
use Rattle.sequences.specs.Ascending.{Once}

-- Rule 2, of block b: if it is a service, its clearance covers its location.
abbrev pub Rule2 : Description → ℕ → Type 0
Rule2 d b = (clearance units : ℕ) → (block d b).kind ≡ Service clearance units → Covers clearance (block d b).label

-- Rule 3, of edge n: if it is a read, the clearance of its service covers the label of its datum.
abbrev pub Rule3 : Description → ℕ → Type 0
Rule3 d n =
    (edge d n).way ≡ Reads → (clearance units : ℕ) → (block d (edge d n).service).kind ≡ Service clearance units
    → Covers clearance (block d (edge d n).datum).label

-- Rule 4, of edge n: if it is a write, the label of its datum covers the location of its service.
abbrev pub Rule4 : Description → ℕ → Type 0
Rule4 d n = (edge d n).way ≡ Writes → Covers (block d (edge d n).datum).label (block d (edge d n).service).label

-- every number below `most` keeps the rule
abbrev pub AllKept : (ℕ → Type 0) → (most : ℕ) → Type 0
AllKept rule most = (i : ℕ) → i < most → rule i

-- n is the first of them that breaks it
pub record FirstBroken (rule : ℕ → Type 0) (most n : ℕ) : Type 0 where
  pub there : n < most
  pub broken : rule n → ⊥
  pub earlier : AllKept rule n

-- every block keeps rule 2, every edge rules 3 and 4
abbrev pub Keeps2 : Description → Type 0
Keeps2 d = AllKept (Rule2 d) (length d.blocks)

abbrev pub Keeps3 : Description → Type 0
Keeps3 d = AllKept (Rule3 d) (length d.edges)

abbrev pub Keeps4 : Description → Type 0
Keeps4 d = AllKept (Rule4 d) (length d.edges)

-- the list has only candidates, each once; a candidate is sixteen clouds with every position good
pub record Candidates (d : Description) (ps : List (List ℕ)) : Type 0 where
  pub once : Once ps
  pub each : (p : List ℕ) → Memᴰ p ps → (length p ≡ 16) × Placed d p

-- at most 65,536 candidates: no list of them is longer; more than that: some list is
abbrev pub Few : Description → Type 0
Few d = (ps : List (List ℕ)) → Candidates d ps → length ps ≤ 65536

abbrev pub Many : Description → Type 0
Many d = (ps : List (List ℕ)) × Candidates d ps × (65536 < length ps)

-- all that Read asks of a decoded description
pub record Lawful (d : Description) : Type 0 where
  pub rule2 : Keeps2 d
  pub rule3 : Keeps3 d
  pub rule4 : Keeps4 d
  pub few : Few d
