-- What a description declares, and its names.
use Rattle.std.specs.Prelude.{ℕ, Bool, true, false, not, ◌&&◌, List, [], ◌∷◌, ◌++◌, length, get_or, set, ltb, eqb}
use Rattle.std.specs.Prelude.{Some, None}
use Rattle.std.specs.Prelude as std
use Rattle.description.specs.declared.workflow.Cloud.{Cloud}
use Rattle.description.specs.declared.workflow.Block.{Block}
use Rattle.description.specs.declared.workflow.Kind.{Kind}
use Rattle.description.specs.declared.workflow.Kind.TheVariants.{Datum, Service}
use Rattle.description.specs.declared.workflow.Edge.{Edge}
use Rattle.description.specs.declared.workflow.Pair.{Pair}
use Rattle.description.specs.declared.workflow.Way.{Way}
use Rattle.description.specs.declared.workflow.Way.TheVariants.{Reads, Writes}

-- where a block may stand: anywhere, or on one cloud alone
abbrev pub Pin : Type 0
Pin = std.Option ℕ

-- What a description declares. Clouds, blocks, edges and pairs of data that must never meet are in order of appearance: the number of an
-- element is its position. A block has its pin with it.
pub record Description : Type 0 where
  pub clouds : List Cloud
  pub blocks : List Block
  pub edges : List Edge
  pub pairs : List Pair

abbrev pub nothing : Description
nothing = record { clouds = []; blocks = []; edges = []; pairs = [] }

abbrev pub with_cloud : Description → Cloud → Description
with_cloud d c = record { clouds = d.clouds ++ (c ∷ []); blocks = d.blocks; edges = d.edges; pairs = d.pairs }

abbrev pub with_block : Description → Block → Description
with_block d b = record { clouds = d.clouds; blocks = d.blocks ++ (b ∷ []); edges = d.edges; pairs = d.pairs }

abbrev pub with_edge : Description → Edge → Description
with_edge d e = record { clouds = d.clouds; blocks = d.blocks; edges = d.edges ++ (e ∷ []); pairs = d.pairs }

abbrev pub with_pair : Description → Pair → Description
with_pair d a = record { clouds = d.clouds; blocks = d.blocks; edges = d.edges; pairs = d.pairs ++ (a ∷ []) }

-- cloud k, block b, edge n and pair n, by number; past the last one there is a default with zeros
abbrev pub no_cloud : Cloud
no_cloud = record { label = 0; storage = 0; inward = 0; outward = 0; cpu = 0 }

abbrev pub no_block : Block
no_block = record { label = 0; kind = Datum 0 0; pin = None }

abbrev pub no_edge : Edge
no_edge = record { way = Reads; service = 0; datum = 0 }

abbrev pub no_pair : Pair
no_pair = record { left = 0; right = 0 }

abbrev pub cloud : Description → ℕ → Cloud
cloud d k = get_or d.clouds k no_cloud

abbrev pub block : Description → ℕ → Block
block d b = get_or d.blocks b no_block

abbrev pub edge : Description → ℕ → Edge
edge d n = get_or d.edges n no_edge

abbrev pub pair : Description → ℕ → Pair
pair d n = get_or d.pairs n no_pair

-- the block with a pin to cloud k
abbrev pub pinned : Block → ℕ → Block
pinned b k = record { label = b.label; kind = b.kind; pin = Some k }

abbrev pub with_pin : Description → ℕ → ℕ → Description
with_pin d b k = record { clouds = d.clouds; blocks = set d.blocks b (pinned (block d b) k); edges = d.edges; pairs = d.pairs }

-- kinds, pins and ways, as tests
abbrev pub is_datum : Kind → Bool
is_datum (Datum size longevity) = true
is_datum (Service clearance units) = false

abbrev pub is_pinned : Pin → Bool
is_pinned None = false
is_pinned (Some k) = true

abbrev pub is_write : Way → Bool
is_write Reads = false
is_write Writes = true

abbrev pub same_way : Way → Way → Bool
same_way Reads w = not (is_write w)
same_way Writes w = is_write w

-- cloud k is declared, block b is declared; block b is a declared datum, is a declared service
abbrev pub names_cloud : Description → ℕ → Bool
names_cloud d k = ltb k (length d.clouds)

abbrev pub names_block : Description → ℕ → Bool
names_block d b = ltb b (length d.blocks)

abbrev pub names_datum : Description → ℕ → Bool
names_datum d b = names_block d b && is_datum (block d b).kind

abbrev pub names_service : Description → ℕ → Bool
names_service d b = names_block d b && not (is_datum (block d b).kind)

-- the same command with the same names; two writers of one datum
abbrev pub same_edge : Edge → Edge → Bool
same_edge e f = same_way e.way f.way && eqb e.service f.service && eqb e.datum f.datum

abbrev pub write_one_datum : Edge → Edge → Bool
write_one_datum e f = is_write e.way && is_write f.way && eqb e.datum f.datum
