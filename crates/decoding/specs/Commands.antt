-- The format as a list of commands, in plain orders and equations. A command is its bytes: the first says which it is, and so how many
-- there are. This file says what each command asks of what was declared before it, and what it declares; nothing here reads. Bytes meet
-- the format if they are such commands one after the other and then 00, and declare at least a cloud and a block.
use Rattle.std.specs.Prelude.{ℕ, ◌≤◌, ◌<◌, ◌≡◌, List, [], ◌∷◌, ◌++◌, length}
use Rattle.std.specs.Prelude.{None}
use Rattle.description.specs.declared.workflow.Cloud.{Cloud}
use Rattle.description.specs.declared.workflow.Block.{Block}
use Rattle.description.specs.declared.workflow.Kind.TheVariants.{Datum, Service}
use Rattle.description.specs.declared.workflow.Pair.{Pair}
use Rattle.description.specs.declared.workflow.Way.{Way}
use Rattle.description.specs.declared.workflow.Way.TheVariants.{Reads, Writes}
use Rattle.description.specs.Declarations.{Description, nothing, with_cloud, with_block, with_edge, with_pin, with_pair}
use Rattle.description.specs.Declarations.{block as Declarations·block, edge as Declarations·edge, pair as Declarations·pair}
use Rattle.decoding.specs.Format.{u8_at, u16_at, u32_at, edge_in, pair_in}

-- ---- what the operands say

abbrev pub cloud_in : List ℕ → Cloud
cloud_in c = record { label = u8_at c 1; storage = u16_at c 2; inward = u16_at c 4; outward = u16_at c 6; cpu = u16_at c 8 }

abbrev pub datum_in : List ℕ → Block
datum_in c = record { label = u8_at c 1; kind = Datum (u16_at c 2) (u16_at c 4); pin = None }

abbrev pub service_in : List ℕ → Block
service_in c = record { label = u8_at c 1; kind = Service (u8_at c 2) (u32_at c 3); pin = None }

-- the pair with its two data exchanged
abbrev pub turned : Pair → Pair
turned a = record { left = a.right; right = a.left }

-- ---- names

-- block b is declared, and is a datum; is a service
abbrev pub NamesDatum : Description → ℕ → Type 0
NamesDatum d b = (b < length d.blocks) × ((size longevity : ℕ) × ((Declarations·block d b).kind ≡ Datum size longevity))

abbrev pub NamesService : Description → ℕ → Type 0
NamesService d b = (b < length d.blocks) × ((clearance units : ℕ) × ((Declarations·block d b).kind ≡ Service clearance units))

-- ---- what each command asks of what was declared before it

module _ (c : List ℕ) (d : Description) where
  -- 01: a cloud, at most 8
  pub record CloudGood : Type 0 where
    pub room : length d.clouds < 8
    pub label : u8_at c 1 ≤ 63

  -- 02: a datum, at most 16 blocks
  pub record DatumGood : Type 0 where
    pub room : length d.blocks < 16
    pub label : u8_at c 1 ≤ 63

  -- 03: a service, the same, with a location and a clearance
  pub record ServiceGood : Type 0 where
    pub room : length d.blocks < 16
    pub location : u8_at c 1 ≤ 63
    pub clearance : u8_at c 2 ≤ 63

  -- 04 and 05: a read or a write, at most 32 edges, of a service and a datum; no edge is repeated, and a datum has one writer
  pub record EdgeGood (w : Way) : Type 0 where
    pub room : length d.edges < 32
    pub service : NamesService d (u8_at c 1)
    pub datum : NamesDatum d (u8_at c 2)
    pub new : (n : ℕ) → n < length d.edges → Declarations·edge d n ≡ edge_in w c → ⊥
    pub only_writer : w ≡ Writes → (n : ℕ) → n < length d.edges
        → (Declarations·edge d n).way ≡ Writes → (Declarations·edge d n).datum ≡ u8_at c 2 → ⊥

  -- 06: a pin of a declared block, which has none yet, to a declared cloud
  pub record PinGood : Type 0 where
    pub block : u8_at c 1 < length d.blocks
    pub cloud : u8_at c 2 < length d.clouds
    pub free : (Declarations·block d (u8_at c 1)).pin ≡ None

  -- 07: a pair, at most 8, of two different data; no pair is repeated, in either order
  pub record PairGood : Type 0 where
    pub room : length d.pairs < 8
    pub left : NamesDatum d (u8_at c 1)
    pub right : NamesDatum d (u8_at c 2)
    pub two : u8_at c 1 ≡ u8_at c 2 → ⊥
    pub new : (n : ℕ) → n < length d.pairs → Declarations·pair d n ≡ pair_in c → ⊥
    pub new_turned : (n : ℕ) → n < length d.pairs → Declarations·pair d n ≡ turned (pair_in c) → ⊥

-- ---- commands and lists of them

-- The bytes c are one command, which is good after what d declares and takes d to e.
pub data Takes (c : List ℕ) (d e : Description) : Type 0 where
  cloud : u8_at c 0 ≡ 1 → length c ≡ 10 → CloudGood c d → e ≡ with_cloud d (cloud_in c) → Takes c d e
  datum : u8_at c 0 ≡ 2 → length c ≡ 6 → DatumGood c d → e ≡ with_block d (datum_in c) → Takes c d e
  service : u8_at c 0 ≡ 3 → length c ≡ 7 → ServiceGood c d → e ≡ with_block d (service_in c) → Takes c d e
  reads : u8_at c 0 ≡ 4 → length c ≡ 3 → EdgeGood c d Reads → e ≡ with_edge d (edge_in Reads c) → Takes c d e
  writes : u8_at c 0 ≡ 5 → length c ≡ 3 → EdgeGood c d Writes → e ≡ with_edge d (edge_in Writes c) → Takes c d e
  pin : u8_at c 0 ≡ 6 → length c ≡ 3 → PinGood c d → e ≡ with_pin d (u8_at c 1) (u8_at c 2) → Takes c d e
  pair : u8_at c 0 ≡ 7 → length c ≡ 3 → PairGood c d → e ≡ with_pair d (pair_in c) → Takes c d e

-- The commands one after the other, each good after those before it, take d to e.
abbrev pub Declares : List (List ℕ) → (d e : Description) → Type 0
Declares [] d e = d ≡ e
Declares (c ∷ cs) d e = (f : Description) × Takes c d f × Declares cs f e

-- their bytes: one command after the other, then 00
abbrev pub written : List (List ℕ) → List ℕ
written [] = 0 ∷ []
written (c ∷ cs) = c ++ written cs

-- The commands describe d: starting from nothing they declare it, with at least a cloud and a block.
pub record Describe (cs : List (List ℕ)) (d : Description) : Type 0 where
  pub declares : Declares cs nothing d
  pub some_cloud : 0 < length d.clouds
  pub some_block : 0 < length d.blocks

-- The bytes s meet the format, and describe d.
abbrev pub Meets : List ℕ → Description → Type 0
Meets s d = (cs : List (List ℕ)) × (s ≡ written cs) × Describe cs d
