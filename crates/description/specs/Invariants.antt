-- What holds of every decoded description: the format's limits, names that are declared, no clashes, and numbers in their ranges.
use Rattle.std.specs.Prelude.{ℕ, ◌^◌, ◌≤◌, ◌<◌, ◌≡◌, true, length}
use Rattle.std.specs.Prelude.{Some, None}
use Rattle.description.specs.Declarations.{Pin}
use Rattle.description.specs.declared.workflow.Cloud.{Cloud}
use Rattle.description.specs.declared.workflow.Kind.{Kind}
use Rattle.description.specs.declared.workflow.Kind.TheVariants.{Datum, Service}
use Rattle.description.specs.Declarations.{Description, cloud, block, edge, pair, names_service, names_datum, is_write, same_edge}

-- at most 8 clouds, 16 blocks, 32 edges, 8 pairs
pub record Limits (d : Description) : Type 0 where
  pub clouds : length d.clouds ≤ 8
  pub blocks : length d.blocks ≤ 16
  pub edges : length d.edges ≤ 32
  pub pairs : length d.pairs ≤ 8

-- a service's clearance is a label
abbrev pub low_clearance : Kind → Type 0
low_clearance (Datum size longevity) = Unit {0}
low_clearance (Service clearance units) = clearance ≤ 63

-- a pin names one of n clouds
abbrev pub pin_below : ℕ → Pin → Type 0
pin_below n None = Unit {0}
pin_below n (Some k) = k < n

-- What is said of clouds and blocks holds at every number: past the last one all fields are 0, and there is no pin.
pub record WellFormed (d : Description) : Type 0 where
  pub limits : Limits d
  pub some_cloud : 0 < length d.clouds
  pub some_block : 0 < length d.blocks
  -- labels: of clouds, of data and locations, and clearances
  pub cloud_low : (k : ℕ) → (cloud d k).label ≤ 63
  pub block_low : (b : ℕ) → (block d b).label ≤ 63
  pub clearance_low : (b : ℕ) → low_clearance (block d b).kind
  -- every pin names a declared cloud
  pub pins : (b : ℕ) → pin_below (length d.clouds) (block d b).pin
  -- every edge names a declared service and a declared datum
  pub service : (n : ℕ) → n < length d.edges → names_service d (edge d n).service ≡ true
  pub datum : (n : ℕ) → n < length d.edges → names_datum d (edge d n).datum ≡ true
  -- no two edges are the same, and no two write one datum
  pub distinct : (n m : ℕ) → n < length d.edges → m < length d.edges → same_edge (edge d n) (edge d m) ≡ true → n ≡ m
  pub one_writer : (n m : ℕ) → n < length d.edges → m < length d.edges
      → is_write (edge d n).way ≡ true → is_write (edge d m).way ≡ true → (edge d n).datum ≡ (edge d m).datum → n ≡ m
  -- every pair names two declared data
  pub pair_left : (n : ℕ) → n < length d.pairs → names_datum d (pair d n).left ≡ true
  pub pair_right : (n : ℕ) → n < length d.pairs → names_datum d (pair d n).right ≡ true

-- the four rates of a cloud are numbers of two bytes
pub record RatesFit (c : Cloud) : Type 0 where
  pub storage : c.storage < 65536
  pub inward : c.inward < 65536
  pub outward : c.outward < 65536
  pub cpu : c.cpu < 65536

-- so are the size and the longevity of a datum; the cpu units of a service have four
abbrev pub kind_fits : Kind → Type 0
kind_fits (Datum size longevity) = (size < 65536) × (longevity < 65536)
kind_fits (Service clearance units) = units < 2 ^ 32

pub record InRange (d : Description) : Type 0 where
  pub rates : (k : ℕ) → RatesFit (cloud d k)
  pub kinds : (b : ℕ) → kind_fits (block d b).kind

-- what the bound on costs needs
pub record Bounded (d : Description) : Type 0 where
  pub limits : Limits d
  pub in_range : InRange d

-- what decoding ensures
pub record Decoded (d : Description) : Type 0 where
  pub well_formed : WellFormed d
  pub in_range : InRange d
