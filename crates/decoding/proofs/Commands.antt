-- What is known of each command that is taken, and what it adds; so an invariant can be shown command by command.
use Prim.Native.Nat.{ℕ, ◌≤◌, ◌<◌}
use native.Mathlib.Omega.{arith}
use mathlib.Core.Path.{◌≡◌}
use mathlib.Core.Bool.{Bool, true, false, not, ◌&&◌}
use mathlib.Core.List.{List, [], ◌∷◌}
use mathlib.Core.Option.{none}
use lib.ListN.{length}
use lib.Dec.{ltb, eqb}
use borrow.Author.Tests.{ltb-true, ltb-false, leb-false, not-false}
use Rattle.labels.specs.Labels.{no_label}
use Rattle.sequences.specs.Lists.{any}
use Rattle.sequences.proofs.Positions.{everywhere-snoc, everywhere-set}
use Rattle.sequences.proofs.Tests.{cond-none, both-pass, or-fails}
use Rattle.description.specs.declared.workflow.Cloud.{Cloud}
use Rattle.description.specs.declared.workflow.Block.{Block}
use Rattle.description.specs.declared.workflow.Way.{Way}
use Rattle.description.specs.declared.workflow.Way.TheVariants.{Reads, Writes}
use Rattle.description.specs.Declarations.{Description, no_cloud, no_block, cloud as Format·cloud, block as Format·block, pinned, with_cloud}
use Rattle.description.specs.Declarations.{with_block, with_edge, with_pin, with_pair, names_service, names_datum, names_block, names_cloud}
use Rattle.description.specs.Declarations.{is_pinned}
use Rattle.decoding.specs.Format.{clash, same_pair, u8_at, edge_in, pair_in, Command, cloud_at}
use Rattle.decoding.specs.Format.{datum_at, service_at, edge_at, pin_at, pair_at, command_at, first_fault, fault_of}
use Rattle.decoding.specs.Commands.{cloud_in, datum_in, service_in}
use Rattle.decoding.proofs.Turns.{each-command}

-- ---- what is known of a command that is taken

module _ (s : List ℕ) (d : Description) where
  -- 01: there is room for the cloud, and its label is a label
  pub record CloudTaken : Type 0 where
    pub whole : 10 ≤ length s
    pub room : length d.clouds < 8
    pub low : u8_at s 1 ≤ 63

  -- 02
  pub record DatumTaken : Type 0 where
    pub whole : 6 ≤ length s
    pub room : length d.blocks < 16
    pub low : u8_at s 1 ≤ 63

  -- 03
  pub record ServiceTaken : Type 0 where
    pub whole : 7 ≤ length s
    pub room : length d.blocks < 16
    pub low : u8_at s 1 ≤ 63
    pub low_clearance : u8_at s 2 ≤ 63

  -- 04 and 05: there is room for the edge, its names are declared, and it clashes with none
  pub record EdgeTaken (w : Way) : Type 0 where
    pub whole : 3 ≤ length s
    pub room : length d.edges < 32
    pub service : names_service d (u8_at s 1) ≡ true
    pub datum : names_datum d (u8_at s 2) ≡ true
    pub fresh : any (clash (edge_in w s)) d.edges ≡ false

  -- 06: its names are declared, and the block has no pin yet
  pub record PinTaken : Type 0 where
    pub whole : 3 ≤ length s
    pub block : u8_at s 1 < length d.blocks
    pub cloud : u8_at s 2 < length d.clouds
    pub free : is_pinned (Format·block d (u8_at s 1)).pin ≡ false

  -- 07: there is room for the pair, its names are those of two data, and it repeats none
  pub record PairTaken : Type 0 where
    pub whole : 3 ≤ length s
    pub room : length d.pairs < 8
    pub left : names_datum d (u8_at s 1) ≡ true
    pub right : names_datum d (u8_at s 2) ≡ true
    pub two : eqb (u8_at s 1) (u8_at s 2) ≡ false
    pub fresh : any (same_pair (pair_in s)) d.pairs ≡ false

-- ---- from its faults: it has none

-- every test of the list failed
abbrev pub Faultless : List (ℕ × Bool) → Type 0
Faultless [] = Unit {0}
Faultless (f ∷ fs) = (f.1 ≡ false) × Faultless fs

faultless : (fs : List (ℕ × Bool)) → first_fault fs ≡ none → Faultless fs
faultless [] e = tt
faultless (f ∷ fs) e = let q = cond-none f.1 f.0 (first_fault fs) e in (q.0, faultless fs q.1)

unrefused : (s : List ℕ) (c : Command) → fault_of s c ≡ none → Faultless ((1, ltb (length s) c.width) ∷ c.faults)
unrefused s c e = faultless ((1, ltb (length s) c.width) ∷ c.faults) e

both : (a b : Bool) → not (a && b) ≡ false → (a ≡ true) × (b ≡ true)
both a b e = (both-pass a b).0 (not-false (a && b) e)

-- a command that is not refused is taken: what is known of each
module _ (s : List ℕ) (d : Description) where
  pub cloud-taken : fault_of s (cloud_at s d) ≡ none → CloudTaken s d
  cloud-taken e = let f = unrefused s (cloud_at s d) e in omega (arith, ltb-false, leb-false)

  pub datum-taken : fault_of s (datum_at s d) ≡ none → DatumTaken s d
  datum-taken e = let f = unrefused s (datum_at s d) e in omega (arith, ltb-false, leb-false)

  pub service-taken : fault_of s (service_at s d) ≡ none → ServiceTaken s d
  service-taken e =
      let f = unrefused s (service_at s d) e in
      let low = or-fails (no_label (u8_at s 1)) (no_label (u8_at s 2)) f.1.1.0 in
      omega (arith, ltb-false, leb-false)

  pub edge-taken : (w : Way) → fault_of s (edge_at w s d) ≡ none → EdgeTaken s d w
  edge-taken w e =
      let f = unrefused s (edge_at w s d) e in
      let named = both (names_service d (u8_at s 1)) (names_datum d (u8_at s 2)) f.1.1.0 in
      record {
        whole = omega (arith, ltb-false, leb-false);
        room = omega (arith, ltb-false, leb-false);
        service = named.0;
        datum = named.1;
        fresh = f.1.1.1.0;
      }

  pub pin-taken : fault_of s (pin_at s d) ≡ none → PinTaken s d
  pin-taken e =
      let f = unrefused s (pin_at s d) e in
      let named = both (names_block d (u8_at s 1)) (names_cloud d (u8_at s 2)) f.1.0 in
      record {
        whole = omega (arith, ltb-false, leb-false);
        block = omega (arith, ltb-true);
        cloud = omega (arith, ltb-true);
        free = f.1.1.0;
      }

  pub pair-taken : fault_of s (pair_at s d) ≡ none → PairTaken s d
  pair-taken e =
      let f = unrefused s (pair_at s d) e in
      let named = both (names_datum d (u8_at s 1)) (names_datum d (u8_at s 2)) f.1.1.0 in
      let new = or-fails (eqb (u8_at s 1) (u8_at s 2)) (any (same_pair (pair_in s)) d.pairs) f.1.1.1.0 in
      record {
        whole = omega (arith, ltb-false, leb-false);
        room = omega (arith, ltb-false, leb-false);
        left = named.0;
        right = named.1;
        two = new.0;
        fresh = new.1;
      }

-- ---- by cases

-- nothing is assumed of the bytes
abbrev pub Any : List ℕ → Type 0
Any s = Unit {0}

-- Every command that is taken keeps P; B is what may be assumed of the bytes from the command on.
pub record Keeps (B : List ℕ → Type 0) (P : Description → Type 0) : Type 0 where
  pub cloud : (s : List ℕ) (d : Description) → B s → P d → CloudTaken s d → P (with_cloud d (cloud_in s))
  pub datum : (s : List ℕ) (d : Description) → B s → P d → DatumTaken s d → P (with_block d (datum_in s))
  pub service : (s : List ℕ) (d : Description) → B s → P d → ServiceTaken s d → P (with_block d (service_in s))
  pub edge : (w : Way) (s : List ℕ) (d : Description) → B s → P d → EdgeTaken s d w → P (with_edge d (edge_in w s))
  pub pin : (s : List ℕ) (d : Description) → B s → P d → PinTaken s d → P (with_pin d (u8_at s 1) (u8_at s 2))
  pub pair : (s : List ℕ) (d : Description) → B s → P d → PairTaken s d → P (with_pair d (pair_in s))

module _ {B : List ℕ → Type 0} {P : Description → Type 0} (k : Keeps B P) where
  pub keeps-command : (s : List ℕ) (d : Description) → B s → P d → fault_of s (command_at s d) ≡ none → P (command_at s d).after
  keeps-command s d b p =
      each-command (λ c. fault_of s c ≡ none → P c.after) s d
      (λ e. k.cloud s d b p (cloud-taken s d e))
      (λ e. k.datum s d b p (datum-taken s d e))
      (λ e. k.service s d b p (service-taken s d e))
      (λ e. k.edge Reads s d b p (edge-taken s d Reads e))
      (λ e. k.edge Writes s d b p (edge-taken s d Writes e))
      (λ e. k.pin s d b p (pin-taken s d e))
      (λ e. k.pair s d b p (pair-taken s d e))
      (λ e. p)

-- ---- what holds of each cloud, and of each block, whatever its pin

module _ (B : List ℕ → Type 0) (P : Cloud → Type 0) (new : (s : List ℕ) (d : Description) → B s → CloudTaken s d → P (cloud_in s)) where
  pub each-cloud : Keeps B (λ d. (k : ℕ) → P (Format·cloud d k))
  each-cloud = record {
    cloud = λ s d b p t. everywhere-snoc P no_cloud d.clouds (cloud_in s) p (new s d b t);
    datum = λ s d b p t. p;
    service = λ s d b p t. p;
    edge = λ w s d b p t. p;
    pin = λ s d b p t. p;
    pair = λ s d b p t. p;
  }

module _ (B : List ℕ → Type 0) (P : Block → Type 0) (new_datum : (s : List ℕ) (d : Description) → B s → DatumTaken s d → P (datum_in s))
    (new_service : (s : List ℕ) (d : Description) → B s → ServiceTaken s d → P (service_in s)) (repin : (b : Block) (k : ℕ) → P b → P (pinned b k)) where
  pub each-block : Keeps B (λ d. (b : ℕ) → P (Format·block d b))
  each-block = record {
    cloud = λ s d b p t. p;
    datum = λ s d b p t. everywhere-snoc P no_block d.blocks (datum_in s) p (new_datum s d b t);
    service = λ s d b p t. everywhere-snoc P no_block d.blocks (service_in s) p (new_service s d b t);
    edge = λ w s d b p t. p;
    pin = λ s d b p t.
        let x = Format·block d (u8_at s 1) in
        everywhere-set P no_block d.blocks (u8_at s 1) (pinned x (u8_at s 2)) p (repin x (u8_at s 2) (p (u8_at s 1)));
    pair = λ s d b p t. p;
  }
