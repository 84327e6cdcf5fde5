-- The format: what the bytes of a description declare, and which are refused with 1 to 8.
use Rattle.std.specs.Prelude.{ℕ, zero, suc, pred, ◌+◌, ◌*◌, Bool, true, false, not, ◌&&◌, ◌||◌, cond, List, [], ◌∷◌, length, get_or, ltb, leb, eqb}
use Rattle.std.specs.Prelude.{None}
use Rattle.std.proofs.Math.Option.{Option, none, some}
use Rattle.description.specs.declared.workflow.Kind.TheVariants.{Datum, Service}
use Rattle.description.specs.declared.workflow.Edge.{Edge}
use Rattle.description.specs.declared.workflow.Pair.{Pair}
use Rattle.description.specs.declared.workflow.Way.{Way}
use Rattle.description.specs.declared.workflow.Way.TheVariants.{Reads, Writes}
use Rattle.description.specs.Declarations.{Description, nothing, with_cloud, with_block, with_edge, with_pin, with_pair, block, is_pinned}
use Rattle.description.specs.Declarations.{names_cloud, names_block, names_datum, names_service, same_edge, write_one_datum}
use Rattle.labels.specs.Labels.{no_label}
use Rattle.sequences.specs.Lists.{any}
use Rattle.sequences.specs.Results.{Result, ok, refused, and_then}

-- the edge can't be declared after f: it repeats f, or is a second writer of its datum
abbrev pub clash : Edge → Edge → Bool
clash e f = same_edge e f || write_one_datum e f

-- x and y are the data of the pair, in this order; two pairs have the same data, in either order
abbrev pub named_by : Pair → (x y : ℕ) → Bool
named_by a x y = eqb x a.left && eqb y a.right

unfoldable pub same_pair : Pair → Pair → Bool
same_pair a b = named_by b a.left a.right || named_by b a.right a.left

-- numbers in bytes, most significant first, at offset i of the command
abbrev pub u8_at : List ℕ → ℕ → ℕ
u8_at s i = get_or s i 0

abbrev pub u16_at : List ℕ → ℕ → ℕ
u16_at s i = u8_at s i * 256 + u8_at s (i + 1)

abbrev pub u32_at : List ℕ → ℕ → ℕ
u32_at s i = u16_at s i * 65536 + u16_at s (i + 2)

-- The command at the front of some bytes: how many bytes it has; the numbers that it can be refused with, in the order of their tests,
-- each with the result of its test; and the description after it.
pub record Command : Type 0 where
  pub width : ℕ
  pub faults : List (ℕ × Bool)
  pub after : Description

-- 01: label 1, storage rate 2, in rate 2, out rate 2, cpu rate 2. At most 8 clouds.
abbrev pub cloud_at : List ℕ → Description → Command
cloud_at s d = record {
  width = 10;
  faults = (4, leb 8 (length d.clouds)) ∷ (5, no_label (u8_at s 1)) ∷ [];
  after = with_cloud d (record {
    label = u8_at s 1;
    storage = u16_at s 2;
    inward = u16_at s 4;
    outward = u16_at s 6;
    cpu = u16_at s 8;
  });
}

-- 02: label 1, size 2, longevity 2. At most 16 blocks, data and services together.
abbrev pub datum_at : List ℕ → Description → Command
datum_at s d = record {
  width = 6;
  faults = (4, leb 16 (length d.blocks)) ∷ (5, no_label (u8_at s 1)) ∷ [];
  after = with_block d (record { label = u8_at s 1; kind = Datum (u16_at s 2) (u16_at s 4); pin = None });
}

-- 03: location 1 and clearance 1, both labels, cpu units 4
abbrev pub service_at : List ℕ → Description → Command
service_at s d = record {
  width = 7;
  faults = (4, leb 16 (length d.blocks)) ∷ (5, no_label (u8_at s 1) || no_label (u8_at s 2)) ∷ [];
  after = with_block d (record { label = u8_at s 1; kind = Service (u8_at s 2) (u32_at s 3); pin = None });
}

-- 04 and 05: service 1, datum 1. At most 32 edges, reads and writes together.
abbrev pub edge_in : Way → List ℕ → Edge
edge_in w s = record { way = w; service = u8_at s 1; datum = u8_at s 2 }

abbrev pub edge_at : Way → List ℕ → Description → Command
edge_at w s d = record {
  width = 3;
  faults =
      (4, leb 32 (length d.edges)) ∷
      (6, not (names_service d (u8_at s 1) && names_datum d (u8_at s 2))) ∷
      (7, any (clash (edge_in w s)) d.edges) ∷ [];
  after = with_edge d (edge_in w s);
}

-- 06: block 1, cloud 1
abbrev pub pin_at : List ℕ → Description → Command
pin_at s d = record {
  width = 3;
  faults =
      (6, not (names_block d (u8_at s 1) && names_cloud d (u8_at s 2))) ∷
      (7, is_pinned (block d (u8_at s 1)).pin) ∷ [];
  after = with_pin d (u8_at s 1) (u8_at s 2);
}

-- 07: datum 1, datum 1. At most 8 pairs.
abbrev pub pair_in : List ℕ → Pair
pair_in s = record { left = u8_at s 1; right = u8_at s 2 }

abbrev pub pair_at : List ℕ → Description → Command
pair_at s d = record {
  width = 3;
  faults =
      (4, leb 8 (length d.pairs)) ∷
      (6, not (names_datum d (u8_at s 1) && names_datum d (u8_at s 2))) ∷
      (7, eqb (u8_at s 1) (u8_at s 2) || any (same_pair (pair_in s)) d.pairs) ∷ [];
  after = with_pair d (pair_in s);
}

abbrev pub unknown : Description → Command
unknown d = record { width = 1; faults = (2, true) ∷ []; after = d }

-- the command at the front of s, which is not 00
abbrev pub command_at : List ℕ → Description → Command
command_at s d =
    cond (eqb (u8_at s 0) 1) (cloud_at s d)
    (cond (eqb (u8_at s 0) 2) (datum_at s d)
    (cond (eqb (u8_at s 0) 3) (service_at s d)
    (cond (eqb (u8_at s 0) 4) (edge_at Reads s d)
    (cond (eqb (u8_at s 0) 5) (edge_at Writes s d)
    (cond (eqb (u8_at s 0) 6) (pin_at s d)
    (cond (eqb (u8_at s 0) 7) (pair_at s d)
    (unknown d)))))))

abbrev pub first_fault : List (ℕ × Bool) → Option ℕ
first_fault [] = none
first_fault (f ∷ fs) = cond f.1 (some f.0) (first_fault fs)

-- the number that the command at the front of s is refused with, if any: 1, if s ends inside it, comes before the others
abbrev pub fault_of : List ℕ → Command → Option ℕ
fault_of s c = first_fault ((1, ltb (length s) c.width) ∷ c.faults)

-- after 00, the end: 3 if a byte follows it
abbrev pub ended : List ℕ → ℕ → Description → Result Description
ended [] at d = ok d
ended (b ∷ rest) at d = refused 3 at

-- What the bytes from offset `at` on declare, added to d; the first `skip` of them are the last bytes of a command that was read already.
-- The first bad command decides. Input that ends without 00 is refused with 1 at its length.
abbrev pub read_from : List ℕ → (skip at : ℕ) → Description → Result Description
read_from [] skip at d = refused 1 at
read_from (b ∷ rest) (suc skip) at d = read_from rest skip (suc at) d
read_from (b ∷ rest) zero at d =
    elim (eqb b 0) [
      | true ↦ ended rest (suc at) d
      | false ↦
          let c = command_at (b ∷ rest) d in
          elim (fault_of (b ∷ rest) c) [
            | some number ↦ refused number at
            | none ↦ let next = read_from rest (pred c.width) (suc at) c.after in next
          ]
    ]

-- 8: no cloud or no block
abbrev pub inhabited : ℕ → Description → Result Description
inhabited n d = cond (eqb (length d.clouds) 0 || eqb (length d.blocks) 0) (refused 8 n) (ok d)

-- the description that the whole input declares, or its refusal, 1 to 8
unfoldable pub decode : List ℕ → Result Description
decode s = and_then (read_from s 0 0 nothing) (inhabited (length s))
