-- Every decoded description is well formed, and, decoded from bytes, has its numbers in their ranges.
use Prim.Native.Nat.{ℕ, ◌+◌, ◌^◌, ◌≤◌, ◌<◌, zero-le}
use Rattle.std.specs.Prelude.{Some, None}
use Rattle.description.specs.Declarations.{Pin}
use native.Mathlib.Nat.{not-suc-le-zero}
use native.Mathlib.Omega.{arith}
use mathlib.Core.Path.{◌≡◌, refl, sym, ap, ap₂, ◌∙◌}
use mathlib.Core.Bool.{Bool, true, not, ◌&&◌, ◌||◌, or-true, and_comm}
use mathlib.Core.List.{List, [], ◌∷◌, ◌++◌}
use mathlib.Core.Logic.{inl, inr}
use lib.Seq.{map-set_same}
use lib.ListN.{get_or-map, length, get_or, set, length-set, length-append, get_or-append}
use lib.Dec.{ltb}
use borrow.Author.Tests.{ltb-true, lt-ltb, eq-eqb}
use Rattle.sequences.specs.Results.{ok}
use Rattle.sequences.proofs.Tests.{both-pass, eqb-turn}
use Rattle.sequences.proofs.Positions.{snoc-at, everywhere-snoc, everywhere-set, Apart, apart_snoc}
use Rattle.description.specs.declared.workflow.Block.{Block}
use Rattle.description.specs.declared.workflow.Kind.{Kind}
use Rattle.description.specs.declared.workflow.Edge.{Edge}
use Rattle.description.specs.declared.workflow.Pair.{Pair}
use Rattle.description.specs.declared.workflow.Way.{Way}
use Rattle.description.specs.declared.workflow.Way.TheVariants.{Reads, Writes}
use Rattle.decoding.specs.Bytes.{Bytes}
use Rattle.description.specs.Declarations.{Description, no_block, no_edge, no_pair, cloud, block, pinned, is_datum, is_write, same_way}
use Rattle.decoding.specs.Format.{clash}
use Rattle.decoding.specs.Format.{u8_at, u16_at, u32_at, edge_in, pair_in, decode}
use Rattle.description.specs.Invariants.{Limits, WellFormed, InRange, RatesFit, low_clearance, pin_below, kind_fits}
use Rattle.decoding.specs.Commands.{datum_in, service_in}
use Rattle.decoding.proofs.Commands.{EdgeTaken, PairTaken, Any, Keeps, each-cloud, each-block}
use Rattle.decoding.proofs.Reading.{decoded-bytes, decoded-any, declared}

-- ---- the four limits

limits : Keeps Any Limits
limits = record {
  cloud = λ s d b l t. record { clouds = simp length-append (omega arith); blocks = l.blocks; edges = l.edges; pairs = l.pairs };
  datum = λ s d b l t. record { clouds = l.clouds; blocks = simp length-append (omega arith); edges = l.edges; pairs = l.pairs };
  service = λ s d b l t. record { clouds = l.clouds; blocks = simp length-append (omega arith); edges = l.edges; pairs = l.pairs };
  edge = λ w s d b l t. record { clouds = l.clouds; blocks = l.blocks; edges = simp length-append (omega arith); pairs = l.pairs };
  pin = λ s d b l t. record { clouds = l.clouds; blocks = simp length-set l.blocks; edges = l.edges; pairs = l.pairs };
  pair = λ s d b l t. record { clouds = l.clouds; blocks = l.blocks; edges = l.edges; pairs = simp length-append (omega arith) };
}

-- ---- labels

cloud_low : Keeps Any (λ d. (k : ℕ) → (cloud d k).label ≤ 63)
cloud_low = each-cloud Any (λ c. c.label ≤ 63) (λ s d b t. t.low)

block_low : Keeps Any (λ d. (b : ℕ) → (block d b).label ≤ 63)
block_low = each-block Any (λ b. b.label ≤ 63) (λ s d b t. t.low) (λ s d b t. t.low) (λ b k p. p)

clearance_low : Keeps Any (λ d. (b : ℕ) → low_clearance (block d b).kind)
clearance_low = each-block Any (λ b. low_clearance b.kind) (λ s d b t. tt) (λ s d b t. t.low_clearance) (λ b k p. p)

-- ---- numbers of two bytes and of four

module _ (s : List ℕ) (h : Bytes s) where
  u16-fits : (i : ℕ) → u16_at s i < 65536
  u16-fits i = omega (arith, h i, h (i + 1))

  u32-fits : (i : ℕ) → u32_at s i < 2 ^ 32
  u32-fits i = omega (arith, u16-fits i, u16-fits (i + 2))

rates : Keeps Bytes (λ d. (k : ℕ) → RatesFit (cloud d k))
rates = each-cloud Bytes RatesFit (λ s d h t. record { storage = u16-fits s h 2; inward = u16-fits s h 4; outward = u16-fits s h 6; cpu = u16-fits s h 8 })

kinds : Keeps Bytes (λ d. (b : ℕ) → kind_fits (block d b).kind)
kinds = each-block Bytes (λ b. kind_fits b.kind) (λ s d h t. (u16-fits s h 2, u16-fits s h 4)) (λ s d h t. u32-fits s h 3) (λ b k p. p)

-- if the input is bytes, the numbers are in their ranges
pub decoded-in_range : (s : List ℕ) (d : Description) → Bytes s → decode s ≡ ok d → InRange d
decoded-in_range s d h r = record { rates = decoded-bytes rates (λ k. omega arith) s d h r; kinds = decoded-bytes kinds (λ b. omega arith) s d h r }

-- ---- pins

pin-more : (n m : ℕ) → n ≤ m → (p : Pin) → pin_below n p → pin_below m p
pin-more n m h None q = tt
pin-more n m h (Some k) q = omega arith

-- the pin of a block names a declared cloud
abbrev Pinned : Description → Block → Type 0
Pinned d x = pin_below (length d.clouds) x.pin

pins : Keeps Any (λ d. (b : ℕ) → Pinned d (block d b))
pins = record {
  cloud = λ s d b p t i. pin-more (length d.clouds) _ (simp length-append (omega arith)) (block d i).pin (p i);
  datum = λ s d b p t. everywhere-snoc (Pinned d) no_block d.blocks (datum_in s) p tt;
  service = λ s d b p t. everywhere-snoc (Pinned d) no_block d.blocks (service_in s) p tt;
  edge = λ w s d b p t. p;
  pin = λ s d b p t. everywhere-set (Pinned d) no_block d.blocks (u8_at s 1) (pinned (block d (u8_at s 1)) (u8_at s 2)) p t.cloud;
  pair = λ s d b p t. p;
}

-- ---- names: a block that is declared stays declared, with its kind

abbrev kind_of : Block → Kind
kind_of b = b.kind

record Extends (l m : List Block) : Type 0 where
  more : length l ≤ length m
  same : (i : ℕ) → i < length l → (get_or m i no_block).kind ≡ (get_or l i no_block).kind

extends-snoc : (l : List Block) (b : Block) → Extends l (l ++ (b ∷ []))
extends-snoc l b = record { more = simp length-append (omega arith); same = λ i h. ap kind_of (get_or-append l (b ∷ []) no_block i h) }

extends-pin : (l : List Block) (j k : ℕ) → Extends l (set l j (pinned (get_or l j no_block) k))
extends-pin l j k = record {
  more = simp length-set (omega arith);
  same = λ i h.
      sym (get_or-map kind_of (set l j b) i no_block) ∙ ap (λ (m : List Kind). get_or m i (kind_of no_block)) (map-set_same kind_of l j b no_block refl)
      ∙ get_or-map kind_of l i no_block;
}
  where
    b : Block
    b = pinned (get_or l j no_block) k

-- edges and pairs name blocks of a kind: `right` says whether a datum is meant
module _ (right : Bool → Bool) where
  abbrev Named : List Block → ℕ → Type 0
  Named l b = ltb b (length l) && right (is_datum (get_or l b no_block).kind) ≡ true

  still : (l m : List Block) (b : ℕ) → Extends l m → Named l b → Named m b
  still l m b e n =
      let q = (both-pass (ltb b (length l)) (right (is_datum (get_or l b no_block).kind))).0 n in
      let h : b < length l = ltb-true b (length l) q.0 in
      (both-pass (ltb b (length m)) (right (is_datum (get_or m b no_block).kind))).1
      (lt-ltb b (length m) (omega (arith, e.more)), rw (e.same b h) q.1)

  -- if one side of each element of a list is named, it stays so with more blocks and with one more element
  module _ {A : Type 0} (side : A → ℕ) (z : A) where
    abbrev Each : List Block → List A → Type 0
    Each l xs = (n : ℕ) → n < length xs → Named l (side (get_or xs n z))

    each-still : (l m : List Block) (xs : List A) → Extends l m → Each l xs → Each m xs
    each-still l m xs e p n h = still l m (side (get_or xs n z)) e (p n h)

    each_snoc : (l : List Block) (xs : List A) (x : A) → Each l xs → Named l (side x) → Each l (xs ++ (x ∷ []))
    each_snoc l xs x p new n h = elim (snoc-at z xs x n h) [ inl y ↦ rw y.1 (p n y.0) | inr y ↦ rw y.1 new ]

  -- an edge's service or datum
  names : (side : Edge → ℕ) → ((w : Way) (s : List ℕ) (d : Description) → EdgeTaken s d w → Named d.blocks (side (edge_in w s)))
      → Keeps Any (λ d. Each side no_edge d.blocks d.edges)
  names side new = record {
    cloud = λ s d b p t. p;
    datum = λ s d b p t. each-still side no_edge d.blocks _ d.edges (extends-snoc d.blocks (datum_in s)) p;
    service = λ s d b p t. each-still side no_edge d.blocks _ d.edges (extends-snoc d.blocks (service_in s)) p;
    edge = λ w s d b p t. each_snoc side no_edge d.blocks d.edges (edge_in w s) p (new w s d t);
    pin = λ s d b p t. each-still side no_edge d.blocks _ d.edges (extends-pin d.blocks (u8_at s 1) (u8_at s 2)) p;
    pair = λ s d b p t. p;
  }

  -- one of a pair's data
  pair-names : (side : Pair → ℕ) → ((s : List ℕ) (d : Description) → PairTaken s d → Named d.blocks (side (pair_in s)))
      → Keeps Any (λ d. Each side no_pair d.blocks d.pairs)
  pair-names side new = record {
    cloud = λ s d b p t. p;
    datum = λ s d b p t. each-still side no_pair d.blocks _ d.pairs (extends-snoc d.blocks (datum_in s)) p;
    service = λ s d b p t. each-still side no_pair d.blocks _ d.pairs (extends-snoc d.blocks (service_in s)) p;
    edge = λ w s d b p t. p;
    pin = λ s d b p t. each-still side no_pair d.blocks _ d.pairs (extends-pin d.blocks (u8_at s 1) (u8_at s 2)) p;
    pair = λ s d b p t. each_snoc side no_pair d.blocks d.pairs (pair_in s) p (new s d t);
  }

-- ---- clashes

same_way-turn : (v w : Way) → same_way v w ≡ same_way w v
same_way-turn Reads Reads = refl
same_way-turn Reads Writes = refl
same_way-turn Writes Reads = refl
same_way-turn Writes Writes = refl

clash-turn : (e f : Edge) → clash e f ≡ clash f e
clash-turn e f =
    ap₂ ◌||◌
    (ap₂ ◌&&◌ (ap₂ ◌&&◌ (same_way-turn e.way f.way) (eqb-turn e.service f.service)) (eqb-turn e.datum f.datum))
    (ap₂ ◌&&◌ (and_comm (is_write e.way) (is_write f.way)) (eqb-turn e.datum f.datum))

apart : Keeps Any (λ d. Apart clash no_edge d.edges)
apart = record {
  cloud = λ s d b p t. p;
  datum = λ s d b p t. p;
  service = λ s d b p t. p;
  edge = λ w s d b p t. apart_snoc clash clash-turn no_edge d.edges (edge_in w s) p t.fresh;
  pin = λ s d b p t. p;
  pair = λ s d b p t. p;
}

-- what is decoded, from any list of numbers, is well formed
pub decoded-well_formed : (s : List ℕ) (d : Description) → decode s ≡ ok d → WellFormed d
decoded-well_formed s d r = record {
  limits = decoded-any limits (omega arith) s d r;
  some_cloud = (declared s d r).some_cloud;
  some_block = (declared s d r).some_block;
  cloud_low = decoded-any cloud_low (λ k. zero-le) s d r;
  block_low = decoded-any block_low (λ b. zero-le) s d r;
  clearance_low = decoded-any clearance_low (λ b. tt) s d r;
  pins = decoded-any pins (λ b. tt) s d r;
  service = decoded-any (names not (λ e. e.service) (λ w s d t. t.service)) (λ n h. absurd (not-suc-le-zero h)) s d r;
  datum = decoded-any (names (λ t. t) (λ e. e.datum) (λ w s d t. t.datum)) (λ n h. absurd (not-suc-le-zero h)) s d r;
  distinct = λ n m h k e. clashless n m h k (rw e);
  one_writer = λ n m h k e f g. clashless n m h k (rw (e, f, eq-eqb _ _ g, or-true));
  pair_left = decoded-any (pair-names (λ t. t) (λ a. a.left) (λ s d t. t.left)) (λ n h. absurd (not-suc-le-zero h)) s d r;
  pair_right = decoded-any (pair-names (λ t. t) (λ a. a.right) (λ s d t. t.right)) (λ n h. absurd (not-suc-le-zero h)) s d r;
}
  where
    clashless : Apart clash no_edge d.edges
    clashless = decoded-any apart (λ n m h. absurd (not-suc-le-zero h)) s d r
