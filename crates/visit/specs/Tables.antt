-- Tables of a problem: what each block adds to a placement's weight on each cloud, what each edge adds, where blocks may stand, which of
-- them may not share a cloud, and which data would do better on which cloud. They lie one after the other in lent words and lent bytes.
use Rattle.std.specs.Prelude.{ℕ, ◌+◌, ◌-◌, ◌*◌, ◌/◌, ◌%◌, ◌≤◌, ◌<◌, ◌≡◌, Bool, false, not, cond, List, map, ltb, eqb, get_or}
use Rattle.std.proofs.Math.Option.{Option, none, some}
use Rattle.weights.specs.Weights.{term_limit}
use Rattle.sequences.specs.Bits.{bit, bit_choices}
use Rattle.sequences.specs.Lists.{any, below, sum, other_end}

pub record Tables : Type 0 where
  pub words : List ℕ
  pub bytes : List ℕ

abbrev pub tables : (words bytes : List ℕ) → Tables
tables words bytes = record { words = words; bytes = bytes }

-- ---- where each table begins

abbrev pub own_from : ℕ
own_from = 0

abbrev pub terms_from : ℕ
terms_from = 128

abbrev pub ends_from : ℕ
ends_from = 0

abbrev pub starts_from : ℕ
starts_from = 64

abbrev pub masks_from : ℕ
masks_from = 81

abbrev pub pairs_from : ℕ
pairs_from = 97

abbrev pub conflicts_from : ℕ
conflicts_from = 129

abbrev pub exchanges_from : ℕ
exchanges_from = 266

-- the number of choices of two of sixteen blocks, the later one first, or of one block twice
abbrev pub most_conflicts : ℕ
most_conflicts = 136

module _ (t : Tables) where
  -- what block b adds on cloud k, at b * 8 + k
  abbrev pub own : ℕ → ℕ
  own i = get_or t.words i 0

  -- what edge i adds with its later end on x and its other end on y, at i * 64 + x * 8 + y
  abbrev pub term : ℕ → ℕ
  term i = get_or t.words (terms_from + i) 0

  -- the later end of edge i, a block, at 2 * i; at 2 * i + 1 the shift of a packed placement from there to its other end, three bits a block
  abbrev pub end : ℕ → ℕ
  end i = get_or t.bytes i 0

  -- the other end of edge i
  abbrev pub far_end : ℕ → ℕ
  far_end i = end (2 * i) - end (2 * i + 1) / 3

  -- at k, how many edges have a later end below k; the edges are in the order of their later ends
  abbrev pub start : ℕ → ℕ
  start k = get_or t.bytes (starts_from + k) 0

  -- bit k of the mask of b is set if block b may stand on cloud k
  abbrev pub mask : ℕ → ℕ
  mask b = get_or t.bytes (masks_from + b) 0

  -- the writer and the only reader of datum m at 2 * m and 2 * m + 1; 16 or more if it does not have one of each
  abbrev pub pair : ℕ → ℕ
  pair i = get_or t.bytes (pairs_from + i) 0

  -- how many conflicts there are; conflict i is u * 16 + v for two blocks u and v that may not stand on one cloud
  abbrev pub conflict_count : ℕ
  conflict_count = get_or t.bytes conflicts_from 0

  abbrev pub conflict : ℕ → ℕ
  conflict i = get_or t.bytes (conflicts_from + 1 + i) 0

  -- at m * 8 + h, bit k is set if datum m, which stands on h, would do better on k
  abbrev pub exchange : ℕ → ℕ
  exchange i = get_or t.bytes (exchanges_from + i) 0

  -- ---- placements of n blocks

  -- all of them, in lexicographic order: for each block one of the clouds whose bits its mask has set; nothing else limits them
  unfoldable pub placements : (n : ℕ) → List (List ℕ)
  placements n = bit_choices (map mask (below n))

  -- what block b and edge i add at a placement
  abbrev pub own_term : List ℕ → ℕ → ℕ
  own_term q b = own (b * 8 + get_or q b 0)

  abbrev pub edge_term : List ℕ → ℕ → ℕ
  edge_term q i = term (i * 64 + get_or q (end (2 * i)) 0 * 8 + get_or q (far_end i) 0)

  -- the weight of the first n blocks, with the edges between them
  unfoldable pub weight : ℕ → List ℕ → ℕ
  weight n q = sum (map (own_term q) (below n)) + sum (map (edge_term q) (below (start n)))

  -- ---- conflicts

  -- the blocks of conflict i stand on one cloud
  abbrev pub clashes : List ℕ → ℕ → Bool
  clashes q i = eqb (get_or q (conflict i / 16) 0) (get_or q (conflict i % 16) 0)

  -- no two blocks that may not share a cloud do
  unfoldable pub apart : List ℕ → Bool
  apart q = not (any (clashes q) (below conflict_count))

  -- ---- the row test

  -- the cloud to which datum m can move within its option: if it has one writer and one reader and is on the cloud of one, that of the other
  abbrev pub moves_to : List ℕ → ℕ → Option ℕ
  moves_to q m = cond (ltb (pair (2 * m)) 16) (other_end (get_or q (pair (2 * m)) 0) (get_or q (pair (2 * m + 1)) 0) (get_or q m 0)) none

  -- datum m would do better there
  abbrev pub better_on : List ℕ → ℕ → Option ℕ → Bool
  better_on q m none = false
  better_on q m (some k) = bit (exchange (m * 8 + get_or q m 0)) k

  -- no datum of the first n blocks would do better at its other end
  unfoldable pub stands : ℕ → List ℕ → Bool
  stands n q = not (any (λ m. better_on q m (moves_to q m)) (below n))

  -- what the tests of a placement ask of the tables of n blocks
  pub record Paired (n : ℕ) : Type 0 where
    -- writers and readers are blocks
    pub pairs_small : (m : ℕ) → m < n → pair (2 * m) < 16 → (pair (2 * m) < n) × (pair (2 * m + 1) < n)
    -- so are the blocks that may not share a cloud
    pub conflicts_few : conflict_count ≤ most_conflicts
    pub conflicts_small : (i : ℕ) → i < conflict_count → (conflict i / 16 < n) × (conflict i % 16 < n)

  -- what the walk asks of the tables of n blocks
  pub record Ready (n : ℕ) : Type 0 where
    pub inhabited : 0 < n
    pub few : n ≤ 16
    -- the edges before start k have both ends below k, the later one first, and the shift between them is whole blocks; those from there to
    -- start (k + 1) have the later end k
    pub earlier : (k i : ℕ) → k ≤ n → i < start k → (end (2 * i) < k) × (end (2 * i + 1) ≡ 3 * (end (2 * i) - far_end i))
    pub later : (k i : ℕ) → k < n → start k ≤ i → i < start (k + 1) → end (2 * i) ≡ k
    pub rising : (k : ℕ) → k < n → start k ≤ start (k + 1)
    pub none : start 0 ≡ 0
    pub all : (k : ℕ) → k ≤ n → start k ≤ 32
    -- no term of 16 blocks and 32 edges takes a weight to 2^64
    pub small : (i : ℕ) → get_or t.words i 0 < term_limit
    -- a mask has eight bits
    pub masked : (b : ℕ) → b < n → mask b < 256
    pub paired : Paired n

-- What the weight of a placement does not show: whether no two blocks in conflict share a cloud, and whether it passes the row test.
pub record Tests : Type 0 where
  pub apart : Bool
  pub stands : Bool

abbrev pub tests_of : Tables → (n : ℕ) → List ℕ → Tests
tests_of t n q = record { apart = apart t q; stands = stands t n q }
