-- The tables of a description that a walk over its placements takes: where blocks may stand and what they are charged there, the edges
-- in the order of their later ends, the data between one writer and one reader, and the blocks that may not share a cloud.
use Rattle.std.specs.Prelude.{ℕ, zero, suc, ◌+◌, ◌-◌, ◌*◌, ◌/◌, ◌%◌, ◌≤◌, ◌<◌, ◌≡◌, Bool, false, not, ◌&&◌, ◌||◌, cond, List, [], ◌∷◌, ◌++◌, ltb, leb, eqb, length, get_or}
use Rattle.description.specs.declared.workflow.Block.{Block}
use Rattle.description.specs.declared.workflow.Cloud.{Cloud}
use Rattle.description.specs.declared.workflow.Edge.{Edge}
use Rattle.description.specs.declared.workflow.Kind.{Kind}
use Rattle.description.specs.declared.workflow.Kind.TheVariants.{Datum, Service}
use Rattle.description.specs.declared.workflow.Way.{Way}
use Rattle.description.specs.declared.workflow.Way.TheVariants.{Reads, Writes}
use Rattle.description.specs.Declarations.{Description, cloud, block, edge, same_way}
use Rattle.security.specs.Masks.{masks_of}
use Rattle.security.specs.Soundness.{may_stand}
use Rattle.security.specs.Conflicts.{serves, conflicts}
use Rattle.costs.specs.Cost.{gigabytes, storage_of}
use Rattle.costs.specs.Terms.{block_term, edge_term, service_side, datum_side}
use Rattle.options.specs.Representatives.{exchanges}
use Rattle.sequences.specs.Arrays.{table, table_to, AllBelow}
use Rattle.sequences.specs.Bits.{bit, bits}
use Rattle.sequences.specs.Lists.{any, keep, below, before}
use Rattle.visit.specs.Tables.{Tables, tables, masks_from, pairs_from, most_conflicts}
use Rattle.weights.specs.Weights.{term_limit}

-- ---- while a table is filled

-- n entries from `at` on are those of f; all other entries are unchanged
pub record Stored (f : ℕ → ℕ) (at n : ℕ) (before after : List ℕ) : Type 0 where
  pub size : length after ≡ length before
  pub entry : (i : ℕ) → i < n → get_or after (at + i) 0 ≡ f i
  pub others : (j : ℕ) → (at ≤ j → j < at + n → ⊥) → get_or after j 0 ≡ get_or before j 0

-- ---- blocks

-- what each block is charged on each cloud
unfoldable pub own_of : Description → List ℕ
own_of d = table 128 (λ i. block_term d (i / 8) (i % 8))

-- ---- edges

-- the end of an edge with the larger number, and the other one
abbrev pub later : Edge → ℕ
later e = cond (ltb e.service e.datum) e.datum e.service

abbrev pub other : Edge → ℕ
other e = cond (ltb e.service e.datum) e.service e.datum

-- the later end of edge n
abbrev pub late_in : Description → ℕ → ℕ
late_in d n = later (edge d n)

-- as an array, with 0 past the last
unfoldable pub late_of : Description → List ℕ
late_of d = table_to 32 (length d.edges) (late_in d)

-- how many of n edges have a later end below k
abbrev pub count_before : (ℕ → ℕ) → (n k : ℕ) → ℕ
count_before late n k = length (keep (λ e. ltb (late e) k) (below n))

abbrev pub edges_before : Description → ℕ → ℕ
edges_before d = count_before (late_in d) (length d.edges)

-- at k, for each k up to the number of blocks
unfoldable pub starts_of : Description → List ℕ
starts_of d = table_to 17 (length d.blocks + 1) (edges_before d)

-- the first n of some lists, one after the other
unfoldable pub joined : (ℕ → List ℕ) → ℕ → List ℕ
joined g zero = []
joined g (suc n) = joined g n ++ g n

-- those of the first n numbers whose later end is k
abbrev pub group : (ℕ → ℕ) → (n k : ℕ) → List ℕ
group late n k = keep (λ e. eqb (late e) k) (below n)

-- while that list is made: the groups below k of n numbers, and those of the first e numbers that are in group k
unfoldable pub gathered : (ℕ → ℕ) → (n k e : ℕ) → List ℕ
gathered late n k e = joined (group late n) k ++ group late e k

-- an array of n entries begins with a list of `count` elements, and then has 0
pub record Listed (n : ℕ) (l a : List ℕ) (count : ℕ) : Type 0 where
  pub size : length a ≡ n
  pub ends : count ≡ length l
  pub same : (j : ℕ) → get_or a j 0 ≡ get_or l j 0

-- the edges in the order of their later ends, and within one in edge order; and as an array, with 0 past the last
unfoldable pub order_of : Description → List ℕ
order_of d = joined (group (late_in d) (length d.edges)) (length d.blocks)

unfoldable pub ordered : Description → List ℕ
ordered d = table 32 (λ i. get_or (order_of d) i 0)

-- the edge at a place in that order
abbrev pub edge_in : Description → ℕ → Edge
edge_in d i = edge d (get_or (order_of d) i 0)

-- the first or the second of two numbers
abbrev pub pick : (a b : ℕ) → ℕ → ℕ
pick a b zero = a
pick a b (suc i) = b

-- its later end, and the shift of a packed placement from there to the other end: three bits for each block between
abbrev pub end_of : Edge → ℕ → ℕ
end_of e = pick (later e) (3 * (later e - other e))

unfoldable pub ends_of : Description → List ℕ
ends_of d = table_to 64 (length d.edges * 2) (λ i. end_of (edge_in d (i / 2)) (i % 2))

-- what an edge adds with its later end on cloud x and its other end on y
unfoldable pub term_of : Description → Edge → (x y : ℕ) → ℕ
term_of d e x y = cond (ltb e.service e.datum) (edge_term d e y x) (edge_term d e x y)

-- an end of an edge, 0 for the later one, is its datum
abbrev pub is_datum_end : Edge → ℕ → Bool
is_datum_end e zero = ltb e.service e.datum
is_datum_end e (suc i) = not (ltb e.service e.datum)

-- what that end adds on a cloud, if the other stands elsewhere
unfoldable pub side_on : Edge → Block → Cloud → (end : ℕ) → ℕ
side_on e datum c end = cond (is_datum_end e end) (datum_side e.way c datum) (service_side e.way c datum)

abbrev pub side_of : Description → Edge → (end k : ℕ) → ℕ
side_of d e end k = side_on e (block d e.datum) (cloud d k) end

-- an array of the sides of an edge: of end i / 8 on cloud i % 8, if that cloud is declared
pub record Sides (d : Description) (e : Edge) (a : List ℕ) : Type 0 where
  pub size : length a ≡ 16
  pub small : AllBelow (term_limit) a
  pub side : (i : ℕ) → i < 16 → i % 8 < length d.clouds → get_or a i 0 ≡ side_of d e (i / 8) (i % 8)

-- what an edge adds with its ends on clouds x and y, by its sides: 0 if both stand on one cloud
abbrev pub sides_together : List ℕ → (x y : ℕ) → ℕ
sides_together sides x y = cond (eqb x y) 0 (get_or sides x 0 + get_or sides (8 + y) 0)

-- the eight rows of the edge at place i have the terms of the first m clouds in the first n of them; all other entries are unchanged
pub record EdgeFilled (sides : List ℕ) (n m i : ℕ) (before after : List ℕ) : Type 0 where
  pub size : length after ≡ length before
  pub term : (x y : ℕ) → x < n → y < m → get_or after ((i * 8 + x) * 8 + y) 0 ≡ sides_together sides x y
  pub others : (j : ℕ) → (j / 64 ≡ i → j / 8 % 8 < n → j % 8 < m → ⊥) → get_or after j 0 ≡ get_or before j 0

-- both clouds of entry i are among the first m
abbrev pub has_clouds : (m i : ℕ) → Bool
has_clouds m i = ltb (i / 8 % 8) m && ltb (i % 8) m

-- what the edges in their order add, on each two clouds; 0 if the edge or a cloud is not declared
abbrev pub term_at : Description → ℕ → ℕ
term_at d i = cond (ltb (i / 64) (length d.edges) && has_clouds (length d.clouds) i) (term_of d (edge_in d (i / 64)) (i / 8 % 8) (i % 8)) 0

unfoldable pub terms_of : Description → List ℕ
terms_of d = table 2048 (term_at d)

-- ---- data between one writer and one reader

-- no block has this number
abbrev pub no_service : ℕ
no_service = 255

-- the service of the only edge; no service if there are none or several
abbrev pub only_of : List Edge → ℕ
only_of [] = no_service
only_of (e ∷ []) = e.service
only_of (e ∷ f ∷ es) = no_service

-- an edge reads, or writes, datum m; those edges
abbrev pub is_of : Way → ℕ → Edge → Bool
is_of way m e = same_way way e.way && eqb e.datum m

abbrev pub edges_of : Description → Way → ℕ → List Edge
edges_of d way m = keep (is_of way m) d.edges

-- the only service that reads, or writes, datum m
abbrev pub only : Description → Way → ℕ → ℕ
only d way m = only_of (edges_of d way m)

-- the first or the second of two numbers; no service if either of them is that
abbrev pub of_pair : (a b : ℕ) → ℕ → ℕ
of_pair a b zero = cond (eqb a no_service || eqb b no_service) no_service a
of_pair a b (suc i) = cond (eqb a no_service || eqb b no_service) no_service b

-- for datum i / 2
abbrev pub pair_at : Description → ℕ → ℕ
pair_at d i = of_pair (only d Writes (i / 2)) (only d Reads (i / 2)) (i % 2)

unfoldable pub pairs_of : Description → List ℕ
pairs_of d = table_to 32 (2 * length d.blocks) (pair_at d)

-- ---- blocks that may not share a cloud

-- at n, then u, whether block u is the service of one of these edges, of datum n
pub record Served (es : List Edge) (a : List (List Bool)) : Type 0 where
  pub size : length a ≡ 16
  pub row_size : (n : ℕ) → n < 16 → length (get_or a n []) ≡ 16
  pub marks : (n u : ℕ) → n < 16 → u < 16 → get_or (get_or a n []) u false ≡ any (serves n u) es

-- blocks c / 16 and c % 16 conflict; of two blocks the later one is first, and a block may be in conflict with itself
abbrev pub is_conflict : Description → ℕ → Bool
is_conflict d c = leb (c % 16) (c / 16) && (conflicts d (c / 16) (c % 16) || conflicts d (c % 16) (c / 16))

-- those among the first n numbers; those of all blocks
abbrev pub conflicts_to : Description → (n : ℕ) → List ℕ
conflicts_to d n = keep (is_conflict d) (below n)

unfoldable pub conflict_list : Description → List ℕ
conflict_list d = conflicts_to d (length d.blocks * 16)

-- how many there are, and then each, with 0 past the last
unfoldable pub conflicts_of : Description → List ℕ
conflicts_of d = length (conflict_list d) ∷ table most_conflicts (λ i. get_or (conflict_list d) i 0)

-- ---- data that would do better elsewhere

-- Where datum m, which stands on h, would do better: bit k is set if it would on k. 0 if it may not stand on h.
abbrev pub exchange_bits : Description → (m h : ℕ) → ℕ
exchange_bits d m h = cond (may_stand d m h) (bits (exchanges d m h) 0 8) 0

-- The same for datum i / 8, on cloud i % 8; 0 if that block does not have one writer and one reader, or the cloud is not declared.
abbrev pub exchange_at : Description → ℕ → ℕ
exchange_at d i = cond (ltb (i % 8) (length d.clouds) && ltb (pair_at d (2 * (i / 8))) 16) (exchange_bits d (i / 8) (i % 8)) 0

unfoldable pub exchanges_of : Description → List ℕ
exchanges_of d = table_to 128 (length d.blocks * 8) (exchange_at d)

-- What decides between two clouds, with a datum on c and its copy on e: if the datum is kept for more than a month, its storage, which a
-- month of the copy does not outweigh; if it is not kept, its copy; if it is kept for a month, nothing, since both cost the same.
abbrev pub kept_longer : Kind → Bool
kept_longer (Datum size longevity) = ltb 1 longevity
kept_longer (Service clearance units) = false

abbrev pub turned_of : Kind → ℕ
turned_of (Datum size zero) = gigabytes size
turned_of (Datum size (suc longevity)) = 0
turned_of (Service clearance units) = 0

abbrev pub deciding : Kind → (c e : Cloud) → ℕ
deciding kind c e = cond (kept_longer kind) (storage_of c kind) (e.storage * turned_of kind)

-- by a mask and by what decides: k is permitted, and the cost there, then k, is lower than that on h, then h
abbrev pub better_as : (cost : (on other : ℕ) → ℕ) (mask h k : ℕ) → Bool
better_as cost mask h k = bit mask k && before (cost k h ∷ k ∷ []) (cost h k ∷ h ∷ [])

-- the same as in the table of exchanges, by the masks and pairs of the other tables
abbrev pub better_by : Description → (mask m h k : ℕ) → Bool
better_by d mask m = better_as (λ on other. deciding (block d m).kind (cloud d on) (cloud d other)) mask

abbrev pub bits_by : Description → (mask clouds m h : ℕ) → ℕ
bits_by d mask clouds m h = cond (bit mask h) (bits (better_by d mask m h) 0 clouds) 0

abbrev pub may_exchange : (bytes : List ℕ) (clouds i : ℕ) → Bool
may_exchange bytes clouds i = ltb (i % 8) clouds && ltb (get_or bytes (pairs_from + 2 * (i / 8)) 0) 16

abbrev pub exchange_by : Description → (bytes : List ℕ) (clouds i : ℕ) → ℕ
exchange_by d bytes clouds i = cond (may_exchange bytes clouds i) (bits_by d (get_or bytes (masks_from + i / 8) 0) clouds (i / 8) (i % 8)) 0

abbrev pub exchanges_by : Description → (bytes : List ℕ) (blocks clouds : ℕ) → List ℕ
exchanges_by d bytes blocks clouds = table_to 128 (blocks * 8) (exchange_by d bytes clouds)

-- ---- all of them

abbrev pub words_of : Description → List ℕ
words_of d = own_of d ++ terms_of d

-- with `exchanges` after the others
abbrev pub bytes_of : Description → List ℕ → List ℕ
bytes_of d exchanges = ends_of d ++ starts_of d ++ masks_of d ++ pairs_of d ++ conflicts_of d ++ exchanges

unfoldable pub tables_of : Description → Tables
tables_of d = tables (words_of d) (bytes_of d (exchanges_of d))
