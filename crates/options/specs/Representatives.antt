-- Which placement represents its option, decided one datum at a time; and definitions for the laws of options.
use Rattle.std.specs.Prelude.{ℕ, ◌+◌, ◌<◌, ◌≡◌, ◌⊎◌, Bool, true, false, not, ◌&&◌, length, get_or, set, eqb}
use mathlib.Core.List.{List, [], ◌∷◌, map, Memᴰ}
use Rattle.std.proofs.Math.Option.{Option, none, some}
use Rattle.description.specs.declared.workflow.Edge.{Edge}
use Rattle.description.specs.Declarations.{Description, block, cloud, is_datum, names_service}
use Rattle.security.specs.Soundness.{may_stand, candidates}
use Rattle.security.specs.Placements.{service_cloud, secure}
use Rattle.costs.specs.Cost.{storage_of, copy_of, edge_cost, cost}
use Rattle.options.specs.Options.{writers_of, readers_of, part_of, same_option}
use Rattle.sequences.specs.Lists.{any, keep, below, sum, equal_by, same, before, other_end}

-- ---- a datum's share of the cost

-- the data, and the edges of datum n
abbrev pub data_of : Description → List ℕ
data_of d = keep (λ n. is_datum (block d n).kind) (below (length d.blocks))

abbrev pub edges_of : Description → ℕ → List Edge
edges_of d n = keep (λ e. eqb e.datum n) d.edges

-- what storing datum n on cloud k costs
abbrev pub stored_on : Description → ℕ → ℕ → ℕ
stored_on d n k = storage_of (cloud d k) (block d n).kind

-- a datum's share: its storage, and the transfers on its edges with their copies
unfoldable pub share : Description → List ℕ → ℕ → ℕ
share d p n = stored_on d n (get_or p n 0) + sum (map (edge_cost d p) (edges_of d n))

-- ---- the test by shares

-- Datum n does better on cloud k: it may stand there, moving it there alone keeps its stem and branches, and its share there, then k, is
-- lower than its share, then its cloud.
unfoldable pub better_on : Description → List ℕ → ℕ → ℕ → Bool
better_on d p n k =
    may_stand d n k && equal_by same (part_of d (set p n k) n) (part_of d p n) &&
    before (share d (set p n k) n ∷ k ∷ []) (share d p n ∷ get_or p n 0 ∷ [])

-- no datum does better on another cloud
unfoldable pub stands_locally : Description → List ℕ → Bool
stands_locally d p = not (any (λ n. any (better_on d p n) (below 8)) (data_of d))

-- ---- the same test, by what an exchange of two ends changes

-- the other end for what stands on b, if it has one writer and one reader: their clouds are the two ends
abbrev pub between : List ℕ → ℕ → (writers readers : List Edge) → Option ℕ
between p b [] readers = none
between p b (w ∷ v ∷ writers) readers = none
between p b (w ∷ []) [] = none
between p b (w ∷ []) (r ∷ s ∷ readers) = none
between p b (w ∷ []) (r ∷ []) = other_end (service_cloud p w) (service_cloud p r) b

-- The one other cloud on which block n would be in the same option: if a datum's writer stands on one cloud and its only reader on
-- another, and the datum stands on one of the two, it may move to the other. Nothing else can move.
unfoldable pub moves_to : Description → List ℕ → ℕ → Option ℕ
moves_to d p n = between p (get_or p n 0) (writers_of d n) (readers_of d n)

-- what keeping datum n on h costs, with a copy of it on k for a month: a datum on one end has its copy on the other
abbrev pub kept_on : Description → (n h k : ℕ) → ℕ
kept_on d n h k = stored_on d n h + copy_of (cloud d k) (block d n).kind

-- Datum n, which stands on h, would do better on k within its option: it may stand there, and the cost of keeping it there with its copy on
-- h, then k, is lower than the cost of keeping it on h with its copy on k, then h.
unfoldable pub exchanges : Description → (n h k : ℕ) → Bool
exchanges d n h k = may_stand d n k && before (kept_on d n k h ∷ k ∷ []) (kept_on d n h k ∷ h ∷ [])

abbrev pub cheaper_on : Description → List ℕ → ℕ → Option ℕ → Bool
cheaper_on d p n none = false
cheaper_on d p n (some k) = exchanges d n (get_or p n 0) k

-- no block would be cheaper on the cloud it can move to
unfoldable pub stands_by_exchanges : Description → List ℕ → Bool
stands_by_exchanges d p = not (any (λ n. cheaper_on d p n (moves_to d p n)) (below (length d.blocks)))

-- ---- definitions for the laws

-- Block n can move to cloud k within its option, may stand there, and is kept there, with its copy on its present cloud, at a lower cost,
-- or at the same cost on a lower cloud.
pub record MovesDown (d : Description) (p : List ℕ) (n k : ℕ) : Type 0 where
  pub declared : n < length d.blocks
  pub moves : moves_to d p n ≡ some k
  pub stands : may_stand d n k ≡ true
  pub lower : (kept_on d n k (get_or p n 0) < kept_on d n (get_or p n 0) k) ⊎ ((kept_on d n k (get_or p n 0) ≡ kept_on d n (get_or p n 0) k) × (k < get_or p n 0))

-- every service stands on the same cloud in both
abbrev pub SameServices : Description → List ℕ → List ℕ → Type 0
SameServices d p q = (n : ℕ) → names_service d n ≡ true → get_or p n 0 ≡ get_or q n 0

-- each position of r has the cloud of p or of q
pub record Mix (p q r : List ℕ) : Type 0 where
  pub size : length r ≡ 16
  pub either : (n : ℕ) → n < 16 → (get_or r n 0 ≡ get_or p n 0) ⊎ (get_or r n 0 ≡ get_or q n 0)

-- a candidate that is secure
pub record SecureCandidate (d : Description) (p : List ℕ) : Type 0 where
  pub candidate : Memᴰ p (candidates d)
  pub safe : secure d p ≡ true

-- q comes before p by cost, then bytes
abbrev pub Earlier : Description → (q p : List ℕ) → Type 0
Earlier d q p = before (cost d q ∷ q) (cost d p ∷ p) ≡ true

-- no secure candidate of the same option is earlier
abbrev pub First : Description → List ℕ → Type 0
First d p = (q : List ℕ) → SecureCandidate d q → same_option d q p ≡ true → Earlier d q p → ⊥
