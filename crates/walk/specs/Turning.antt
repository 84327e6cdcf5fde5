-- The walk below a prefix: the placements that begin with it, what is known when the walk gets there, and what it has done when it leaves.
use Rattle.std.specs.Prelude.{ℕ, suc, ◌+◌, ◌*◌, ◌^◌, ◌≤◌, ◌<◌, ◌≡◌, length}
use mathlib.Core.List.{List, [], ◌∷◌, ◌++◌, map, foldl}
use Rattle.sequences.specs.Bits.{set_bits}
use Rattle.sequences.specs.Lists.{from, prefixed, sequences}
use Rattle.packing.specs.Packing.{digits}
use Rattle.visit.specs.declared.Met.{Met}
use Rattle.visit.specs.declared.tables.Tables.{Tables}
use Rattle.visit.specs.Lent.{table_in}
use Rattle.visit.specs.Tables.{Tests, Ready, mask, start, weight}
use Rattle.visit.specs.Visits.{counter_count, count_limit}
use Rattle.walk.specs.declared.Block.{Block}
use Rattle.walk.specs.Walking.{see_at}

-- there is room to count 8 ^ n more placements beside what is counted
abbrev pub Room : (n counted : ℕ) → Type 0
Room n counted = counted + counter_count * 8 ^ n ≤ count_limit

module _ (S : Tables) where
  -- the weight of the first k blocks, whose clouds are the digits of the place
  abbrev pub Carried : (k : ℕ) → Met → Type 0
  Carried k met = met.weight ≡ weight (table_in S) k (digits k met.place)

  -- block k and its edges
  pub record Loaded (k : ℕ) (block : Block) : Type 0 where
    pub at : block.at ≡ k
    pub inside : k < S.blocks
    pub lo : block.lo ≡ start (table_in S) k
    pub hi : block.hi ≡ start (table_in S) (k + 1)

  -- the tables are those of the blocks, of which k have their clouds and n have none yet
  pub record Under (k n : ℕ) (met : Met) : Type 0 where
    pub ready : Ready (table_in S) S.blocks
    pub sized : k + n ≡ S.blocks
    pub low : met.place < 8 ^ k
    pub carried : Carried k met

  -- the clouds that each of n blocks from k on may stand on
  abbrev pub choices : (k n : ℕ) → List (List ℕ)
  choices k n = map (λ b. set_bits (mask (table_in S) b)) (from k n)

  -- the placements that begin with q and have n more blocks
  unfoldable pub completions : ℕ → List ℕ → List (List ℕ)
  completions n q = map (λ p. q ++ p) (sequences (choices (length q) n))

  -- the placements that begin with q, have the next block on one of the clouds ks, and then n more blocks
  unfoldable pub branches : ℕ → List ℕ → List ℕ → List (List ℕ)
  branches n q ks = map (λ p. q ++ p) (prefixed (sequences (choices (suc (length q)) n)) ks)

  module _ {V : Type 0} (see : (weight place : ℕ) → Tests → V → V) (tally : V → ℕ) where
    -- placements are seen, one after the other
    unfoldable pub see_these : V → List (List ℕ) → V
    see_these v qs = foldl (see_at see (table_in S) S.blocks) v qs

    -- all of qs were seen, starting from v, and no more was counted than for 8 ^ n placements
    pub record Walked (v : V) (n : ℕ) (qs : List (List ℕ)) (r : V) : Type 0 where
      pub same : r ≡ see_these v qs
      pub counted : tally r ≤ tally v + counter_count * 8 ^ n

    -- the walk below the first k digits of place, with n more blocks
    abbrev pub WalkedBelow : (v : V) (k n place : ℕ) (r : V) → Type 0
    WalkedBelow v k n place r = Walked v n (completions n (digits k place)) r

    -- the turn of cloud c there, with n more blocks
    abbrev pub Turned : (v : V) (k n place c : ℕ) (r : V) → Type 0
    Turned v k n place c r = Walked v n (branches n (digits k place) (c ∷ [])) r
