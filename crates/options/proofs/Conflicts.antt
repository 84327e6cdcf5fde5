-- In a candidate, the blocks of the pairs' data are declared and stand on declared clouds: so it breaks a pair exactly if two blocks
-- that conflict stand on one cloud.
use Prim.Native.Nat.{ℕ, ◌<◌}
use mathlib.Core.Path.{◌≡◌}
use mathlib.Core.Logic.{◌↔◌, inl, inr}
use mathlib.Core.Bool.{true}
use mathlib.Core.List.{List, Memᴰ}
use lib.ListN.{length, get_or}
use Rattle.description.specs.Declarations.{Description}
use Rattle.description.specs.Invariants.{WellFormed}
use Rattle.security.specs.Conflicts.{is_holder, conflicts}
use Rattle.security.specs.Placements.{broken_apart}
use Rattle.security.specs.Soundness.{candidates}
use Rattle.security.proofs.Holding.{OnClouds, holder-if, broken-if, conflict-if}
use Rattle.security.proofs.Standing.{block-stands}
use Rattle.options.specs.Representatives.{data_of}
use Rattle.options.proofs.Holding.{pair-data}
use Rattle.options.proofs.Locality.{data-are, edge-service}
use Rattle.options.proofs.Mixing.{candidates-stand, block-low}
use Rattle.options.proofs.Options.{service-named}

module _ (d : Description) (w : WellFormed d) where
  holder-declared : (n u : ℕ) → Memᴰ n (data_of d) → is_holder d n u ≡ true → u < length d.blocks
  holder-declared n u datum m = elim ((holder-if d n u).0 m) [
    | inl own ↦ rw own ((data-are d n).0 datum).0
    | inr (e, i, here, same) ↦ rw (← same) (service-named d e.service (edge-service d w e i)).0
  ]

  -- blocks that conflict are declared
  pub conflict-declared : (u v : ℕ) → conflicts d u v ≡ true → (u < length d.blocks) × (v < length d.blocks)
  conflict-declared u v t =
      let (a, i, m, n) = (conflict-if d u v).0 t in
      let (left, right) = pair-data d w a i in
      (holder-declared a.left u left m, holder-declared a.right v right n)

  module _ (p : List ℕ) (c : Memᴰ p (candidates d)) where
    on-clouds : OnClouds d p
    on-clouds a i u m =
        let low = holder-declared a.left u (pair-data d w a i).0 m in
        ((block-stands d u (get_or p u 0) low).0 (((candidates-stand d w p).0 c).1 u (block-low d w u low))).declared

    pub candidate-broken : (broken_apart d p ≡ true) ↔ ((u v : ℕ) × (conflicts d u v ≡ true) × (get_or p u 0 ≡ get_or p v 0))
    candidate-broken = broken-if d p on-clouds
