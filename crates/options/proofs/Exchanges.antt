-- The test by exchanges in the words of its definition, and what it means for data that are kept for a month or not at all.
use Prim.Native.Nat.{ℕ}
use native.Mathlib.Nat.{mul-one, mul-zero, zero-add}
use native.Mathlib.Omega.{arith}
use mathlib.Core.Path.{◌≡◌, refl}
use mathlib.Core.Bool.{not, ◌&&◌}
use mathlib.Core.List.{List, [], ◌∷◌}
use lib.ListN.{length, get_or}
use Rattle.description.specs.declared.workflow.Kind.TheVariants.{Datum}
use Rattle.description.specs.Declarations.{Description, cloud, block}
use Rattle.security.specs.Soundness.{may_stand}
use Rattle.costs.specs.Cost.{gigabytes, copy_of}
use Rattle.options.specs.Options.{writers_of, readers_of}
use Rattle.options.specs.Representatives.{kept_on, between, moves_to, exchanges, cheaper_on, stands_by_exchanges}
use Rattle.sequences.specs.Lists.{any, below, before}

module _ (d : Description) where
  pub moves-between : (p : List ℕ) (n : ℕ) → moves_to d p n ≡ between p (get_or p n 0) (writers_of d n) (readers_of d n)
  unfolding moves_to
  moves-between p n = refl

  pub exchanges-are : (n h k : ℕ) → exchanges d n h k ≡ (may_stand d n k && before (kept_on d n k h ∷ k ∷ []) (kept_on d n h k ∷ h ∷ []))
  unfolding exchanges
  exchanges-are n h k = refl

  pub stands-by-exchanges : (p : List ℕ) → stands_by_exchanges d p ≡ not (any (λ n. cheaper_on d p n (moves_to d p n)) (below (length d.blocks)))
  unfolding stands_by_exchanges
  stands-by-exchanges p = refl

  -- for a datum that is kept for one month both ends cost the same: the lower cloud wins
  pub month-ties : (n size h k : ℕ) → (block d n).kind ≡ Datum size 1 → kept_on d n k h ≡ kept_on d n h k
  month-ties n size h k e =
      let g = gigabytes size in
      let there = mul-one g in
      rw (e, there) (omega arith)

  -- for one that is not kept at all only the copy counts: it does better on the dearer end, since its copy is then on the other
  pub unkept-copies : (n size h k : ℕ) → (block d n).kind ≡ Datum size 0 → kept_on d n k h ≡ copy_of (cloud d h) (block d n).kind
  unkept-copies n size h k e = rw e (simp (mul-zero, zero-add))
