-- Where a block may stand: only on declared clouds; past the last block only on the first.
use Prim.Native.Nat.{ℕ, ◌≤◌, ◌<◌}
use mathlib.Core.Path.{◌≡◌, ap, ◌∙◌}
use mathlib.Core.Bool.{true, false, ◌&&◌}
use mathlib.Core.List.{[], ◌∷◌}
use lib.Dec.{eqb}
use lib.ListN.{length}
use borrow.Author.Tests.{lt-ltb, le-ltb}
use Rattle.description.specs.Declarations.{Description, block}
use Rattle.sequences.specs.Lists.{keep, below}
use Rattle.sequences.proofs.Agreeing.{keep-agree}
use Rattle.security.specs.Soundness.{block_label, pin_allows, cloud_covers, may_stand, choices_of}
use Rattle.security.proofs.Standing.{block-stands}

-- a cloud that is not declared covers nothing
pub not-declared : (d : Description) (label k : ℕ) → length d.clouds ≤ k → cloud_covers d label k ≡ false
not-declared d label k l = simp (le-ltb k (length d.clouds) l)

module _ (d : Description) (b : ℕ) where
  -- a block may stand where the cloud covers its label and its pin allows it
  pub named-stands : (k : ℕ) → b < length d.blocks → may_stand d b k ≡ (cloud_covers d (block_label d b) k && pin_allows (block d b).pin k)
  unfolding may_stand
  named-stands k h = simp (lt-ltb b (length d.blocks) h)

  pub no-cloud : (k : ℕ) → b < length d.blocks → length d.clouds ≤ k → may_stand d b k ≡ false
  no-cloud k h l = named-stands k h ∙ ap (λ t. t && pin_allows (block d b).pin k) (not-declared d (block_label d b) k l)

  -- a cloud on which a block may stand is declared
  pub stands-declared : (k : ℕ) → b < length d.blocks → may_stand d b k ≡ true → k < length d.clouds
  stands-declared k h may = ((block-stands d b k h).0 may).declared

  -- past the last block there is one choice, 0
  pub past-stands : (k : ℕ) → length d.blocks ≤ b → may_stand d b k ≡ eqb k 0
  unfolding may_stand
  past-stands k h = simp (le-ltb b (length d.blocks) h)

  pub last-choice : length d.blocks ≤ b → keep (may_stand d b) (below 8) ≡ 0 ∷ []
  last-choice h = keep-agree (may_stand d b) (λ k. eqb k 0) (below 8) (λ k m. past-stands k h)

  pub one_choice : length d.blocks ≤ b → length (choices_of d b) ≡ 1
  unfolding choices_of
  one_choice h = ap length (last-choice h)
