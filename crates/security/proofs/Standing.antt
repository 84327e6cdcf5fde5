-- Where a block may stand, from the rules: on a declared cloud whose label covers its own and that its pin allows. A position past the
-- last block may have only 0.
use Prim.Native.Nat.{ℕ, ◌≤◌, ◌<◌}
use Rattle.std.specs.Prelude.{Some, None}
use Rattle.description.specs.Declarations.{Pin}
use native.Mathlib.Decide.{dec_lt}
use native.Mathlib.Omega.{arith}
use mathlib.Core.Path.{◌≡◌, refl, sym, ap, ◌∙◌}
use mathlib.Core.Logic.{◌↔◌}
use mathlib.Core.Bool.{true, ◌&&◌, false≢true}
use mathlib.Core.List.{List}
use lib.ListN.{length, get_or}
use borrow.Author.Tests.{ltb-true, lt-ltb, le-ltb, eqb-true, eq-eqb}
use Rattle.description.specs.Declarations.{Description, block, is_pinned}
use Rattle.labels.proofs.Covering.{covers-is}
use Rattle.security.specs.Soundness.{block_label, pin_allows, cloud_covers, may_stand}
use Rattle.security.specs.Statements.{Stands, Good}
use Rattle.sequences.proofs.Tests.{both-pass}

pub pin-kept : (pin : Pin) (k : ℕ) → (pin_allows pin k ≡ true) ↔ ((c : ℕ) → pin ≡ Some c → c ≡ k)
pin-kept None k = (λ _ c e. absurd (false≢true (ap is_pinned e)), λ _. refl)
pin-kept (Some c) k = (λ t b e. let same : c ≡ b = cc in sym same ∙ eqb-true c k t, λ h. eq-eqb c k (h c refl))

module _ (d : Description) where
  stands-test : (b k : ℕ) → ((cloud_covers d (block_label d b) k && pin_allows (block d b).pin k) ≡ true) ↔ Stands d b k
  stands-test b k = (
    λ t.
        let (u, pin) = (both-pass _ _).0 t in
        let (named, covered) = (both-pass _ _).0 u in
        record { declared = ltb-true k (length d.clouds) named; rule7 = (covers-is _ _).0 covered; pin = (pin-kept (block d b).pin k).0 pin },
    λ s. (both-pass _ _).1 ((both-pass _ _).1 (lt-ltb _ _ s.declared, (covers-is _ _).1 s.rule7), (pin-kept (block d b).pin k).1 s.pin),
  )

  -- a declared block
  pub block-stands : (b k : ℕ) → b < length d.blocks → (may_stand d b k ≡ true) ↔ Stands d b k
  unfolding may_stand
  block-stands b k h = rw (lt-ltb b (length d.blocks) h) (stands-test b k)

  -- a position past the last block
  pub beyond-stands : (b k : ℕ) → length d.blocks ≤ b → (may_stand d b k ≡ true) ↔ (k ≡ 0)
  unfolding may_stand
  beyond-stands b k h = rw (le-ltb b (length d.blocks) h) (eqb-true k 0, eq-eqb k 0)

  -- a position may have its cloud exactly if it is good
  pub may-stand : (p : List ℕ) (b : ℕ) → (may_stand d b (get_or p b 0) ≡ true) ↔ Good d p b
  may-stand p b = elim (dec_lt b (length d.blocks)) [
    | yes low ↦
        let stands = block-stands b (get_or p b 0) low in
        (λ t. record { stands = λ _. stands.0 t; beyond = λ h. absurd (omega arith) }, λ g. stands.1 (g.stands low))
    | no past ↦
        let zero = beyond-stands b (get_or p b 0) (omega arith) in
        (λ t. record { stands = λ h. absurd (past h); beyond = λ _. zero.0 t }, λ g. zero.1 (g.beyond (omega arith)))
  ]
