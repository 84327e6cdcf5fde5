-- A placement keeps rules 16 and 17 if no edge, read or write, exposes a copy; a candidate keeps them if on each edge the label of the
-- service's cloud covers the datum's.
use Prim.Native.Nat.{ℕ, ◌<◌}
use native.Mathlib.Decide.{ℕ_discrete}
use native.Mathlib.Omega.{arith}
use mathlib.Core.Path.{◌≡◌, refl, sym, ap, ◌∙◌}
use mathlib.Core.Logic.{◌↔◌}
use mathlib.Core.Bool.{Bool, true, false, not}
use mathlib.Core.List.{List, Memᴰ}
use lib.Dec.{eqb}
use lib.ListN.{length}
use borrow.Author.Tests.{ltb-true, ne_eqb, not-true, not-false}
use Rattle.description.specs.declared.workflow.Edge.{Edge}
use Rattle.description.specs.Declarations.{Description, no_edge, is_write}
use Rattle.description.specs.Invariants.{WellFormed}
use Rattle.labels.specs.Labels.{Covers}
use Rattle.labels.proofs.Covering.{covers-is}
use Rattle.security.specs.Soundness.{cloud_label, block_label}
use Rattle.security.specs.Placements.{service_cloud, datum_cloud, exposes, breaks16, breaks17, unexposed}
use Rattle.security.specs.Statements.{Placed}
use Rattle.security.proofs.Moves.{exposes-apart, read-breaks, write-breaks}
use Rattle.sequences.proofs.Agreeing.{member-at}
use Rattle.sequences.proofs.Members.{none-members}
use Rattle.sequences.proofs.Tests.{both-pass, and-fails}

module _ (d : Description) (p : List ℕ) where
  -- an edge exposes no copy exactly if it keeps both rules
  edge-keeps : (e : Edge) → (exposes d p e ≡ false) ↔ ((breaks16 d p e ≡ false) × (breaks17 d p e ≡ false))
  edge-keeps e = go (is_write e.way) refl
    where
      go : (writes : Bool) → is_write e.way ≡ writes → (exposes d p e ≡ false) ↔ ((breaks16 d p e ≡ false) × (breaks17 d p e ≡ false))
      go true w = let (never, breaks) = write-breaks d p e w in (λ f. (never, breaks ∙ f), λ h. sym breaks ∙ h.1)
      go false w = let (breaks, never) = read-breaks d p e w in (λ f. (breaks ∙ f, never), λ h. sym breaks ∙ h.0)

  -- both rules: no edge exposes a copy
  pub unexposed-edges : (unexposed d p ≡ true) ↔ ((e : Edge) → Memᴰ e d.edges → exposes d p e ≡ false)
  unexposed-edges =
      let keeps16 = none-members (breaks16 d p) d.edges in
      let keeps17 = none-members (breaks17 d p) d.edges in (
        λ t e m. let (reads, writes) = (both-pass _ _).0 t in (edge-keeps e).1 (keeps16.0 (not-true _ reads) e m, keeps17.0 (not-true _ writes) e m),
        λ h. (both-pass _ _).1 (ap not (keeps16.1 (λ e m. ((edge-keeps e).0 (h e m)).0)), ap not (keeps17.1 (λ e m. ((edge-keeps e).0 (h e m)).1))),
      )

-- If a candidate's datum stands on the service's cloud itself, that cloud's label covers the datum's by rule 7. So it does not matter on
-- which clouds the data stand.
pub unexposed-covered : (d : Description) → WellFormed d → (p : List ℕ) → Placed d p
    → (unexposed d p ≡ true) ↔ ((e : Edge) → Memᴰ e d.edges → Covers (cloud_label d (service_cloud p e)) (block_label d e.datum))
unexposed-covered d w p placed = (
  λ s e m. elim (ℕ_discrete (service_cloud p e) (datum_cloud p e)) [
    | yes here ↦ rw here (own-label e m)
    | no away ↦
        let kept = sym (exposes-apart d p e) ∙ (unexposed-edges d p).0 s e m in
        (covers-is _ _).0 (not-false _ (rw (ne_eqb (service_cloud p e) (datum_cloud p e) away) at kept))
  ],
  λ h. (unexposed-edges d p).1 (λ e m. exposes-apart d p e ∙ and-fails (not (eqb (service_cloud p e) (datum_cloud p e))) _ (ap not ((covers-is _ _).1 (h e m)))),
)
  where
    own-label : (e : Edge) → Memᴰ e d.edges → Covers (cloud_label d (datum_cloud p e)) (block_label d e.datum)
    own-label e m =
        let (n, h, at) = member-at no_edge m in
        let declared : e.datum < length d.blocks = rw (← at) (ltb-true _ _ ((both-pass _ _).0 (w.datum n h)).0) in
        ((placed e.datum (omega (arith, w.limits.blocks))).stands declared).rule7
