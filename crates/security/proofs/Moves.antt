-- Whether an edge moves its datum, exposes the copy, and breaks rule 16 or 17 depends on its way and on the clouds of its service and its
-- datum, and on nothing else of the placement.
use Prim.Native.Nat.{ℕ}
use mathlib.Core.Path.{◌≡◌, refl}
use mathlib.Core.Bool.{true, false, not, ◌&&◌}
use mathlib.Core.List.{List}
use lib.Dec.{eqb}
use Rattle.description.specs.declared.workflow.Edge.{Edge}
use Rattle.description.specs.Declarations.{Description, is_write}
use Rattle.labels.specs.Labels.{covers}
use Rattle.security.specs.Soundness.{cloud_label, block_label}
use Rattle.security.specs.Placements.{service_cloud, datum_cloud, moves, exposes, breaks16, breaks17}

-- an edge moves its datum if the clouds of its service and its datum differ
pub moves-apart : (p : List ℕ) (e : Edge) → moves p e ≡ not (eqb (service_cloud p e) (datum_cloud p e))
unfolding moves
moves-apart p e = refl

module _ (d : Description) (p : List ℕ) (e : Edge) where
  -- it exposes the copy if they differ and the service's cloud does not cover the datum
  pub exposes-apart : exposes d p e ≡
      (not (eqb (service_cloud p e) (datum_cloud p e)) && not (covers (cloud_label d (service_cloud p e)) (block_label d e.datum)))
  unfolding exposes moves
  exposes-apart = refl

  -- a read breaks rule 16 if it exposes the copy, and never rule 17
  pub read-breaks : is_write e.way ≡ false → (breaks16 d p e ≡ exposes d p e) × (breaks17 d p e ≡ false)
  unfolding breaks16 breaks17
  read-breaks reads = (rw reads refl, rw reads refl)

  -- a write breaks rule 17 if it exposes the copy, and never rule 16
  pub write-breaks : is_write e.way ≡ true → (breaks16 d p e ≡ false) × (breaks17 d p e ≡ exposes d p e)
  unfolding breaks16 breaks17
  write-breaks writes = (rw writes refl, rw writes refl)

-- an edge whose service and datum stand on the same clouds in two placements
module _ (p q : List ℕ) (e : Edge) (at_service : service_cloud p e ≡ service_cloud q e) (at_datum : datum_cloud p e ≡ datum_cloud q e) where
  pub moves-alike : moves p e ≡ moves q e
  unfolding moves
  moves-alike = rw (at_service, at_datum) refl

  pub exposes-alike : (d : Description) → exposes d p e ≡ exposes d q e
  unfolding exposes
  exposes-alike d = rw (moves-alike, at_service) refl
