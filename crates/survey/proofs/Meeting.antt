-- The walk meets exactly the candidates, using the sixteen bytes alone.
use mathlib.Core.Path.{ap, ◌∙◌}
use mathlib.Core.List.{foldl}
use lib.ListN.{length}
use Rattle.description.specs.Declarations.{Description}
use Rattle.description.specs.Invariants.{WellFormed}
use Rattle.security.proofs.PermittedClouds.{masks-permitted, masks-choose}
use Rattle.walk.specs.Walking.{see_at}
use Rattle.walk.proofs.Whole.{seen-in-turn}
use Rattle.table_entries.specs.Building.{tables_of}
use Rattle.table_entries.proofs.Built.{placements-by-masks}
use Rattle.survey.specs.Meeting.{MeetsCandidates}

-- THE WALK MEETS EXACTLY THE CANDIDATES, each once, in order
pub walk-meets-candidates : (d : Description) → WellFormed d → MeetsCandidates d
walk-meets-candidates d w =
    let t = tables_of d in
    let n = length d.blocks in
    record {
      sees = λ see v. seen-in-turn see t n v ∙ ap (foldl (see_at see t n) v) (placements-by-masks d w);
      permitted = masks-permitted d w.limits;
      chooses = masks-choose d w.limits;
    }
