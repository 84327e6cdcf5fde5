-- The tables are those of the description, so a walk may go over them.
use Rattle.std.proofs.Common.{ℕ, ◌≡◌, length, sym}
use mathlib.Core.Path.{subst, subst₂}
use Rattle.description.specs.Declarations.{Description}
use Rattle.security.specs.Accepted.{Admitted}
use Rattle.visit.specs.Tables.{Tables, Ready}
use Rattle.table_entries.specs.Building.{tables_of}
use Rattle.table_entries.proofs.Built.{ready}
use Rattle.survey.proofs.walk_over.Goals as goal

filled : {d w : Description} {t : Tables} {n : ℕ} → Admitted d → w ≡ d → t ≡ tables_of w → n ≡ length w.blocks → Ready t n
filled {w = w} a same made count =
    let admitted = subst Admitted (sym same) a in
    subst₂ Ready (sym made) (sym count) (ready w admitted.well_formed admitted.in_range)

pub invariant_of-tables : goal.invariant_of-tables
invariant_of-tables g c =
    let w = c.description-w.ensures in
    let all = filled w.admitted w.value c.fill.ensures c.block_count.ensures.value in
    record { few = all.few; paired = all.paired }

pub walk_all-requires-clause-ready : goal.walk_all-requires-clause-ready
walk_all-requires-clause-ready g c =
    let w = c.description-w.ensures in
    filled w.admitted w.value c.fill.ensures c.block_count.ensures.value
