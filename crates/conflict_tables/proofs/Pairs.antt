-- The two data of a declared pair are numbers of blocks.
use Rattle.std.proofs.Common.{◌<◌, arith}
use Rattle.std.proofs.lemmas.List.{get_or_default}
use Rattle.std.specs.List.{All}
use Rattle.description.specs.declared.workflow.Pair.{Pair}
use Rattle.description.specs.Declarations.{Description, no_pair}
use Rattle.description.specs.Invariants.{WellFormed}
use Rattle.description.proofs.Named.{pair-blocks}

pub pairs_low : (d : Description) → WellFormed d → All (λ (a : Pair). (a.left < 16) × (a.right < 16)) d.pairs
pairs_low d wf = λ k a h.
    rw (get_or_default d.pairs k a no_pair h)
    (omega (arith, pair-blocks d wf k h, wf.limits.blocks), omega (arith, pair-blocks d wf k h, wf.limits.blocks))
