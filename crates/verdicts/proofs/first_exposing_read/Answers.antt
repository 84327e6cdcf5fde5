-- The edges in order, each with what the test says of it.
use Rattle.std.proofs.Common.{rules}
use Rattle.std.proofs.lemmas.Iterator.{YieldsList-from_slice}
use borrow.Author.Tests.{tests}
use Rattle.security.specs.Placements.{breaks16}
use Rattle.security.proofs.Equations.{breaks16_of}
use Rattle.sequences.proofs.Chains.{first_from_yields}
use Rattle.verdicts.proofs.first_exposing_read.Goals as goal

pub returns : goal.returns
returns c =
    first_from_yields (breaks16 c.args.w.now c.args.placement) _ _ c.position.result c.position.ensures.ran (YieldsList-from_slice c.args.w.now.edges (cc))
    (λ x b q k. search (rules, tests, breaks16_of))
