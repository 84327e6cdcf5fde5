-- The blocks in order, each with what the test says of it.
use Rattle.std.proofs.Common.{rules}
use Rattle.std.proofs.lemmas.Iterator.{YieldsList-from_slice}
use borrow.Author.Tests.{tests}
use Rattle.security.specs.Soundness.{breaks2}
use Rattle.sequences.proofs.Chains.{first_from_yields}
use Rattle.soundness.proofs.first_breaking_rule2.Goals as goal

pub returns : goal.returns
returns c =
    first_from_yields breaks2 _ _ c.position.result c.position.ensures.ran (YieldsList-from_slice c.args.w.now.blocks (cc))
    (λ x b q k. search (rules, tests))
