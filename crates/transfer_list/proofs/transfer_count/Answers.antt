-- The edges that move their datum, in order, as many as there are transfers.
use Rattle.std.proofs.Common.{rules, ◌∙◌}
use Rattle.std.proofs.lemmas.Iterator.{YieldsList-from_slice}
use Rattle.std.proofs.lemmas.Iterator.Consumers.{YieldsList-from_filter, count_from_yields_List}
use borrow.Author.Tests.{tests}
use Rattle.security.specs.Placements.{moves}
use Rattle.transfer_list.proofs.Transferring.{transfers_counted}
use Rattle.transfer_list.proofs.transfer_count.Goals as goal

pub returns-clause-value : goal.returns-clause-value
returns-clause-value c =
    let p = c.args.placement in
    let d = c.args.w.now in
    count_from_yields_List c.filter.result c.count.result c.count.ensures.ran
    (YieldsList-from_filter _ (moves p) (YieldsList-from_slice d.edges (cc)) c.filter.ensures.closure (λ x b q k. search (rules, tests)))
    ∙ transfers_counted d p
