-- Edge by edge.
use Rattle.std.proofs.Common.{◌<◌, get_or, arith}
use Rattle.std.proofs.lemmas.List.{take_all, take_more}
use Rattle.description.proofs.Named.{service-block, datum-block}
use Rattle.description.specs.Declarations.{no_edge}
use Rattle.table_entries.proofs.Serving.{served_none, served_more}
use Rattle.conflict_tables.proofs.Holders.new.Goals as goal

pub loop-e-init : goal.loop-e-init
loop-e-init c = served_none

pub loop-e-preserved : goal.loop-e-preserved
loop-e-preserved c =
    let d = c.args.w.now in
    let i = c.loop-e.e-index in
    let items = c.edges-e-items.result.now in
    let all = c.edges-e-items.ensures.value in
    let wf = c.requires.well_formed in
    let there = rw all at c.loop-e-test.true in
    let datum : (get_or items i no_edge).datum < 16 = rw all (omega (arith, datum-block d wf i there, wf.limits.blocks)) in
    let service : (get_or items i no_edge).service < 16 = rw all (omega (arith, service-block d wf i there, wf.limits.blocks)) in
    rw (c.from.ensures, c.from-in-loop-e.ensures, take_more items i no_edge c.loop-e-test.true)
    (served_more (get_or items i no_edge) c.loop-e.invariant datum service)

pub invariant_of-result-clause-marked : goal.invariant_of-result-clause-marked
invariant_of-result-clause-marked c = rw (take_all c.loop-e.e-index c.edges-e-items.result.now c.loop-e-test.false, c.edges-e-items.ensures.value) at c.loop-e.invariant
