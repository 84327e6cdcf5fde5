-- Edge by edge.
use Rattle.std.proofs.Common.{◌<◌, get_or, sym, arith, ◌∙◌}
use Rattle.std.proofs.lemmas.List.{take_all, take_more}
use Rattle.description.proofs.Named.{datum-block}
use Rattle.description.specs.Declarations.{no_edge}
use Rattle.exchange_tables.proofs.Noting.{noted_none, noted_other, noted_one}
use Rattle.exchange_tables.proofs.noted.Goals.{then-goes, else-goes}
use Rattle.exchange_tables.proofs.noted.Goals as goal

pub loop-e-init : goal.loop-e-init
loop-e-init c = noted_none

pub loop-e-preserved : goal.loop-e-preserved
loop-e-preserved c =
    let d = c.args.w.now in
    let i = c.loop-e.e-index in
    let items = c.edges-e-items.result.now in
    let all = c.edges-e-items.ensures.value in
    let wf = c.requires.well_formed in
    let there = rw all at c.loop-e-test.true in
    let e = get_or items i no_edge in
    let datum : e.datum < 16 = rw all (omega (arith, datum-block d wf i there, wf.limits.blocks)) in
    rw (take_more items i no_edge c.loop-e-test.true)
    (elim c.if-goes.branch [
      | then-goes w ↦ rw (w.notes-is, w.with.ensures, w.from-m.ensures) (noted_one e c.loop-e.invariant (sym c.goes.ensures ∙ w.if-goes.true) datum)
      | else-goes w ↦ rw w.notes-is (noted_other e c.loop-e.invariant (sym c.goes.ensures ∙ w.if-goes.false))
    ])

pub returns : goal.returns
returns c = rw (take_all c.loop-e.e-index c.edges-e-items.result.now c.loop-e-test.false, c.edges-e-items.ensures.value) at c.loop-e.invariant
