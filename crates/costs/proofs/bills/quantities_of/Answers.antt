-- Row by row for the declared blocks; the other entries are 0.
use Rattle.std.proofs.Common.{◌/◌, ◌%◌, length, ap, arith}
use Rattle.costs.specs.Prices.{charge_at, quantities_of}
use Rattle.costs.proofs.Priced.{no-quantity}
use Rattle.sequences.proofs.Filling.{fill_begins, fill_stops}
use Rattle.costs.proofs.bills.quantities_of.Goals as goal

pub loop-b-init : goal.loop-b-init
loop-b-init c = fill_begins

pub returns : goal.returns
unfolding quantities_of
returns c =
    let all = ap length c.blocks-block-items.ensures.value in
    fill_stops c.loop-b.invariant (λ j l m. no-quantity c.args.w.now (charge_at (j % 3)) (j / 3) (omega (arith, all)))
