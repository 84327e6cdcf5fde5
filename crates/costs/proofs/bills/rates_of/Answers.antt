-- Row by row for the declared clouds; the other entries are 0.
use Rattle.std.proofs.Common.{◌/◌, ◌%◌, length, ap, arith}
use Rattle.costs.specs.Prices.{charge_at, rates_of}
use Rattle.costs.proofs.Priced.{no-rate}
use Rattle.sequences.proofs.Filling.{fill_stops}
use Rattle.costs.proofs.bills.rates_of.Goals as goal

pub returns : goal.returns
unfolding rates_of
returns c =
    let all = ap length c.clouds-cloud-items.ensures.value in
    fill_stops c.loop-k.invariant (λ j l m. no-rate c.args.w.now (charge_at (j % 3)) (j / 3) (omega (arith, all)))
