-- Row by row for the declared clouds; the other entries are 0.
use Rattle.std.proofs.Common.{◌*◌}
use Rattle.description.specs.Declarations.{cloud}
use Rattle.costs.specs.Prices.{rate_of, charge_at}
use Rattle.costs.proofs.Priced.{by_row}
use Rattle.sequences.proofs.Filling.{Filled}
use Rattle.costs.proofs.bills.rates_of.Given as goal

abbrev pub invariant-loop-k : goal.invariant-loop-k
invariant-loop-k l = Filled 24 (by_row (λ column k. rate_of (charge_at column) (cloud l.w k))) l.rates (3 * l.k)
