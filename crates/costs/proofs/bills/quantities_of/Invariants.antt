-- Row by row for the declared blocks; the other entries are 0.
use Rattle.std.proofs.Common.{◌*◌}
use Rattle.description.specs.Declarations.{block}
use Rattle.costs.specs.Prices.{quantity_of, charge_at}
use Rattle.costs.proofs.Priced.{by_row}
use Rattle.sequences.proofs.Filling.{Filled}
use Rattle.costs.proofs.bills.quantities_of.Given as goal

abbrev pub invariant-loop-b : goal.invariant-loop-b
invariant-loop-b l = Filled 48 (by_row (λ column b. quantity_of (charge_at column) (block l.w b).kind)) l.quantities (3 * l.b)
