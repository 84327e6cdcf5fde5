-- The greatest power of ten that is not above the number tells how many digits it has.
use Rattle.std.proofs.Common.{arith}
use Rattle.list_text.proofs.Decimals.{places_are}
use Rattle.list_text.proofs.places.Goals as goal

pub returns-clause-value : goal.returns-clause-value
returns-clause-value c = places_are c.args.n c.ilog10.result (omega arith) (omega arith)
