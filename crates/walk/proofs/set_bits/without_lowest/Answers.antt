-- The law of the lowest set bit.
use Rattle.std.proofs.Common.{arith}
use Rattle.sequences.proofs.SetBits.{lowest-and-rest}
use Rattle.walk.proofs.set_bits.without_lowest.Goals as goal

pub returns-clause-rest_value : goal.returns-clause-rest_value
returns-clause-rest_value c = lowest-and-rest c.args.rest c.requires.1 (λ z. omega (arith, c.requires.0))
