-- The entry says what the rule says.
use Rattle.labels.proofs.Entries.{found}
use Rattle.labels.proofs.covers.Goals as goal

pub returns : goal.returns
returns c = rw (c.whole_table.ensures, c.from.ensures, c.from-2.ensures) (found c.args.high c.args.low)
