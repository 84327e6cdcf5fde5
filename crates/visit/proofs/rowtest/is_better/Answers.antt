-- The bit of the exchange table.
use Rattle.std.proofs.Common.{sym, ap, ◌∙◌}
use Rattle.sequences.specs.Bits.{bit}
use Rattle.sequences.proofs.Bits.{bit_is}
use Rattle.visit.proofs.rowtest.is_better.Goals as goal

pub returns : goal.returns
returns c =
    let there = c.args.there in
    sym (bit_is c.from-better.result there) ∙ ap (λ m. bit m there) c.from-better.ensures
