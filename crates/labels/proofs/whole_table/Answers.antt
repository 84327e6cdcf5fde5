-- The rule, computed once over the whole table.
use Rattle.std.proofs.Common.{refl}
use Rattle.sequences.specs.Arrays.{table}
use Rattle.sequences.specs.Bits.{bit}
use Rattle.labels.specs.Labels.{covers, digit_rows}
use Rattle.labels.proofs.whole_table.Goals as goal

pub returns : goal.returns
unfolding digit_rows table bit covers
returns c = refl
