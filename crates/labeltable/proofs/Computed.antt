-- The text given place by place is that of the rows, by computation over all of it.
use mathlib.Core.Path.{◌≡◌, refl}
use Rattle.labels.specs.Labels.{covers}
use Rattle.sequences.specs.Arrays.{table}
use Rattle.sequences.specs.Bits.{bit}
use Rattle.labeltable.specs.Printed.{byte_at, printed}

pub by_place : table 4160 byte_at ≡ printed
unfolding printed table covers bit
by_place = refl
