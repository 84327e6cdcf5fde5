-- The bytes of `specs/Examples.antt`, by computation.
use mathlib.Core.Path.{refl}
use Rattle.decoding.specs.Format.{same_pair, decode}
use Rattle.security.specs.Masks.{mask_of, masks_of}
use Rattle.labels.specs.Labels.{covers}
use Rattle.security.specs.Soundness.{breaks2, breaks3, breaks4, may_stand, choices_of, count, sound, read}
use Rattle.sequences.specs.Arrays.{table}
use Rattle.sequences.specs.Bits.{bit, bits}
use Rattle.judging.specs.Calls.{masks_call}
use Rattle.judging.specs.Examples.{Masked}

pub masked : Masked
unfolding
    same_pair decode
    read sound breaks2 breaks3 breaks4 may_stand covers bit choices_of count
    masks_call masks_of mask_of table bits
masked = record { interview = refl; levels = refl; pins = refl; most = refl; all = refl; too_many = refl }
