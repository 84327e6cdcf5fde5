-- The pictures of `specs/Interview.antt`, by computation from the bytes.
use mathlib.Core.Path.{refl}
use Rattle.decoding.specs.Format.{same_pair, decode}
use Rattle.labels.specs.Labels.{covers}
use Rattle.sequences.specs.Bits.{bit}
use Rattle.security.specs.Soundness.{breaks2, breaks3, breaks4, may_stand, choices_of, count, sound, read}
use Rattle.security.specs.Placements.{moves, exposes, breaks16, breaks17, copies, holds, holds_both, together, bad_position, judge}
use Rattle.list_text.specs.Lines.{digits, decimal}
use Rattle.picture.specs.Picture.{read_path, write_path, path_of, edge_line, has_edge, block_line, picture}
use Rattle.judging.specs.Calls.{judged}
use Rattle.picture.specs.Calls.{picture_call, size_call}
use Rattle.picture.specs.Interview.{Interview}

pub interview : Interview
unfolding
    same_pair decode
    read sound breaks2 breaks3 breaks4 may_stand covers bit choices_of count
    judge bad_position breaks16 breaks17 exposes moves together holds_both holds copies
    digits decimal
    read_path write_path path_of edge_line has_edge block_line picture
    judged picture_call size_call
interview = record {
  row11000 = refl;
  row11100 = refl;
  size = refl;
  short = refl;
  first = (refl, refl);
  apart = (refl, refl);
  alone = refl;
  eleven = refl;
}
