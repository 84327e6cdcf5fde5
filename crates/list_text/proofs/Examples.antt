-- The worked examples, by computation.
use mathlib.Core.Path.{refl}
use native.Mathlib.Omega.{arith}
use Rattle.packing.specs.Packing.{digits as clouds}
use Rattle.list_text.specs.Lines.{digits, decimal}
use Rattle.list_text.specs.RowLines.{words_line}
use Rattle.list_text.specs.Statements.{Examples}

pub examples : Examples
unfolding digits decimal clouds words_line
examples = record {
  zero = refl;
  nine = refl;
  ten = refl;
  largest = refl;
  row = refl;
  next_row = refl;
  rows = refl;
  options = refl;
  refusal = refl;
  bytes = (refl, refl);
  clouds = λ k h. omega arith;
}
