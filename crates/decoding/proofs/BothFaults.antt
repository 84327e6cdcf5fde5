-- The table of `specs/Order.antt`, inputs with two faults at once, by computation.
use mathlib.Core.Path.{refl}
use Rattle.decoding.specs.Format.{same_pair, decode}
use Rattle.decoding.specs.Order.{Order}

pub in_order : Order
unfolding decode same_pair
in_order = record {
  two-before-one = refl;
  one-before-four = (refl, refl, refl, refl);
  four-before-five = (refl, refl, refl, refl);
  four-before-six = (refl, refl);
  one-before-five = refl;
  six-before-seven = (refl, refl);
  four-before-seven = (refl, refl);
  first-decides = refl;
  three-before-eight = refl;
}
