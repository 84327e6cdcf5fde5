-- When two edges of one datum clash.
use mathlib.Core.Path.{◌≡◌, refl}
use mathlib.Core.Bool.{Bool, true, false, not, ◌&&◌, ◌||◌, cond}
use lib.Dec.{eqb}
use Rattle.description.specs.declared.workflow.Edge.{Edge}
use Rattle.description.specs.declared.workflow.Way.{Way}
use Rattle.description.specs.declared.workflow.Way.TheVariants.{Reads, Writes}
use Rattle.description.specs.Declarations.{is_write, same_way}
use Rattle.decoding.specs.Format.{clash}

-- Two edges of one datum clash if both write, or if both read and the service is the same; edges of two data never clash.
pub clash-is : (e f : Edge)
    → clash e f ≡
    (eqb e.datum f.datum && cond (is_write e.way) (is_write f.way) (not (is_write f.way) && eqb e.service f.service))
clash-is e f = go e.way f.way (eqb e.service f.service) (eqb e.datum f.datum)
  where
    go : (x y : Way) (s d : Bool) → ((same_way x y && s && d) || (is_write x && is_write y && d)) ≡ (d && cond (is_write x) (is_write y) (not (is_write y) && s))
    go Reads Reads true true = refl
    go Reads Reads true false = refl
    go Reads Reads false true = refl
    go Reads Reads false false = refl
    go Reads Writes true true = refl
    go Reads Writes true false = refl
    go Reads Writes false true = refl
    go Reads Writes false false = refl
    go Writes Reads true true = refl
    go Writes Reads true false = refl
    go Writes Reads false true = refl
    go Writes Reads false false = refl
    go Writes Writes true true = refl
    go Writes Writes true false = refl
    go Writes Writes false true = refl
    go Writes Writes false false = refl
