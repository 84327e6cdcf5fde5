-- The number of each class, as the definitions count them.
use Rattle.std.specs.Prelude.{ℕ}
use Rattle.weights.specs.declared.Class.{Class}
use Rattle.weights.specs.declared.Class.TheVariants.{Secure, BreaksFirst, BreaksSecond, Clashes}
use Rattle.weights.specs.Weights.{secure_class, clash_class}

abbrev pub class_number : Class → ℕ
class_number Secure = secure_class
class_number BreaksFirst = 1
class_number BreaksSecond = 2
class_number Clashes = clash_class
