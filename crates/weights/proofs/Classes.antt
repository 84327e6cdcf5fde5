-- When a weight has which class, and what the classes say.
use Prim.Native.Nat.{ℕ, ◌/◌, ◌%◌, ◌≤◌, ◌<◌}
use native.Mathlib.Omega.{arith}
use mathlib.Core.Path.{◌≡◌, refl}
use mathlib.Core.Bool.{Bool, true, false, cond}
use lib.Dec.{eqb}
use borrow.Author.Tests.{lt-ltb, le-ltb, eq-eqb, ne_eqb}
use Rattle.weights.specs.Numbers.{class_number}
use Rattle.weights.specs.Weights.{cost_limit, radix, secure_class, clash_class, is_unexposed, class_of}
use Rattle.weights.specs.declared.Class.{Class}
use Rattle.weights.specs.declared.Class.TheVariants.{Secure, BreaksFirst, BreaksSecond, Clashes}

module _ (w : ℕ) where
  pub class-light : w < cost_limit → class_of w ≡ 0
  unfolding class_of
  class-light h = rw (lt-ltb w cost_limit h)

  pub class-first : cost_limit ≤ w → (w / cost_limit % radix ≡ 0 → ⊥) → class_of w ≡ 1
  unfolding class_of
  class-first h k = rw (le-ltb w cost_limit h, ne_eqb (w / cost_limit % radix) 0 k)

  pub class-second : cost_limit ≤ w → w / cost_limit % radix ≡ 0 → class_of w ≡ 2
  unfolding class_of
  class-second h k = rw (le-ltb w cost_limit h, eq-eqb (w / cost_limit % radix) 0 k)

  -- in class 0 no edge breaks a rule; the weight does not show whether anything else is broken
  pub class-unexposed : eqb (class_of w) 0 ≡ is_unexposed w
  unfolding class_of
  class-unexposed = go (is_unexposed w) (eqb (w / cost_limit % radix) 0)
    where
      go : (a b : Bool) → eqb (cond a 0 (cond b 2 1)) 0 ≡ a
      go true b = refl
      go false true = refl
      go false false = refl

  -- nor does it show the last class
  pub class_low : class_of w < clash_class
  unfolding class_of
  class_low = go (is_unexposed w) (eqb (w / cost_limit % radix) 0)
    where
      go : (a b : Bool) → cond a 0 (cond b 2 1) < clash_class
      go true b = omega arith
      go false true = omega arith
      go false false = omega arith

-- only the first class has number 0
pub secure-number : (k : Class) → class_number k ≡ secure_class → k ≡ Secure
secure-number Secure e = refl
secure-number BreaksFirst e = absurd (omega arith)
secure-number BreaksSecond e = absurd (omega arith)
secure-number Clashes e = absurd (omega arith)
