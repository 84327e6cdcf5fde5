-- A cursor's floor: to be past a cost and sixteen bytes is to be not before that cost and the floor of the bytes.
use Prim.Native.Nat.{ℕ}
use native.Mathlib.Decide.{dec_lt}
use native.Mathlib.Omega.{arith}
use mathlib.Core.Path.{◌≡◌, refl}
use mathlib.Core.Bool.{Bool, true, false, not, ◌&&◌, ◌||◌}
use lib.Dec.{ltb, eqb}
use borrow.Author.Tests.{lt-ltb, le-ltb, eq-eqb, ne_eqb}

-- (b, ..) comes after (a, ..) if it does not come before it: the first numbers decide, and if they are equal, the rest
pub turned : (a b : ℕ) (x : Bool) → (ltb a b || (eqb a b && not x)) ≡ not (ltb b a || (eqb b a && x))
turned a b x = elim (dec_lt a b) [
  | yes l ↦ rw (lt-ltb a b l, le-ltb b a (omega arith), ne_eqb b a (λ e. omega arith)) refl
  | no n ↦ elim (dec_lt b a) [
    | yes m ↦ rw (le-ltb a b (omega arith), ne_eqb a b (λ e. omega arith), lt-ltb b a m) refl
    | no k ↦ rw (le-ltb a b (omega arith), le-ltb b a (omega arith), eq-eqb a b (omega arith), eq-eqb b a (omega arith)) refl
  ]
]

-- nothing is before the lowest floor
pub lowest : (cost place : ℕ) → not (ltb cost 0 || (eqb cost 0 && ltb place 0)) ≡ true
lowest cost place = rw (le-ltb cost 0 (omega arith), le-ltb place 0 (omega arith)) (last (eqb cost 0))
  where
    last : (b : Bool) → not (b && false) ≡ true
    last true = refl
    last false = refl
