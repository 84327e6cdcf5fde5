-- A placement adds at most one to each counter.
use Rattle.std.specs.Prelude.{ℕ, ◌+◌, ◌≤◌, Bool, true, false, ◌&&◌, eqb}
use Rattle.std.proofs.Common.{arith}
use Rattle.weights.specs.Weights.{is_unexposed}
use Rattle.visit.specs.Tables.{Tests}
use Rattle.visit.specs.declared.counts.Count.{Count}
use Rattle.visit.specs.Visits.{counter_count, tally, one, class_at, passes, counted}

one-most : (b : Bool) → one b ≤ 1
one-most true = omega arith
one-most false = omega arith

pub counted-few : (w p : ℕ) (t : Tests) (c : Count) → tally (counted w p t c) ≤ tally c + counter_count
unfolding counted
counted-few w p t c =
    let k : ℕ = class_at w t in
    omega (arith, one-most (eqb k 0), one-most (eqb k 1), one-most (eqb k 2), one-most (eqb k 3), one-most (is_unexposed w && passes t))
