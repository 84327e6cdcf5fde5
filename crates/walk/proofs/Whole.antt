-- The walk as a whole is a fold over the placements.
use Prim.Native.Nat.{ℕ}
use mathlib.Core.Path.{◌≡◌, refl}
use mathlib.Core.List.{foldl}
use Rattle.visit.specs.Tables.{Tables, Tests, placements}
use Rattle.walk.specs.Walking.{see_at, see_all}

pub seen-in-turn : {V : Type 0} (see : (weight place : ℕ) → Tests → V → V) (t : Tables) (n : ℕ) (v : V)
    → see_all see t n v ≡ foldl (see_at see t n) v (placements t n)
unfolding see_all
seen-in-turn see t n v = refl
