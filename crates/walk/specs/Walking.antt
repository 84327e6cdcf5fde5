-- The walk: every placement is seen once, in order. What is done at one, `see`, is the visitor's.
use Rattle.std.specs.Prelude.{ℕ}
use mathlib.Core.List.{List, foldl}
use Rattle.packing.specs.Packing.{pack}
use Rattle.visit.specs.Tables.{Tables, Tests, placements, weight, tests_of}

module _ {V : Type 0} (see : (weight place : ℕ) → Tests → V → V) where
  -- a placement of n blocks is seen
  abbrev pub see_at : Tables → (n : ℕ) → V → List ℕ → V
  see_at t n v q = see (weight t n q) (pack q) (tests_of t n q) v

  -- all placements are seen, one after the other
  unfoldable pub see_all : Tables → (n : ℕ) → V → V
  see_all t n v = foldl (see_at t n) v (placements t n)
