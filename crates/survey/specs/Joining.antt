-- When tables are those of a description: the placements that a walk over them meets, followed by zeros, are its candidates, and weights,
-- conflict tests and row tests say of each what the rules say.
use Rattle.std.specs.Prelude.{ℕ, ◌<◌, ◌≡◌, true, not, length, get_or}
use mathlib.Core.List.{List, map, Memᴰ}
use Rattle.description.specs.Declarations.{Description}
use Rattle.security.specs.Soundness.{candidates}
use Rattle.security.specs.Placements.{unexposed, broken_apart, secure}
use Rattle.costs.specs.Cost.{cost}
use Rattle.costs.specs.Terms.{class_in}
use Rattle.weights.specs.Weights.{class_of}
use Rattle.visit.specs.Tables.{Tables, placements, weight}
use Rattle.visit.specs.Tables.{apart as apart_by, stands as stands_by}
use Rattle.security.specs.Masks.{padded}
use Rattle.survey.specs.Rows.{stands}

-- the placements of the declared blocks, as the walk over the tables meets them
abbrev pub met : Description → Tables → List (List ℕ)
met d t = placements t (length d.blocks)

pub record Joined (d : Description) (t : Tables) : Type 0 where
  pub candidates_are : map (padded d) (met d t) ≡ candidates d
  pub sized : (q : List ℕ) → Memᴰ q (met d t) → length q ≡ length d.blocks
  pub low : (q : List ℕ) → Memᴰ q (met d t) → (i : ℕ) → get_or q i 0 < 8
  pub class_is : (q : List ℕ) → Memᴰ q (met d t) → class_of (weight t (length d.blocks) q) ≡ class_in d (padded d q)
  pub cost_is : (q : List ℕ) → Memᴰ q (met d t) → unexposed d (padded d q) ≡ true → weight t (length d.blocks) q ≡ cost d (padded d q)
  pub apart_is : (q : List ℕ) → Memᴰ q (met d t) → apart_by t q ≡ not (broken_apart d (padded d q))
  pub stands_is : (q : List ℕ) → Memᴰ q (met d t) → secure d (padded d q) ≡ true → stands_by t (length d.blocks) q ≡ stands d (padded d q)
