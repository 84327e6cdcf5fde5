-- The clouds that hold a datum, as marks: a byte for each possible cloud.
use Rattle.std.specs.Prelude.{ℕ, cond, List, map, ltb, set}
use Rattle.description.specs.Declarations.{Description}
use Rattle.description.specs.Most.{most_clouds}
use Rattle.security.specs.Placements.{holds}
use Rattle.sequences.specs.Lists.{below}

-- the marks with cloud k marked as well; a number that no cloud can have gets no mark
abbrev pub marked : List ℕ → (k : ℕ) → List ℕ
marked a k = cond (ltb k most_clouds) (set a k 1) a

-- 1 for each cloud that holds datum n
unfoldable pub held_by : Description → List ℕ → (n : ℕ) → List ℕ
held_by d p n = map (λ k. cond (holds d p n k) 1 0) (below most_clouds)
