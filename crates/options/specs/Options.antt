-- When two secure placements are the same option.
use Rattle.std.specs.Prelude.{ℕ, Bool, not, ◌&&◌, cond, List, [], ◌∷◌, ◌++◌, map, length, get_or, eqb}
use Rattle.description.specs.declared.workflow.Kind.{Kind}
use Rattle.description.specs.declared.workflow.Kind.TheVariants.{Datum, Service}
use Rattle.description.specs.declared.workflow.Edge.{Edge}
use Rattle.description.specs.Declarations.{Description, block, is_write}
use Rattle.security.specs.Placements.{service_cloud, moves}
use Rattle.sequences.specs.Lists.{keep, below, equal_by, same}

-- the edges that write datum n (at most one in an accepted description), and those that read it, in edge order
abbrev pub writers_of : Description → ℕ → List Edge
writers_of d n = keep (λ e. is_write e.way && eqb e.datum n) d.edges

abbrev pub readers_of : Description → ℕ → List Edge
readers_of d n = keep (λ e. not (is_write e.way) && eqb e.datum n) d.edges

-- The scope's "stem" of a datum on b: the clouds a, b if its writer stands on a ≠ b, otherwise b alone.
abbrev pub stem : Description → List ℕ → ℕ → List ℕ
stem d p n = map (service_cloud p) (keep (moves p) (writers_of d n)) ++ (get_or p n 0 ∷ [])

-- The scope's "branch" of a reader: its cloud if that is not the datum's, otherwise empty.
abbrev pub branch : List ℕ → Edge → List ℕ
branch p e = cond (moves p e) (service_cloud p e ∷ []) []

-- the stem and the branches; with exactly one reader its branch is appended to the stem
abbrev pub joined : List ℕ → List (List ℕ) → List (List ℕ)
joined s [] = s ∷ []
joined s (b ∷ []) = (s ++ b) ∷ []
joined s (b ∷ c ∷ bs) = s ∷ b ∷ c ∷ bs

-- what block n contributes to the option: a service its cloud; a datum its stem and branches
abbrev pub part : Description → List ℕ → ℕ → Kind → List (List ℕ)
part d p n (Service clearance units) = (get_or p n 0 ∷ []) ∷ []
part d p n (Datum size longevity) = joined (stem d p n) (map (branch p) (readers_of d n))

abbrev pub part_of : Description → List ℕ → ℕ → List (List ℕ)
part_of d p n = part d p n (block d n).kind

-- The scope's "option" of a placement: two placements have the same one if every block's part is equal.
unfoldable pub option : Description → List ℕ → List (List (List ℕ))
option d p = map (part_of d p) (below (length d.blocks))

unfoldable pub same_option : Description → List ℕ → List ℕ → Bool
same_option d p q = equal_by (equal_by same) (option d p) (option d q)
