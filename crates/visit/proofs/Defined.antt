-- Facts about tables, in the words of the definitions.
use Prim.Native.Nat.{ℕ, ◌+◌}
use mathlib.Core.Path.{◌≡◌, refl}
use mathlib.Core.Bool.{not}
use mathlib.Core.List.{List, map}
use Rattle.sequences.specs.Bits.{bit_choices}
use Rattle.sequences.specs.Lists.{any, below, sum}
use Rattle.visit.specs.Tables.{Tables, start, mask, conflict_count, placements, own_term, edge_term, weight}
use Rattle.visit.specs.Tables.{clashes, apart, moves_to, better_on, stands}

pub apart-where : (t : Tables) (q : List ℕ) → apart t q ≡ not (any (clashes t q) (below (conflict_count t)))
unfolding apart
apart-where t q = refl

module _ (t : Tables) (n : ℕ) where
  pub placements-of : placements t n ≡ bit_choices (map (mask t) (below n))
  unfolding placements
  placements-of = refl

  pub weight-of : (q : List ℕ) → weight t n q ≡ sum (map (own_term t q) (below n)) + sum (map (edge_term t q) (below (start t n)))
  unfolding weight
  weight-of q = refl

  pub stands-where : (q : List ℕ) → stands t n q ≡ not (any (λ m. better_on t q m (moves_to t q m)) (below n))
  unfolding stands
  stands-where q = refl
