-- What an accepted description meets besides what decoding asks: rules 2 to 4, and the limit on candidates.
use Rattle.std.specs.Prelude.{ℕ, ◌≤◌, ◌≡◌, List}
use Rattle.std.proofs.Math.Option.{none}
use Rattle.description.specs.Declarations.{Description}
use Rattle.decoding.specs.Format.{decode}
use Rattle.description.specs.Invariants.{WellFormed, InRange}
use Rattle.security.specs.Soundness.{breaks2, breaks3, breaks4, count}
use Rattle.sequences.specs.Lists.{first}
use Rattle.sequences.specs.Results.{ok}

pub record Accepted (s : List ℕ) (d : Description) : Type 0 where
  pub decoded : decode s ≡ ok d
  pub rule2 : first breaks2 d.blocks ≡ none
  pub rule3 : first (breaks3 d) d.edges ≡ none
  pub rule4 : first (breaks4 d) d.edges ≡ none
  pub few : count d ≤ 65536

-- What a walk over a description's placements asks of it, whether or not it was read from bytes: it is well formed, its numbers are in
-- their ranges, and it does not have too many candidates.
pub record Admitted (d : Description) : Type 0 where
  pub well_formed : WellFormed d
  pub in_range : InRange d
  pub few : count d ≤ 65536
