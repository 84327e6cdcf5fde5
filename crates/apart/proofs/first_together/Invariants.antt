-- The search from pair i on finds what the search from the start finds; some cloud from k on holds both data of a pair exactly if any cloud
-- does.
use Rattle.std.proofs.Common.{◌≡◌, None, length, drop, get_or}
use Rattle.description.specs.Declarations.{no_pair}
use Rattle.security.specs.HeldClouds.{held_by}
use Rattle.security.specs.Placements.{holds_both, together}
use Rattle.sequences.specs.Lists.{any, first, first_from, below}
use Rattle.apart.proofs.first_together.Given as goal

abbrev pub invariant-loop-k : goal.invariant-loop-k
invariant-loop-k l =
    let d = l.w in
    let a = get_or d.pairs l.i no_pair in
    record {
      none : l.broken ≡ None;
      left : l.left ≡ held_by d l.placement a.left;
      right : l.right ≡ held_by d l.placement a.right;
      rest : together d l.placement a ≡ any (holds_both d l.placement a) (drop l.k (below (length d.clouds)));
    }

abbrev pub invariant-pairs : goal.invariant-pairs
invariant-pairs l =
    let together = together l.w l.placement in
    record {
      none : l.broken ≡ None;
      rest : first together l.w.pairs ≡ first_from l.i together (drop l.i l.w.pairs);
    }
