-- The search from b on finds what the search from the start finds.
use Rattle.std.proofs.Common.{◌≡◌, drop}
use Rattle.security.specs.Placements.{bad_position}
use Rattle.security.specs.Soundness.{positions}
use Rattle.sequences.specs.Lists.{first, first_from}
use Rattle.verdicts.proofs.first_bad_position.Given as goal

abbrev pub invariant-loop-b : goal.invariant-loop-b
invariant-loop-b l =
    let bad = bad_position l.choices l.placement in
    first bad positions ≡ first_from l.b bad (drop l.b positions)
