-- The walk meets the placements below its prefix, in order; each turn meets those with one more cloud. The measure of a turn with n blocks
-- left is below that of the walk that it is a turn of, and above that of the walk with one block less.
use Rattle.std.proofs.Common.{◌+◌, ◌*◌}
use Rattle.sequences.specs.Bits.{set_bits}
use Rattle.walk.proofs.Turns.{Going}
use Rattle.walk.proofs.+turn_walk.Given as goal

abbrev pub decreases-turn : goal.decreases-turn
decreases-turn g l = 2 * l.left

abbrev pub decreases-walk : goal.decreases-walk
decreases-walk g l = 2 * l.left + 1

abbrev pub invariant-walk-loop-c : goal.invariant-walk-loop-c
invariant-walk-loop-c g l =
    Going l.tables g.V.Visitor.see g.V.Visitor.tally l.left l.met.place l.yielded (set_bits l.c-iterator.rest) l.fn.visitor l.visitor
