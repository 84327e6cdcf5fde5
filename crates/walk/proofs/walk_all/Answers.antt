-- The walk below the empty prefix meets every placement.
use Rattle.std.proofs.Common.{arith}
use Rattle.walk.proofs.Turns.{room-blocks, under_none, all-walked}
use Rattle.walk.proofs.walk_all.Goals as goal

pub walk-requires-clause-under : goal.walk-requires-clause-under
walk-requires-clause-under g c = under_none c.args.tables.now c.requires.ready

pub walk-requires-clause-room : goal.walk-requires-clause-room
walk-requires-clause-room g c =
    let ready = c.requires.ready in
    (ready.inhabited, omega (arith, room-blocks c.args.tables.now.blocks ready.few, c.requires.fresh))

pub returns : goal.returns
returns g c = all-walked c.args.tables.now g.V.Visitor.see g.V.Visitor.tally c.args.visitor.now _ c.walk.ensures
