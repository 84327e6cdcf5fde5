-- The datum's own cloud, and then edge by edge.
use Rattle.std.proofs.Common.{arith, length, ap}
use Rattle.security.proofs.HeldClouds.{held_all}
use Rattle.apart.proofs.clouds_holding.Goals as goal

pub returns : goal.returns
returns c =
    let a = c.args in
    held_all a.w.now a.placement a.n c.loop-e.invariant (omega (arith, ap length c.edges-e-items.ensures.value))
