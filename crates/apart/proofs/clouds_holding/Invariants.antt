-- The datum's own cloud, and then edge by edge.
use Rattle.security.proofs.HeldClouds.{Held}
use Rattle.apart.proofs.clouds_holding.Given as goal

abbrev pub invariant-loop-e : goal.invariant-loop-e
invariant-loop-e l = Held l.w l.placement l.n l.held l.e-index
