-- What the blocks and the edges add makes the cost.
use mathlib.Core.Path.{ap₂, ◌∙◌}
use Prim.Native.Nat.{◌+◌}
use Rattle.billing.proofs.Costs.{blocks-and-edges}
use Rattle.billing.proofs.cost_of.Goals as goal

pub returns : goal.returns
returns c =
    ap₂ ◌+◌ c.blocks_cost.ensures.value c.edges_cost.ensures.value ∙ blocks-and-edges c.args.w.now c.args.placement
