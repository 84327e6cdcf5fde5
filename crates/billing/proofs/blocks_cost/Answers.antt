-- Each block adds its own term.
use Rattle.std.proofs.Common.{ℕ, ◌≡◌, ap, ◌∙◌, get_or, length, arith}
use Rattle.costs.specs.Terms.{block_term}
use Rattle.billing.proofs.Costs.{next-block, past-blocks}
use Rattle.billing.proofs.blocks_cost.Goals as goal

pub loop-b-preserved : goal.loop-b-preserved
loop-b-preserved c =
    let l = c.loop-b in
    let d = c.args.w.now in
    let p = c.args.placement in
    let own : ℕ → ℕ = λ i. block_term d i (get_or p i 0) in
    let here : c.block_term-total.result ≡ own l.b =
    c.block_term-total.ensures.value ∙ ap (block_term d l.b) (c.from.ensures ∙ c.cloud_of.ensures) in
    let next = next-block own (length d.blocks) l.b (omega arith) in
    let made = l.invariant.made in
    record { made = omega (arith, here, next, made); few = omega arith }

pub returns-clause-value : goal.returns-clause-value
returns-clause-value c =
    let l = c.loop-b in
    let p = c.args.placement in
    let d = c.args.w.now in
    let none = past-blocks (λ (i : ℕ). block_term d i (get_or p i 0)) (length d.blocks) l.b (omega arith) in
    omega (arith, none, l.invariant.made)
