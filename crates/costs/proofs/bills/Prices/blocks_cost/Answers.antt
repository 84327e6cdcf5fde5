-- The sum so far and the sum from block b on make up the whole.
use Rattle.std.proofs.Common.{◌≡◌, ℕ, ◌+◌, ◌<◌, map, length, get_or, drop, sym, ap, ◌∙◌, arith}
use Rattle.costs.specs.Prices.{rates_of, quantities_of, amount_by}
use Rattle.sequences.specs.Lists.{sum, below}
use Rattle.sequences.proofs.Loops.{sum-next, sum-end}
use Rattle.sequences.proofs.Counting.{length-below, get_or-below}
use Rattle.costs.proofs.bills.Prices.blocks_cost.Goals as goal

pub loop-b-preserved : goal.loop-b-preserved
loop-b-preserved c =
    let a = c.args in
    let d = a.self.now in
    let amount : ℕ → ℕ = λ i. amount_by (rates_of d) (quantities_of d) a.charge (get_or a.placement.now i 0) i in
    let n = length d.blocks in
    let counted : c.block_count-n.result ≡ n = c.block_count-n.ensures.value ∙ ap (λ e. length e.blocks) c.description.ensures in
    let b = c.loop-b.b in
    let declared : b < n = omega (arith, counted) in
    let h : b < length (below n) = simp length-below declared in
    let own : c.amount_at-total.result ≡ amount b = c.amount_at-total.ensures.value ∙ simp c.from.ensures in
    let next =
    sum-next amount (below n) 0 b h ∙
    ap (λ x. x + sum (map amount (drop (b + 1) (below n)))) (ap amount (get_or-below n b 0 declared) ∙ sym own) in
    let bound = c.amount_at-total.ensures.upper_bound in
    (omega (arith, c.loop-b.invariant.0, bound), omega (arith, next, c.loop-b.invariant.1))

pub returns-clause-value : goal.returns-clause-value
returns-clause-value c =
    let a = c.args in
    let d = a.self.now in
    let amount : ℕ → ℕ = λ i. amount_by (rates_of d) (quantities_of d) a.charge (get_or a.placement.now i 0) i in
    let n = length d.blocks in
    let counted : c.block_count-n.result ≡ n = c.block_count-n.ensures.value ∙ ap (λ e. length e.blocks) c.description.ensures in
    let end = sum-end (below n) c.loop-b.b (simp length-below (omega (arith, counted))) amount in
    omega (arith, end, c.loop-b.invariant.1)
