-- What the other two amounts leave of the cost is the third.
use Rattle.std.proofs.Common.{◌≡◌, ℕ, ◌+◌, ◌-◌, List, map, length, ap₂, ◌∙◌, arith}
use Rattle.description.specs.Declarations.{Description}
use Rattle.description.specs.Invariants.{WellFormed}
use Rattle.costs.specs.declared.answers.Charge.TheVariants.{Storage, Cpu}
use Rattle.costs.specs.Cost.{cost, storage_amount, transfer_amount, cpu_amount}
use Rattle.costs.specs.Prices.{rates_of, quantities_of, blocks_by, copy_by}
use Rattle.sequences.specs.Arrays.{AllBelow}
use Rattle.sequences.specs.Lists.{sum}
use Rattle.costs.proofs.CostBound.{cost-total}
use Rattle.costs.proofs.Priced.{blocks-priced, copies-priced}
use Rattle.costs.proofs.bills.Prices.bill_by.Goals as goal
use Rattle.costs.proofs.bills.Prices.bill_by.Goals.{After-blocks_cost-cpu}

-- the amounts by the description, and that the cost is the sum of the three
record Amounts (d : Description) (p : List ℕ) (stored copied computed whole : ℕ) : Type 0 where
  storage : stored + copied ≡ storage_amount d p
  cpu : computed ≡ cpu_amount d p
  all : whole ≡ stored + copied + transfer_amount d p + computed

made : (d : Description) (p : List ℕ) (stored copied computed whole : ℕ) → WellFormed d → AllBelow 8 p
    → stored ≡ blocks_by (rates_of d) (quantities_of d) Storage (length d.blocks) p
    → copied ≡ sum (map (copy_by (rates_of d) (quantities_of d) p) d.edges)
    → computed ≡ blocks_by (rates_of d) (quantities_of d) Cpu (length d.blocks) p → whole ≡ cost d p
    → Amounts d p stored copied computed whole
made d p stored copied computed whole w low es ec eu ew =
    let storage : stored + copied ≡ storage_amount d p =
    ap₂ ◌+◌ (es ∙ blocks-priced d p low Storage (length d.blocks) w.limits.blocks) (ec ∙ copies-priced d p low w) in
    let cpu : computed ≡ cpu_amount d p = eu ∙ blocks-priced d p low Cpu (length d.blocks) w.limits.blocks in
    record { storage = storage; cpu = cpu; all = omega (arith, ew, cost-total d p, storage, cpu) }

amounts : (c : After-blocks_cost-cpu)
    → Amounts c.args.self.now c.args.placement.now c.blocks_cost-stored.result c.copies_cost.result c.blocks_cost-cpu.result c.args.whole
amounts c =
    made c.args.self.now c.args.placement.now c.blocks_cost-stored.result c.copies_cost.result c.blocks_cost-cpu.result c.args.whole
    c.requires.well_formed c.requires.all_below.0 c.blocks_cost-stored.ensures.value c.copies_cost.ensures.value c.blocks_cost-cpu.ensures.value
    c.requires.all_below.1

pub overflow_sub-result : goal.overflow_sub-result
overflow_sub-result c = omega (arith, (amounts (goal.at.overflow_sub-result c).After-blocks_cost-cpu).all)

pub overflow_sub-result-2 : goal.overflow_sub-result-2
overflow_sub-result-2 c = omega (arith, (amounts (goal.at.overflow_sub-result-2 c).After-blocks_cost-cpu).all)

pub returns : goal.returns
returns c =
    let all = amounts (goal.at.returns c).After-blocks_cost-cpu in
    let storage = c.blocks_cost-stored.result + c.copies_cost.result in
    let rest : c.args.whole - storage - c.blocks_cost-cpu.result ≡ transfer_amount c.args.self.now c.args.placement.now = omega (arith, all.all) in
    λ i. record { storage = all.storage i; transfer = rest i; cpu = all.cpu i }
