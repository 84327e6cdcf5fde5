-- What the bills of many placements are made of: the clouds' rates and the blocks' quantities, written down once. A rate times a quantity is
-- an amount.
use Rattle.std.specs.Prelude.{ℕ, zero, suc, ◌+◌, ◌*◌, ◌/◌, ◌%◌, cond, List, map, eqb, get_or}
use Rattle.description.specs.declared.workflow.Cloud.{Cloud}
use Rattle.description.specs.declared.workflow.Edge.{Edge}
use Rattle.description.specs.declared.workflow.Kind.{Kind}
use Rattle.description.specs.Declarations.{Description, cloud, block}
use Rattle.security.specs.Placements.{service_cloud, datum_cloud}
use Rattle.costs.specs.declared.answers.Charge.{Charge}
use Rattle.costs.specs.declared.answers.Charge.TheVariants.{Storage, Copy, Cpu}
use Rattle.costs.specs.Cost.{charged_of, months_of, units_of}
use Rattle.sequences.specs.Arrays.{table}
use Rattle.sequences.specs.Lists.{below, sum}

-- the rate of a cloud for a charge, and the quantity of a block for it
abbrev pub rate_of : Charge → Cloud → ℕ
rate_of Storage c = c.storage
rate_of Copy c = c.storage
rate_of Cpu c = c.cpu

abbrev pub quantity_of : Charge → Kind → ℕ
quantity_of Storage k = months_of k
quantity_of Copy k = charged_of k
quantity_of Cpu k = units_of k

-- the highest possible amount: a rate has two bytes and a quantity four
abbrev pub most_amount : ℕ
most_amount = 65535 * 4294967295

-- each charge has a column, and each column a charge
abbrev pub column_of : Charge → ℕ
column_of Storage = 0
column_of Copy = 1
column_of Cpu = 2

abbrev pub charge_at : ℕ → Charge
charge_at zero = Storage
charge_at (suc zero) = Copy
charge_at (suc (suc n)) = Cpu

-- a row of three for each cloud, and for each block; 0 past the last
unfoldable pub rates_of : Description → List ℕ
rates_of d = table 24 (λ i. rate_of (charge_at (i % 3)) (cloud d (i / 3)))

unfoldable pub quantities_of : Description → List ℕ
quantities_of d = table 48 (λ i. quantity_of (charge_at (i % 3)) (block d (i / 3)).kind)

module _ (rates quantities : List ℕ) where
  -- what block b is charged on cloud k
  abbrev pub amount_by : Charge → (k b : ℕ) → ℕ
  amount_by charge k b = get_or rates (3 * k + column_of charge) 0 * get_or quantities (3 * b + column_of charge) 0

  -- the first n blocks on their clouds
  abbrev pub blocks_by : Charge → (n : ℕ) → List ℕ → ℕ
  blocks_by charge n p = sum (map (λ b. amount_by charge (get_or p b 0) b) (below n))

  -- the copy of an edge's datum on its service's cloud; 0 if both stand on one cloud
  abbrev pub copy_by : List ℕ → Edge → ℕ
  copy_by p e = cond (eqb (service_cloud p e) (datum_cloud p e)) 0 (amount_by Copy (service_cloud p e) e.datum)
