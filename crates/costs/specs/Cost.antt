-- What a placement costs: three amounts, for storage (of the data and of their copies), transfers and computing. They are its bill, and
-- their sum is its cost.
use Rattle.std.specs.Prelude.{ℕ, ◌+◌, ◌-◌, ◌*◌, ◌/◌, ◌%◌, ◌≤◌, ◌<◌, ◌≡◌, cond, List, map, length, get_or}
use Rattle.description.specs.declared.workflow.Cloud.{Cloud}
use Rattle.description.specs.declared.workflow.Kind.{Kind}
use Rattle.description.specs.declared.workflow.Kind.TheVariants.{Datum, Service}
use Rattle.description.specs.declared.workflow.Edge.{Edge}
use Rattle.description.specs.Declarations.{Description, cloud, block}
use Rattle.security.specs.Placements.{moves}
use Rattle.costs.specs.declared.answers.Bill.{Bill}
use Rattle.transfer_list.specs.Transfers.{Transfer, transfer_of, transfers}
use Rattle.sequences.specs.Lists.{below, sum}
use Rattle.weights.specs.Weights.{cost_limit}

-- Gigabytes charged: the size, in tenths, over 10, rounded to the nearest whole number, an exact half to the even neighbour. Adding 4
-- carries every size above the half; if the whole part is odd, one more carries the half itself.
unfoldable pub gigabytes : ℕ → ℕ
gigabytes size = (size + 4 + size / 10 % 2) / 10

-- by how much two numbers differ; one of the two subtractions stops at 0
abbrev pub difference : ℕ → ℕ → ℕ
difference m n = (m - n) + (n - m)

-- The rule itself, without a formula: g gigabytes, as tenths, differ from the size by at most 5, and if they differ by exactly 5, which is
-- the half, g is even. `charge-nearest` and `charge-alone`: the charge of every size is such a number, and the only one.
pub record Nearest (size g : ℕ) : Type 0 where
  pub within : difference (10 * g) size ≤ 5
  pub half : difference (10 * g) size ≡ 5 → g % 2 ≡ 0

-- the quantities of a block that rates are multiplied by: its gigabytes, the same for each month of its longevity, its units of computing
abbrev pub charged_of : Kind → ℕ
charged_of (Datum size longevity) = gigabytes size
charged_of (Service clearance units) = 0

abbrev pub months_of : Kind → ℕ
months_of (Datum size longevity) = gigabytes size * longevity
months_of (Service clearance units) = 0

abbrev pub units_of : Kind → ℕ
units_of (Datum size longevity) = 0
units_of (Service clearance units) = units

-- a datum is stored on its cloud, for its longevity; a service computes on its cloud
abbrev pub storage_of : Cloud → Kind → ℕ
storage_of c k = c.storage * months_of k

abbrev pub cpu_of : Cloud → Kind → ℕ
cpu_of c k = c.cpu * units_of k

-- a copy is stored on its own cloud, for one month, whatever the datum's longevity
abbrev pub copy_of : Cloud → Kind → ℕ
copy_of c k = c.storage * charged_of k

-- the source charges its out rate and the destination its in rate
abbrev pub transfer_cost : Description → Transfer → ℕ
transfer_cost d t = ((cloud d t.source).outward + (cloud d t.destination).inward) * charged_of (block d t.datum).kind

-- the copy that a transfer makes is charged by the cloud on which it lies
abbrev pub copy_cost : Description → Transfer → ℕ
copy_cost d t = copy_of (cloud d t.copy) (block d t.datum).kind

-- what the transfer on an edge costs with its copy, 0 if there is none; the edge's number does not matter
unfoldable pub edge_cost : Description → List ℕ → Edge → ℕ
edge_cost d p e = cond (moves p e) (transfer_cost d (transfer_of 0 p e) + copy_cost d (transfer_of 0 p e)) 0

-- an amount for block b on its cloud, and for all blocks, summed
abbrev pub of_block : (Cloud → Kind → ℕ) → Description → List ℕ → ℕ → ℕ
of_block amount d p b = amount (cloud d (get_or p b 0)) (block d b).kind

abbrev pub of_blocks : (Cloud → Kind → ℕ) → Description → List ℕ → ℕ
of_blocks amount d p = sum (map (of_block amount d p) (below (length d.blocks)))

-- the three amounts: for storing the data and the copies, for the transfers, for the services' computing
abbrev pub storage_amount : Description → List ℕ → ℕ
storage_amount d p = of_blocks storage_of d p + sum (map (copy_cost d) (transfers d p))

abbrev pub transfer_amount : Description → List ℕ → ℕ
transfer_amount d p = sum (map (transfer_cost d) (transfers d p))

abbrev pub cpu_amount : Description → List ℕ → ℕ
cpu_amount d p = of_blocks cpu_of d p

abbrev pub bill_of : Description → List ℕ → Bill
bill_of d p = record { storage = storage_amount d p; transfer = transfer_amount d p; cpu = cpu_amount d p }

-- the cost is their sum
abbrev pub total : Bill → ℕ
total b = b.storage + b.transfer + b.cpu

unfoldable pub cost : Description → List ℕ → ℕ
cost d p = total (bill_of d p)

-- no amount of a bill reaches 2^53
pub record AmountsBelow (b : Bill) : Type 0 where
  pub storage : b.storage < cost_limit
  pub transfer : b.transfer < cost_limit
  pub cpu : b.cpu < cost_limit
