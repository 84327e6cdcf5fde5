-- A cost and each amount of its bill are below 2^53, whatever the placement, if the description keeps the format's limits and ranges.
use Prim.Native.Nat.{ℕ, ◌*◌, ◌≤◌, ◌<◌, zero-le}
use native.Mathlib.Nat.{mul-le-mul}
use native.Mathlib.Omega.{arith}
use mathlib.Core.Path.{◌≡◌, refl}
use mathlib.Core.List.{List, map}
use lib.ListN.{length, get_or}
use Rattle.sequences.specs.Lists.{below, sum}
use Rattle.sequences.specs.Results.{ok}
use Rattle.sequences.proofs.Counting.{length_from}
use Rattle.sequences.proofs.Sums.{sum-most-of}
use Rattle.description.specs.declared.workflow.Cloud.{Cloud}
use Rattle.description.specs.declared.workflow.Kind.{Kind}
use Rattle.description.specs.declared.workflow.Kind.TheVariants.{Datum, Service}
use Rattle.description.specs.Declarations.{Description, cloud, block}
use Rattle.decoding.specs.Bytes.{Bytes}
use Rattle.description.specs.Invariants.{RatesFit, kind_fits, InRange, Bounded}
use Rattle.security.specs.Soundness.{read}
use Rattle.transfer_list.specs.Transfers.{Transfer, transfers}
use Rattle.weights.specs.Weights.{cost_limit}
use Rattle.costs.specs.Cost.{gigabytes, charged_of, months_of, units_of, storage_of, copy_of, cpu_of, transfer_cost, copy_cost}
use Rattle.costs.specs.Cost.{of_blocks, bill_of, total, cost, AmountsBelow}
use Rattle.costs.proofs.Rounding.{charge-nearest}
use Rattle.transfer_list.proofs.Transferring.{transfers-few}
use Rattle.security.proofs.Accepted.{read-bounded}

-- ---- one term

-- the most that storing a datum, a service's computing, one transfer and one copy can cost
abbrev pub most_storage : ℕ
most_storage = 65535 * (6554 * 65535)

abbrev pub most_cpu : ℕ
most_cpu = 65535 * 4294967295

abbrev pub most_transfer : ℕ
most_transfer = 131070 * 6554

abbrev pub most_copy : ℕ
most_copy = 65535 * 6554

-- a product of bounded numbers
times : {a b : ℕ} (m n : ℕ) → a ≤ m → b ≤ n → a * b ≤ m * n
times m n = mul-le-mul

-- the highest size, 65,535 tenths, is halfway from 6,553 to 6,554, and the even one is charged
pub gigabytes-most : (size : ℕ) → size < 65536 → gigabytes size ≤ 6554
gigabytes-most size h = omega (arith, (charge-nearest size).within)

-- gigabytes charged, for a block of any kind
pub charged-most : (k : Kind) → kind_fits k → charged_of k ≤ 6554
charged-most (Datum size longevity) h = gigabytes-most size h.0
charged-most (Service clearance units) h = zero-le

-- its months, its units
months-most : (k : Kind) → kind_fits k → months_of k ≤ 6554 * 65535
months-most (Datum size longevity) h = times 6554 65535 (gigabytes-most size h.0) (omega arith)
months-most (Service clearance units) h = zero-le

units-most : (k : Kind) → kind_fits k → units_of k ≤ 4294967295
units-most (Datum size longevity) h = zero-le
units-most (Service clearance units) h = omega arith

-- a block on a cloud: its storage, a copy, its computing
module _ (c : Cloud) (r : RatesFit c) where
  pub storage-most : (k : Kind) → kind_fits k → storage_of c k ≤ most_storage
  storage-most k h = times 65535 (6554 * 65535) (omega arith) (months-most k h)

  pub copy-most : (k : Kind) → kind_fits k → copy_of c k ≤ most_copy
  copy-most k h = times 65535 6554 (omega arith) (charged-most k h)

  pub cpu-most : (k : Kind) → kind_fits k → cpu_of c k ≤ most_cpu
  cpu-most k h = times 65535 4294967295 (omega arith) (units-most k h)

-- a transfer between any two clouds
pub transfer-most : (d : Description) → InRange d → (t : Transfer) → transfer_cost d t ≤ most_transfer
transfer-most d h t =
    times 131070 6554 (omega (arith, (h.rates t.source).outward, (h.rates t.destination).inward))
    (charged-most (block d t.datum).kind (h.kinds t.datum))

-- ---- sums: of the blocks, and of the transfers

-- the sum for the first n blocks on their clouds; for all of them it is `of_blocks`
abbrev up_to : ℕ → (Cloud → Kind → ℕ) → Description → List ℕ → ℕ
up_to n amount d p = sum (map (λ b. amount (cloud d (get_or p b 0)) (block d b).kind) (below n))

module _ (d : Description) (p : List ℕ) (h : Bounded d) where
  -- an amount that is at most m for any block on any cloud
  up_to-most : (amount : Cloud → Kind → ℕ) (m : ℕ) → ((c : Cloud) → RatesFit c → (k : Kind) → kind_fits k → amount c k ≤ m)
      → (n : ℕ) → n ≤ 16 → up_to n amount d p ≤ 16 * m
  up_to-most amount m most n l =
      sum-most-of (λ b. amount (cloud d (get_or p b 0)) (block d b).kind) m
      (λ b. most (cloud d (get_or p b 0)) (h.in_range.rates (get_or p b 0)) (block d b).kind (h.in_range.kinds b))
      16 (below n) (simp length_from l)

  -- an amount that is at most m for any transfer
  transfers-most : (amount : Transfer → ℕ) (m : ℕ) → ((t : Transfer) → amount t ≤ m) → sum (map amount (transfers d p)) ≤ 32 * m
  transfers-most amount m most = sum-most-of amount m most 32 (transfers d p) (omega (arith, transfers-few d p, h.limits.edges))

  -- the four sums of the cost
  storage-sum : of_blocks storage_of d p ≤ 16 * most_storage
  storage-sum = up_to-most storage_of most_storage storage-most (length d.blocks) h.limits.blocks

  cpu-sum : of_blocks cpu_of d p ≤ 16 * most_cpu
  cpu-sum = up_to-most cpu_of most_cpu cpu-most (length d.blocks) h.limits.blocks

  transfer-sum : sum (map (transfer_cost d) (transfers d p)) ≤ 32 * most_transfer
  transfer-sum = transfers-most (transfer_cost d) most_transfer (transfer-most d h.in_range)

  copy-sum : sum (map (copy_cost d) (transfers d p)) ≤ 32 * most_copy
  copy-sum = transfers-most (copy_cost d) most_copy (λ t.
      copy-most (cloud d _) (h.in_range.rates _) (block d t.datum).kind (h.in_range.kinds t.datum))

-- the most that the four sums can be together is below 2^53
pub bounded-cost : (d : Description) (p : List ℕ) → Bounded d → cost d p < cost_limit
unfolding cost
bounded-cost d p h = omega (arith, storage-sum d p h, cpu-sum d p h, transfer-sum d p h, copy-sum d p h)

-- so is every cost on an accepted description, for any list of numbers as a placement
pub cost-below : (s p : List ℕ) (d : Description) → Bytes s → read s ≡ ok d → cost d p < cost_limit
cost-below s p d b r = bounded-cost d p (read-bounded s d r b)

-- ---- amounts

-- a cost is the sum of its bill
pub cost-total : (d : Description) (p : List ℕ) → cost d p ≡ total (bill_of d p)
unfolding cost
cost-total d p = refl

-- no amount is more than the cost
pub bounded-amounts : (d : Description) (p : List ℕ) → Bounded d → AmountsBelow (bill_of d p)
bounded-amounts d p h =
    let t = bounded-cost d p h in
    let e = cost-total d p in
    record { storage = omega arith; transfer = omega arith; cpu = omega arith }
