-- What is computed from the stored rates and quantities: the amounts of blocks on clouds, their sum, and that of the copies.
use Prim.Native.Nat.{ℕ, ◌+◌, ◌*◌, ◌/◌, ◌%◌, ◌≤◌, ◌<◌}
use native.Mathlib.Nat.{mul-zero}
use native.Mathlib.Omega.{arith}
use mathlib.Core.Path.{◌≡◌, refl, sym, ap, ap₂, subst, ◌∙◌}
use mathlib.Core.Bool.{Bool, true, false, not, cond}
use mathlib.Core.List.{List, map}
use lib.Dec.{eqb}
use lib.ListN.{length, get_or, set, get_or-eq_default}
use borrow.Author.Tests.{ltb-true}
use Rattle.description.specs.declared.workflow.Block.{Block}
use Rattle.description.specs.declared.workflow.Edge.{Edge}
use Rattle.description.specs.Declarations.{Description, cloud, block, edge, no_cloud, no_block, no_edge}
use Rattle.description.specs.Invariants.{WellFormed}
use Rattle.security.specs.Placements.{service_cloud, datum_cloud, moves}
use Rattle.security.proofs.Moves.{moves-apart}
use Rattle.sequences.specs.Arrays.{AllBelow}
use Rattle.sequences.specs.Lists.{below, sum}
use Rattle.sequences.proofs.Agreeing.{member-at, map-agree}
use Rattle.sequences.proofs.Filling.{Filled, get_or-table, fill_more}
use Rattle.sequences.proofs.Indexing.{map_below}
use Rattle.sequences.proofs.Tests.{both-pass}
use Rattle.costs.specs.declared.answers.Charge.{Charge}
use Rattle.costs.specs.declared.answers.Charge.TheVariants.{Storage, Copy, Cpu}
use Rattle.costs.specs.Answers.{amount_of}
use Rattle.costs.specs.Cost.{gigabytes, copy_cost, of_block}
use Rattle.costs.specs.Prices.{rate_of, quantity_of, column_of, charge_at, rates_of, quantities_of, amount_by, blocks_by, copy_by}
use Rattle.transfer_list.specs.Transfers.{transfer_of, transfers}
use Rattle.costs.proofs.Rounding.{charge-nearest}
use Rattle.costs.proofs.Transferring.{copies-by-edge}

-- ---- entries

-- undeclared clouds have no rates, and undeclared blocks no quantities
pub no-rate : (d : Description) (charge : Charge) (k : ℕ) → length d.clouds ≤ k → rate_of charge (cloud d k) ≡ 0
no-rate d charge k h = ap (rate_of charge) (get_or-eq_default d.clouds no_cloud {n = k} h) ∙ none charge
  where
    none : (charge : Charge) → rate_of charge no_cloud ≡ 0
    none Storage = refl
    none Copy = refl
    none Cpu = refl

pub no-quantity : (d : Description) (charge : Charge) (b : ℕ) → length d.blocks ≤ b → quantity_of charge (block d b).kind ≡ 0
no-quantity d charge b h = ap (λ (x : Block). quantity_of charge x.kind) (get_or-eq_default d.blocks no_block {n = b} h) ∙ none charge
  where
    none : (charge : Charge) → quantity_of charge no_block.kind ≡ 0
    none Storage = mul-zero (gigabytes 0)
    none Copy = omega (arith, (charge-nearest 0).within)
    none Cpu = refl

-- a charge has its column
column-low : (charge : Charge) → column_of charge < 3
column-low Storage = omega arith
column-low Copy = omega arith
column-low Cpu = omega arith

charge-in : (charge : Charge) → charge_at (column_of charge) ≡ charge
charge-in Storage = refl
charge-in Copy = refl
charge-in Cpu = refl

-- row n, column c
row_of : (n c : ℕ) → c < 3 → ((3 * n + c) / 3 ≡ n) × ((3 * n + c) % 3 ≡ c)
row_of n c h = (omega arith, omega arith)

-- three more entries, a row, in an array whose entry i belongs to row i / 3 and column i % 3
module _ (f : (column row : ℕ) → ℕ) where
  abbrev pub by_row : ℕ → ℕ
  by_row i = f (i % 3) (i / 3)

  pub row-filled : {n k x y z : ℕ} {a : List ℕ} → Filled n by_row a (3 * k) → 3 * k + 3 ≤ n → x ≡ f 0 k → y ≡ f 1 k → z ≡ f 2 k
      → Filled n by_row (set (set (set a (3 * k) x) (3 * k + 1) y) (3 * k + 2) z) (3 * (k + 1))
  row-filled {n} {k} {x} {y} {z} {a} filled room p q r =
      let at : (i c : ℕ) → i / 3 ≡ k → i % 3 ≡ c → f c k ≡ by_row i = λ i c row column. ap₂ f (sym column) (sym row) in
      let one = fill_more filled (omega arith) (p ∙ at (3 * k) 0 (omega arith) (omega arith)) in
      let two = fill_more one (omega arith) (q ∙ at (3 * k + 1) 1 (omega arith) (omega arith)) in
      let next : 3 * k + 1 + 1 ≡ 3 * k + 2 = omega arith in
      let three = fill_more (subst (Filled n by_row (set (set a (3 * k) x) (3 * k + 1) y)) next two) (omega arith)
      (r ∙ at (3 * k + 2) 2 (omega arith) (omega arith)) in
      let last : 3 * k + 2 + 1 ≡ 3 * (k + 1) = omega arith in
      subst (Filled n by_row (set (set (set a (3 * k) x) (3 * k + 1) y) (3 * k + 2) z)) last three

module _ (d : Description) where
  rate-at : (charge : Charge) (k : ℕ) → k < 8 → get_or (rates_of d) (3 * k + column_of charge) 0 ≡ rate_of charge (cloud d k)
  unfolding rates_of
  rate-at charge k h =
      let low = column-low charge in
      let (row, column) = row_of k (column_of charge) low in
      get_or-table 24 (λ i. rate_of (charge_at (i % 3)) (cloud d (i / 3))) (3 * k + column_of charge) (omega arith) ∙
      ap₂ (λ (c n : ℕ). rate_of (charge_at c) (cloud d n)) column row ∙ ap (λ (c : Charge). rate_of c (cloud d k)) (charge-in charge)

  quantity-at : (charge : Charge) (b : ℕ) → b < 16 → get_or (quantities_of d) (3 * b + column_of charge) 0 ≡ quantity_of charge (block d b).kind
  unfolding quantities_of
  quantity-at charge b h =
      let low = column-low charge in
      let (row, column) = row_of b (column_of charge) low in
      get_or-table 48 (λ i. quantity_of (charge_at (i % 3)) (block d (i / 3)).kind) (3 * b + column_of charge) (omega arith) ∙
      ap₂ (λ (c n : ℕ). quantity_of (charge_at c) (block d n).kind) column row ∙ ap (λ (c : Charge). quantity_of c (block d b).kind) (charge-in charge)

  -- a rate times a quantity is an amount
  rated : (charge : Charge) (k b : ℕ) → rate_of charge (cloud d k) * quantity_of charge (block d b).kind ≡ amount_of charge (cloud d k) (block d b).kind
  rated Storage k b = refl
  rated Copy k b = refl
  rated Cpu k b = refl

  amount-priced : (charge : Charge) (k b : ℕ) → k < 8 → b < 16
      → amount_by (rates_of d) (quantities_of d) charge k b ≡ amount_of charge (cloud d k) (block d b).kind
  amount-priced charge k b h l = ap₂ ◌*◌ (rate-at charge k h) (quantity-at charge b l) ∙ rated charge k b

  -- ---- sums

  module _ (p : List ℕ) (low : AllBelow 8 p) where
    pub blocks-priced : (charge : Charge) (n : ℕ) → n ≤ 16
        → blocks_by (rates_of d) (quantities_of d) charge n p ≡ sum (map (of_block (amount_of charge) d p) (below n))
    blocks-priced charge n few = ap sum (map_below (λ b. amount_by (rates_of d) (quantities_of d) charge (get_or p b 0) b) (of_block (amount_of charge) d p) n
        (λ b h. amount-priced charge (get_or p b 0) b (low b) (omega arith)))

    copy-priced : (e : Edge) → e.datum < 16
        → copy_by (rates_of d) (quantities_of d) p e ≡ cond (moves p e) (copy_cost d (transfer_of 0 p e)) 0
    copy-priced e h =
        ap (λ (n : ℕ). cond (eqb (service_cloud p e) (datum_cloud p e)) 0 n) (amount-priced Copy (service_cloud p e) e.datum (low e.service) h) ∙
        turned (eqb (service_cloud p e) (datum_cloud p e)) _ ∙
        ap (λ (t : Bool). cond t (copy_cost d (transfer_of 0 p e)) 0) (sym (moves-apart p e))
      where
        turned : (t : Bool) (n : ℕ) → cond t 0 n ≡ cond (not t) n 0
        turned true n = refl
        turned false n = refl

    pub copies-priced : WellFormed d → sum (map (copy_by (rates_of d) (quantities_of d) p) d.edges) ≡ sum (map (copy_cost d) (transfers d p))
    copies-priced w =
        ap sum (map-agree (copy_by (rates_of d) (quantities_of d) p) (λ e. cond (moves p e) (copy_cost d (transfer_of 0 p e)) 0) d.edges (λ e m.
        let (n, h, at) = member-at no_edge m in
        let declared : (edge d n).datum < length d.blocks = ltb-true _ _ ((both-pass _ _).0 (w.datum n h)).0 in
        let few : (edge d n).datum < 16 = omega (arith, w.limits.blocks) in
        copy-priced e (rw at at few))) ∙ sym (copies-by-edge d p)
