-- Row by row: the keys before the next one are cleared, and their rows are stored with their bills.
use Rattle.std.proofs.Common.{◌≡◌, ℕ, ◌+◌, ◌*◌, ◌≤◌, ◌++◌, List, [], ◌∷◌, length, get_or, refl, sym, ap, ◌∙◌, arith}
use mathlib.Core.Path.{subst₂}
use native.Mathlib.Nat.{add-zero}
use Rattle.std.proofs.Math.Seq.{sets}
use Rattle.description.specs.Declarations.{Description}
use Rattle.whole_list.specs.Billing.{Priced, billed}
use Rattle.whole_list.proofs.Billed.{cleared_keys, none-billed, key_left, one-cleared, row-behind}
use Rattle.whole_list.proofs.billing.bill_rows.Goals as goal

-- the next key is still unchanged
own : (d : Description) (keys left : List ℕ) (i : ℕ) → i * 2 + 2 ≤ length keys → left ≡ cleared_keys i keys
    → (get_or left (i * 2) 0 ≡ get_or keys (i * 2) 0) × (get_or left (i * 2 + 1) 0 ≡ get_or keys (i * 2 + 1) 0)
own d keys left i h e =
    let word : (k : ℕ) → get_or left (i * 2 + k) 0 ≡ get_or keys (i * 2 + k) 0 = λ k. ap (λ w. get_or w (i * 2 + k) 0) e ∙ key_left d keys i h k in
    (ap (λ n. get_or left n 0) (sym (add-zero (i * 2))) ∙ word 0 ∙ ap (λ n. get_or keys n 0) (add-zero (i * 2)), word 1)

pub loop-i-init : goal.loop-i-init
loop-i-init c =
    let a = c.args in
    (refl, sym (ap (λ l. l ++ a.rows.now) (none-billed a.w.now a.keys.now)))

pub bill_row-requires-clause-priced : goal.bill_row-requires-clause-priced
bill_row-requires-clause-priced c =
    let l = c.loop-i in
    let d = c.args.w.now in
    let same = own d c.args.keys.now l.keys l.i (omega arith) l.invariant.0 in
    subst₂ Priced (sym c.of-prices.ensures) (λ i. (sym same.0 i, sym same.1 i)) (c.requires.all_priced l.i (omega arith))

pub loop-i-preserved : goal.loop-i-preserved
loop-i-preserved c =
    let l = c.loop-i in
    let d = c.args.w.now in
    let keys = c.args.keys.now in
    let rows = c.args.rows.now in
    let room : l.i * 2 + 2 ≤ length keys = omega arith in
    let same = own d keys l.keys l.i room l.invariant.0 in
    let row = c.bill_row.ensures in
    let prices = c.of-prices.ensures in (
      row.keys_after ∙ ap (λ k. sets k (l.i * 2) (0 ∷ 0 ∷ [])) l.invariant.0 ∙ one-cleared d keys l.i room,
      row.rows_after ∙ (λ i. sets (l.invariant.1 i) (l.i * 5) (billed (prices i) (same.0 i, same.1 i))) ∙
          row-behind d keys l.i room rows (omega arith),
    )
