-- Block by block: the bytes so far are masks, and past them there is 0; the product so far times the product from b on is the whole, and
-- the product so far is at most 8 to the power b.
use Rattle.std.specs.Prelude.{Option}
use Rattle.std.proofs.Common.{◌≡◌, ℕ, ◌+◌, ◌*◌, ◌^◌, ◌≤◌, ◌<◌, Some, length, get_or, drop, map, sym, ap, ◌∙◌, arith, rules}
use native.Mathlib.Nat.{one-mul, mul-one, mul_assoc, mul-le-mul, pow-suc, pow-le-pow_right}
use native.Mathlib.Numerals.{add-one}
use lib.Count.{ones, ones-le}
use lib.Dec.{lit<}
use Rattle.description.specs.Declarations.{block, no_block}
use Rattle.sequences.specs.Bits.{bits}
use Rattle.sequences.specs.Lists.{product}
use Rattle.sequences.proofs.Counting.{get_or-below}
use Rattle.sequences.proofs.Filling.{fill-lent, fill_more, fill_stops}
use Rattle.sequences.proofs.Loops.{product-next, product-stops}
use Rattle.security.specs.Masks.{left_by, mask_of}
use Rattle.security.specs.Soundness.{positions, block_label, cloud_covers, choices_of}
use Rattle.security.proofs.Choices.{one_choice}
use Rattle.security.proofs.Equations.{count_of, masks-of}
use Rattle.security.proofs.PermittedClouds.{mask-left, mask-beyond, mask_low, mask-number}
use Rattle.soundness.proofs.masks.masks_of.Goals as goal
use Rattle.soundness.proofs.masks.masks_of.Goals.{After-left_by-m, in-Some, in_default}

grows : (b n r : ℕ) → n ≤ 8 ^ b → r ≤ 8 → n * r ≤ 8 ^ (b + 1)
grows b n r h k = rw (add-one, pow-suc) (mul-le-mul h k)

-- what is kept of a look for a label
kept : (f : ℕ → ℕ) (x y label clouds : ℕ) → y ≡ f x → ◌≡◌ {A = Option (ℕ × ℕ)} (Some (x, y)) (Some (label, clouds)) → clouds ≡ f label
kept f x y label clouds e is =
    let same : ◌≡◌ {A = ℕ × ℕ} (x, y) (label, clouds) = cc in
    sym (ap (λ (p : ℕ × ℕ). p.1) same) ∙ e ∙ ap (λ (p : ℕ × ℕ). f p.0) same

-- block b, and the clouds that cover its label: those of the block before, or looked for again
item : (c : After-left_by-m) → get_or c.blocks-block-items.result.now c.loop-b.b no_block ≡ block c.args.w.now c.loop-b.b
item c = ap (λ bs. get_or bs c.loop-b.b no_block) c.blocks-block-items.ensures.value

named : (c : After-left_by-m) → c.loop-b.b < length c.args.w.now.blocks
named c = omega (arith, ap length c.blocks-block-items.ensures.value, c.loop-b-test.true)

known : (c : After-left_by-m)
    → let d = c.args.w.now in
    c.match-looked_for.covering ≡ bits (cloud_covers d (block_label d c.loop-b.b)) 0 8
known c =
    let d = c.args.w.now in
    let anew : ℕ → ℕ = λ l. bits (cloud_covers d l) 0 8 in
    let own = ap (λ x. anew x.label) (item c) in
    elim c.match-looked_for.branch [
      | in-Some w ↦
          w.covering-is ∙ c.loop-b.invariant.looked_for _ _ w.in-Some.is ∙ ap anew w.if-label-block.true ∙ own
      | in_default w ↦ w.covering-is ∙ w.covering_clouds-covering.ensures ∙ own
    ]

-- the byte is the mask; it has as many set bits as the block has choices, at most eight
byte : (c : After-left_by-m) → c.left_by-m.result ≡ mask_of c.args.w.now c.loop-b.b
byte c =
    let d = c.args.w.now in
    let pin = ap (λ x. left_by x.pin c.match-looked_for.covering) (item c) in
    c.left_by-m.ensures ∙ pin ∙ ap (left_by (block d c.loop-b.b).pin) (known c) ∙
    mask-left d c.loop-b.b (named c)

factor : (c : After-left_by-m)
    → (ones c.left_by-m.result ≡ length (choices_of c.args.w.now c.loop-b.b)) × (ones c.left_by-m.result ≤ 8)
factor c =
    let d = c.args.w.now in
    let b = c.loop-b.b in
    (ap ones (byte c) ∙ mask-number d b (named c), rw (byte c) (ones-le 8 (mask_of d b) (mask_low d b)))

pub loop-b-init : goal.loop-b-init
loop-b-init c = record {
  filled = fill-lent (cc);
  small = search rules;
  counted = count_of c.args.w.now ∙ sym (one-mul _);
  looked_for = λ label clouds none. cc;
}

pub overflow_mul-n : goal.overflow_mul-n
overflow_mul-n c =
    let at = (goal.at.overflow_mul-n c).After-left_by-m in
    let l = c.loop-b in
    let h = grows l.b l.n _ l.invariant.small (factor at).1 in
    let top : 8 ^ (l.b + 1) ≤ 8 ^ 16 = pow-le-pow_right {n = 8} (lit< tt) {j = 16} (omega (arith, c.blocks-block-items.ensures.upper_bound, c.loop-b-test.true)) in
    let same : l.n * c.from-n.result ≡ l.n * ones c.left_by-m.result = ap (λ x. l.n * x) c.from-n.ensures in
    omega (arith, h, top, same)

pub loop-b-preserved : goal.loop-b-preserved
loop-b-preserved c =
    let at = (goal.at.loop-b-preserved c).After-left_by-m in
    let l = c.loop-b in
    let d = c.args.w.now in
    let choices : ℕ → ℕ = λ i. length (choices_of d i) in
    let few : l.b < 16 = omega (arith, c.blocks-block-items.ensures.upper_bound, c.loop-b-test.true) in
    let same = ap choices (get_or-below 16 l.b 0 few) ∙ sym (factor at).0 ∙ sym c.from-n.ensures in
    let rest = product (map choices (drop (l.b + 1) positions)) in
    let next = product-next choices positions 0 l.b few ∙ ap (λ x. x * rest) same in
    record {
      filled = fill_more l.invariant.filled few (byte at);
      small = rw c.from-n.ensures (grows l.b l.n _ l.invariant.small (factor at).1);
      counted = l.invariant.counted ∙ ap (λ x. l.n * x) next ∙ sym (mul_assoc _ _ _);
      looked_for = λ label clouds is.
          kept (λ x. bits (cloud_covers d x) 0 8) _ _ label clouds (known at ∙ ap (λ x. bits (cloud_covers d x.label) 0 8) (sym (item at))) is;
    }

pub returns-clause-value : goal.returns-clause-value
returns-clause-value c =
    let d = c.args.w.now in
    let l = c.loop-b in
    let all = ap length c.blocks-block-items.ensures.value in
    let stops = product-stops (λ i. length (choices_of d i)) l.b 16 (λ i h. one_choice d i (omega (arith, all))) in
    sym (l.invariant.counted ∙ ap (λ x. l.n * x) stops ∙ mul-one _)

pub returns-clause-masks_after : goal.returns-clause-masks_after
returns-clause-masks_after c =
    let d = c.args.w.now in
    let all = ap length c.blocks-block-items.ensures.value in
    fill_stops c.loop-b.invariant.filled (λ j h m. mask-beyond d j (omega (arith, all))) ∙ sym (masks-of d)
