-- The search from pair i on finds what the search from the start finds; some cloud from k on holds both data of a pair exactly if any cloud
-- does. The loops end at the first broken pair, or past the last.
use Rattle.std.proofs.Common.{◌≡◌, ◌≤◌, ◌<◌, true, false, length, get_or, refl, sym, ap, ◌∙◌, arith}
use Rattle.description.specs.Declarations.{no_pair}
use Rattle.security.specs.HeldClouds.{held_by}
use Rattle.security.specs.Placements.{holds_both, together}
use Rattle.security.proofs.Equations.{together_of}
use Rattle.security.proofs.HeldClouds.{both-held}
use Rattle.sequences.specs.Lists.{below}
use Rattle.sequences.proofs.Counting.{get_or-below, length-below}
use Rattle.sequences.proofs.Loops.{any-hit, any-miss, any-end, first-hit, first-miss, told}
use Rattle.apart.proofs.first_together.Goals as goal

pub loop-k-init : goal.loop-k-init
loop-k-init c =
    let a = c.args in
    let held = held_by a.w.now a.placement in
    let pair = ap (λ ps. get_or ps c.pairs.i no_pair) c.pairs-pair-items.ensures.value in
    record {
      none = c.pairs.invariant.none;
      left = c.clouds_holding-left.ensures ∙ ap held (c.from.ensures ∙ ap (λ x. x.left) pair);
      right = c.clouds_holding-right.ensures ∙ ap held (c.from-in-pairs.ensures ∙ ap (λ x. x.right) pair);
      rest = together_of a.w.now a.placement _;
    }

pub loop-k-preserved : goal.loop-k-preserved
loop-k-preserved c =
    let a = c.args in
    let d = a.w.now in
    let clouds = below (length d.clouds) in
    let pair = get_or d.pairs c.pairs.i no_pair in
    let both = holds_both d a.placement pair in
    let k = c.loop-k.k in
    let so_far = c.loop-k.invariant in
    let counted = c.cloud_count-clouds.ensures in
    let low : k < length d.clouds = omega (arith, counted.value) in
    let apart = sym (both-held d a.placement pair k (omega (arith, counted.upper_bound)) so_far.left so_far.right) ∙ sym c.in_both.ensures ∙ c.if-in_both.false in
    record {
      none = so_far.none;
      left = so_far.left;
      right = so_far.right;
      rest =
          so_far.rest ∙
          any-miss both clouds 0 k (omega (arith, length-below (length d.clouds))) (told both (sym (get_or-below (length d.clouds) k 0 low)) refl apart);
    }

pub pairs-preserved : goal.pairs-preserved
pairs-preserved c =
    let a = c.args in
    let d = a.w.now in
    let clouds = below (length d.clouds) in
    let i = c.pairs.i in
    let pair = get_or d.pairs i no_pair in
    let all : length clouds ≤ c.loop-k.k = omega (arith, length-below (length d.clouds), c.cloud_count-clouds.ensures.value) in
    let apart : together d a.placement pair ≡ false =
    c.loop-k.invariant.rest ∙ any-end clouds c.loop-k.k all (holds_both d a.placement pair) in
    let there : i < length d.pairs = omega (arith, ap length c.pairs-pair-items.ensures.value, c.pairs-test.true) in
    record {
      none = c.loop-k.invariant.none;
      rest = c.pairs.invariant.rest ∙ first-miss (together d a.placement) d.pairs no_pair i there apart;
    }

pub returns-then-in_both : goal.returns-then-in_both
returns-then-in_both c =
    let a = c.args in
    let d = a.w.now in
    let clouds = below (length d.clouds) in
    let i = c.pairs.i in
    let pair = get_or d.pairs i no_pair in
    let both = holds_both d a.placement pair in
    let counted = c.cloud_count-clouds.ensures in
    let k = c.loop-k.k in
    let so_far = c.loop-k.invariant in
    let low : k < length d.clouds = omega (arith, counted.value) in
    let held = sym (both-held d a.placement pair k (omega (arith, counted.upper_bound)) so_far.left so_far.right) ∙ sym c.in_both.ensures ∙ c.if-in_both.true in
    let meets : together d a.placement pair ≡ true =
    so_far.rest ∙ any-hit both clouds 0 k (omega (arith, length-below (length d.clouds))) (told both (sym (get_or-below (length d.clouds) k 0 low)) refl held) in
    let there : i < length d.pairs = omega (arith, ap length c.pairs-pair-items.ensures.value, c.pairs-test.true) in
    sym (c.pairs.invariant.rest ∙ first-hit (together d a.placement) d.pairs no_pair i there meets)
