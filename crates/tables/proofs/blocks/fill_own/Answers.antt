-- Block by block; the others are charged nothing.
use Rattle.std.proofs.Common.{◌≡◌, ◌+◌, ◌*◌, ◌/◌, ◌%◌, sym, ap₂, ◌∙◌, arith}
use Rattle.costs.specs.Terms.{block_term}
use Rattle.costs.proofs.Charges.{no-cloud-charge, no-block-charge}
use Rattle.table_entries.proofs.Equations.{own-of}
use Rattle.table_entries.proofs.Filling.{fill-row}
use Rattle.sequences.proofs.Filling.{fill-lent, fill_stops}
use Rattle.tables.proofs.blocks.fill_own.Goals as goal

pub loop-b-init : goal.loop-b-init
loop-b-init c = fill-lent c.requires

pub loop-b-preserved : goal.loop-b-preserved
loop-b-preserved c =
    let d = c.args.w.now in
    let b = c.loop-b.b in
    let blocks = c.block_count-b-end.ensures in
    fill-row b c.loop-b.invariant c.put_charges.ensures (omega (arith, blocks.upper_bound))
    (λ y l.
    let quo : (b * 8 + y) / 8 ≡ b = omega (arith, blocks.few_clouds) in
    let rem : (b * 8 + y) % 8 ≡ y = omega (arith, blocks.few_clouds) in
    sym (ap₂ (block_term d) quo rem))
    (λ j l u. no-cloud-charge d (j / 8) (j % 8) (omega arith))
    blocks.few_clouds

pub returns : goal.returns
returns c =
    let d = c.args.w.now in
    fill_stops c.loop-b.invariant (λ j l m. no-block-charge d (j / 8) (j % 8) (omega (arith, c.block_count-b-end.ensures.value))) ∙ sym (own-of d)
