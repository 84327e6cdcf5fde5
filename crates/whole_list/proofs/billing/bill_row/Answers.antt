-- The key is read and cleared, and its row is stored with the bill of the placement that it packs.
use Rattle.std.proofs.Common.{◌+◌, ◌-◌, ◌*◌, ◌++◌, get_or, replicate, sym, ap, subst, ◌∙◌}
use Rattle.costs.specs.Cost.{cost}
use Rattle.packing.specs.Packing.{digits}
use Rattle.packing.proofs.Digits.{padded-low}
use Rattle.sequences.specs.Arrays.{AllBelow}
use Rattle.whole_list.proofs.billing.bill_row.Goals as goal

pub bill_by-bill-requires-clause-all_below : goal.bill_by-bill-requires-clause-all_below
bill_by-bill-requires-clause-all_below c =
    let a = c.args in
    let place = get_or a.keys.now (a.i * 2 + 1) 0 in
    let low = subst (AllBelow 8) (sym c.unpacked-placement.ensures) (padded-low a.blocks place (16 - a.blocks)) in
    -- the sixteen bytes that the key packs
    let bytes = c.unpacked-placement.ensures ∙ ap (λ n. digits n place ++ replicate (16 - n) 0) c.requires.blocks_value.0 in
    (low, c.requires.priced ∙ ap (cost a.prices.now) (sym bytes))
