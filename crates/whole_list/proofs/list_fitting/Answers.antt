-- The rows' keys that the walk kept, sorted and billed.
use Rattle.std.proofs.Common.{◌++◌, ◌*◌, drop, sym, ap, subst, ◌∙◌, subst₂}
use Rattle.survey.specs.RowWords.{keys_needed}
use Rattle.whole_list.specs.Billing.{AllPriced, billed_front}
use Rattle.whole_list.proofs.Sorted.{keys-priced, sorted-scratch, spare-words, all-billed, all-cleared}
use Rattle.whole_list.proofs.list_fitting.Goals as goal

pub bill_rows-requires-clause-all_priced : goal.bill_rows-requires-clause-all_priced
bill_rows-requires-clause-all_priced c =
    let d = c.args.admitted.now in
    let admitted = c.description-w.ensures.admitted in
    let fits = c.requires.room in
    let keep = c.keep_rows-count.ensures in
    -- after the sort the scratch begins with the rows' keys, in order
    let sorted = sorted-scratch d admitted c.args.rows.now c.args.scratch.now fits.0 fits.1 keep.value keep.keys_after c.sort_rows.ensures.rows_after in
    let priced = subst₂ (AllPriced d) (sym keep.value) (sym sorted) (keys-priced d admitted (drop (keys_needed d) c.args.scratch.now)) in
    subst (λ w. AllPriced w c.keep_rows-count.result c.sort_rows.new.rows) (sym c.description-w.ensures.value) priced

pub returns-clause-rows_after : goal.returns-clause-rows_after
returns-clause-rows_after c =
    let d = c.args.admitted.now in
    let admitted = c.description-w.ensures.admitted in
    let fits = c.requires.room in
    let keep = c.keep_rows-count.ensures in
    let words = c.args.rows.now in
    let scratch = c.args.scratch.now in
    let sorted = sorted-scratch d admitted words scratch fits.0 fits.1 keep.value keep.keys_after c.sort_rows.ensures.rows_after in
    let spare = spare-words d admitted words scratch fits.0 fits.1 keep.value keep.keys_after c.sort_rows.ensures.scratch_after in
    let n = c.keep_rows-count.result in
    let billed = c.bill_rows.ensures.rows_after ∙ ap (λ w. billed_front w n c.sort_rows.new.rows ++ drop (n * 5) c.sort_rows.new.scratch) c.description-w.ensures.value in
    all-billed d admitted words scratch fits.0 fits.1 keep.value keep.keys_after sorted spare billed

pub returns-clause-scratch_after : goal.returns-clause-scratch_after
returns-clause-scratch_after c =
    let d = c.args.admitted.now in
    let admitted = c.description-w.ensures.admitted in
    let fits = c.requires.room in
    let keep = c.keep_rows-count.ensures in
    let words = c.args.rows.now in
    let scratch = c.args.scratch.now in
    let sorted = sorted-scratch d admitted words scratch fits.0 fits.1 keep.value keep.keys_after c.sort_rows.ensures.rows_after in
    all-cleared d admitted words scratch fits.0 fits.1 keep.value keep.keys_after sorted c.bill_rows.ensures.keys_after
