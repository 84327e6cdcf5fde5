-- List is lent room for 65,536 rows, and the rows are within the words.
use Rattle.std.proofs.Common.{arith, ap, ap₂, ◌∙◌}
use Rattle.whole_list.specs.WholeList.{capacity, list_call, rows_after}
use Rattle.listoptions.proofs.Printing.{rows-within, all_lines}
use Rattle.listoptions.proofs.list_rows.Goals as goal

pub returns : goal.returns
returns c =
    let s = c.args.description.now in
    let list = c.list-listed in
    let extent = c.extent_of in
    let room = ap₂ capacity c.requires.0 c.requires.1 in
    let answered = list.ensures.result_value ∙ ap (list_call s) room in
    let within = rows-within s _ answered in
    record {
      fits = omega (arith, extent.ensures.0, within, c.requires.0, list.auto.rows);
      lines =
          all_lines s c.args.rows.now (λ i. (c.type_inv.description i).fits) answered
          (list.ensures.rows_after ∙ ap (λ n. rows_after s n c.args.rows.now) room) extent.ensures.0 extent.ensures.1;
    }
