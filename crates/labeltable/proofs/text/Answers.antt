-- Each byte is that of its place; the bytes by their places are the table by its rows.
use Rattle.std.proofs.Common.{◌≡◌, ◌<◌, ℕ, get_or, sym, ◌∙◌}
use Rattle.sequences.proofs.Filling.{table-of-list, table_same}
use Rattle.labeltable.specs.Printed.{byte_at}
use Rattle.labeltable.proofs.Computed.{by_place}
use Rattle.labeltable.proofs.text.Goals as goal

pub returns : goal.returns
returns c =
    let made = c.from_fn.ensures.items in
    let each : (k : ℕ) → k < 4160 → get_or c.from_fn.result k 0 ≡ byte_at k = λ k h. (let (_, _, called) = made.at k 0 h in called.met) in
    sym (table-of-list 4160 c.from_fn.result made.long) ∙ table_same 4160 (λ k. get_or c.from_fn.result k 0) byte_at each ∙ by_place
