-- The words have the storage of a datum.
use Rattle.std.proofs.Common.{◌+◌, ◌*◌, get_or, sym, ap, ◌∙◌}
use Rattle.exchange_tables.proofs.Longevity.{storage_longer}
use Rattle.table_entries.proofs.Exchanging.{words-storage}
use Rattle.exchange_tables.proofs.PairedDatum.cost.Goals as goal

pub returns-in-Storage : goal.returns-in-Storage
returns-in-Storage c =
    let s = c.args.self.now in
    let longer = storage_longer _ (sym s.decided ∙ c.in-Storage.is) in
    ap (λ l. get_or l (s.number * 8 + c.args.on) 0) s.words_filled ∙
    words-storage s.description.now s.number c.args.on c.args.other s.number_low c.requires longer
