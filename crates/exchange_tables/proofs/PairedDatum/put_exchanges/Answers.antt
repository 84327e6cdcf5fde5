-- Cloud by cloud.
use Rattle.std.proofs.Common.{arith}
use Rattle.table_entries.proofs.Filling.{stored_none, stored_more}
use Rattle.exchange_tables.proofs.PairedDatum.put_exchanges.Goals as goal

pub loop-here-init : goal.loop-here-init
loop-here-init c = stored_none

pub loop-here-preserved : goal.loop-here-preserved
loop-here-preserved c =
    stored_more c.loop-here.invariant (omega arith) (omega (arith, c.told-bytes, c.args.self.now.number_low)) c.better_bits.ensures
