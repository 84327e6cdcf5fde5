-- Cloud by cloud.
use Rattle.std.proofs.Common.{◌≡◌, length, arith}
use Rattle.table_entries.proofs.Filling.{stored_none, stored_more}
use Rattle.tables.proofs.blocks.put_charges.Goals as goal

pub loop-k-init : goal.loop-k-init
loop-k-init c = stored_none

pub loop-k-preserved : goal.loop-k-preserved
loop-k-preserved c = stored_more c.loop-k.invariant (omega arith) (omega (arith, c.requires, c.cloud_count-k-end.ensures.upper_bound)) c.block_term.ensures.value

pub returns : goal.returns
returns c =
    let all : c.loop-k.k ≡ length c.args.w.now.clouds = omega (arith, c.cloud_count-k-end.ensures.value) in
    rw all at c.loop-k.invariant
