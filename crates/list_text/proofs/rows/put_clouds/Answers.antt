-- Block by block: the clouds of the blocks before are in their places.
use Rattle.std.proofs.Common.{map, ◌∙◌, arith}
use Rattle.std.proofs.lemmas.List.Edits.{paste_more}
use Rattle.packing.specs.Packing.{digits as clouds}
use Rattle.list_text.specs.Lines.{digit}
use Rattle.list_text.proofs.Placing.{whole}
use Rattle.list_text.proofs.RowLines.{clouds-size, cloud_byte}
use Rattle.list_text.proofs.rows.put_clouds.Goals as goal

pub loop-block-preserved : goal.loop-block-preserved
loop-block-preserved c =
    let text = map digit (clouds c.args.blocks c.args.place) in
    let size = clouds-size c.args.blocks c.args.place in
    let byte = cloud_byte c.args.blocks c.args.place c.loop-block.block c.cloud_in.result c.cloud_in.ensures.1 c.cloud_in.ensures.0 in
    rw (c.loop-block.invariant, byte) (paste_more c.args.buffer.now c.args.at text c.loop-block.block (digit 0) (omega arith) (omega arith))

pub returns-clause-buffer_after : goal.returns-clause-buffer_after
returns-clause-buffer_after c =
    let size = clouds-size c.args.blocks c.args.place in
    c.loop-block.invariant ∙ whole (map digit (clouds c.args.blocks c.args.place)) c.args.buffer.now c.args.at c.loop-block.block (omega arith)
