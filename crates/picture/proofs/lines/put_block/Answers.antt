-- There is room for the line of every block.
use Rattle.std.proofs.Common.{length, ap, ◌∙◌, arith}
use mathlib.Core.List.{append-nil}
use Rattle.picture.specs.Nodes.{node_text}
use Rattle.picture.specs.Picture.{line}
use Rattle.picture.specs.Sheets.{block_room}
use Rattle.picture.proofs.Rooms.{node_few, longer}
use Rattle.picture.proofs.lines.put_block.Goals as goal

pub put_line-requires : goal.put_line-requires
put_line-requires c =
    let few = node_few c.block_at-block.result.kind c.args.b c.cloud_of-cloud.result (omega arith) (omega arith) in
    let same = ap (λ t. length (line t)) (append-nil (node_text c.of_block.result) ∙ c.of_block.ensures) in
    omega arith

pub returns-clause-few : goal.returns-clause-few
returns-clause-few c =
    let few = node_few c.block_at-block.result.kind c.args.b c.cloud_of-cloud.result (omega arith) (omega arith) in
    let same = ap (λ t. length (line t)) (append-nil (node_text c.of_block.result) ∙ c.of_block.ensures) in
    longer c.args.sheet.now _ block_room c.put_line.ensures (omega arith)
