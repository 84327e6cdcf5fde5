-- Each arm's nodes are the edge's, and there is room for every line of an edge.
use Rattle.std.proofs.Common.{get_or, length, ◌++◌, ap, sym, ◌∙◌, arith}
use Rattle.picture.specs.Picture.{path_of, line}
use Rattle.picture.specs.Sheets.{edge_room}
use Rattle.picture.proofs.Paths.{read_moved, read_in_place, write_moved, write_in_place}
use Rattle.picture.proofs.Rooms.{edge_few, longer}
use Rattle.picture.proofs.lines.put_edge.Goals as goal

pub put_line-requires : goal.put_line-requires
put_line-requires c =
    let p = c.args.placement in
    let hx = c.cloud_of-service_cloud.ensures ∙ ap (λ k. get_or p k 0) c.from.ensures in
    let hy = c.cloud_of-datum_cloud.ensures ∙ ap (λ k. get_or p k 0) c.from-2.ensures in
    let path = read_moved c.args.i p c.args.e _ _ hx hy c.in-Reads-true.is-0 (sym c.in-Reads-true.ensures) in
    let few = edge_few c.args.i p c.args.e (omega arith) (omega arith) (omega arith) (omega arith) (omega arith) in
    let same = ap (λ t. length (line t)) path in
    omega arith

pub returns-in-Reads-true : goal.returns-in-Reads-true
returns-in-Reads-true c =
    let p = c.args.placement in
    let hx = c.cloud_of-service_cloud.ensures ∙ ap (λ k. get_or p k 0) c.from.ensures in
    let hy = c.cloud_of-datum_cloud.ensures ∙ ap (λ k. get_or p k 0) c.from-2.ensures in
    let path = read_moved c.args.i p c.args.e _ _ hx hy c.in-Reads-true.is-0 (sym c.in-Reads-true.ensures) in
    let few = edge_few c.args.i p c.args.e (omega arith) (omega arith) (omega arith) (omega arith) (omega arith) in
    let value = c.put_line.ensures ∙ ap (λ t. c.args.sheet.now ++ line t) path in
    record { value = value; few = longer c.args.sheet.now (line (path_of c.args.i p c.args.e)) edge_room value few }

pub put_line-requires-in-Reads-false : goal.put_line-requires-in-Reads-false
put_line-requires-in-Reads-false c =
    let p = c.args.placement in
    let hx = c.cloud_of-service_cloud.ensures ∙ ap (λ k. get_or p k 0) c.from.ensures in
    let hy = c.cloud_of-datum_cloud.ensures ∙ ap (λ k. get_or p k 0) c.from-2.ensures in
    let path = read_in_place c.args.i p c.args.e _ _ hx hy c.in-Reads-false.is-0 (sym c.in-Reads-false.ensures) in
    let few = edge_few c.args.i p c.args.e (omega arith) (omega arith) (omega arith) (omega arith) (omega arith) in
    let same = ap (λ t. length (line t)) path in
    omega arith

pub returns-in-Reads-false : goal.returns-in-Reads-false
returns-in-Reads-false c =
    let p = c.args.placement in
    let hx = c.cloud_of-service_cloud.ensures ∙ ap (λ k. get_or p k 0) c.from.ensures in
    let hy = c.cloud_of-datum_cloud.ensures ∙ ap (λ k. get_or p k 0) c.from-2.ensures in
    let path = read_in_place c.args.i p c.args.e _ _ hx hy c.in-Reads-false.is-0 (sym c.in-Reads-false.ensures) in
    let few = edge_few c.args.i p c.args.e (omega arith) (omega arith) (omega arith) (omega arith) (omega arith) in
    let value = c.put_line-in-Reads-false.ensures ∙ ap (λ t. c.args.sheet.now ++ line t) path in
    record { value = value; few = longer c.args.sheet.now (line (path_of c.args.i p c.args.e)) edge_room value few }

pub put_line-requires-in-Writes-true : goal.put_line-requires-in-Writes-true
put_line-requires-in-Writes-true c =
    let p = c.args.placement in
    let hx = c.cloud_of-service_cloud.ensures ∙ ap (λ k. get_or p k 0) c.from.ensures in
    let hy = c.cloud_of-datum_cloud.ensures ∙ ap (λ k. get_or p k 0) c.from-2.ensures in
    let path = write_moved c.args.i p c.args.e _ _ hx hy c.in-Writes-true.is-0 (sym c.in-Writes-true.ensures) in
    let few = edge_few c.args.i p c.args.e (omega arith) (omega arith) (omega arith) (omega arith) (omega arith) in
    let same = ap (λ t. length (line t)) path in
    omega arith

pub returns-in-Writes-true : goal.returns-in-Writes-true
returns-in-Writes-true c =
    let p = c.args.placement in
    let hx = c.cloud_of-service_cloud.ensures ∙ ap (λ k. get_or p k 0) c.from.ensures in
    let hy = c.cloud_of-datum_cloud.ensures ∙ ap (λ k. get_or p k 0) c.from-2.ensures in
    let path = write_moved c.args.i p c.args.e _ _ hx hy c.in-Writes-true.is-0 (sym c.in-Writes-true.ensures) in
    let few = edge_few c.args.i p c.args.e (omega arith) (omega arith) (omega arith) (omega arith) (omega arith) in
    let value = c.put_line-in-Writes-true.ensures ∙ ap (λ t. c.args.sheet.now ++ line t) path in
    record { value = value; few = longer c.args.sheet.now (line (path_of c.args.i p c.args.e)) edge_room value few }

pub put_line-requires-in-Writes-false : goal.put_line-requires-in-Writes-false
put_line-requires-in-Writes-false c =
    let p = c.args.placement in
    let hx = c.cloud_of-service_cloud.ensures ∙ ap (λ k. get_or p k 0) c.from.ensures in
    let hy = c.cloud_of-datum_cloud.ensures ∙ ap (λ k. get_or p k 0) c.from-2.ensures in
    let path = write_in_place c.args.i p c.args.e _ _ hx hy c.in-Writes-false.is-0 (sym c.in-Writes-false.ensures) in
    let few = edge_few c.args.i p c.args.e (omega arith) (omega arith) (omega arith) (omega arith) (omega arith) in
    let same = ap (λ t. length (line t)) path in
    omega arith

pub returns-in-Writes-false : goal.returns-in-Writes-false
returns-in-Writes-false c =
    let p = c.args.placement in
    let hx = c.cloud_of-service_cloud.ensures ∙ ap (λ k. get_or p k 0) c.from.ensures in
    let hy = c.cloud_of-datum_cloud.ensures ∙ ap (λ k. get_or p k 0) c.from-2.ensures in
    let path = write_in_place c.args.i p c.args.e _ _ hx hy c.in-Writes-false.is-0 (sym c.in-Writes-false.ensures) in
    let few = edge_few c.args.i p c.args.e (omega arith) (omega arith) (omega arith) (omega arith) (omega arith) in
    let value = c.put_line-in-Writes-false.ensures ∙ ap (λ t. c.args.sheet.now ++ line t) path in
    record { value = value; few = longer c.args.sheet.now (line (path_of c.args.i p c.args.e)) edge_room value few }
