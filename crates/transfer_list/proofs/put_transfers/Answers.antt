-- Edge by edge, by the steps of `Transferring`.
use Rattle.std.proofs.Common.{◌≤◌, ◌<◌, length, ap, arith}
use Rattle.transfer_list.specs.Transfers.{transfers, transfers_from}
use Rattle.transfer_list.proofs.Transferring.{bytes-length, ends_at, ends, room, goes_on}
use Rattle.transfer_list.proofs.put_transfers.Goals as goal

pub put_transfer-at-requires : goal.put_transfer-at-requires
unfolding transfers
put_transfer-at-requires c =
    let at = c.loop-i in
    let a = c.args in
    let es = a.w.now.edges in
    let inside : at.i < length es = omega (arith, ap length c.edges-e-items.ensures.value, c.loop-i-test.true) in
    rw c.edges-e-items.ensures.value (room a.placement es a.buffer.now at.buffer at.at at.i at.invariant inside c.requires)

pub loop-i-preserved : goal.loop-i-preserved
unfolding transfers
loop-i-preserved c =
    let at = c.loop-i in
    let a = c.args in
    let es = a.w.now.edges in
    let put = c.put_transfer-at.ensures in
    let inside : at.i < length es = omega (arith, ap length c.edges-e-items.ensures.value, c.loop-i-test.true) in
    let fits = room a.placement es a.buffer.now at.buffer at.at at.i at.invariant inside c.requires in
    rw (put.buffer_after, put.value, c.edges-e-items.ensures.value)
    (goes_on a.placement es a.buffer.now at.buffer at.at at.i at.invariant inside fits)

pub returns-clause-value : goal.returns-clause-value
unfolding transfers
returns-clause-value c =
    let a = c.args in
    let at = c.loop-i in
    let es = a.w.now.edges in
    let all : length es ≤ at.i = omega (arith, ap length c.edges-e-items.ensures.value) in
    let place = ends_at a.placement es a.buffer.now at.buffer at.at at.i at.invariant all in
    omega (arith, place, bytes-length (transfers_from 0 a.placement es))

pub returns-clause-buffer_after : goal.returns-clause-buffer_after
unfolding transfers
returns-clause-buffer_after c =
    let a = c.args in
    let at = c.loop-i in
    let es = a.w.now.edges in
    ends a.placement es a.buffer.now at.buffer at.at at.i at.invariant (omega (arith, ap length c.edges-e-items.ensures.value))
