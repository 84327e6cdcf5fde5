-- If there is room for them, all transfers are written; otherwise the buffer stays.
use Rattle.std.proofs.Common.{length, sym, ap, ◌∙◌}
use Rattle.sequences.proofs.Tests.{nothing-lacking, room-lacking}
use Rattle.transfer_list.specs.Transfers.{transfers, bytes_of, buffer_after}
use Rattle.transfer_list.proofs.Transferring.{too_short, long-enough}
use Rattle.transfer_list.proofs.written.Goals as goal

pub returns-in-Some-clause-buffer_after : goal.returns-in-Some-clause-buffer_after
unfolding buffer_after
returns-in-Some-clause-buffer_after c =
    let a = c.args in
    let ts = transfers a.w.now a.placement in
    let room = length a.buffer.now in
    let m = c.missing in
    let (less, all) = room-lacking (length (bytes_of ts)) room m.result m.ensures c.in-Some.place c.in-Some.is in
    sym (ap (λ r. buffer_after r a.buffer.now) (too_short room ts less))

pub returns-clause-buffer_after : goal.returns-clause-buffer_after
unfolding buffer_after
returns-clause-buffer_after c =
    let a = c.args in
    let ts = transfers a.w.now a.placement in
    let room = length a.buffer.now in
    let m = c.missing in
    let long = long-enough room ts (nothing-lacking (length (bytes_of ts)) room m.result m.ensures c.in_default.is) in
    c.put_transfers.ensures.buffer_after ∙ sym (ap (λ r. buffer_after r a.buffer.now) long)
