-- Four bytes are needed for each transfer, and an edge makes at most one.
use Rattle.std.proofs.Common.{◌≡◌, ℕ, ◌*◌, ◌≤◌, Some, None, length, sym, ap, ◌∙◌, arith}
use mathlib.Core.Bool.{cond}
use borrow.Author.Tests.{le-leb, lt-leb}
use lib.Dec.{leb}
use Rattle.transfer_list.specs.Transfers.{transfers, bytes_of}
use Rattle.transfer_list.proofs.Transferring.{bytes-length, transfers-few}
use Rattle.transfer_list.proofs.missing.Goals as goal

-- if there is room, nothing is missing
fits : (n room : ℕ) → n ≤ room → None ≡ cond (leb n room) None (Some n)
fits n room h = sym (ap (λ b. cond b None (Some n)) (le-leb n room h))

pub returns-then-edge_count-room : goal.returns-then-edge_count-room
returns-then-edge_count-room c =
    let a = c.args in
    let d = a.w.now in
    let ts = transfers d a.placement in
    let most = transfers-few d a.placement in
    fits (length (bytes_of ts)) a.room (omega (arith, bytes-length ts, most, c.edge_count.ensures.value, c.if-edge_count-room.true))

pub returns-then-needed-room : goal.returns-then-needed-room
returns-then-needed-room c =
    let a = c.args in
    let ts = transfers a.w.now a.placement in
    fits (length (bytes_of ts)) a.room (omega (arith, bytes-length ts, c.transfer_count-needed.ensures.value, c.if-needed-room.true))

pub returns-else-needed-room : goal.returns-else-needed-room
returns-else-needed-room c =
    let a = c.args in
    let ts = transfers a.w.now a.placement in
    let n = length (bytes_of ts) in
    let needed : c.transfer_count-needed.result * 4 ≡ n = omega (arith, bytes-length ts, c.transfer_count-needed.ensures.value) in
    ap Some needed ∙ sym (ap (λ b. cond b None (Some n)) (lt-leb n a.room (omega (arith, needed, c.if-needed-room.false))))
