-- Edge by edge, by the steps of `Transferring`.
use Rattle.transfer_list.proofs.Transferring.{Writing}
use Rattle.transfer_list.proofs.put_transfers.Given as goal

abbrev pub invariant-loop-i : goal.invariant-loop-i
invariant-loop-i l = Writing l.placement l.w.edges l.initial.buffer l.buffer l.at l.i
