-- The transfers of a secure placement go to the buffer; a refusal leaves it unchanged.
use Rattle.std.proofs.Common.{length, ap, ◌∙◌}
use Rattle.sequences.specs.Results.{and_then}
use Rattle.transfer_list.specs.Transfers.{transfers, fitted, buffer_after}
use Rattle.transfer_list.proofs.written_if_secure.Goals as goal

pub returns-in_err-ok-clause-buffer_after : goal.returns-in_err-ok-clause-buffer_after
unfolding buffer_after
returns-in_err-ok-clause-buffer_after c =
    let a = c.args in
    let buffer = a.buffer.now in
    let fit = fitted (length buffer) (transfers a.choices.now a.placement) in
    ap (λ j. buffer_after (and_then j (λ (u : Unit {0}). fit)) buffer) (c.in_err-ok.ensures ∙ c.verdict.ensures)
