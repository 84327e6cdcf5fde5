-- The four bytes of the one transfer.
use Rattle.std.proofs.Common.{◌≡◌, ◌+◌, ◌-◌, ◌≤◌, true, ℕ, [], ◌∷◌, length, sym, ap, ◌∙◌, arith}
use Rattle.security.specs.Placements.{moves}
use Rattle.transfer_list.specs.Transfers.{source, destination}
use Rattle.sequences.proofs.Joined.{stored}
use Rattle.transfer_list.proofs.put_transfer.Goals as goal

pub returns-clause-buffer_after : goal.returns-clause-buffer_after
returns-clause-buffer_after c =
    let a = c.args in
    let moved : moves a.placement a.e ≡ true = sym c.moves.ensures ∙ c.if-not-moves.false in
    let room : a.at + 4 ≤ length a.buffer.now = rw moved at c.requires in
    let bytes = a.i ∷ a.e.datum ∷ source a.placement a.e ∷ destination a.placement a.e ∷ [] in
    let ends = c.source_and_destination-source.ensures in
    let after = c.copy_from_slice.ensures.after ∙ ap (λ (r : ℕ × ℕ). a.i ∷ a.e.datum ∷ r.0 ∷ r.1 ∷ []) ends in
    simp moved (stored a.buffer.now a.at (a.at + 4 - a.at) c.copy_from_slice.new.self bytes after (omega arith) (omega (arith, room)))
