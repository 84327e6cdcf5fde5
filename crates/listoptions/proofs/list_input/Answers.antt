-- What was read is all that the reader had, or as much as decides what is printed.
use Rattle.std.proofs.Common.{◌≡◌, ◌∙◌, arith, Ok}
use Rattle.std.specs.Io.KnownBytes.{Appends}
use Rattle.std.proofs.lemmas.Result.{err_from_is_err_and}
use Rattle.standard_input.specs.Failures.{BreaksOff}
use Rattle.standard_input.proofs.Outcomes.{on_ok, on_err}
use Rattle.listoptions.proofs.Printing.{read-decides}
use Rattle.listoptions.proofs.list_input.Goals as goal

pub returns-clause-bytes : goal.returns-clause-bytes
returns-clause-bytes g c =
    let read = c.read_full in
    let came : read.result ≡ Ok c.in_ok-count.count = grind arith in
    let counted = rw came at read.ensures.counted in
    let taken = rw came at read.ensures.taken in
    read-decides (Appends _ _) _ _ read.new.buffer c.in_ok-count.count (read.auto.buffer ∙ c.filled-space.ensures.size) counted.0
    taken.0 taken.1 (on_ok c.write_list.result c.in_ok-map_err.ensures.variant c.write_list.ensures.taken)

pub returns-in_err-map_err-clause-broken : goal.returns-in_err-map_err-clause-broken
returns-in_err-map_err-clause-broken g c =
    let read = c.read_full in
    let came : read.result ≡ Ok c.in_ok-count.count = grind arith in
    let counted = rw came at read.ensures.counted in
    let taken = rw came at read.ensures.taken in
    let error = err_from_is_err_and c.from_residual-in_err-map_err.result c.from_residual-in_err-map_err.ensures.1 in
    rw error.1
    (λ output. read-decides (BreaksOff _ _) _ _ read.new.buffer c.in_ok-count.count (read.auto.buffer ∙ c.filled-space.ensures.size) counted.0
    taken.0 taken.1 (on_err c.write_list.result c.in_err-map_err.ensures.variant c.write_list.ensures.broken))
