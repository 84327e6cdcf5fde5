-- What was read is bytes.
use Rattle.reading.proofs.Outcomes.{is_decoded}
use Rattle.reading.proofs.decode.Goals as goal

pub returns-else-is_err-clause-decoded : goal.returns-else-is_err-clause-decoded
returns-else-is_err-clause-decoded c =
    let outcome = c.read_whole-outcome in
    is_decoded c.args.s.now outcome.new.w outcome.result (λ i. (c.type_inv.s i).fits) outcome.ensures
