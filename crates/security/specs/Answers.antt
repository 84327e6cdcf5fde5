-- Judge's answer as an enum: the scope's number and values for every case.
use Rattle.refusals.specs.Refusals.{fault_number}
use Rattle.security.specs.declared.answers.Verdict.{Verdict}
use Rattle.security.specs.declared.answers.Verdict.TheVariants.{Secure, Refused}
use Rattle.sequences.specs.Results.{Result, ok, refused}

-- Judge: secure, or a refusal with its number and place
abbrev pub judge_answer : Verdict → Result (Unit {0})
judge_answer Secure = ok tt
judge_answer (Refused r) = refused (fault_number r.fault) r.place
