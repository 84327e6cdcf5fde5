-- The answers of Read and Masks: the scope's number and values for every case.
use Rattle.std.specs.Prelude.{ℕ, List}
use Rattle.std.specs.Prelude as std
use Rattle.description.specs.Declarations.{Description}
use Rattle.refusals.specs.declared.Refusal.{Refusal}
use Rattle.refusals.specs.Refusals.{answered, fault_number}
use Rattle.security.specs.declared.answers.Verdict.{Verdict}
use Rattle.security.specs.declared.answers.Verdict.TheVariants as verdict
use Rattle.judging.specs.declared.Counts as code
use Rattle.security.specs.Soundness.{count}
use Rattle.judging.specs.Calls.{Counts}
use Rattle.sequences.specs.Results.{Result, ok, refused, and_then}

-- Read: accepted with the three counts, or a refusal with its number and place
abbrev pub counts_in : code.Counts → Counts
counts_in c = record { clouds = c.clouds; blocks = c.blocks; edges = c.edges }

abbrev pub read_answer : std.Result code.Counts Refusal → Result Counts
read_answer r = answered counts_in r

-- the same for what goes on with the description: it comes with the number of its candidates
abbrev pub admission_of : std.Result ℕ Refusal → Description → Result (Description × ℕ)
admission_of r d = answered (λ n. (d, n)) r

abbrev pub counted : Result Description → Result (Description × ℕ)
counted r = and_then r (λ d. ok (d, count d))

-- Masks: its bytes are in the lent array, or a refusal with its number and place
abbrev pub masked_answer : std.Result (Unit {0}) Refusal → Result (Unit {0})
masked_answer r = answered (λ u. u) r

-- the lent array after the call; unchanged after a refusal
abbrev pub masks_after : Result (List ℕ) → List ℕ → List ℕ
masks_after (ok ms) before = ms
masks_after (refused number place) before = before

-- the verdict on a placement of d: d itself if it is secure, or a refusal with its number and place
abbrev pub verdict_on : Verdict → Description → Result Description
verdict_on verdict.Secure d = ok d
verdict_on (verdict.Refused r) d = refused (fault_number r.fault) r.place
