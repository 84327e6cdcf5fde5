-- Each return follows from what the searches before it found.
use mathlib.Core.Path.{◌≡◌, sym, ap, ◌∙◌}
use native.Mathlib.Omega.{arith}
use Prim.Native.Nat.{◌≤◌, ◌<◌}
use Rattle.description.specs.Declarations.{Description}
use Rattle.refusals.specs.declared.Refusal.{Refusal}
use Rattle.refusals.specs.Refusals.{fault_number}
use Rattle.security.specs.Soundness.{sound, count}
use Rattle.security.proofs.Sound.{breaks-rule2, breaks-rule3, breaks-rule4, too_many_lem, keeps-all}
use Rattle.sequences.specs.Results.{ok, refused}
use Rattle.admission.proofs.admit.Goals as goal

-- a refusal is that of the rules
told : (d : Description) {r s : Refusal} → r ≡ s → sound d ≡ refused (fault_number s.fault) s.place
    → refused (fault_number r.fault) r.place ≡ sound d
told d e v = ap (λ r. refused (fault_number r.fault) r.place) e ∙ sym v

pub returns-in-Some-clause-value : goal.returns-in-Some-clause-value
returns-in-Some-clause-value c = told c.args.w.now c.at.ensures (breaks-rule2 c.args.w.now (sym c.in-Some.ensures))

pub returns-in-Some-read-clause-value : goal.returns-in-Some-read-clause-value
returns-in-Some-read-clause-value c =
    told c.args.w.now c.at-in-Some-read.ensures (breaks-rule3 c.args.w.now (sym c.in_default.ensures) (sym c.in-Some-read.ensures))

pub returns-in-Some-write-clause-value : goal.returns-in-Some-write-clause-value
returns-in-Some-write-clause-value c =
    told c.args.w.now c.at-in-Some-write.ensures
    (breaks-rule4 c.args.w.now (sym c.in_default.ensures) (sym c.in_default-read.ensures) (sym c.in-Some-write.ensures))

pub returns-then-too_many-clause-value : goal.returns-then-too_many-clause-value
returns-then-too_many-clause-value c =
    let d = c.args.w.now in
    let many : 65536 < count d = omega (arith, c.candidates-too_many.ensures, ap count c.of-choices.ensures) in
    told d c.at-then-too_many.ensures
    (too_many_lem d (sym c.in_default.ensures) (sym c.in_default-read.ensures) (sym c.in_default-write.ensures) many)

pub returns-clause-value : goal.returns-clause-value
returns-clause-value c =
    let d = c.args.w.now in
    let few : count d ≤ 65536 = omega (arith, c.candidates-too_many.ensures, ap count c.of-choices.ensures) in
    ap ok (c.of.ensures ∙ c.of-choices.ensures) ∙
    sym (keeps-all d (sym c.in_default.ensures) (sym c.in_default-read.ensures) (sym c.in_default-write.ensures) few)
