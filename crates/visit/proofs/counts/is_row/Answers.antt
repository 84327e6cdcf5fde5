-- A row is secure and passes the row test; a placement of another class is none.
use Rattle.std.proofs.Common.{sym, ap, ◌∙◌}
use Rattle.weights.specs.Numbers.{class_number}
use Rattle.weights.proofs.Classes.{secure-number}
use Rattle.visit.specs.Lent.{tests_in}
use Rattle.visit.proofs.Classes.{no-row-broken, secure-row}
use Rattle.visit.proofs.counts.is_row.Goals as goal

pub returns-in-Secure : goal.returns-in-Secure
returns-in-Secure c =
    let a = c.args in
    c.stands.ensures ∙ sym (secure-row a.met.weight (tests_in a.tables.now a.met.place) (sym c.requires ∙ ap class_number c.in-Secure.is))

pub returns-in_default : goal.returns-in_default
returns-in_default c =
    let a = c.args in
    sym (no-row-broken a.met.weight (tests_in a.tables.now a.met.place) (λ e. c.in_default.not-Secure (secure-number a.class (c.requires ∙ e))))
