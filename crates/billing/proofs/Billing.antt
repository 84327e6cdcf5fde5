-- Every secure placement has a price; what is not secure is refused as Judge refuses it.
use Prim.Native.Nat.{ℕ}
use mathlib.Core.Path.{◌≡◌, sym, ap, ◌∙◌}
use mathlib.Core.List.{List}
use Rattle.description.specs.Declarations.{Description}
use Rattle.security.proofs.Accepted.{read-bounded}
use Rattle.costs.specs.declared.answers.Bill.{Bill}
use Rattle.costs.specs.Cost.{bill_of, total, cost}
use Rattle.costs.proofs.CostBound.{cost-total, bounded-cost, bounded-amounts}
use Rattle.judging.specs.Calls.{judged}
use Rattle.judging.proofs.Judged.{judge_call-secure, judged-secure, judged-refused}
use Rattle.sequences.specs.Results.{ok, and_then}
use Rattle.sequences.proofs.Results.{ok-inj, and_then-ok}
use Rattle.billing.specs.Calls.{bill_call}
use Rattle.billing.specs.Statements.{Billing}

module _ (s p : List ℕ) where
  -- what has a price was judged, and the price is that of its description
  priced-by : (c : ℕ) (b : Bill) → bill_call s p ≡ ok (c, b) → (d : Description) × (judged s p ≡ ok d) × (cost d p ≡ c) × (bill_of d p ≡ b)
  unfolding bill_call
  priced-by c b e =
      let (d, held, same) = (and_then-ok {B = ℕ × Bill} (judged s p) (λ d. ok (cost d p, bill_of d p)) (c, b)).0 e in
      (d, held, ap (λ x. x.0) (ok-inj same), ap (λ x. x.1) (ok-inj same))

  -- BILL PRICES EVERY SECURE PLACEMENT
  pub billing : Billing s p
  unfolding bill_call
  billing = record {
    priced =
        λ e.
        (let (d, accepted, secure) = (judge_call-secure s p).0 e in
        (d, accepted, ap (λ r. and_then r (λ x. ok (cost x p, bill_of x p))) ((judged-secure s p d).1 (accepted, secure))));
    alike = λ number place e. ap (λ r. and_then r (λ x. ok (cost x p, bill_of x p))) (judged-refused s p number place e);
    adds-up =
        λ c b e.
        (let (d, held, costs, bills) = priced-by c b e in
        sym costs ∙ cost-total d p ∙ ap total bills);
    below =
        λ bytes c b e.
        (let (d, held, costs, bills) = priced-by c b e in
        let bounded = read-bounded s d ((judged-secure s p d).0 held).0 bytes in
        (rw (← costs) (bounded-cost d p bounded), rw (← bills) (bounded-amounts d p bounded)));
  }
