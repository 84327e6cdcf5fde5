-- Which secure placements represent their options: exactly one for each option, the first by cost and then bytes; and for a well-formed
-- description the tests of `options` that look at one datum at a time decide which.
use Prim.Native.Nat.{ℕ}
use mathlib.Core.Path.{◌≡◌, sym, ◌∙◌}
use mathlib.Core.Logic.{◌↔◌, ◌⊎◌}
use mathlib.Core.Bool.{true, true≢false}
use mathlib.Core.List.{List, Memᴰ}
use Rattle.description.specs.Declarations.{Description}
use Rattle.description.specs.Invariants.{WellFormed}
use Rattle.security.specs.Soundness.{candidates}
use Rattle.security.specs.Placements.{secure}
use Rattle.options.specs.Options.{same_option}
use Rattle.options.specs.Representatives.{stands_locally, stands_by_exchanges, SecureCandidate, First}
use Rattle.options.proofs.Options.{same_option-equivalence}
use Rattle.options.proofs.Representatives.{local-is-global}
use Rattle.options.proofs.LocalExchanges.{exchanges-are-local}
use Rattle.survey.specs.Rows.{secure_placements, earlier, row_of, stands}
use Rattle.survey.proofs.RowOrder.{placement-order}
use Rattle.sequences.specs.Orders.{Represented}
use Rattle.sequences.proofs.Agreeing.{tests_agree}
use Rattle.sequences.proofs.Members.{keep-members}
use Rattle.sequences.proofs.Representatives.{stands-first, least-represent, stands-before}
use Rattle.sequences.proofs.Tests.{not-passed}

module _ (d : Description) where
  -- the secure placements are the candidates that are secure
  pub secure-members : (p : List ℕ) → Memᴰ p (secure_placements d) ↔ SecureCandidate d p
  unfolding secure_placements
  secure-members p =
      let kept = keep-members (secure d) (candidates d) p in
      (λ m. let (candidate, safe) = kept.0 m in record { candidate = candidate; safe = safe }, λ c. kept.1 (c.candidate, c.safe))

  -- ---- one for each option

  -- Exactly one placement represents each option: the first by cost and then bytes.
  pub options-stand : Represented (same_option d) (stands d) (secure_placements d)
  unfolding stands
  options-stand = least-represent (placement-order d) (same_option-equivalence d) (secure_placements d)

  -- It is earlier than any other of its option.
  pub standing-earlier : (p q : List ℕ) → Memᴰ p (secure_placements d) → stands d q ≡ true → same_option d p q ≡ true
      → (q ≡ p) ⊎ (earlier (row_of d q) (row_of d p) ≡ true)
  unfolding stands
  standing-earlier = stands-before (placement-order d) (same_option-equivalence d) (secure_placements d)

  -- ---- the same, by looking at one datum at a time

  -- `stands` means to be the first of the option
  standing-first : (p : List ℕ) → (stands d p ≡ true) ↔ First d p
  unfolding stands
  standing-first p =
      let first = stands-first (λ q r. earlier (row_of d q) (row_of d r)) (same_option d) (secure_placements d) p in (
        λ t q c same e. true≢false (sym e ∙ first.0 t q ((secure-members q).1 c) same),
        λ h. first.1 (λ q m same. not-passed _ (h q ((secure-members q).0 m) same)),
      )

module _ (d : Description) (w : WellFormed d) (p : List ℕ) (member : Memᴰ p (secure_placements d)) where
  -- A secure placement of a well-formed description represents its option exactly if no datum does better on another cloud.
  pub stands-locally : stands d p ≡ stands_locally d p
  stands-locally =
      let first = standing-first d p in
      let local = local-is-global d w p ((secure-members d p).0 member) in
      tests_agree (stands d p) (stands_locally d p) (λ t. local.1 (first.0 t), λ t. first.1 (local.0 t))

  -- That is: exactly if no block would be cheaper on the cloud it can move to.
  pub stands-by-exchanges : stands d p ≡ stands_by_exchanges d p
  stands-by-exchanges = stands-locally ∙ sym (exchanges-are-local d w p ((secure-members d p).0 member))
