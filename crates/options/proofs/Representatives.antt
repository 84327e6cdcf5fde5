-- The test that looks at one datum at a time says exactly which placement is the first of its option.
use Prim.Native.Nat.{ℕ, ◌≤◌, ◌<◌}
use native.Mathlib.Nat.{le_of_eq}
use native.Mathlib.Decide.{dec_lt}
use native.Mathlib.Omega.{arith}
use mathlib.Core.Path.{◌≡◌, sym, ap, ◌∙◌}
use mathlib.Core.Logic.{◌↔◌, inl, inr}
use mathlib.Core.Bool.{true, false, not, true≢false, Bool-discrete}
use mathlib.Core.List.{List, [], ◌∷◌, map, Memᴰ}
use lib.ListN.{length, get_or, set}
use borrow.Author.Tests.{lt-ltb, not-true}
use Rattle.description.specs.Declarations.{Description, block, is_datum}
use Rattle.description.specs.Invariants.{WellFormed}
use Rattle.security.specs.Soundness.{may_stand}
use Rattle.costs.specs.Cost.{cost}
use Rattle.options.specs.Options.{part_of, same_option}
use Rattle.options.specs.Representatives.{data_of, share, better_on, stands_locally, SameServices, SecureCandidate, Earlier, First}
use Rattle.security.proofs.Standing.{may-stand}
use Rattle.options.proofs.Options.{same_parts, same-services}
use Rattle.options.proofs.Locality.{data-are, part-local, share-local, cost-shares, cpu-local}
use Rattle.options.proofs.Mixing.{candidates-stand, block-low, cloud-low}
use Rattle.options.proofs.Moving.{moved-own, moved-services, moved-secure, moved_same, moved-cost}
use Rattle.sequences.specs.Lists.{any, below, sum, same, before}
use Rattle.sequences.proofs.Tests.{both-pass, not-passed}
use Rattle.sequences.proofs.Members.{none-members, below-members}
use Rattle.sequences.proofs.Equality.{equal_by-decides, same-decides}
use Rattle.sequences.proofs.Orders.{before-cases, before-lower, before-rest}
use Rattle.sequences.proofs.Lexicographic.{not-before, set_before, pair-before, pair-not-before}
use Rattle.sequences.proofs.Grouping.{sum_below, sum-each}

-- ---- the test

module _ (d : Description) (p : List ℕ) where
  -- what it says of one datum and one cloud
  pub better-if : (n k : ℕ) → (better_on d p n k ≡ true) ↔
      ((may_stand d n k ≡ true) × (part_of d (set p n k) n ≡ part_of d p n) × (before (share d (set p n k) n ∷ k ∷ []) (share d p n ∷ get_or p n 0 ∷ []) ≡ true))
  unfolding better_on
  better-if n k = (
    λ t.
        let (u, lower) = (both-pass _ _).0 t in
        let (may, alike) = (both-pass _ _).0 u in
        (may, (equal_by-decides same same-decides (part_of d (set p n k) n) (part_of d p n)).0 alike, lower),
    λ (may, alike, lower).
        (both-pass _ _).1 ((both-pass _ _).1 (may, (equal_by-decides same same-decides (part_of d (set p n k) n) (part_of d p n)).1 alike), lower),
  )

  -- it passes exactly if no datum does better on any of the eight clouds
  pub stands-if : (stands_locally d p ≡ true) ↔ ((n : ℕ) → Memᴰ n (data_of d) → (k : ℕ) → k < 8 → better_on d p n k ≡ false)
  unfolding stands_locally
  stands-if = (
    λ t n m k h. (none-members (better_on d p n) (below 8)).0
        ((none-members (λ n. any (better_on d p n) (below 8)) (data_of d)).0 (not-true _ t) n m) k ((below-members 8 k).1 h),
    λ h. ap not ((none-members (λ n. any (better_on d p n) (below 8)) (data_of d)).1
        (λ n m. (none-members (better_on d p n) (below 8)).1 (λ k i. h n m k ((below-members 8 k).0 i)))),
  )

module _ (d : Description) (w : WellFormed d) where
  -- ---- a placement that passes is the first

  module _ (p : List ℕ) (cp : SecureCandidate d p) (passes : stands_locally d p ≡ true)
      (q : List ℕ) (cq : SecureCandidate d q) (alike : same_option d q p ≡ true) where
    services : SameServices d q p
    services = same-services d q p alike

    -- a datum could move to its cloud in q, and is not lower there
    datum-not-lower : (n : ℕ) → Memᴰ n (data_of d) → (share d p n ≤ share d q n) × (share d p n ≡ share d q n → get_or p n 0 ≤ get_or q n 0)
    datum-not-lower n m =
        let k = get_or q n 0 in
        let low = ((data-are d n).0 m).0 in
        let may = ((candidates-stand d w q).0 cq.candidate).1 n (block-low d w n low) in
        let own = moved-own d w p cp n m k may in
        let from-q : SameServices d (set p n k) q = λ i s. moved-services d w p cp n m k may i s ∙ sym (services i s) in
        let part = part-local d w (set p n k) q from-q n own (block d n).kind ∙ (same_parts d q p).0 alike n low in
        let worse = (stands-if d p).0 passes n m k (cloud-low d w n k low may) in
        rw (share-local d w (set p n k) q from-q n own) at
        (pair-not-before (share d (set p n k) n) k (share d p n) (get_or p n 0)
        (not-passed _ (λ t. true≢false (sym ((better-if d p n k).1 (may, part, t)) ∙ worse))))

    shares-not-lower : (n : ℕ) → Memᴰ n (data_of d) → share d p n ≤ share d q n
    shares-not-lower n m = (datum-not-lower n m).0

    costs : cost d q ≤ cost d p → sum (map (share d q) (data_of d)) ≤ sum (map (share d p) (data_of d))
    costs h = omega (arith, cost-shares d w p, cost-shares d w q, cpu-local d q p services)

    -- at equal cost no position is higher than in q
    not-higher : cost d q ≤ cost d p → (n : ℕ) → n < 16 → get_or p n 0 ≤ get_or q n 0
    not-higher h n l = elim (dec_lt n (length d.blocks)) [
      | yes low ↦ elim (Bool-discrete (is_datum (block d n).kind) true) [
        | yes t ↦
            let m = (data-are d n).1 (low, t) in
            (datum-not-lower n m).1 (sum-each (share d p) (share d q) (data_of d) shares-not-lower (costs h) n m)
        | no f ↦ le_of_eq (sym (services n ((both-pass _ _).1 (lt-ltb _ _ low, ap not (not-passed _ f)))))
      ]
      | no past ↦
          let in_p = ((may-stand d p n).0 (((candidates-stand d w p).0 cp.candidate).1 n l)).beyond (omega arith) in
          omega arith
    ]

    passes-first : Earlier d q p → ⊥
    passes-first t = elim (before-cases (cost d q) (cost d p) q p t) [
      | inl lower ↦ omega (
        arith,
        cost-shares d w p,
        cost-shares d w q,
        cpu-local d q p services,
        sum_below (share d p) (share d q) (data_of d) shares-not-lower,
      )
      | inr (equal, rest) ↦
          let sizes = ((candidates-stand d w p).0 cp.candidate).0 in
          not-before p q (sizes ∙ sym ((candidates-stand d w q).0 cq.candidate).0) (λ n l. not-higher (le_of_eq equal) n (omega arith)) rest
    ]

  -- ---- and the first passes

  first_passes : (p : List ℕ) → SecureCandidate d p → First d p → stands_locally d p ≡ true
  first_passes p cp first = (stands-if d p).1 (λ n m k h. not-passed _ (λ t.
      let (may, part, lower) = (better-if d p n k).0 t in
      let q = set p n k in
      let change = moved-cost d w p cp n m k may in
      let size = ((candidates-stand d w p).0 cp.candidate).0 in
      let low = block-low d w n ((data-are d n).0 m).0 in
      first q (moved-secure d w p cp n m k may part) (moved_same d w p cp n m k may part)
      (elim ((pair-before (share d q n) k (share d p n) (get_or p n 0)).0 lower) [
        | inl less ↦ before-lower (cost d q) (cost d p) q p (omega arith)
        | inr (equal, less) ↦ before-rest (cost d q) (cost d p) q p (omega arith) (set_before p n k (omega arith) less)
      ])))

  -- A secure candidate passes the local test exactly if it is the first of its option.
  pub local-is-global : (p : List ℕ) → SecureCandidate d p → (stands_locally d p ≡ true) ↔ First d p
  local-is-global p cp = (passes-first p cp, first_passes p cp)
