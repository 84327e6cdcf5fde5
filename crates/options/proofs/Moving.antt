-- One datum is moved alone, to a cloud where it may stand: if the datum's part stays the same, so does the option, and a secure candidate
-- stays one; the cost changes by the datum's share.
use Prim.Native.Nat.{ℕ, ◌+◌}
use native.Mathlib.Decide.{ℕ_discrete}
use native.Mathlib.Omega.{arith}
use mathlib.Core.Path.{◌≡◌, sym, ◌∙◌}
use mathlib.Core.Bool.{true, true≢false}
use mathlib.Core.List.{List, Memᴰ}
use lib.ListN.{length, get_or, set, length-set}
use lib.Seq.{get_or-set_same, get_or-set_other}
use Rattle.description.specs.Declarations.{Description, block}
use Rattle.description.specs.Invariants.{WellFormed}
use Rattle.security.specs.Soundness.{may_stand, candidates}
use Rattle.costs.specs.Cost.{cost}
use Rattle.options.specs.Options.{part_of, same_option}
use Rattle.options.specs.Representatives.{data_of, share, SameServices, SecureCandidate}
use Rattle.security.specs.Statements.{Placed}
use Rattle.security.proofs.Candidates.{candidates-placed}
use Rattle.security.proofs.UnexposedEdges.{unexposed-covered}
use Rattle.options.proofs.Options.{service-named, same_parts}
use Rattle.options.proofs.Locality.{data-are, data-once, edge-service, part-local, share-local, cost-shares, cpu-local}
use Rattle.options.proofs.Mixing.{secure-unexposed, secure-as, candidates-stand, block-low}
use Rattle.sequences.proofs.Grouping.{sum-but-one}

module _ (d : Description) (w : WellFormed d) where
  placed : (p : List ℕ) → Memᴰ p (candidates d) → Placed d p
  placed p m = ((candidates-placed d w.limits.clouds p).0 m).1

  module _ (p : List ℕ) (c : SecureCandidate d p) (n : ℕ) (datum : Memᴰ n (data_of d)) (k : ℕ) (may : may_stand d n k ≡ true) where
    size : length p ≡ 16
    size = ((candidates-stand d w p).0 c.candidate).0

    -- the datum stands there, and the services are unchanged
    pub moved-own : get_or (set p n k) n 0 ≡ k
    moved-own = get_or-set_same p n k 0 (omega (arith, size, block-low d w n ((data-are d n).0 datum).0))

    pub moved-services : SameServices d (set p n k) p
    moved-services m s = get_or-set_other p n m k 0
        (λ e. true≢false (sym ((data-are d n).0 datum).1 ∙ (rw e at (service-named d m s).1)))

    moved-candidate : Memᴰ (set p n k) (candidates d)
    moved-candidate = (candidates-stand d w (set p n k)).1 (
      length-set p n k ∙ size,
      λ m h. elim (ℕ_discrete m n) [
        | yes e ↦ rw (e, moved-own) may
        | no other ↦ rw (get_or-set_other p n m k 0 other) (((candidates-stand d w p).0 c.candidate).1 m h)
      ],
    )

    -- If the datum's part stays the same, the option does,
    pub moved_same : part_of d (set p n k) n ≡ part_of d p n → same_option d (set p n k) p ≡ true
    moved_same e = (same_parts d (set p n k) p).1 (λ m h. elim (ℕ_discrete m n) [
      | yes here ↦ rw here e
      | no other ↦ part-local d w (set p n k) p moved-services m (get_or-set_other p n m k 0 other) (block d m).kind
    ])

    -- and then it is a secure candidate,
    pub moved-secure : part_of d (set p n k) n ≡ part_of d p n → SecureCandidate d (set p n k)
    moved-secure e = record {
      candidate = moved-candidate;
      safe = secure-as d w (set p n k) p (moved_same e)
          ((unexposed-covered d w (set p n k) (placed (set p n k) moved-candidate)).1
          (λ f m. rw (moved-services f.service (edge-service d w f m))
          ((unexposed-covered d w p (placed p c.candidate)).0 (secure-unexposed d p c.safe) f m)))
          c.safe;
    }

    -- and in the cost one share of this datum is replaced by another.
    pub moved-cost : cost d (set p n k) + share d p n ≡ cost d p + share d (set p n k) n
    moved-cost = omega (
      arith,
      cost-shares d w (set p n k),
      cost-shares d w p,
      cpu-local d (set p n k) p moved-services,
      sum-but-one (share d (set p n k)) (share d p) (data_of d) (data-once d) n datum
          (λ m _ other. share-local d w (set p n k) p moved-services m (get_or-set_other p n m k 0 other)),
    )
