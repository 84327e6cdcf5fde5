-- Rules 16 and 17 are tested edge by edge, candidates position by position, and placements of one option break the same pairs. So a
-- block-by-block mix of two secure candidates of one option is a secure candidate of that option.
use Prim.Native.Nat.{ℕ, ◌<◌}
use native.Mathlib.Omega.{arith}
use mathlib.Core.Path.{◌≡◌, sym, ap, ◌∙◌}
use mathlib.Core.Logic.Iff
use mathlib.Core.Logic.{◌↔◌, inl, inr}
use mathlib.Core.Bool.{true, not}
use mathlib.Core.List.{List, Memᴰ}
use lib.ListN.{length, get_or}
use Rattle.description.specs.Declarations.{Description, block}
use Rattle.description.specs.Invariants.{WellFormed}
use Rattle.security.specs.Soundness.{may_stand, candidates}
use Rattle.security.specs.Placements.{unexposed, broken_apart, secure}
use Rattle.options.specs.Options.{same_option}
use Rattle.options.specs.Representatives.{SameServices, Mix, SecureCandidate}
use Rattle.security.proofs.Candidates.{candidates-placed}
use Rattle.security.proofs.Moves.{exposes-alike}
use Rattle.security.proofs.Standing.{block-stands, may-stand}
use Rattle.security.proofs.UnexposedEdges.{unexposed-edges}
use Rattle.options.proofs.Holding.{option-broken}
use Rattle.options.proofs.Options.{service-named, same_parts, same-services}
use Rattle.options.proofs.Locality.{data-are, edge-service, edge-datum, part-local}
use Rattle.sequences.proofs.Tests.{both-pass}

-- a secure placement keeps rules 16 and 17
pub secure-unexposed : (d : Description) (p : List ℕ) → secure d p ≡ true → unexposed d p ≡ true
secure-unexposed d p safe = ((both-pass (unexposed d p) (not (broken_apart d p))).0 safe).0

-- a placement that keeps them and is of the option of a secure placement is secure
pub secure-as : (d : Description) → WellFormed d → (q p : List ℕ) → same_option d q p ≡ true → unexposed d q ≡ true → secure d p ≡ true → secure d q ≡ true
secure-as d w q p alike keeps safe = (both-pass (unexposed d q) (not (broken_apart d q))).1
    (keeps, ap not (option-broken d w q p alike) ∙ ((both-pass (unexposed d p) (not (broken_apart d p))).0 safe).1)

-- ---- candidates, position by position

module _ (d : Description) (w : WellFormed d) where
  -- sixteen clouds, each of which its position may have
  pub candidates-stand : (p : List ℕ) → Memᴰ p (candidates d) ↔ ((length p ≡ 16) × ((n : ℕ) → n < 16 → may_stand d n (get_or p n 0) ≡ true))
  candidates-stand p = Iff.trans (candidates-placed d w.limits.clouds p) (
    λ (size, placed). (size, λ n h. (may-stand d p n).1 (placed n h)),
    λ (size, stand). (size, λ n h. (may-stand d p n).0 (stand n h)),
  )

  -- a declared block is one of the sixteen
  pub block-low : (n : ℕ) → n < length d.blocks → n < 16
  block-low n h = omega (arith, w.limits.blocks)

  -- and a cloud on which a declared block may stand is one of the eight
  pub cloud-low : (n k : ℕ) → n < length d.blocks → may_stand d n k ≡ true → k < 8
  cloud-low n k h may = omega (arith, ((block-stands d n k h).0 may).declared, w.limits.clouds)

  -- ---- mixes

  module _ (p q r : List ℕ) (mix : Mix p q r) where
    mix-services : SameServices d p q → SameServices d p r
    mix-services same n s = elim (mix.either n (block-low n (service-named d n s).0)) [
      | inl e ↦ sym e
      | inr e ↦ same n s ∙ sym e
    ]

    mix-stands : (n : ℕ) → n < 16 → may_stand d n (get_or p n 0) ≡ true → may_stand d n (get_or q n 0) ≡ true → may_stand d n (get_or r n 0) ≡ true
    mix-stands n h s t = elim (mix.either n h) [ inl e ↦ rw e s | inr e ↦ rw e t ]

    -- a mix of candidates is a candidate
    pub mix-candidate : Memᴰ p (candidates d) → Memᴰ q (candidates d) → Memᴰ r (candidates d)
    mix-candidate mp mq = (candidates-stand r).1
        (mix.size, λ n h. mix-stands n h (((candidates-stand p).0 mp).1 n h) (((candidates-stand q).0 mq).1 n h))

    -- if the services stand on the same clouds, a mix of placements that keep rules 16 and 17 keeps them
    mix-unexposed : SameServices d p q → unexposed d p ≡ true → unexposed d q ≡ true → unexposed d r ≡ true
    mix-unexposed same sp sq = (unexposed-edges d r).1 (λ e m.
        let sr = mix-services same in
        let here = sr e.service (edge-service d w e m) in
        elim (mix.either e.datum (block-low e.datum ((data-are d e.datum).0 (edge-datum d w e m)).0)) [
          | inl at ↦ exposes-alike r p e (sym here) at d ∙ (unexposed-edges d p).0 sp e m
          | inr at ↦ exposes-alike r q e (sym here ∙ same e.service (edge-service d w e m)) at d ∙ (unexposed-edges d q).0 sq e m
        ])

    -- a mix of placements of one option is of that option
    pub mix-same : same_option d p q ≡ true → same_option d r p ≡ true
    mix-same t = (same_parts d r p).1 (λ n h.
        let sp = same-services d p q t in
        let sr = mix-services sp in
        elim (mix.either n (block-low n h)) [
          | inl at ↦ part-local d w r p (λ m s. sym (sr m s)) n at (block d n).kind
          | inr at ↦ part-local d w r q (λ m s. sym (sr m s) ∙ sp m s) n at (block d n).kind ∙ sym ((same_parts d p q).0 t n h)
        ])

    -- Two secure candidates of one option, mixed block by block: a secure candidate of that option.
    pub mixed : SecureCandidate d p → SecureCandidate d q → same_option d p q ≡ true → SecureCandidate d r × (same_option d r p ≡ true)
    mixed cp cq t = (
      record {
        candidate = mix-candidate cp.candidate cq.candidate;
        safe = secure-as d w r p (mix-same t)
            (mix-unexposed (same-services d p q t) (secure-unexposed d p cp.safe) (secure-unexposed d q cq.safe)) cp.safe;
      },
      mix-same t,
    )
