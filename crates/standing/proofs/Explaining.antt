-- Each number of Standing means what the rules say, and 13 is given at the lowest position that has one.
use Prim.Native.Nat.{ℕ, zero, suc, ◌≤◌, ◌<◌}
use Rattle.std.specs.Prelude.{Some, None}
use Rattle.description.specs.Declarations.{Pin}
use native.Mathlib.Decide.{dec_lt, ℕ_discrete}
use native.Mathlib.Omega.{arith}
use mathlib.Core.Path.{◌≡◌, refl, sym, ap, subst, ◌∙◌}
use mathlib.Core.Logic.{◌↔◌, inl, inr}
use mathlib.Core.Bool.{Bool, true, false, cond, true≢false}
use mathlib.Core.List.{List}
use lib.Dec.{eqb}
use lib.ListN.{length, get_or}
use borrow.Author.Tests.{lt-ltb, le-ltb, eq-eqb, ne_eqb}
use Rattle.description.specs.Declarations.{Description, block, is_pinned}
use Rattle.labels.specs.Labels.{Covers, covers}
use Rattle.labels.proofs.Covering.{covers-is, covers-not}
use Rattle.security.specs.Soundness.{cloud_label, block_label, pin_allows, read}
use Rattle.security.specs.Placements.{judge}
use Rattle.security.specs.Statements.{Good}
use Rattle.security.proofs.Standing.{pin-kept}
use Rattle.security.proofs.Judging.{judge-13}
use Rattle.security.proofs.Refusals.{read-within}
use Rattle.judging.proofs.Judged.{judge_call-is}
use Rattle.decoding.specs.Bytes.{deciding_bytes}
use Rattle.sequences.specs.Results.{Result, ok, refused, and_then, RefusalWithin}
use Rattle.sequences.proofs.Results.{ok-inj, and_then-ok, and_then-refused}
use Rattle.standing.specs.Reasons.{reason_of_block, reason, standing_call}
use Rattle.standing.specs.Statements.{Declared, Explained, Explains13}

-- a pin does not allow a cloud exactly if it is to another one
pin-elsewhere : (pin : Pin) (k : ℕ) → (pin_allows pin k ≡ false) ↔ ((c : ℕ) × (pin ≡ Some c) × (c ≡ k → ⊥))
pin-elsewhere None k = (λ f. absurd (true≢false f), λ (c, e, _). absurd (true≢false (sym (ap is_pinned e))))
pin-elsewhere (Some c) k = (
  λ f. (c, refl, λ e. true≢false (sym (eq-eqb c k e) ∙ f)),
  λ (b, e, other). let same : c ≡ b = cc in ne_eqb c k (λ h. other (sym same ∙ h)),
)

module _ (d : Description) (b k : ℕ) where
  -- ---- the reason that is given holds

  of-pin : Declared d b k → Covers (cloud_label d k) (block_label d b) → Explained d b k (cond (pin_allows (block d b).pin k) 0 3)
  of-pin declared covered = go (pin_allows (block d b).pin k) refl
    where
      go : (t : Bool) → pin_allows (block d b).pin k ≡ t → Explained d b k (cond t 0 3)
      go true t = (
        λ _. record { declared = declared.1; rule7 = covered; pin = (pin-kept (block d b).pin k).0 t },
        λ past. absurd (omega (arith, declared.0, past)),
      )
      go false f = (declared, covered, (pin-elsewhere (block d b).pin k).0 f)

  of-label : Declared d b k
      → Explained d b k (cond (covers (cloud_label d k) (block_label d b)) (cond (pin_allows (block d b).pin k) 0 3) 2)
  of-label declared = go (covers (cloud_label d k) (block_label d b)) refl
    where
      go : (t : Bool) → covers (cloud_label d k) (block_label d b) ≡ t → Explained d b k (cond t (cond (pin_allows (block d b).pin k) 0 3) 2)
      go true t = of-pin declared ((covers-is _ _).0 t)
      go false f = (declared, (covers-not _ _).0 f)

  of-block : b < length d.blocks → Explained d b k (reason_of_block d b k)
  of-block low = elim (dec_lt k (length d.clouds)) [
    | yes named ↦ rw (lt-ltb k (length d.clouds) named) (of-label (low, named))
    | no missing ↦ rw (le-ltb k (length d.clouds) (omega arith)) (low, omega arith)
  ]

  own : Explained d b k (reason d b k)
  unfolding reason
  own = elim (dec_lt b (length d.blocks)) [
    | yes low ↦ rw (lt-ltb b (length d.blocks) low) (of-block low)
    | no past ↦ rw (le-ltb b (length d.blocks) (omega arith)) (beyond (omega arith))
  ]
    where
      beyond : length d.blocks ≤ b → Explained d b k (cond (eqb k 0) 0 4)
      beyond past = elim (ℕ_discrete k 0) [
        | yes e ↦ rw (eq-eqb k 0 e) (λ low. absurd (omega arith), λ _. e)
        | no other ↦ rw (ne_eqb k 0 other) (past, other)
      ]

  -- ---- nothing else is given

  only : (n : ℕ) → Explained d b k n → reason d b k ≡ n
  unfolding reason
  only zero (stands, zeros) = elim (dec_lt b (length d.blocks)) [
    | yes low ↦
        let s = stands low in
        rw (
          lt-ltb b (length d.blocks) low,
          lt-ltb k (length d.clouds) s.declared,
          (covers-is (cloud_label d k) (block_label d b)).1 s.rule7,
          (pin-kept (block d b).pin k).1 s.pin,
        ) refl
    | no past ↦ rw (le-ltb b (length d.blocks) (omega arith), eq-eqb k 0 (zeros (omega arith))) refl
  ]
  only (suc zero) (low, missing) = rw (lt-ltb b (length d.blocks) low, le-ltb k (length d.clouds) missing) refl
  only (suc (suc zero)) ((low, named), uncovered) =
      rw (
        lt-ltb b (length d.blocks) low,
        lt-ltb k (length d.clouds) named,
        (covers-not (cloud_label d k) (block_label d b)).1 uncovered,
      ) refl
  only (suc (suc (suc zero))) ((low, named), covered, elsewhere) =
      rw (
        lt-ltb b (length d.blocks) low,
        lt-ltb k (length d.clouds) named,
        (covers-is (cloud_label d k) (block_label d b)).1 covered,
        (pin-elsewhere (block d b).pin k).1 elsewhere,
      ) refl
  only (suc (suc (suc (suc zero)))) (past, other) = rw (le-ltb b (length d.blocks) past, ne_eqb k 0 other) refl
  only (suc (suc (suc (suc (suc n))))) never = absurd never

  -- EACH NUMBER IS GIVEN EXACTLY IF WHAT IT SAYS IS SO
  pub explains : (n : ℕ) → (reason d b k ≡ n) ↔ Explained d b k n
  explains n = (λ e. subst (Explained d b k) e own, only n)

-- 0 is given exactly to a good position
good-zero : (d : Description) (p : List ℕ) (b : ℕ) → (reason d b (get_or p b 0) ≡ 0) ↔ Good d p b
good-zero d p b = (
  λ e. let (stands, beyond) = (explains d b (get_or p b 0) 0).0 e in record { stands = stands; beyond = beyond },
  λ g. (explains d b (get_or p b 0) 0).1 (g.stands, g.beyond),
)

-- what Standing answers of an accepted description
answered : (s : List ℕ) (d : Description) (b k : ℕ) → read s ≡ ok d → standing_call s b k ≡ ok (reason d b k)
unfolding standing_call
answered s d b k accepted = ap (λ r. and_then r (λ x. ok (reason x b k))) accepted

answered-by : (s : List ℕ) (b k n : ℕ) → standing_call s b k ≡ ok n → (d : Description) × (read s ≡ ok d) × (reason d b k ≡ n)
unfolding standing_call
answered-by s b k n e =
    let (d, accepted, same) = (and_then-ok (read s) (λ x. ok (reason x b k)) n).0 e in
    (d, accepted, ok-inj same)

-- Read gives no 13
never-read : (r : Result Description) (b : ℕ) → RefusalWithin 12 deciding_bytes r → r ≡ refused 13 b → ⊥
never-read r b within e = let (_, low, _) = subst (RefusalWithin 12 deciding_bytes) e within in omega (arith, low)

-- 13 IS AT THE LOWEST POSITION THAT HAS A REASON
pub explains-13 : (s p : List ℕ) → Explains13 s p
explains-13 s p b = (
  λ e.
      elim ((and_then-refused (read s) (λ d. judge d p) 13 b).0 (sym (judge_call-is s p) ∙ e)) [
        | inl first ↦ absurd (never-read (read s) b (read-within s) first)
        | inr (d, accepted, bad) ↦
            let (low, not_good, earlier) = (judge-13 d p b).0 bad in
            let n = reason d b (get_or p b 0) in
            let some : 0 < n = positive n (λ z. not_good ((good-zero d p b).0 z)) in (
              low,
              (n, some, answered s d b (get_or p b 0) accepted),
              λ i h.
                  answered s d i (get_or p i 0) accepted ∙ ap ok ((good-zero d p i).1 (earlier i h)),
            )
      ],
  λ (low, (n, some, tells), earlier).
      let (d, accepted, same) = answered-by s b (get_or p b 0) n tells in
      let bad = (judge-13 d p b).1 (
        low,
        (λ g. absurd (omega (arith, (good-zero d p b).1 g, same, some))),
        λ i h.
            let (x, read-too, none) = answered-by s i (get_or p i 0) 0 (earlier i h) in
            let alike : x ≡ d = ok-inj (sym read-too ∙ accepted) in
            (good-zero d p i).0 (rw (← alike) none),
      ) in
      judge_call-is s p ∙ (and_then-refused (read s) (λ x. judge x p) 13 b).1 (inr (d, accepted, bad)),
)
  where
    positive : (n : ℕ) → (n ≡ 0 → ⊥) → 0 < n
    positive zero h = absurd (h refl)
    positive (suc n) h = omega arith
