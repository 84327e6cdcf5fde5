-- The census counts Judge's answers, its counts add up, and there are as many options as rows.
use Prim.Native.Nat.{ℕ, ◌+◌}
use mathlib.Core.Path.{◌≡◌, refl, sym, ap, ◌∙◌}
use mathlib.Core.Bool.{Bool, true, false, not, ◌&&◌, cond}
use mathlib.Core.List.{List, map}
use lib.Dec.{eqb}
use lib.ListN.{length, length-map}
use Rattle.description.specs.Declarations.{Description}
use Rattle.description.specs.Invariants.{WellFormed}
use Rattle.security.specs.Soundness.{candidates, count}
use Rattle.security.specs.Placements.{judge, broken16, broken17, unexposed, broken_apart, secure}
use Rattle.security.proofs.Candidates.{candidates-placed, count-is-length}
use Rattle.security.proofs.Judging.{judge-number}
use Rattle.options.proofs.Options.{same_option-equivalence}
use Rattle.survey.specs.Rows.{secure_placements, census, earlier, row_of, stands, rows}
use Rattle.survey.proofs.Drawing.{secure-once}
use Rattle.survey.proofs.Standing.{options-stand}
use Rattle.sequences.specs.Lists.{keep}
use Rattle.sequences.specs.Results.{number_of}
use Rattle.sequences.proofs.Agreeing.{keep-agree}
use Rattle.sequences.proofs.Distinct.{distinct-number}
use Rattle.sequences.proofs.Parts.{four-parts}
use Rattle.sequences.proofs.Sorting.{sort-length}

-- ---- by Judge's answers

-- to how many candidates Judge gives this number; 0 for those that it calls secure
abbrev judged_as : Description → ℕ → ℕ
judged_as d n = length (keep (λ p. eqb (number_of (judge d p)) n) (candidates d))

-- Judge's number for a candidate, by what it breaks
abbrev number_by : (a b c : Bool) → ℕ
number_by a b c = cond a 14 (cond b 15 (cond c 17 0))

module _ (d : Description) (w : WellFormed d) where
  -- a test of candidates that matches Judge's number
  judged : (n : ℕ) (test : List ℕ → Bool) → ((p : List ℕ) → test p ≡ eqb (number_by (broken16 d p) (broken17 d p) (broken_apart d p)) n)
      → length (keep test (candidates d)) ≡ judged_as d n
  judged n test h = ap length (keep-agree test (λ p. eqb (number_of (judge d p)) n) (candidates d) (λ p m.
      let (size, placed) = (candidates-placed d w.limits.clouds p).0 m in
      h p ∙ ap (λ (k : ℕ). eqb k n) (sym (judge-number d p placed))))

  -- Breaking 16 are the candidates to which Judge gives 14,
  pub breaking16-judged : (census d).breaking16 ≡ judged_as d 14
  unfolding census
  breaking16-judged = judged 14 (broken16 d) (λ p. go (broken16 d p) (broken17 d p) (broken_apart d p))
    where
      go : (a b c : Bool) → a ≡ eqb (number_by a b c) 14
      go true b c = refl
      go false true c = refl
      go false false true = refl
      go false false false = refl

  -- breaking 17 only are those to which it gives 15,
  pub breaking17only-judged : (census d).breaking17only ≡ judged_as d 15
  unfolding census
  breaking17only-judged = judged 15 (λ p. not (broken16 d p) && broken17 d p) (λ p. go (broken16 d p) (broken17 d p) (broken_apart d p))
    where
      go : (a b c : Bool) → (not a && b) ≡ eqb (number_by a b c) 15
      go true b c = refl
      go false true c = refl
      go false false true = refl
      go false false false = refl

  -- breaking a pair only are those to which it gives 17,
  pub apartonly-judged : (census d).apartonly ≡ judged_as d 17
  unfolding census
  apartonly-judged = judged 17 (λ p. unexposed d p && broken_apart d p) (λ p. go (broken16 d p) (broken17 d p) (broken_apart d p))
    where
      go : (a b c : Bool) → ((not a && not b) && c) ≡ eqb (number_by a b c) 17
      go true b c = refl
      go false true c = refl
      go false false true = refl
      go false false false = refl

  -- and secure are those that it calls secure.
  pub secure-judged : (census d).secure ≡ judged_as d 0
  unfolding census secure_placements
  secure-judged = judged 0 (secure d) (λ p. go (broken16 d p) (broken17 d p) (broken_apart d p))
    where
      go : (a b c : Bool) → ((not a && not b) && not c) ≡ eqb (number_by a b c) 0
      go true b c = refl
      go false true c = refl
      go false false true = refl
      go false false false = refl

-- ---- sums and rows

-- there are as many candidates as the count of choices says
pub census-candidates : (d : Description) → (census d).candidates ≡ count d
unfolding census
census-candidates d = count-is-length d

-- candidates = breaking 16 + breaking 17 only + breaking a pair only + secure
pub census-sum : (d : Description)
    → (census d).candidates ≡ (census d).breaking16 + (census d).breaking17only + (census d).apartonly + (census d).secure
unfolding census secure_placements
census-sum d = four-parts (broken16 d) (broken17 d) (broken_apart d) (candidates d)

-- there are as many rows as placements that represent their options
pub rows-length : (d : Description) → length (rows d) ≡ length (keep (stands d) (secure_placements d))
unfolding rows
rows-length d =
    let standing = keep (stands d) (secure_placements d) in
    sort-length earlier (map (row_of d) standing) ∙ length-map standing (row_of d)

-- so there are as many as different options, since exactly one placement represents each
pub options-number : (d : Description) → length (rows d) ≡ (census d).options
unfolding census
options-number d =
    rows-length d ∙ sym (distinct-number (same_option-equivalence d) (stands d) (secure_placements d) (secure-once d) (options-stand d))
