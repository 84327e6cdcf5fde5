-- Judging a placement gives exactly what the scope's rules say: secure, or 13, 14, 15 or 17 at its first place.
use Prim.Native.Nat.{ℕ, ◌<◌}
use native.Mathlib.Omega.{arith}
use mathlib.Core.Path.{◌≡◌, refl}
use mathlib.Core.Logic.Iff
use mathlib.Core.Logic.{◌↔◌}
use mathlib.Core.Bool.{true, cond}
use mathlib.Core.List.{List}
use mathlib.Core.Option.{Option, none, some}
use borrow.Author.Tests.{not-true}
use Rattle.description.specs.declared.workflow.Way.TheVariants.{Reads, Writes}
use Rattle.description.specs.Declarations.{Description}
use Rattle.security.specs.Soundness.{positions}
use Rattle.security.specs.Placements.{bad_position, breaks16, breaks17, together, judge, secure, broken16, broken17, broken_apart}
use Rattle.security.specs.Statements.{Good, Placed, AllKeep, FirstBreaks, FirstMeets, Secure}
use Rattle.security.proofs.Deciding.{none-bad, first-bad, none-breaks, first-breaks}
use Rattle.security.proofs.Meeting.{none-meet, first-meets}
use Rattle.sequences.specs.Lists.{any, first}
use Rattle.sequences.specs.Results.{Result, ok, refused, number_of, unless}
use Rattle.sequences.proofs.First.{none_found, some-found}
use Rattle.sequences.proofs.Tests.{both-pass}
use Rattle.sequences.proofs.Results.{unless-ok, unless-here, unless-later, ok-not-refused}

module _ (d : Description) (p : List ℕ) where
  -- the first bad position, the first edges that break rules 16 and 17, and the first broken pair
  abbrev bad : Option ℕ
  bad = first (bad_position d p) positions

  abbrev first16 : Option ℕ
  first16 = first (breaks16 d p) d.edges

  abbrev first17 : Option ℕ
  first17 = first (breaks17 d p) d.edges

  abbrev first_pair : Option ℕ
  first_pair = first (together d p) d.pairs

  -- what is tried after 15, after 14, and after 13
  abbrev from17 : Result (Unit {0})
  from17 = unless first_pair 17 (ok tt)

  abbrev from15 : Result (Unit {0})
  from15 = unless first17 15 from17

  abbrev from14 : Result (Unit {0})
  from14 = unless first16 14 from15

  -- each rule is looked for only if those before it are kept
  tells-15 : (n : ℕ) → bad ≡ none → first16 ≡ none → first17 ≡ some n → judge d p ≡ refused 15 n
  unfolding judge
  tells-15 n none13 none14 found = rw (none13, none14, found) refl

  tells-14 : (n : ℕ) → bad ≡ none → first16 ≡ some n → judge d p ≡ refused 14 n
  unfolding judge
  tells-14 n none13 found = rw (none13, found) refl

  -- in terms of the four searches
  secure-if : (judge d p ≡ ok tt) ↔ ((bad ≡ none) × (first16 ≡ none) × (first17 ≡ none) × (first_pair ≡ none))
  unfolding judge
  secure-if = (
    λ e.
        let (none13, e14) = (unless-ok bad 13 from14 tt).0 e in
        let (none14, e15) = (unless-ok first16 14 from15 tt).0 e14 in
        let (none15, e17) = (unless-ok first17 15 from17 tt).0 e15 in
        (none13, none14, none15, ((unless-ok first_pair 17 (ok tt) tt).0 e17).0),
    λ (none13, none14, none15, none17). rw (none13, none14, none15, none17) refl,
  )

  refused13-if : (b : ℕ) → (judge d p ≡ refused 13 b) ↔ (bad ≡ some b)
  unfolding judge
  refused13-if b = (
    unless-here bad 13 b from14 (λ e.
        let (none14, e15) = unless-later first16 14 13 b from15 (omega arith) e in
        let (none15, e17) = unless-later first17 15 13 b from17 (omega arith) e15 in
        ok-not-refused (unless-later first_pair 17 13 b (ok tt) (omega arith) e17).1),
    λ found. rw found refl,
  )

  refused14-if : (n : ℕ) → (judge d p ≡ refused 14 n) ↔ ((bad ≡ none) × (first16 ≡ some n))
  unfolding judge
  refused14-if n = (
    λ e.
        let (none13, e14) = unless-later bad 13 14 n from14 (omega arith) e in (
          none13,
          unless-here first16 14 n from15 (λ h.
              let (none15, e17) = unless-later first17 15 14 n from17 (omega arith) h in
              ok-not-refused (unless-later first_pair 17 14 n (ok tt) (omega arith) e17).1) e14,
        ),
    λ (none13, found). tells-14 n none13 found,
  )

  refused15-if : (n : ℕ) → (judge d p ≡ refused 15 n) ↔ ((bad ≡ none) × (first16 ≡ none) × (first17 ≡ some n))
  unfolding judge
  refused15-if n = (
    λ e.
        let (none13, e14) = unless-later bad 13 15 n from14 (omega arith) e in
        let (none14, e15) = unless-later first16 14 15 n from15 (omega arith) e14 in
        (none13, none14, unless-here first17 15 n from17 (λ h. ok-not-refused (unless-later first_pair 17 15 n (ok tt) (omega arith) h).1) e15),
    λ (none13, none14, found). tells-15 n none13 none14 found,
  )

  refused17-if : (n : ℕ) → (judge d p ≡ refused 17 n) ↔ ((bad ≡ none) × (first16 ≡ none) × (first17 ≡ none) × (first_pair ≡ some n))
  unfolding judge
  refused17-if n = (
    λ e.
        let (none13, e14) = unless-later bad 13 17 n from14 (omega arith) e in
        let (none14, e15) = unless-later first16 14 17 n from15 (omega arith) e14 in
        let (none15, e17) = unless-later first17 15 17 n from17 (omega arith) e15 in
        (none13, none14, none15, unless-here first_pair 17 n (ok tt) ok-not-refused e17),
    λ (none13, none14, none15, found). rw (none13, none14, none15, found) refl,
  )

  -- Judge says secure exactly if the placement is secure by the rules.
  pub judge-secure : (judge d p ≡ ok tt) ↔ Secure d p
  unfolding breaks16 breaks17
  judge-secure = (
    λ e.
        let (none13, none14, none15, none17) = secure-if.0 e in
        record {
          placed = (none-bad d p).0 none13;
          rule16 = (none-breaks Reads d p).0 none14;
          rule17 = (none-breaks Writes d p).0 none15;
          apart = (none-meet d p).0 none17;
        },
    λ s. secure-if.1
        ((none-bad d p).1 s.placed, (none-breaks Reads d p).1 s.rule16, (none-breaks Writes d p).1 s.rule17, (none-meet d p).1 s.apart),
  )

  -- In terms of the tests of a candidate: no position is bad, and it passes `secure`.
  pub judge-candidate : (judge d p ≡ ok tt) ↔ (Placed d p × (secure d p ≡ true))
  unfolding broken_apart
  judge-candidate = (
    λ e.
        let (none13, none14, none15, none17) = secure-if.0 e in
        let keeps16 = (none_found (breaks16 d p) d.edges).0 none14 in
        let keeps17 = (none_found (breaks17 d p) d.edges).0 none15 in
        let apart = (none_found (together d p) d.pairs).0 none17 in
        ((none-bad d p).0 none13, rw (keeps16, keeps17, apart) refl),
    λ (placed, safe).
        let (keeps, apart) = (both-pass _ _).0 safe in
        let (keeps16, keeps17) = (both-pass _ _).0 keeps in
        secure-if.1 (
          (none-bad d p).1 placed,
          (none_found (breaks16 d p) d.edges).1 (not-true _ keeps16),
          (none_found (breaks17 d p) d.edges).1 (not-true _ keeps17),
          (none_found (together d p) d.pairs).1 (not-true _ apart),
        ),
  )

  -- If no position is bad, Judge's number is 14 if rule 16 is broken, otherwise 15 if rule 17 is broken, otherwise 17 if a pair is
  -- broken, otherwise 0: it is secure.
  pub judge-number : Placed d p → number_of (judge d p) ≡ cond (broken16 d p) 14 (cond (broken17 d p) 15 (cond (broken_apart d p) 17 0))
  unfolding judge broken_apart
  judge-number placed = rw ((none-bad d p).1 placed) (go first16 first17 first_pair refl refl refl)
    where
      go : (o16 o17 o_pair : Option ℕ) → first16 ≡ o16 → first17 ≡ o17 → first_pair ≡ o_pair
          → number_of (unless o16 14 (unless o17 15 (unless o_pair 17 (ok (tt {0}))))) ≡
          cond (broken16 d p) 14 (cond (broken17 d p) 15 (cond (any (together d p) d.pairs) 17 0))
      go (some n) o17 o_pair e f g = rw (some-found (breaks16 d p) d.edges n e) refl
      go none (some n) o_pair e f g = rw ((none_found (breaks16 d p) d.edges).0 e, some-found (breaks17 d p) d.edges n f) refl
      go none none (some n) e f g = rw (
        (none_found (breaks16 d p) d.edges).0 e,
        (none_found (breaks17 d p) d.edges).0 f,
        some-found (together d p) d.pairs n g,
      ) refl
      go none none none e f g = rw (
        (none_found (breaks16 d p) d.edges).0 e,
        (none_found (breaks17 d p) d.edges).0 f,
        (none_found (together d p) d.pairs).0 g,
      ) refl

  -- 13 at the lowest bad position.
  pub judge-13 : (b : ℕ) → (judge d p ≡ refused 13 b) ↔ ((b < 16) × (Good d p b → ⊥) × ((i : ℕ) → i < b → Good d p i))
  judge-13 b = Iff.trans (refused13-if b) (first-bad d p b)

  -- 14 if no position is bad, at the first edge that breaks rule 16.
  pub judge-14 : (n : ℕ) → (judge d p ≡ refused 14 n) ↔ (Placed d p × FirstBreaks Reads d p n)
  unfolding breaks16
  judge-14 n = Iff.trans (refused14-if n) (Iff.and (none-bad d p) (first-breaks Reads d p n))

  -- 15 if no position is bad and every edge keeps rule 16, at the first edge that breaks rule 17.
  pub judge-15 : (n : ℕ) → (judge d p ≡ refused 15 n) ↔ (Placed d p × AllKeep Reads d p × FirstBreaks Writes d p n)
  unfolding breaks16 breaks17
  judge-15 n = Iff.trans (refused15-if n) (
    λ (none13, none14, found). ((none-bad d p).0 none13, (none-breaks Reads d p).0 none14, (first-breaks Writes d p n).0 found),
    λ (placed, keep16, broken). ((none-bad d p).1 placed, (none-breaks Reads d p).1 keep16, (first-breaks Writes d p n).1 broken),
  )

  -- 17 if no position is bad and every edge keeps rules 16 and 17, at the first pair whose data meet.
  pub judge-17 : (n : ℕ) → (judge d p ≡ refused 17 n) ↔ (Placed d p × AllKeep Reads d p × AllKeep Writes d p × FirstMeets d p n)
  unfolding breaks16 breaks17
  judge-17 n = Iff.trans (refused17-if n) (
    λ (none13, none14, none15, found).
        ((none-bad d p).0 none13, (none-breaks Reads d p).0 none14, (none-breaks Writes d p).0 none15, (first-meets d p n).0 found),
    λ (placed, keep16, keep17, broken).
        ((none-bad d p).1 placed, (none-breaks Reads d p).1 keep16, (none-breaks Writes d p).1 keep17, (first-meets d p n).1 broken),
  )

  -- A placement never gets 13 exactly if every position is good.
  pub never-13 : ((place : ℕ) → judge d p ≡ refused 13 place → ⊥) ↔ Placed d p
  never-13 = (
    λ never. (none-bad d p).0 (go bad refl never),
    λ placed place e. let (low, not-Good, _) = (judge-13 place).0 e in not-Good (placed place low),
  )
    where
      go : (found : Option ℕ) → bad ≡ found → ((place : ℕ) → judge d p ≡ refused 13 place → ⊥) → bad ≡ none
      go none e never = e
      go (some place) e never = absurd (never place ((refused13-if place).1 e))
