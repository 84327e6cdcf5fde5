-- Read gives exactly what the scope's rules say: the description, or the first of refusals 1 to 12. Each search of the definition finds
-- what breaks a plain rule. Later searches refuse only with higher numbers, so the number of a refusal says which search gave it.
use Prim.Native.Nat.{ℕ, ◌≤◌, ◌<◌}
use native.Mathlib.Omega.{arith}
use mathlib.Core.Path.{◌≡◌, refl, sym, ap, subst, ◌∙◌}
use mathlib.Core.Logic.Iff
use mathlib.Core.Logic.{◌↔◌, inl, inr}
use mathlib.Core.Bool.{Bool, true, false, not, ◌&&◌, cond, true≢false, false≢true}
use mathlib.Core.List.{List}
use mathlib.Core.Option.{Option, none, some, some-ne-none}
use lib.Dec.{ltb}
use lib.ListN.{length, get_or}
use borrow.Author.Tests.{ltb-true, not-false}
use Rattle.description.specs.declared.workflow.Kind.{Kind}
use Rattle.description.specs.declared.workflow.Kind.TheVariants.{Datum, Service}
use Rattle.description.specs.declared.workflow.Way.TheVariants.{Reads, Writes}
use Rattle.description.specs.Declarations.{Description, block, edge, no_block, no_edge, is_datum, names_block}
use Rattle.description.specs.Invariants.{WellFormed}
use Rattle.decoding.specs.Bytes.{deciding_bytes}
use Rattle.decoding.specs.Commands.{Meets}
use Rattle.decoding.specs.Format.{decode}
use Rattle.decoding.proofs.Limits.{decoded-well_formed}
use Rattle.decoding.proofs.Refusals.{decode-within}
use Rattle.decoding.proofs.Written.{decodes-exactly}
use Rattle.labels.specs.Labels.{Covers, covers}
use Rattle.labels.proofs.Covering.{covers-is}
use Rattle.security.specs.Lawful.{Rule2, Rule3, Rule4, AllKept, FirstBroken, Keeps2, Keeps3, Keeps4, Candidates, Few, Many, Lawful}
use Rattle.security.specs.Soundness.{clearance_of, breaks2_kind, breaks2, breaks3, breaks4, candidates, count, too_many, sound, read}
use Rattle.security.proofs.Accepted.{accepted}
use Rattle.security.proofs.Candidates.{candidates-placed, candidates-once, count-is-length}
use Rattle.security.proofs.Deciding.{same_way_lem}
use Rattle.security.proofs.Sound.{read-refused, read-decoded, breaks-rule2, breaks-rule3, breaks-rule4, too_many_lem, keeps-all}
use Rattle.sequences.specs.Lists.{first}
use Rattle.sequences.specs.Results.{Result, ok, refused, unless, RefusalWithin}
use Rattle.sequences.proofs.Distinct.{once-fewer}
use Rattle.sequences.proofs.Equality.{same-decides}
use Rattle.sequences.proofs.First.{first_some, first-none}
use Rattle.sequences.proofs.Results.{and_then-refused, unless-here, unless-later, ok-not-refused}
use Rattle.sequences.proofs.Tests.{both-pass, not-failed}

-- ---- a search and a rule

-- A test that fails exactly if an element keeps the rule: nothing is found if all keep it, and what is found is the first that breaks
-- it.
module _ {A : Type 0} (test : A → Bool) (default : A) (xs : List A) (rule : ℕ → Type 0)
    (keeps : (i : ℕ) → i < length xs → (test (get_or xs i default) ≡ false) ↔ rule i) where
  all-kept : (first test xs ≡ none) ↔ AllKept rule (length xs)
  all-kept = (
    λ e i h. (keeps i h).0 ((first-none test default xs).0 e i h),
    λ k. (first-none test default xs).1 (λ i h. (keeps i h).1 (k i h)),
  )

  first-broken : (n : ℕ) → (first test xs ≡ some n) ↔ FirstBroken rule (length xs) n
  first-broken n = (
    λ e.
        let (h, t, f) = (first_some test default xs n).0 e in
        record { there = h; broken = λ r. true≢false (sym t ∙ (keeps n h).1 r); earlier = λ i l. (keeps i (omega arith)).0 (f i l) },
    λ b. (first_some test default xs n).1 (
      b.there,
      not-failed _ (λ f. b.broken ((keeps n b.there).0 f)),
      λ i l. (keeps i (omega (arith, b.there))).1 (b.earlier i l),
    ),
  )

-- an `and` fails exactly if its second part fails whenever its first part passes
implied : {A P : Type 0} (a b : Bool) → (a ≡ true) ↔ A → (b ≡ false) ↔ P → ((a && b) ≡ false) ↔ (A → P)
implied true b g h = (λ f _. h.0 f, λ k. h.1 (k (g.0 refl)))
implied false b g h = (λ _ x. absurd (false≢true (g.1 x)), λ _. refl)

covered : (high low : ℕ) → (not (covers high low) ≡ false) ↔ Covers high low
covered high low = (λ f. (covers-is high low).0 (not-false _ f), λ c. ap not ((covers-is high low).1 c))

-- The clearance of a block, if it is a service, covers a label: by rule 2's test; and by rule 3's, if the block is a service.
abbrev Clears : Kind → ℕ → Type 0
Clears kind label = (clearance units : ℕ) → kind ≡ Service clearance units → Covers clearance label

clears : (kind : Kind) (label : ℕ) → (breaks2_kind label kind ≡ false) ↔ Clears kind label
clears (Datum size longevity) label = (λ _ c u e. absurd (true≢false (ap is_datum e)), λ _. refl)
clears (Service clearance units) label = (
  λ f c u e. let same : clearance ≡ c = cc in rw (← same) ((covered clearance label).0 f),
  λ h. (covered clearance label).1 (h clearance units refl),
)

service-clears : (kind : Kind) (label : ℕ) → not (is_datum kind) ≡ true → (not (covers (clearance_of kind) label) ≡ false) ↔ Clears kind label
service-clears (Datum size longevity) label t = absurd (false≢true t)
service-clears (Service clearance units) label t = clears (Service clearance units) label

-- ---- refusals in the order of their numbers

-- every refusal has a number above n
abbrev Above : ℕ → Result Description → Type 0
Above n r = (number place : ℕ) → r ≡ refused number place → n < number

unless-above : {n : ℕ} (found : Option ℕ) (number : ℕ) (r : Result Description) → n < number → Above number r → Above n (unless found number r)
unless-above none number r h a m place e = omega (arith, a m place e)
unless-above (some q) number r h a m place e = let same : number ≡ m = cc in omega arith

-- if what is tried later refuses only with higher numbers, a refusal with this number comes from this search
above-here : (found : Option ℕ) (number place : ℕ) (r : Result Description) → Above number r
    → unless found number r ≡ refused number place → found ≡ some place
above-here found number place r a = unless-here found number place r (λ e. omega (arith, a number place e))

module _ (d : Description) where
  -- the searches for what breaks rules 2, 3 and 4, and what is tried after 11, after 10 and after 9
  abbrev broken2 : Option ℕ
  broken2 = first breaks2 d.blocks

  abbrev broken3 : Option ℕ
  broken3 = first (breaks3 d) d.edges

  abbrev broken4 : Option ℕ
  broken4 = first (breaks4 d) d.edges

  abbrev from12 : Result Description
  from12 = unless (too_many d) 12 (ok d)

  abbrev from11 : Result Description
  from11 = unless broken4 11 from12

  abbrev from10 : Result Description
  from10 = unless broken3 10 from11

  above12 : Above 12 (ok d)
  above12 number place e = absurd (ok-not-refused e)

  above11 : Above 11 from12
  above11 = unless-above (too_many d) 12 (ok d) (omega arith) above12

  above10 : Above 10 from11
  above10 = unless-above broken4 11 from12 (omega arith) above11

  above9 : Above 9 from10
  above9 = unless-above broken3 10 from11 (omega arith) above10

  above8 : Above 8 (sound d)
  unfolding sound
  above8 = unless-above broken2 9 from10 (omega arith) above9

  refused9-if : (b : ℕ) → (sound d ≡ refused 9 b) ↔ (broken2 ≡ some b)
  unfolding sound
  refused9-if b = (above-here broken2 9 b from10 above9, breaks-rule2 d)

  refused10-if : (n : ℕ) → (sound d ≡ refused 10 n) ↔ ((broken2 ≡ none) × (broken3 ≡ some n))
  unfolding sound
  refused10-if n = (
    λ e. let (none2, e10) = unless-later broken2 9 10 n from10 (omega arith) e in (none2, above-here broken3 10 n from11 above10 e10),
    λ (none2, found). breaks-rule3 d none2 found,
  )

  refused11-if : (n : ℕ) → (sound d ≡ refused 11 n) ↔ ((broken2 ≡ none) × (broken3 ≡ none) × (broken4 ≡ some n))
  unfolding sound
  refused11-if n = (
    λ e.
        let (none2, e10) = unless-later broken2 9 11 n from10 (omega arith) e in
        let (none3, e11) = unless-later broken3 10 11 n from11 (omega arith) e10 in
        (none2, none3, above-here broken4 11 n from12 above11 e11),
    λ (none2, none3, found). breaks-rule4 d none2 none3 found,
  )

  too-many-if : (place : ℕ) → too_many d ≡ some place → (place ≡ 0) × (65536 < count d)
  too-many-if place e = go (ltb 65536 (count d)) refl e
    where
      go : (t : Bool) → ltb 65536 (count d) ≡ t → cond t (some 0) none ≡ some place → (place ≡ 0) × (65536 < count d)
      go true t e = (cc, ltb-true 65536 (count d) t)
      go false t e = absurd (some-ne-none place (sym e))

  refused12-if : (place : ℕ)
      → (sound d ≡ refused 12 place) ↔ ((broken2 ≡ none) × (broken3 ≡ none) × (broken4 ≡ none) × (place ≡ 0) × (65536 < count d))
  unfolding sound
  refused12-if place = (
    λ e.
        let (none2, e10) = unless-later broken2 9 12 place from10 (omega arith) e in
        let (none3, e11) = unless-later broken3 10 12 place from11 (omega arith) e10 in
        let (none4, e12) = unless-later broken4 11 12 place from12 (omega arith) e11 in
        let (start, many) = too-many-if place (above-here (too_many d) 12 place (ok d) above12 e12) in
        (none2, none3, none4, start, many),
    λ (none2, none3, none4, start, many). rw start (too_many_lem d none2 none3 none4 many),
  )

-- ---- the rules of a decoded description

module _ (d : Description) (wf : WellFormed d) where
  keeps2 : (b : ℕ) → b < length d.blocks → (breaks2 (block d b) ≡ false) ↔ Rule2 d b
  unfolding breaks2
  keeps2 b h = clears (block d b).kind (block d b).label

  -- the service of an edge is a service, so its clearance is that of its kind
  keeps3 : (n : ℕ) → n < length d.edges → (breaks3 d (edge d n) ≡ false) ↔ Rule3 d n
  unfolding breaks3
  keeps3 n h =
      let s = (edge d n).service in
      let service = ((both-pass (names_block d s) (not (is_datum (block d s).kind))).0 (wf.service n h)).1 in
      implied _ _ (same_way_lem Reads (edge d n).way) (service-clears (block d s).kind (block d (edge d n).datum).label service)

  keeps4 : (n : ℕ) → n < length d.edges → (breaks4 d (edge d n) ≡ false) ↔ Rule4 d n
  unfolding breaks4
  keeps4 n h = implied _ _ (same_way_lem Writes (edge d n).way) (covered (block d (edge d n).datum).label (block d (edge d n).service).label)

  none2 : (broken2 d ≡ none) ↔ Keeps2 d
  none2 = all-kept breaks2 no_block d.blocks (Rule2 d) keeps2

  found2 : (b : ℕ) → (broken2 d ≡ some b) ↔ FirstBroken (Rule2 d) (length d.blocks) b
  found2 = first-broken breaks2 no_block d.blocks (Rule2 d) keeps2

  none3 : (broken3 d ≡ none) ↔ Keeps3 d
  none3 = all-kept (breaks3 d) no_edge d.edges (Rule3 d) keeps3

  found3 : (n : ℕ) → (broken3 d ≡ some n) ↔ FirstBroken (Rule3 d) (length d.edges) n
  found3 = first-broken (breaks3 d) no_edge d.edges (Rule3 d) keeps3

  none4 : (broken4 d ≡ none) ↔ Keeps4 d
  none4 = all-kept (breaks4 d) no_edge d.edges (Rule4 d) keeps4

  found4 : (n : ℕ) → (broken4 d ≡ some n) ↔ FirstBroken (Rule4 d) (length d.edges) n
  found4 = first-broken (breaks4 d) no_edge d.edges (Rule4 d) keeps4

  -- the candidates that the definition lists are such a list, and no such list is longer
  listed : Candidates d (candidates d)
  listed = record { once = candidates-once d; each = λ p. (candidates-placed d wf.limits.clouds p).0 }

  longest : (ps : List (List ℕ)) → Candidates d ps → length ps ≤ count d
  longest ps c = subst (λ (n : ℕ). length ps ≤ n) (count-is-length d)
      (once-fewer same-decides ps (candidates d) c.once (λ p m. (candidates-placed d wf.limits.clouds p).1 (c.each p m)))

  is-few : (count d ≤ 65536) ↔ Few d
  is-few = (λ h ps c. omega (arith, longest ps c), λ few. omega (arith, few (candidates d) listed, count-is-length d))

  is-many : (65536 < count d) ↔ Many d
  is-many = (λ h. (candidates d, listed, omega (arith, count-is-length d)), λ (ps, c, h). omega (arith, longest ps c))

-- ---- what Read gives

module _ (s : List ℕ) where
  -- decoding refuses with numbers below 9, the rules with numbers above 8
  decode-below : (number place : ℕ) → decode s ≡ refused number place → number ≤ 8
  decode-below number place e = (subst (RefusalWithin 8 deciding_bytes) e (decode-within s)).1

  by-rules : (number place : ℕ) → 8 < number
      → (read s ≡ refused number place) ↔ ((d : Description) × (decode s ≡ ok d) × (sound d ≡ refused number place))
  unfolding read
  by-rules number place h = (
    λ r. elim ((and_then-refused (decode s) sound number place).0 r) [ inl e ↦ absurd (omega (arith, decode-below number place e)) | inr k ↦ k ],
    λ k. (and_then-refused (decode s) sound number place).1 (inr k),
  )

  -- Read accepts exactly what decodes and is lawful.
  pub read-accepts : (d : Description) → (read s ≡ ok d) ↔ ((decode s ≡ ok d) × Lawful d)
  read-accepts d = (
    λ r.
        let a = accepted s d r in
        let wf = decoded-well_formed s d a.decoded in (
          a.decoded,
          record {
            rule2 = (none2 d wf).0 a.rule2;
            rule3 = (none3 d wf).0 a.rule3;
            rule4 = (none4 d wf).0 a.rule4;
            few = (is-few d wf).0 a.few;
          },
        ),
    λ (e, l).
        let wf = decoded-well_formed s d e in
        read-decoded s e
        ∙ keeps-all d ((none2 d wf).1 l.rule2) ((none3 d wf).1 l.rule3) ((none4 d wf).1 l.rule4) ((is-few d wf).1 l.few),
  )

  -- EVERY DESCRIPTION THAT MEETS THE FORMAT AND THE RULES IS ACCEPTED, and no other bytes are.
  pub read-exactly : (d : Description) → (read s ≡ ok d) ↔ (Meets s d × Lawful d)
  read-exactly d = Iff.trans (read-accepts d) (
    λ (e, lawful). ((decodes-exactly s d).0 e, lawful),
    λ (meets, lawful). ((decodes-exactly s d).1 meets, lawful),
  )

  -- 1 to 8 if decoding refuses, and with its number and place.
  pub read-1-8 : (number place : ℕ) → number < 9 → (read s ≡ refused number place) ↔ (decode s ≡ refused number place)
  unfolding read
  read-1-8 number place h = (
    λ r. elim ((and_then-refused (decode s) sound number place).0 r) [
      | inl e ↦ e
      | inr (d, e, t) ↦ absurd (omega (arith, above8 d number place t))
    ],
    read-refused s,
  )

  -- 9 at the lowest block that breaks rule 2.
  pub read-9 : (b : ℕ) → (read s ≡ refused 9 b) ↔ ((d : Description) × (decode s ≡ ok d) × FirstBroken (Rule2 d) (length d.blocks) b)
  read-9 b = Iff.trans (by-rules 9 b (omega arith)) (
    λ (d, e, t). (d, e, (found2 d (decoded-well_formed s d e) b).0 ((refused9-if d b).0 t)),
    λ (d, e, broken). (d, e, (refused9-if d b).1 ((found2 d (decoded-well_formed s d e) b).1 broken)),
  )

  -- 10 if every block keeps rule 2, at the first edge that breaks rule 3.
  pub read-10 : (n : ℕ)
      → (read s ≡ refused 10 n) ↔ ((d : Description) × (decode s ≡ ok d) × Keeps2 d × FirstBroken (Rule3 d) (length d.edges) n)
  read-10 n = Iff.trans (by-rules 10 n (omega arith)) (
    λ (d, e, t).
        let wf = decoded-well_formed s d e in
        let (k2, found) = (refused10-if d n).0 t in
        (d, e, (none2 d wf).0 k2, (found3 d wf n).0 found),
    λ (d, e, k2, broken).
        let wf = decoded-well_formed s d e in
        (d, e, (refused10-if d n).1 ((none2 d wf).1 k2, (found3 d wf n).1 broken)),
  )

  -- 11 if every block keeps rule 2 and every edge rule 3, at the first edge that breaks rule 4.
  pub read-11 : (n : ℕ)
      → (read s ≡ refused 11 n) ↔ ((d : Description) × (decode s ≡ ok d) × Keeps2 d × Keeps3 d × FirstBroken (Rule4 d) (length d.edges) n)
  read-11 n = Iff.trans (by-rules 11 n (omega arith)) (
    λ (d, e, t).
        let wf = decoded-well_formed s d e in
        let (k2, k3, found) = (refused11-if d n).0 t in
        (d, e, (none2 d wf).0 k2, (none3 d wf).0 k3, (found4 d wf n).0 found),
    λ (d, e, k2, k3, broken).
        let wf = decoded-well_formed s d e in
        (d, e, (refused11-if d n).1 ((none2 d wf).1 k2, (none3 d wf).1 k3, (found4 d wf n).1 broken)),
  )

  -- 12, at place 0, if rules 2 to 4 are kept and there are too many candidates.
  pub read-12 : (place : ℕ) → (read s ≡ refused 12 place)
      ↔ ((place ≡ 0) × ((d : Description) × (decode s ≡ ok d) × Keeps2 d × Keeps3 d × Keeps4 d × Many d))
  read-12 place = Iff.trans (by-rules 12 place (omega arith)) (
    λ (d, e, t).
        let wf = decoded-well_formed s d e in
        let (k2, k3, k4, start, many) = (refused12-if d place).0 t in
        (start, (d, e, (none2 d wf).0 k2, (none3 d wf).0 k3, (none4 d wf).0 k4, (is-many d wf).0 many)),
    λ (start, (d, e, k2, k3, k4, many)).
        let wf = decoded-well_formed s d e in
        (d, e, (refused12-if d place).1 ((none2 d wf).1 k2, (none3 d wf).1 k3, (none4 d wf).1 k4, start, (is-many d wf).1 many)),
  )
