-- The tables of an admitted description are tables of it: what the walk sees over them holds for the description.
use Prim.Native.Nat.{ℕ, ◌-◌, ◌<◌}
use native.Mathlib.Nat.{suc_inj}
use native.Mathlib.Omega.{arith}
use mathlib.Core.Path.{◌≡◌, refl, sym, ap, subst, ◌∙◌}
use mathlib.Core.Bool.{true, not, ◌&&◌, ◌||◌}
use mathlib.Core.List.Memᴰ
use mathlib.Core.List.{List, [], ◌∷◌, ◌++◌, foldl, Memᴰ}
use mathlib.Core.Option.{Option, none, some}
use Rattle.std.specs.Prelude.{None, Some}
use Rattle.std.specs.Prelude.{Option as Maybe}
use lib.Dec.{ltb, eqb}
use borrow.Author.Tests.{ne_eqb}
use lib.ListN.{length, get_or, replicate, length-map}
use Rattle.sequences.specs.Lists.{before}
use Rattle.sequences.proofs.Members.{keep-members}
use Rattle.sequences.proofs.Orders.{before-irreflexive}
use Rattle.description.specs.Declarations.{Description}
use Rattle.description.specs.Invariants.{WellFormed, Bounded}
use Rattle.security.specs.Accepted.{Admitted}
use Rattle.security.specs.Soundness.{candidates, count}
use Rattle.security.specs.Placements.{unexposed, secure}
use Rattle.security.proofs.Accepted.{admitted-bounded}
use Rattle.security.proofs.Candidates.{count-is-length}
use Rattle.costs.specs.Cost.{bill_of, cost}
use Rattle.costs.specs.Terms.{weight_of}
use Rattle.costs.proofs.CostBound.{bounded-cost}
use Rattle.costs.proofs.Weights.{weight-class, weight-cost}
use Rattle.packing.specs.Packing.{pack, digits}
use Rattle.packing.proofs.Digits.{pack-before, digits-pack}
use Rattle.weights.specs.Weights.{cost_limit, class_of}
use Rattle.visit.specs.declared.Met.{Met}
use Rattle.visit.specs.declared.counts.Count.{Count}
use Rattle.visit.specs.declared.draws.Draw.{Draw}
use Rattle.visit.specs.Tables.{Tests, weight, tests_of}
use Rattle.visit.specs.Visits.{counted, to_count, drawn, to_draw, found}
use Rattle.visit.specs.Visits.{earlier as earlier_walk}
use Rattle.visit.proofs.Drawing.{Best}
use Rattle.visit.proofs.Drawing.{met as weighed}
use Rattle.walk.specs.Walking.{see_at}
use Rattle.walk.proofs.Whole.{seen-in-turn}
use Rattle.security.specs.Masks.{padded}
use Rattle.table_entries.specs.Building.{tables_of}
use Rattle.table_entries.proofs.Built.{weights, placements-are, placement-there}
use Rattle.table_entries.proofs.Conflicting.{apart-is}
use Rattle.table_entries.proofs.RowTest.{tests_same}
use Rattle.survey.specs.declared.Row.{Row}
use Rattle.survey.specs.declared.Cursor.{Cursor}
use Rattle.survey.specs.Answers.{figures_of}
use Rattle.survey.specs.Joining.{Joined, met}
use Rattle.survey.specs.Rows.{census, secure_placements, earlier, row_of, later, draw}
use Rattle.survey.specs.Surveys.{seen_of, Asks}
use Rattle.survey.proofs.Counting.{census-candidates}
use Rattle.survey.proofs.Standing.{stands-by-exchanges}
use Rattle.survey.proofs.Walked.{sees-16, sees-17, sees-apart, sees-secure, sees-options, draws}

pub joined : (d : Description) → Admitted d → Joined d (tables_of d)
unfolding secure_placements
joined d a = record {
  candidates_are = placements-are d w;
  sized = λ q m. (placement-there d w q m).0;
  low = placement-low;
  class_is = λ q m. ap class_of (weighs q m) ∙ weight-class d (padded d q) bounded;
  cost_is = λ q m h. weighs q m ∙ weight-cost d (padded d q) bounded h;
  apart_is = λ q m. apart-is d w q (candidate-member q m);
  stands_is = λ q m h.
      tests_same d w q (placement-there d w q m).1 (placement-there d w q m).2 ∙
      sym (stands-by-exchanges d w (padded d q) (secure-member q m h));
}
  where
    w : WellFormed d
    w = a.well_formed

    bounded : Bounded d
    bounded = admitted-bounded a

    placement-low : (q : List ℕ) → Memᴰ q (met d (tables_of d)) → (b : ℕ) → get_or q b 0 < 8
    placement-low q m b = omega (arith, (placement-there d w q m).1 b, w.limits.clouds)

    weighs : (q : List ℕ) → Memᴰ q (met d (tables_of d)) → weight (tables_of d) (length d.blocks) q ≡ weight_of d (padded d q)
    weighs q m = weights d w q (placement-there d w q m).1

    candidate-member : (q : List ℕ) → Memᴰ q (met d (tables_of d)) → Memᴰ (padded d q) (candidates d)
    candidate-member q m = subst (λ l. Memᴰ (padded d q) l) (placements-are d w) (Memᴰ.map (padded d) m)

    secure-member : (q : List ℕ) → Memᴰ q (met d (tables_of d)) → secure d (padded d q) ≡ true → Memᴰ (padded d q) (secure_placements d)
    secure-member q m h = (keep-members (secure d) (candidates d) (padded d q)).1 (candidate-member q m, h)

-- appending the same to both lists changes nothing
before-behind : (q u z : List ℕ) → length q ≡ length u → before (q ++ z) (u ++ z) ≡ before q u
before-behind [] [] z e = before-irreflexive z
before-behind [] (y ∷ u) z e = absurd (omega arith)
before-behind (x ∷ q) [] z e = absurd (omega arith)
before-behind (x ∷ q) (y ∷ u) z e = ap (λ b. ltb x y || (eqb x y && b)) (before-behind q u z (suc_inj e))

-- with no candidates there is nothing to see, and nothing to keep
none-met : (d : Description) → WellFormed d → count d ≡ 0 → met d (tables_of d) ≡ []
none-met d w e = go (met d (tables_of d)) (sym (length-map (met d (tables_of d)) (padded d)) ∙ ap length (placements-are d w) ∙ count-is-length d ∙ e)
  where
    go : (l : List (List ℕ)) → length l ≡ 0 → l ≡ []
    go [] z = refl
    go (q ∷ l) z = absurd (omega arith)

pub none_seen : {V : Type 0} (see : (weight place : ℕ) → Tests → V → V) (d : Description) → WellFormed d → count d ≡ 0 → (v : V) → seen_of see d v ≡ v
none_seen see d w e v =
    seen-in-turn see (tables_of d) (length d.blocks) v ∙ ap (foldl (see_at see (tables_of d) (length d.blocks)) v) (none-met d w e)

-- the walk's numbers order placements as their bytes do
pub ordered : (d : Description) → Joined d (tables_of d) → (q u : List ℕ) → Memᴰ q (met d (tables_of d)) → Memᴰ u (met d (tables_of d))
    → before (padded d q) (padded d u) ≡ ltb (pack q) (pack u)
ordered d j q u m k =
    before-behind q u (replicate (16 - length d.blocks) 0) (j.sized q m ∙ sym (j.sized u k)) ∙
    sym (pack-before q u (j.sized q m ∙ sym (j.sized u k)) (j.low q m) (j.low u k))

-- ---- the census

-- what was counted is the census
pub record Sees (d : Description) (c : Count) : Type 0 where
  pub sixteen : c.breaks_first ≡ (census d).breaking16
  pub seventeen : c.breaks_second ≡ (census d).breaking17only
  pub apart : c.clashes ≡ (census d).apartonly
  pub secure : c.secure ≡ (census d).secure
  pub options : c.rows ≡ (census d).options

pub counted-by : (d : Description) → Admitted d → Sees d (seen_of counted d to_count)
counted-by d a =
    let j = joined d a in
    let t = tables_of d in
    record {
      sixteen = sees-16 d t j;
      seventeen = sees-17 d t j;
      apart = sees-apart d t j;
      secure = sees-secure d t j;
      options = sees-options d t j;
    }

pub census-is : (d : Description) (candidates : ℕ) (c : Count) → candidates ≡ count d → Sees d c
    → figures_of (record {
      candidates = candidates;
      breaking16 = c.breaks_first;
      breaking17only = c.breaks_second;
      apartonly = c.clashes;
      secure = c.secure;
      options = c.rows;
    }) ≡ census d
census-is d candidates c e h =
    let all : candidates ≡ (census d).candidates = e ∙ sym (census-candidates d) in
    λ i. record {
      candidates = all i;
      breaking16 = h.sixteen i;
      breaking17only = h.seventeen i;
      apartonly = h.apart i;
      secure = h.secure i;
      options = h.options i;
    }

-- ---- the draw

-- what was kept: the row of a placement that was met, packed, or none
abbrev pub KeptRow : Description → Option Row → Maybe Met → Type 0
KeptRow d none best = best ≡ None
KeptRow d (some row) best =
    (q : List ℕ) × (length q ≡ length d.blocks) × ((i : ℕ) → get_or q i 0 < 8) × (row_of d (padded d q) ≡ row) × (best ≡ Some (weighed row.cost (pack q)))

pub kept_by : (d : Description) → Admitted d → (c : Cursor) (asked : Draw) → Asks c (length d.blocks) asked
    → KeptRow d (draw d c) (found (seen_of drawn d asked))
kept_by d a c asked h =
    subst (λ x. KeptRow d (draw d c) (found (seen_of drawn d x))) (sym h.asked)
    (go (draw d c) (draws d (tables_of d) j c h.floor h.place (ordered d j) floor).best)
  where
    j : Joined d (tables_of d)
    j = joined d a

    told : Met → Maybe Met
    told b = found (record { floor = weighed h.floor h.place; best = b })

    floor : (q : List ℕ) → Memᴰ q (met d (tables_of d))
        → later c (row_of d (padded d q)) ≡ not (earlier_walk (cost d (padded d q)) (pack q) h.floor h.place)
    floor q m = h.past (cost d (padded d q)) q (j.sized q m) (j.low q m)

    go : (o : Option Row) → Best earlier (later c) (λ q. row_of d (padded d q)) (λ x. x.cost) (λ q. weight (tables_of d) (length d.blocks) q) pack
        (tests_of (tables_of d) (length d.blocks)) (λ q. unexposed d (padded d q)) h.floor h.place (met d (tables_of d))
        (seen_of drawn d (to_draw h.floor h.place)).best o
        → KeptRow d o (found (seen_of drawn d (to_draw h.floor h.place)))
    go none e = ap told e
    go (some row) (q, m, safe, same, e) =
        let low = bounded-cost d (padded d q) (admitted-bounded a) in
        let is : told (weighed (cost d (padded d q)) (pack q)) ≡ Some (weighed (cost d (padded d q)) (pack q)) =
        rw (ne_eqb (cost d (padded d q)) cost_limit (λ z. omega arith)) in
        (q, j.sized q m, j.low q m, same, ap told e ∙ is ∙ ap (λ x. Some (weighed x.cost (pack q))) same)

module _ (d : Description) (o : Option Row) where
  pub none_kept : KeptRow d o None → o ≡ none
  none_kept k = go o k
    where
      go : (o : Option Row) → KeptRow d o None → o ≡ none
      go none k = refl
      go (some row) (q, size, low, same, e) = cc

  -- the kept cost is that of the kept placement, and the row is theirs
  pub some-kept : (best : Met) → KeptRow d o (Some best) → (bytes : List ℕ)
      → bytes ≡ digits (length d.blocks) best.place ++ replicate (16 - length d.blocks) 0
      → (best.weight ≡ cost d bytes) × (o ≡ some (record { cost = best.weight; placement = bytes; bill = bill_of d bytes }))
  some-kept best k bytes e = go o k
    where
      go : (o : Option Row) → KeptRow d o (Some best)
          → (best.weight ≡ cost d bytes) × (o ≡ some (record { cost = best.weight; placement = bytes; bill = bill_of d bytes }))
      go none k = cc
      go (some row) (q, size, low, same, kept) =
          let behind : List ℕ → List ℕ = λ x. x ++ replicate (16 - length d.blocks) 0 in
          let price : best.weight ≡ row.cost = cc in
          let packed : best.place ≡ pack q = cc in
          let shown : bytes ≡ padded d q =
          e ∙ ap (λ x. behind (digits (length d.blocks) x)) packed ∙ ap behind (digits-pack (length d.blocks) q size low) in (
            price ∙ sym (ap (λ x. x.cost) same) ∙ ap (cost d) (sym shown),
            ap some (λ i. record {
              cost = sym price i;
              placement = (sym (ap (λ x. x.placement) same) ∙ sym shown) i;
              bill = (sym (ap (λ x. x.bill) same) ∙ ap (bill_of d) (sym shown)) i;
            }),
          )
