-- What the walk does at a prefix: a visit if it is complete, otherwise a turn for each cloud.
use Prim.Native.Nat.{ℕ, suc, ◌+◌, ◌-◌, ◌*◌, ◌^◌, ◌≤◌, ◌<◌}
use native.Mathlib.Nat.{pow-suc, pow-le-pow_right, suc-mul, mul-le-mul_right}
use native.Mathlib.Numerals.{add-one}
use native.Mathlib.Omega.{arith}
use mathlib.Core.Path.{◌≡◌, refl, sym, ap, ◌∙◌}
use mathlib.Core.List.{List, [], ◌∷◌, ◌++◌, append-nil, append_assoc, foldl-append, map-map, Memᴰ}
use mathlib.Core.List.Memᴰ
use lib.ListN.{length}
use Rattle.sequences.specs.Bits.{bit, set_bits}
use Rattle.sequences.specs.Lists.{below, sequences}
use Rattle.sequences.proofs.Counting.{length-below}
use Rattle.sequences.proofs.Numbers.{kept-most}
use Rattle.sequences.proofs.Members.{keep-members, below-members}
use Rattle.packing.specs.Packing.{digits}
use Rattle.packing.proofs.Digits.{digits-none, digits-length, digits-snoc, pack-digits}
use Rattle.visit.specs.declared.Met.{Met}
use Rattle.visit.specs.declared.tables.Tables.{Tables}
use Rattle.visit.specs.Lent.{table_in, tests_in}
use Rattle.visit.specs.Tables.{Tests, Ready, mask, weight, placements, tests_of}
use Rattle.visit.specs.Visits.{counter_count}
use Rattle.visit.proofs.Defined.{placements-of, weight-of}
use Rattle.walk.specs.Walking.{see_at, see_all}
use Rattle.walk.specs.Turning.{Carried, Room, completions, branches, see_these, Under, Walked}
use Rattle.walk.proofs.Branches.{branches-more, branches-all, branch-open, completions-all, completions-none}

-- ---- what is counted

room-all : (n left : ℕ) → n ≤ 8 → 0 < left → n * (counter_count * 8 ^ (left - 1)) ≤ counter_count * 8 ^ left
room-all n left h l =
    let k : suc (left - 1) ≡ left = omega arith in
    omega (arith, mul-le-mul_right (counter_count * 8 ^ (left - 1)) h, pow-suc 8 (left - 1), ap (λ x. 8 ^ x) k)

pub room-blocks : (n : ℕ) → n ≤ 16 → 8 ^ n ≤ 2 ^ 48
room-blocks n h = omega (arith, pow-le-pow_right {n = 8} (omega arith) {i = n} {j = 16} h)

module _ (S : Tables) where
  pub under_none : Ready (table_in S) S.blocks → Under S (S.blocks - S.blocks) S.blocks (record { weight = 0; place = 0 })
  under_none ready =
      let k : S.blocks - S.blocks ≡ 0 = omega arith in
      rw k (record { ready = ready; sized = omega arith; low = omega arith; carried = rw (weight-of (table_in S) 0 (digits 0 0), ready.none) })

  pub under_next : (left c : ℕ) (met next : Met) → 0 < left → c < 8 → Under S (S.blocks - left) left met → next.place ≡ met.place * 8 + c
      → Carried S (S.blocks - left + 1) next → Under S (S.blocks - (left - 1)) (left - 1) next
  under_next left c met next l h u e more =
      let k : S.blocks - (left - 1) ≡ S.blocks - left + 1 = omega (arith, u.sized) in
      record {
        ready = u.ready;
        sized = omega (arith, u.sized);
        low = rw (k, add-one (S.blocks - left)) (omega (arith, u.low, pow-suc 8 (S.blocks - left)));
        carried = rw k more;
      }

  -- one more cloud at the end of a prefix
  opened : (n k place c : ℕ) → c < 8 → branches S n (digits k place) (c ∷ []) ≡ completions S n (digits (suc k) (place * 8 + c))
  opened n k place c d = branch-open S n (digits k place) c ∙ ap (completions S n) (sym (digits-snoc k place c d))

module _ (S : Tables) {V : Type 0} (see : (weight place : ℕ) → Tests → V → V) (tally : V → ℕ) where
  -- a placement adds at most one to each counter
  abbrev CountsFew : Type 0
  CountsFew = (w p : ℕ) (t : Tests) (v : V) → tally (see w p t v) ≤ tally v + counter_count

  -- ---- the loop over the set bits of a mask

  one_more : (s b r : V) (done : List ℕ) (c n : ℕ) (q : List ℕ) → b ≡ see_these S see tally s (branches S n q done)
      → r ≡ see_these S see tally b (branches S n q (c ∷ [])) → r ≡ see_these S see tally s (branches S n q (done ++ (c ∷ [])))
  unfolding see_these
  one_more s b r done c n q e h =
      h ∙ ap (λ x. see_these S see tally x (branches S n q (c ∷ []))) e
      ∙ sym (foldl-append (see_at see (table_in S) S.blocks) s (branches S n q done) (branches S n q (c ∷ [])))
      ∙ ap (see_these S see tally s) (sym (branches-more S n q done c))

  -- What the loop keeps, with `left` blocks after the prefix: starting from s, the clouds `done` had their turns, those of `rest` are still
  -- to come, and v is the state reached.
  pub record Going (left place : ℕ) (done rest : List ℕ) (s v : V) : Type 0 where
    pub all : set_bits (mask (table_in S) (S.blocks - left)) ≡ done ++ rest
    pub seen : v ≡ see_these S see tally s (branches S (left - 1) (digits (S.blocks - left) place) done)
    pub room : tally v + length rest * (counter_count * 8 ^ (left - 1)) ≤ tally s + counter_count * 8 ^ left

  module _ (left place : ℕ) (some : 0 < left) (s : V) where
    abbrev prefix : List ℕ
    prefix = digits (S.blocks - left) place

    abbrev size : ℕ
    size = counter_count * 8 ^ (left - 1)

    pub going-begins : Going left place [] (set_bits (mask (table_in S) (S.blocks - left))) s s
    unfolding see_these branches
    going-begins =
        let m = mask (table_in S) (S.blocks - left) in
        let few : length (set_bits m) ≤ 8 = omega (arith, kept-most (bit m) (below 8), length-below 8) in
        record { all = refl; seen = refl; room = omega (arith, room-all (length (set_bits m)) left few some) }

    module _ (c : ℕ) (done rest : List ℕ) {v : V} (g : Going left place done (c ∷ rest) s v) where
      -- a turn uses up the room of one bit
      fewer : length (c ∷ rest) * size ≡ length rest * size + size
      fewer = suc-mul (length rest) size

      pub going-low : c < 8
      going-low =
          let m = mask (table_in S) (S.blocks - left) in
          (below-members 8 c).0 ((keep-members (bit m) (below 8) c).0 (rw g.all (Memᴰ.append_right done (Memᴰ.head refl)))).0

      pub going-room : Room left (tally s) → Room (left - 1) (tally v)
      going-room enough = omega (arith, enough, g.room, fewer)

      pub going_next : (w : V) → Walked S see tally v (left - 1) (branches S (left - 1) prefix (c ∷ [])) w → Going left place (done ++ (c ∷ [])) rest s w
      going_next w turned = record {
        all = g.all ∙ sym (append_assoc done (c ∷ []) rest);
        seen = one_more s v w done c (left - 1) prefix g.seen turned.same;
        room = omega (arith, turned.counted, g.room, fewer);
      }

    -- after the loop all of them were met
    pub going-ends : (done : List ℕ) {v : V} → Going left place done [] s v → Walked S see tally s left (completions S left prefix) v
    going-ends done g =
        let at = S.blocks - left in
        let k : suc (left - 1) ≡ left = omega arith in
        let whole : done ≡ set_bits (mask (table_in S) at) = sym (g.all ∙ append-nil done) in
        let met : branches S (left - 1) prefix done ≡ completions S left prefix =
        ap (branches S (left - 1) prefix) (whole ∙ ap (λ x. set_bits (mask (table_in S) x)) (sym (digits-length at place))) ∙
        branches-all S (left - 1) prefix ∙ ap (λ x. completions S x prefix) k in
        record { same = g.seen ∙ ap (see_these S see tally s) met; counted = omega (arith, g.room) }

  -- ---- the end

  leaf : (met : Met) (v r : V) → CountsFew → Under S S.blocks 0 met → r ≡ see met.weight met.place (tests_in S met.place) v
      → Walked S see tally v 0 (completions S 0 (digits S.blocks met.place)) r
  unfolding see_these
  leaf met v r few u h =
      let q = digits S.blocks met.place in
      let t = tests_of (table_in S) S.blocks q in
      record {
        same = h ∙ ap (λ w. see w met.place t v) u.carried ∙
            ap (λ p. see (weight (table_in S) S.blocks q) p t v) (sym (pack-digits S.blocks met.place u.low)) ∙
            ap (see_these S see tally v) (sym (completions-none S q));
        counted = rw h (few met.weight met.place t v);
      }

  pub leaf_walked : (left : ℕ) (met : Met) (v r : V) → left ≡ 0 → CountsFew → Under S (S.blocks - left) left met
      → r ≡ see met.weight met.place (tests_in S met.place) v
      → Walked S see tally v left (completions S left (digits (S.blocks - left) met.place)) r
  leaf_walked left met v r e few u h =
      let z : S.blocks - 0 ≡ S.blocks = omega arith in
      rw (e, z) (leaf met v r few (rw (e, z) at u) h)

  -- ---- a turn

  pub open-walked : (left c : ℕ) (met next : Met) → 0 < left → c < 8 → Under S (S.blocks - left) left met → next.place ≡ met.place * 8 + c → (v r : V)
      → Walked S see tally v (left - 1) (completions S (left - 1) (digits (S.blocks - (left - 1)) next.place)) r
      → Walked S see tally v (left - 1) (branches S (left - 1) (digits (S.blocks - left) met.place) (c ∷ [])) r
  open-walked left c met next l h u e v r w =
      let k : S.blocks - (left - 1) ≡ suc (S.blocks - left) = omega (arith, u.sized) in
      rw (opened S (left - 1) (S.blocks - left) met.place c h) (rw (k, e) at w)

  -- ---- the whole

  pub all-walked : (v r : V) → Walked S see tally v S.blocks (completions S S.blocks (digits (S.blocks - S.blocks) 0)) r
      → r ≡ see_all see (table_in S) S.blocks v
  unfolding see_all see_these
  all-walked v r w =
      let k : S.blocks - S.blocks ≡ 0 = omega arith in
      let none : digits (S.blocks - S.blocks) 0 ≡ [] = ap (λ x. digits x 0) k ∙ digits-none 0 in
      let all : completions S S.blocks (digits (S.blocks - S.blocks) 0) ≡ placements (table_in S) S.blocks =
      ap (completions S S.blocks) none ∙ completions-all S S.blocks ∙
      ap sequences (sym (map-map set_bits (mask (table_in S)) (below S.blocks))) ∙ sym (placements-of (table_in S) S.blocks) in
      w.same ∙ ap (see_these S see tally v) all
