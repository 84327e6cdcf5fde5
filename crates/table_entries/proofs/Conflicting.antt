-- The table of conflicts: which blocks it lists, that there is room for them, and that two of them share a cloud exactly if a pair is
-- broken.
use Prim.Native.Nat.{ℕ, suc, ◌+◌, ◌-◌, ◌*◌, ◌/◌, ◌%◌, ◌≤◌, ◌<◌}
use native.Mathlib.Decide.{dec_le}
use native.Mathlib.Omega.{arith}
use mathlib.Core.Path.{◌≡◌, refl, sym, ap, ap₂, ◌∙◌}
use mathlib.Core.Logic.{◌⊎◌, inl, inr}
use mathlib.Core.Bool.{Bool, true, false, not, ◌||◌}
use mathlib.Core.List.{List, [], ◌∷◌, Memᴰ}
use lib.Dec.{leb}
use lib.ListN.{length, get_or, replicate}
use borrow.Author.Tests.{leb-true, le-leb, eqb-true, eq-eqb}
use Rattle.description.specs.Declarations.{Description}
use Rattle.description.specs.Invariants.{WellFormed}
use Rattle.security.specs.Conflicts.{conflict_by, conflicts}
use Rattle.security.specs.Placements.{broken_apart}
use Rattle.security.specs.Soundness.{candidates}
use Rattle.security.proofs.Holding.{conflicts-are}
use Rattle.options.proofs.Conflicts.{conflict-declared, candidate-broken}
use Rattle.sequences.specs.Lists.{any, keep, below}
use Rattle.sequences.proofs.Agreeing.{tests_agree, member-at, at-member, keep-none}
use Rattle.sequences.proofs.Members.{any-members, keep-members, below-members}
use Rattle.sequences.proofs.Parts.{keep-both}
use Rattle.sequences.proofs.Numbers.{kept-most}
use Rattle.sequences.proofs.Tests.{both-pass, one_passes, and-fails}
use Rattle.visit.specs.Tables.{conflict_count, conflict, clashes, apart}
use Rattle.visit.proofs.Defined.{apart-where}
use Rattle.security.specs.Masks.{padded}
use Rattle.table_entries.specs.Building.{Listed, is_conflict, conflicts_to, conflict_list, conflicts_of, exchanges_of, bytes_of, tables_of}
use Rattle.sequences.proofs.Filling.{get_or-table, table-zeros}
use Rattle.table_entries.proofs.Filling.{list-ends}
use Rattle.table_entries.proofs.Groups.{kept-part}
use Rattle.sequences.proofs.Indexing.{get_or-padded}
use Rattle.table_entries.proofs.Places.{conflict-in}

-- the later block first, or one twice
abbrev later_first : ℕ → Bool
later_first c = leb (c % 16) (c / 16)

-- how many there are for sixteen blocks
later-number : length (keep later_first (below 256)) ≡ 136
later-number = refl

module _ (d : Description) where
  abbrev either_way : ℕ → Bool
  either_way c = conflicts d (c / 16) (c % 16) || conflicts d (c % 16) (c / 16)

  -- there are never more conflicts than that
  pub conflicts-few : (n : ℕ) → n ≤ 256 → length (conflicts_to d n) ≤ 136
  conflicts-few n h =
      let kept = keep later_first (below n) in
      omega (
        arith,
        ap length (keep-both later_first either_way (below n)),
        kept-most either_way kept,
        kept-part later_first n 256 h,
        later-number,
      )

  -- a conflict is between two blocks
  conflict-of : (c : ℕ) → Memᴰ c (conflict_list d)
      → (c / 16 < length d.blocks) × (c % 16 ≤ c / 16) × ((conflicts d (c / 16) (c % 16) ≡ true) ⊎ (conflicts d (c % 16) (c / 16) ≡ true))
  unfolding conflict_list
  conflict-of c m =
      let (i, t) = (keep-members (is_conflict d) (below (length d.blocks * 16)) c).0 m in
      let (low, either) = (both-pass (later_first c) (either_way c)).0 t in
      let there = (below-members (length d.blocks * 16) c).0 i in
      (omega arith, leb-true (c % 16) (c / 16) low, (one_passes _ _).0 either)

  -- without pairs there are none, and the table is all zeros
  pub no-conflicts : length d.pairs ≡ 0 → conflicts_of d ≡ replicate 137 0
  unfolding conflicts_of conflict_list
  no-conflicts e =
      let unpaired : (u v : ℕ) → conflicts d u v ≡ false = λ u v. conflicts-are d u v ∙ none (conflict_by d u v) d.pairs e in
      let empty : conflicts_to d (length d.blocks * 16) ≡ [] = keep-none (is_conflict d) (below (length d.blocks * 16)) (λ c _.
      and-fails (later_first c) (either_way c) (rw (unpaired (c / 16) (c % 16), unpaired (c % 16) (c / 16)) refl)) in
      rw empty (ap (λ l. 0 ∷ l) (table-zeros 136 _ (λ i. refl)))
    where
      none : {A : Type 0} (t : A → Bool) (l : List A) → length l ≡ 0 → any t l ≡ false
      none t [] e = refl
      none t (x ∷ l) e = absurd (omega arith)

  -- a list after its length is the table
  pub conflicts-laid : {a b : List ℕ} {n : ℕ} → Listed 136 (conflict_list d) a n → b ≡ n ∷ a → b ≡ conflicts_of d
  unfolding conflicts_of
  conflicts-laid l e = e ∙ ap₂ ◌∷◌ l.ends (list-ends l)

  -- two blocks that conflict, the later one first
  listed : (u v : ℕ) → u < length d.blocks → v ≤ u → u < 16 → (conflicts d u v ≡ true) ⊎ (conflicts d v u ≡ true)
      → (c : ℕ) × Memᴰ c (conflict_list d) × (c / 16 ≡ u) × (c % 16 ≡ v)
  unfolding conflict_list
  listed u v h l few either =
      let quo : (u * 16 + v) / 16 ≡ u = omega arith in
      let rem : (u * 16 + v) % 16 ≡ v = omega arith in
      let low : later_first (u * 16 + v) ≡ true = le-leb ((u * 16 + v) % 16) ((u * 16 + v) / 16) (omega arith) in
      let turn : either_way (u * 16 + v) ≡ (conflicts d u v || conflicts d v u) = ap₂ (λ (x y : ℕ). conflicts d x y || conflicts d y x) quo rem in
      let inside = (below-members (length d.blocks * 16) (u * 16 + v)).1 (omega arith) in (
        u * 16 + v,
        (keep-members (is_conflict d) (below (length d.blocks * 16)) (u * 16 + v)).1
            (inside, (both-pass (later_first (u * 16 + v)) (either_way (u * 16 + v))).1 (low, turn ∙ (one_passes _ _).1 either)),
        quo,
        rem,
      )

  -- ---- in the tables

  module _ (wf : WellFormed d) where
    abbrev count : ℕ
    count = length (conflict_list d)

    pub list-few : count ≤ 136
    unfolding conflict_list
    list-few = conflicts-few (length d.blocks * 16) (omega (arith, wf.limits.blocks))

    pub count-is : conflict_count (tables_of d) ≡ count
    unfolding tables_of conflicts_of
    count-is = conflict-in d (exchanges_of d) 0 (omega arith)

    conflict-is : (i : ℕ) → i < count → conflict (tables_of d) i ≡ get_or (conflict_list d) i 0
    unfolding tables_of conflicts_of
    conflict-is i h =
        let low : i < 136 = omega (arith, list-few) in
        let next : 129 + 1 + i ≡ 129 + suc i = omega arith in
        ap (λ (k : ℕ). get_or (bytes_of d (exchanges_of d)) k 0) next ∙ conflict-in d (exchanges_of d) (suc i) (omega arith) ∙
        get_or-table 136 (λ j. get_or (conflict_list d) j 0) i low

    -- its blocks are declared
    pub conflict-small : (i : ℕ) → i < conflict_count (tables_of d)
        → (conflict (tables_of d) i / 16 < length d.blocks) × (conflict (tables_of d) i % 16 < length d.blocks)
    conflict-small i h =
        let there : i < count = omega (arith, count-is) in
        let (first, second, _) = conflict-of (get_or (conflict_list d) i 0) (at-member 0 (conflict_list d) i there) in
        rw (conflict-is i there) (first, omega arith)

    -- two blocks of a conflict share a cloud exactly if a pair is broken
    module _ (q : List ℕ) (m : Memᴰ (padded d q) (candidates d)) where
      abbrev some-clash : Bool
      some-clash = any (clashes (tables_of d) q) (below (conflict_count (tables_of d)))

      padded-at : (b : ℕ) → get_or (padded d q) b 0 ≡ get_or q b 0
      padded-at b = get_or-padded q (16 - length d.blocks) b

      clash-at : (c : ℕ) → Memᴰ c (conflict_list d) → get_or q (c / 16) 0 ≡ get_or q (c % 16) 0 → some-clash ≡ true
      clash-at c k same =
          let (i, low, at) = member-at 0 k in
          let here : conflict (tables_of d) i ≡ c = conflict-is i low ∙ at in
          (any-members (clashes (tables_of d) q) (below (conflict_count (tables_of d)))).1 (
            i,
            (below-members (conflict_count (tables_of d)) i).1 (omega (arith, count-is)),
            eq-eqb (get_or q (conflict (tables_of d) i / 16) 0) (get_or q (conflict (tables_of d) i % 16) 0) (rw here same),
          )

      clash-breaks : some-clash ≡ true → broken_apart d (padded d q) ≡ true
      clash-breaks t =
          let (i, k, clash) = (any-members (clashes (tables_of d) q) (below (conflict_count (tables_of d)))).0 t in
          let low : i < count = omega (arith, count-is, (below-members (conflict_count (tables_of d)) i).0 k) in
          let c = get_or (conflict_list d) i 0 in
          let (first, second, either) = conflict-of c (at-member 0 (conflict_list d) i low) in
          let clouds : get_or q (c / 16) 0 ≡ get_or q (c % 16) 0 = rw (conflict-is i low) at (eqb-true
          (get_or q (conflict (tables_of d) i / 16) 0) (get_or q (conflict (tables_of d) i % 16) 0) clash) in
          let same : get_or (padded d q) (c / 16) 0 ≡ get_or (padded d q) (c % 16) 0 = padded-at (c / 16) ∙ clouds ∙ sym (padded-at (c % 16)) in
          (candidate-broken d wf (padded d q) m).1 (elim either [
            | inl one ↦ (c / 16, c % 16, one, same)
            | inr other ↦ (c % 16, c / 16, other, sym same)
          ])

      breaks-clash : broken_apart d (padded d q) ≡ true → some-clash ≡ true
      breaks-clash t =
          let (u, v, conflicting, clouds) = (candidate-broken d wf (padded d q) m).0 t in
          let same : get_or q u 0 ≡ get_or q v 0 = sym (padded-at u) ∙ clouds ∙ padded-at v in
          let (ulow, vlow) = conflict-declared d wf u v conflicting in
          let few = wf.limits.blocks in
          elim (dec_le v u) [
            | yes h ↦ let (c, k, quo, rem) = listed u v ulow h (omega arith) (inl conflicting) in clash-at c k (rw (quo, rem) same)
            | no h ↦ let (c, k, quo, rem) = listed v u vlow (omega arith) (omega arith) (inr conflicting) in clash-at c k (rw (quo, rem) (sym same))
          ]

      pub apart-is : apart (tables_of d) q ≡ not (broken_apart d (padded d q))
      apart-is = apart-where (tables_of d) q ∙ ap not (tests_agree _ _ (clash-breaks, breaks-clash))
