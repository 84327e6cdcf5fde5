-- The clouds that hold a datum are those of its stem and branches. So two placements of one option break the same pairs.
use Prim.Native.Nat.{ℕ}
use native.Mathlib.Decide.{ℕ_discrete}
use mathlib.Core.Path.{◌≡◌, refl, sym, ap, subst, ◌∙◌}
use mathlib.Core.Logic.{inl, inr}
use mathlib.Core.Bool.{Bool, true, false, not, ◌&&◌, cond, Bool-discrete}
use mathlib.Core.List.{List, [], ◌∷◌, ◌++◌, map, append_assoc}
use mathlib.Core.List.Memᴰ
use mathlib.Core.List.{Memᴰ}
use lib.ListN.{length, get_or}
use lib.Dec.{eqb}
use borrow.Author.Tests.{eqb-true, eq-eqb, ne_eqb, ltb-true}
use Rattle.description.specs.declared.workflow.Edge.{Edge}
use Rattle.description.specs.declared.workflow.Pair.{Pair}
use Rattle.description.specs.Declarations.{Description, block, pair, no_pair, is_datum, is_write, names_datum}
use Rattle.description.specs.Invariants.{WellFormed}
use Rattle.security.specs.Placements.{service_cloud, datum_cloud, moves, holds, broken_apart}
use Rattle.security.proofs.Holding.{holder-if, holds-if, same-broken}
use Rattle.security.proofs.Moves.{moves-apart}
use Rattle.options.specs.Options.{writers_of, readers_of, stem, branch, joined, part_of, same_option}
use Rattle.options.specs.Representatives.{data_of}
use Rattle.options.proofs.Locality.{data-are}
use Rattle.options.proofs.Options.{same_parts, datum-part}
use Rattle.sequences.specs.Lists.{any, keep}
use Rattle.sequences.specs.Lists.{joined as flat}
use Rattle.sequences.proofs.Agreeing.{member-at, tests_agree}
use Rattle.sequences.proofs.Members.{keep-members, found-member}
use Rattle.sequences.proofs.Tests.{both-pass, not-passed}

-- the lists of a part, one after the other: the stem, and then the branches
flat-joined : (s : List ℕ) (bs : List (List ℕ)) → flat (joined s bs) ≡ s ++ flat bs
flat-joined s [] = refl
flat-joined s (b ∷ []) = first_of (cc, simp append_assoc)
flat-joined s (b ∷ c ∷ bs) = first_of (cc, simp append_assoc)

module _ (d : Description) (p : List ℕ) where
  -- ---- there is a branch if the edge moves its datum

  branch_to : (e : Edge) (k : ℕ) → Memᴰ k (branch p e) → service_cloud p e ≡ k
  branch_to e k m = go (moves p e) m
    where
      go : (b : Bool) → Memᴰ k (cond b (service_cloud p e ∷ []) []) → service_cloud p e ≡ k
      go true m = sym (Memᴰ.eq_of_singleton m)
      go false m = absurd (Memᴰ.not-nil m)

  branch-from : (e : Edge) (k : ℕ) → moves p e ≡ true → service_cloud p e ≡ k → Memᴰ k (branch p e)
  branch-from e k t at = rw t (Memᴰ.head (sym at))

  branches-to : (es : List Edge) (k : ℕ) → Memᴰ k (flat (map (branch p) es)) → (e : Edge) × Memᴰ e es × (service_cloud p e ≡ k)
  branches-to [] k m = absurd (Memᴰ.not-nil m)
  branches-to (e ∷ es) k m = elim (Memᴰ.append_cases (branch p e) m) [
    | inl here ↦ (e, Memᴰ.head refl, branch_to e k here)
    | inr later ↦ let (f, i, at) = branches-to es k later in (f, Memᴰ.tail i, at)
  ]

  branches-from : (e : Edge) (es : List Edge) (k : ℕ) → Memᴰ e es → moves p e ≡ true → service_cloud p e ≡ k
      → Memᴰ k (flat (map (branch p) es))
  branches-from e [] k m t at = absurd (Memᴰ.not-nil m)
  branches-from e (x ∷ es) k m t at = elim (Memᴰ.cases_cons m) [
    | inl same ↦ Memᴰ.append_left (flat (map (branch p) es)) (subst (λ f. Memᴰ k (branch p f)) same (branch-from e k t at))
    | inr later ↦ Memᴰ.append_right (branch p x) (branches-from e es k later t at)
  ]

  module _ (n k : ℕ) where
    -- the stem and the branches of datum n, one after the other
    abbrev spread : List ℕ
    spread = stem d p n ++ flat (map (branch p) (readers_of d n))

    abbrev writes : Edge → Bool
    writes e = is_write e.way && eqb e.datum n

    abbrev reads : Edge → Bool
    reads e = not (is_write e.way) && eqb e.datum n

    -- an edge of datum n whose service stands on k
    held : (e : Edge) → Memᴰ e d.edges → eqb e.datum n ≡ true → service_cloud p e ≡ k → holds d p n k ≡ true
    held e m here at = (holds-if d p n k).1 (e.service, (holder-if d n e.service).1 (inr (e, m, eqb-true _ _ here, refl)), at)

    spread-to : Memᴰ k spread → holds d p n k ≡ true
    spread-to m = elim (Memᴰ.append_cases (stem d p n) m) [
      | inl in_stem ↦ elim (Memᴰ.append_cases (map (service_cloud p) (keep (moves p) (writers_of d n))) in_stem) [
        | inl writer ↦
            let (e, i, at) = Memᴰ.of_map (service_cloud p) (keep (moves p) (writers_of d n)) writer in
            let (j, t) = (keep-members writes d.edges e).0 ((keep-members (moves p) (writers_of d n) e).0 i).0 in
            held e j ((both-pass (is_write e.way) (eqb e.datum n)).0 t).1 at
        | inr own ↦ (holds-if d p n k).1 (n, (holder-if d n n).1 (inl refl), sym (Memᴰ.eq_of_singleton own))
      ]
      | inr reader ↦
          let (e, i, at) = branches-to (readers_of d n) k reader in
          let (j, t) = (keep-members reads d.edges e).0 i in
          held e j ((both-pass (not (is_write e.way)) (eqb e.datum n)).0 t).1 at
    ]

    -- the datum's own cloud is the last of the stem
    spread-own : get_or p n 0 ≡ k → Memᴰ k spread
    spread-own at = Memᴰ.append_left (flat (map (branch p) (readers_of d n)))
        (Memᴰ.append_right (map (service_cloud p) (keep (moves p) (writers_of d n))) (Memᴰ.head (sym at)))

    -- the copy of an edge is in the stem or in a branch
    spread-copy : (e : Edge) → Memᴰ e d.edges → e.datum ≡ n → moves p e ≡ true → service_cloud p e ≡ k → Memᴰ k spread
    spread-copy e m here t at = elim (Bool-discrete (is_write e.way) true) [
      | yes written ↦
          let i = (keep-members writes d.edges e).1 (m, (both-pass _ _).1 (written, eq-eqb _ _ here)) in
          let j = (keep-members (moves p) (writers_of d n) e).1 (i, t) in
          Memᴰ.append_left (flat (map (branch p) (readers_of d n)))
          (Memᴰ.append_left (get_or p n 0 ∷ []) (Memᴰ.cast (sym at) (Memᴰ.map (service_cloud p) j)))
      | no unwritten ↦
          let i = (keep-members reads d.edges e).1 (m, (both-pass _ _).1 (ap not (not-passed _ unwritten), eq-eqb _ _ here)) in
          Memᴰ.append_right (stem d p n) (branches-from e (readers_of d n) k i t at)
    ]

    spread-from : holds d p n k ≡ true → Memᴰ k spread
    spread-from t =
        let (u, m, at) = (holds-if d p n k).0 t in
        elim ((holder-if d n u).0 m) [
          | inl own ↦ spread-own (ap (λ b. get_or p b 0) (sym own) ∙ at)
          | inr (e, i, here, same) ↦
              let there : service_cloud p e ≡ k = ap (λ b. get_or p b 0) same ∙ at in
              elim (ℕ_discrete (service_cloud p e) (datum_cloud p e)) [
                | yes stays ↦ spread-own (sym (ap (λ b. get_or p b 0) here) ∙ sym stays ∙ there)
                | no away ↦ spread-copy e i here (moves-apart p e ∙ ap not (ne_eqb _ _ away)) there
              ]
        ]

    -- A cloud holds a datum exactly if it is in the datum's stem or branches.
    holds-part : is_datum (block d n).kind ≡ true → holds d p n k ≡ any (eqb k) (flat (part_of d p n))
    holds-part t =
        tests_agree _ _ (λ h. (found-member k spread).1 (spread-from h), λ h. spread-to ((found-member k spread).0 h)) ∙
        ap (any (eqb k)) (sym (ap flat (datum-part d p n (block d n).kind t) ∙ flat-joined (stem d p n) (map (branch p) (readers_of d n))))

module _ (d : Description) where
  named-datum : (n : ℕ) → names_datum d n ≡ true → Memᴰ n (data_of d)
  named-datum n t = let (low, datum) = (both-pass _ _).0 t in (data-are d n).1 (ltb-true n (length d.blocks) low, datum)

  -- every pair names two data
  pub pair-data : WellFormed d → (a : Pair) → Memᴰ a d.pairs → Memᴰ a.left (data_of d) × Memᴰ a.right (data_of d)
  pair-data w a m =
      let (n, h, at) = member-at no_pair m in
      rw (← at) (named-datum (pair d n).left (w.pair_left n h), named-datum (pair d n).right (w.pair_right n h))

  module _ (w : WellFormed d) (p q : List ℕ) (alike : same_option d p q ≡ true) where
    -- In placements of one option the same clouds hold a datum,
    same-holds : (n k : ℕ) → Memᴰ n (data_of d) → holds d p n k ≡ holds d q n k
    same-holds n k m =
        let (low, datum) = (data-are d n).0 m in
        holds-part d p n k datum ∙ ap (λ l. any (eqb k) (flat l)) ((same_parts d p q).0 alike n low) ∙ sym (holds-part d q n k datum)

    -- so the same pairs are broken.
    pub option-broken : broken_apart d p ≡ broken_apart d q
    option-broken = same-broken d p q (λ a m k.
        let (left, right) = pair-data w a m in
        (same-holds a.left k left, same-holds a.right k right))
