-- Which clouds hold a datum: those of the datum and of the services on its edges, whether or not an edge moves it. So a pair is broken
-- exactly if two of these blocks, one for each datum, stand on one cloud.
use Prim.Native.Nat.{ℕ, ◌<◌}
use native.Mathlib.Decide.{ℕ_discrete}
use mathlib.Core.Path.{◌≡◌, refl, sym, ap, ap₂, ◌∙◌}
use mathlib.Core.Logic.{◌↔◌, ◌⊎◌, inl, inr}
use mathlib.Core.Bool.{true, not, ◌&&◌}
use mathlib.Core.List.{List, Memᴰ}
use lib.Dec.{eqb}
use lib.ListN.{length, get_or}
use borrow.Author.Tests.{eqb-true, eq-eqb, ne_eqb}
use Rattle.description.specs.declared.workflow.Edge.{Edge}
use Rattle.description.specs.declared.workflow.Pair.{Pair}
use Rattle.description.specs.Declarations.{Description}
use Rattle.security.specs.Conflicts.{serves, is_holder, conflict_by, conflicts}
use Rattle.security.specs.Placements.{service_cloud, datum_cloud, moves, copies, holds, holds_both, together, broken_apart}
use Rattle.sequences.specs.Lists.{any, below}
use Rattle.sequences.proofs.Agreeing.{any-agree}
use Rattle.sequences.proofs.Members.{any-members, below-members}
use Rattle.sequences.proofs.Tests.{both-pass, one_passes}

-- an edge of datum n with service u
abbrev Serves : Description → (n u : ℕ) → Type 0
Serves d n u = (e : Edge) × Memᴰ e d.edges × (e.datum ≡ n) × (e.service ≡ u)

-- the blocks of datum n are the datum, and the services of its edges
pub holder-if : (d : Description) (n u : ℕ) → (is_holder d n u ≡ true) ↔ ((u ≡ n) ⊎ Serves d n u)
holder-if d n u = (
  λ t. elim ((one_passes (eqb u n) (any (serves n u) d.edges)).0 t) [
    | inl own ↦ inl (eqb-true _ _ own)
    | inr some ↦
        let (e, m, both) = (any-members (serves n u) d.edges).0 some in
        let (of, by) = (both-pass _ _).0 both in
        inr (e, m, eqb-true _ _ of, eqb-true _ _ by)
  ],
  λ h. (one_passes (eqb u n) (any (serves n u) d.edges)).1 (elim h [
    | inl own ↦ inl (eq-eqb _ _ own)
    | inr (e, m, of, by) ↦ inr ((any-members (serves n u) d.edges).1 (e, m, (both-pass _ _).1 (eq-eqb _ _ of, eq-eqb _ _ by)))
  ]),
)

-- pair by pair
pub conflicts-are : (d : Description) (u v : ℕ) → conflicts d u v ≡ any (conflict_by d u v) d.pairs
unfolding conflicts
conflicts-are d u v = refl

-- blocks that conflict are those of a pair's two data
pub conflict-if : (d : Description) (u v : ℕ)
    → (conflicts d u v ≡ true) ↔ ((a : Pair) × Memᴰ a d.pairs × (is_holder d a.left u ≡ true) × (is_holder d a.right v ≡ true))
unfolding conflicts
conflict-if d u v = (
  λ t.
      let (a, i, both) = (any-members (conflict_by d u v) d.pairs).0 t in
      let (left, right) = (both-pass _ _).0 both in
      (a, i, left, right),
  λ (a, i, left, right). (any-members (conflict_by d u v) d.pairs).1 (a, i, (both-pass _ _).1 (left, right)),
)

module _ (d : Description) (p : List ℕ) where
  module _ (n k : ℕ) where
    -- a block of the datum on cloud k
    abbrev pub BlockOn : Type 0
    BlockOn = (u : ℕ) × (is_holder d n u ≡ true) × (get_or p u 0 ≡ k)

    -- an edge of the datum whose service stands on k while the datum does not
    copied : (e : Edge) → e.datum ≡ n → (get_or p n 0 ≡ k → ⊥) → service_cloud p e ≡ k → copies p n k e ≡ true
    unfolding copies moves
    copied e here away at = (both-pass _ _).1 (
      (both-pass _ _).1 (
        eq-eqb e.datum n here,
        ap not (ne_eqb (service_cloud p e) (datum_cloud p e) (λ same. away (sym (ap (λ b. get_or p b 0) here) ∙ sym same ∙ at))),
      ),
      eq-eqb (service_cloud p e) k at,
    )

    holds-to : holds d p n k ≡ true → BlockOn
    unfolding holds copies
    holds-to t = elim ((one_passes (eqb (get_or p n 0) k) (any (copies p n k) d.edges)).0 t) [
      | inl own ↦ (n, (holder-if d n n).1 (inl refl), eqb-true _ _ own)
      | inr copy ↦
          let (e, m, u) = (any-members (copies p n k) d.edges).0 copy in
          let (v, at) = (both-pass _ _).0 u in
          let (here, _) = (both-pass _ _).0 v in
          (e.service, (holder-if d n e.service).1 (inr (e, m, eqb-true _ _ here, refl)), eqb-true _ _ at)
    ]

    holds-own : get_or p n 0 ≡ k → holds d p n k ≡ true
    unfolding holds
    holds-own e = (one_passes (eqb (get_or p n 0) k) (any (copies p n k) d.edges)).1 (inl (eq-eqb (get_or p n 0) k e))

    holds-copy : (e : Edge) → Memᴰ e d.edges → e.datum ≡ n → service_cloud p e ≡ k → holds d p n k ≡ true
    unfolding holds
    holds-copy e m here at = elim (ℕ_discrete (get_or p n 0) k) [
      | yes own ↦ holds-own own
      | no away ↦ (one_passes (eqb (get_or p n 0) k) (any (copies p n k) d.edges)).1
          (inr ((any-members (copies p n k) d.edges).1 (e, m, copied e here away at)))
    ]

    holds-from : BlockOn → holds d p n k ≡ true
    holds-from (u, t, at) = elim ((holder-if d n u).0 t) [
      | inl own ↦ holds-own (ap (λ b. get_or p b 0) (sym own) ∙ at)
      | inr (e, m, here, by) ↦ holds-copy e m here (ap (λ b. get_or p b 0) by ∙ at)
    ]

    -- Cloud k holds datum n exactly if one of the datum's blocks stands there.
    pub holds-if : (holds d p n k ≡ true) ↔ BlockOn
    holds-if = (holds-to, holds-from)

  module _ (a : Pair) (declared : (u : ℕ) → is_holder d a.left u ≡ true → get_or p u 0 < length d.clouds) where
    -- A pair is broken exactly if a block of the one datum and a block of the other stand on one cloud.
    together-if : (together d p a ≡ true) ↔
        ((u v : ℕ) × (is_holder d a.left u ≡ true) × (is_holder d a.right v ≡ true) × (get_or p u 0 ≡ get_or p v 0))
    unfolding together holds_both
    together-if = (
      λ t.
          let (k, _, both) = (any-members (holds_both d p a) (below (length d.clouds))).0 t in
          let (left, right) = (both-pass _ _).0 both in
          let (u, m, at) = holds-to a.left k left in
          let (v, i, there) = holds-to a.right k right in
          (u, v, m, i, at ∙ sym there),
      λ (u, v, m, i, same). (any-members (holds_both d p a) (below (length d.clouds))).1 (
        get_or p u 0,
        (below-members (length d.clouds) (get_or p u 0)).1 (declared u m),
        (both-pass _ _).1 (holds-from a.left (get_or p u 0) (u, m, refl), holds-from a.right (get_or p u 0) (v, i, sym same)),
      ),
    )

  -- the blocks of the pairs' left data stand on declared clouds
  abbrev pub OnClouds : Type 0
  OnClouds = (a : Pair) → Memᴰ a d.pairs → (u : ℕ) → is_holder d a.left u ≡ true → get_or p u 0 < length d.clouds

  -- Some pair is broken exactly if two blocks that conflict stand on one cloud.
  pub broken-if : OnClouds → (broken_apart d p ≡ true) ↔ ((u v : ℕ) × (conflicts d u v ≡ true) × (get_or p u 0 ≡ get_or p v 0))
  unfolding broken_apart
  broken-if declared = (
    λ t.
        let (a, i, broken) = (any-members (together d p) d.pairs).0 t in
        let (u, v, m, n, same) = (together-if a (declared a i)).0 broken in
        (u, v, (conflict-if d u v).1 (a, i, m, n), same),
    λ (u, v, t, same).
        let (a, i, m, n) = (conflict-if d u v).0 t in
        (any-members (together d p) d.pairs).1 (a, i, (together-if a (declared a i)).1 (u, v, m, n, same)),
  )

-- If the same clouds hold the data of the pairs in two placements, the placements break the same pairs.
pub same-broken : (d : Description) (p q : List ℕ)
    → ((a : Pair) → Memᴰ a d.pairs → (k : ℕ) → (holds d p a.left k ≡ holds d q a.left k) × (holds d p a.right k ≡ holds d q a.right k))
    → broken_apart d p ≡ broken_apart d q
unfolding broken_apart together holds_both
same-broken d p q alike = any-agree (together d p) (together d q) d.pairs
    (λ a m. any-agree (holds_both d p a) (holds_both d q a) (below (length d.clouds)) (λ k _. ap₂ ◌&&◌ (alike a m k).0 (alike a m k).1))
