-- The tests of pairs decide what `specs/Statements.antt` says of pairs in plain equations.
use Prim.Native.Nat.{ℕ}
use mathlib.Core.Path.{◌≡◌, sym, ap, ◌∙◌}
use mathlib.Core.Logic.{◌↔◌, inl, inr}
use mathlib.Core.Bool.{true, false, not, true≢false}
use mathlib.Core.List.{List}
use mathlib.Core.Option.{none, some}
use lib.Dec.{eqb}
use lib.ListN.{length, get_or}
use borrow.Author.Tests.{eqb-true, eqb-false, eq-eqb, ne_eqb, not-true}
use Rattle.description.specs.declared.workflow.Edge.{Edge}
use Rattle.description.specs.declared.workflow.Pair.{Pair}
use Rattle.description.specs.Declarations.{Description, edge, no_edge, pair, no_pair}
use Rattle.security.specs.Placements.{moves, copies, holds, holds_both, together}
use Rattle.security.specs.Statements.{Copies, Holds, Meet, AllApart, FirstMeets}
use Rattle.sequences.specs.Lists.{any, first, below}
use Rattle.sequences.proofs.Agreeing.{member-at, at-member}
use Rattle.sequences.proofs.First.{first_some, first-none}
use Rattle.sequences.proofs.Members.{any-members, below-members}
use Rattle.sequences.proofs.Tests.{both-pass, one_passes, not-passed}

module _ (d : Description) (p : List ℕ) where
  copying : (n k : ℕ) (e : Edge) → (copies p n k e ≡ true) ↔ Copies p n k e
  unfolding copies moves
  copying n k e = (
    λ t.
        let (u, at) = (both-pass _ _).0 t in
        let (here, away) = (both-pass _ _).0 u in
        record { of = eqb-true _ _ here; moves = eqb-false _ _ (not-true _ away); there = eqb-true _ _ at },
    λ c. (both-pass _ _).1 ((both-pass _ _).1 (eq-eqb _ _ c.of, ap not (ne_eqb _ _ c.moves)), eq-eqb _ _ c.there),
  )

  -- which clouds hold a datum
  holding : (n k : ℕ) → (holds d p n k ≡ true) ↔ Holds d p n k
  unfolding holds
  holding n k = (
    λ t. elim ((one_passes (eqb (get_or p n 0) k) (any (copies p n k) d.edges)).0 t) [
      | inl own ↦ inl (eqb-true _ _ own)
      | inr copy ↦
          let (e, m, u) = (any-members (copies p n k) d.edges).0 copy in
          let (i, low, at) = member-at no_edge m in
          inr (i, low, (copying n k (edge d i)).0 (rw at u))
    ],
    λ h. (one_passes (eqb (get_or p n 0) k) (any (copies p n k) d.edges)).1 (elim h [
      | inl own ↦ inl (eq-eqb _ _ own)
      | inr (i, low, copy) ↦ inr ((any-members (copies p n k) d.edges).1
          (edge d i, at-member no_edge d.edges i low, (copying n k (edge d i)).1 copy))
    ]),
  )

  meeting : (a : Pair) → (together d p a ≡ true) ↔ Meet d p a
  unfolding together holds_both
  meeting a = (
    λ t.
        let (k, m, both) = (any-members (holds_both d p a) (below (length d.clouds))).0 t in
        let (left, right) = (both-pass _ _).0 both in
        (k, (below-members (length d.clouds) k).0 m, (holding a.left k).0 left, (holding a.right k).0 right),
    λ (k, low, left, right). (any-members (holds_both d p a) (below (length d.clouds))).1
        (k, (below-members (length d.clouds) k).1 low, (both-pass _ _).1 ((holding a.left k).1 left, (holding a.right k).1 right)),
  )

  parted : (a : Pair) → (together d p a ≡ false) ↔ (Meet d p a → ⊥)
  parted a = (λ f m. true≢false (sym ((meeting a).1 m) ∙ f), λ n. not-passed _ (λ t. n ((meeting a).0 t)))

  -- no pair is broken
  pub none-meet : (first (together d p) d.pairs ≡ none) ↔ AllApart d p
  none-meet = (
    λ e n h. (parted (pair d n)).0 ((first-none (together d p) no_pair d.pairs).0 e n h),
    λ k. (first-none (together d p) no_pair d.pairs).1 (λ n h. (parted (pair d n)).1 (k n h)),
  )

  -- the first broken pair
  pub first-meets : (n : ℕ) → (first (together d p) d.pairs ≡ some n) ↔ FirstMeets d p n
  first-meets n = (
    λ e.
        let (h, t, f) = (first_some (together d p) no_pair d.pairs n).0 e in
        record { declared = h; meet = (meeting (pair d n)).0 t; earlier = λ i l. (parted (pair d i)).0 (f i l) },
    λ b. (first_some (together d p) no_pair d.pairs n).1
        (b.declared, (meeting (pair d n)).1 b.meet, λ i l. (parted (pair d i)).1 (b.earlier i l)),
  )
