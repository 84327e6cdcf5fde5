-- The tests of the definitions decide what `specs/Statements.antt` says with plain orders and equations.
use Prim.Native.Nat.{ℕ, ◌<◌}
use native.Mathlib.Omega.{arith}
use mathlib.Core.Path.{◌≡◌, refl, sym, ap, ◌∙◌}
use mathlib.Core.Logic.{◌↔◌}
use mathlib.Core.Bool.{Bool, true, false, not, ◌&&◌, true≢false, false≢true}
use mathlib.Core.List.{List}
use mathlib.Core.Option.{none, some}
use lib.ListN.{get_or}
use borrow.Author.Tests.{eqb-false, ne_eqb, not-true, not-false}
use Rattle.description.specs.declared.workflow.Edge.{Edge}
use Rattle.description.specs.declared.workflow.Way.{Way}
use Rattle.description.specs.declared.workflow.Way.TheVariants.{Reads, Writes}
use Rattle.description.specs.Declarations.{Description, edge, no_edge, is_write, same_way}
use Rattle.labels.proofs.Covering.{covers-is, covers-not}
use Rattle.security.specs.Soundness.{positions}
use Rattle.security.specs.Placements.{moves, exposes, bad_position}
use Rattle.security.specs.Statements.{Good, Placed, Keeps, Breaks, AllKeep, FirstBreaks}
use Rattle.security.proofs.Standing.{may-stand}
use Rattle.sequences.specs.Lists.{first}
use Rattle.sequences.proofs.Tests.{both-pass, not-passed, not-failed}
use Rattle.sequences.proofs.Counting.{get_or-below}
use Rattle.sequences.proofs.First.{first_some, first-none}

-- ---- positions

-- position i of the positions is i
pub position_at : (i : ℕ) → i < 16 → get_or positions i 0 ≡ i
position_at i h = get_or-below 16 i 0 h

module _ (d : Description) where
  good : (p : List ℕ) (b : ℕ) → (bad_position d p b ≡ false) ↔ Good d p b
  unfolding bad_position
  good p b = (λ f. (may-stand d p b).0 (not-false _ f), λ g. ap not ((may-stand d p b).1 g))

  bad : (p : List ℕ) (b : ℕ) → (bad_position d p b ≡ true) ↔ (Good d p b → ⊥)
  bad p b = (λ t g. true≢false (sym t ∙ (good p b).1 g), λ n. not-failed _ (λ f. n ((good p b).0 f)))

  -- no position is bad
  pub none-bad : (p : List ℕ) → (first (bad_position d p) positions ≡ none) ↔ Placed d p
  none-bad p = (
    λ e b h. (good p b).0 (rw position_at at ((first-none (bad_position d p) 0 positions).0 e b h)),
    λ g. (first-none (bad_position d p) 0 positions).1 (λ b h. rw position_at ((good p b).1 (g b h))),
  )

  -- the lowest bad position
  pub first-bad : (p : List ℕ) (b : ℕ) → (first (bad_position d p) positions ≡ some b) ↔ ((b < 16) × (Good d p b → ⊥) × ((i : ℕ) → i < b → Good d p i))
  first-bad p b = (
    λ e.
        let (low, t, f) = (first_some (bad_position d p) 0 positions b).0 e in
        (low, (bad p b).0 (rw (position_at b low) at t), λ i h. (good p i).0 (rw (position_at i (omega arith)) at (f i h))),
    λ (low, n, g). (first_some (bad_position d p) 0 positions b).1
        (low, rw (position_at b low) ((bad p b).1 n), λ i h. rw (position_at i (omega arith)) ((good p i).1 (g i h))),
  )

-- ---- edges

-- rules 16 and 17 are one test over the way
abbrev breaks : Way → Description → List ℕ → Edge → Bool
breaks way d p e = same_way way e.way && exposes d p e

pub same_way_lem : (v w : Way) → (same_way v w ≡ true) ↔ (w ≡ v)
same_way_lem Reads Reads = (λ _. refl, λ _. refl)
same_way_lem Reads Writes = (λ t. absurd (false≢true t), λ e. absurd (true≢false (ap is_write e)))
same_way_lem Writes Reads = (λ t. absurd (false≢true t), λ e. absurd (false≢true (ap is_write e)))
same_way_lem Writes Writes = (λ _. refl, λ _. refl)

module _ (way : Way) (d : Description) (p : List ℕ) where
  breaking : (e : Edge) → (breaks way d p e ≡ true) ↔ Breaks way d p e
  unfolding exposes moves
  breaking e = (
    λ t.
        let (w, x) = (both-pass _ _).0 t in
        let (m, l) = (both-pass _ _).0 x in
        record { goes = (same_way_lem way e.way).0 w; moves = eqb-false _ _ (not-true _ m); exposes = (covers-not _ _).0 (not-true _ l) },
    λ b. (both-pass _ _).1
        ((same_way_lem way e.way).1 b.goes, (both-pass _ _).1 (ap not (ne_eqb _ _ b.moves), ap not ((covers-not _ _).1 b.exposes))),
  )

  keeping : (e : Edge) → (breaks way d p e ≡ false) ↔ Keeps way d p e
  keeping e = (
    λ f w m. (covers-is _ _).0
        (not-failed _ (λ u. true≢false (sym ((breaking e).1 (record { goes = w; moves = m; exposes = (covers-not _ _).0 u })) ∙ f))),
    λ k. not-passed _ (λ t. let b = (breaking e).0 t in absurd (b.exposes (k b.goes b.moves))),
  )

  -- no edge breaks the rule
  pub none-breaks : (first (breaks way d p) d.edges ≡ none) ↔ AllKeep way d p
  none-breaks = (
    λ e n h. (keeping (edge d n)).0 ((first-none (breaks way d p) no_edge d.edges).0 e n h),
    λ k. (first-none (breaks way d p) no_edge d.edges).1 (λ n h. (keeping (edge d n)).1 (k n h)),
  )

  -- the first edge that breaks it
  pub first-breaks : (n : ℕ) → (first (breaks way d p) d.edges ≡ some n) ↔ FirstBreaks way d p n
  first-breaks n = (
    λ e.
        let (h, t, f) = (first_some (breaks way d p) no_edge d.edges n).0 e in
        record { declared = h; breaks = (breaking (edge d n)).0 t; earlier = λ i l. (keeping (edge d i)).0 (f i l) },
    λ b. (first_some (breaks way d p) no_edge d.edges n).1
        (b.declared, (breaking (edge d n)).1 b.breaks, λ i l. (keeping (edge d i)).1 (b.earlier i l)),
  )
