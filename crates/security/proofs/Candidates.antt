-- The candidates of a description: how many there are, which they are, and that they are in lexicographic order.
use Prim.Native.Nat.{ℕ, ◌≤◌, ◌<◌}
use native.Mathlib.Decide.{dec_lt}
use native.Mathlib.Omega.{arith}
use mathlib.Core.Path.{◌≡◌, refl, ap, subst⁻¹, ◌∙◌}
use mathlib.Core.Logic.Iff
use mathlib.Core.Logic.{◌↔◌}
use mathlib.Core.Bool.{true}
use mathlib.Core.List.Memᴰ
use mathlib.Core.List.{List, [], map, Memᴰ}
use lib.Dec.{ltb}
use lib.ListN.{length, get_or}
use Rattle.description.specs.Declarations.{Description}
use Rattle.security.specs.Soundness.{candidates, choices_of, count, may_stand, positions}
use Rattle.security.specs.Placements.{judge, secure}
use Rattle.security.specs.Statements.{Good, Placed}
use Rattle.security.proofs.Deciding.{position_at}
use Rattle.security.proofs.Standing.{may-stand}
use Rattle.security.proofs.Judging.{never-13, judge-candidate}
use Rattle.sequences.specs.Ascending.{Ascending, Once}
use Rattle.sequences.specs.Lists.{keep, below, before, sequences}
use Rattle.sequences.specs.Results.{ok, refused}
use Rattle.sequences.proofs.Ascending.{keep-ascends, from-ascends}
use Rattle.sequences.proofs.Choices.{length-sequences, sequences-members, sequences-ascend, sequences-once}
use Rattle.sequences.proofs.Members.{keep-members, below-members, get_d_map}

-- the count, which needs no list, is the number of candidates
pub count-is-length : (d : Description) → length (candidates d) ≡ count d
unfolding candidates count
count-is-length d = length-sequences (map (choices_of d) positions)

module _ (d : Description) (few : length d.clouds ≤ 8) where
  -- a good position has a cloud below 8
  low : (p : List ℕ) (b : ℕ) → Good d p b → get_or p b 0 < 8
  low p b g = elim (dec_lt b (length d.blocks)) [
    | yes h ↦ let named = (g.stands h).declared in omega arith
    | no n ↦ let zero = g.beyond (omega arith) in omega arith
  ]

  -- so the choices at a position, clouds below 8, are all that it may have
  chosen : (p : List ℕ) (b : ℕ) → b < 16 → Memᴰ (get_or p b 0) (get_or (map (choices_of d) positions) b []) ↔ Good d p b
  unfolding choices_of
  chosen p b h =
      let k = get_or p b 0 in
      let here : get_or (map (choices_of d) positions) b [] ≡ choices_of d b =
      get_d_map (choices_of d) positions b 0 [] h ∙ ap (choices_of d) (position_at b h) in
      subst⁻¹ (λ (c : List ℕ). Memᴰ k c ↔ Good d p b) here
      (Iff.trans (keep-members (may_stand d b) (below 8) k)
      (λ (_, t). (may-stand d p b).0 t, λ g. ((below-members 8 k).1 (low p b g), (may-stand d p b).1 g)))

  -- the candidates are the lists of sixteen clouds in which every position is good
  pub candidates-placed : (p : List ℕ) → Memᴰ p (candidates d) ↔ ((length p ≡ 16) × Placed d p)
  unfolding candidates
  candidates-placed p = Iff.trans (sequences-members 0 (map (choices_of d) positions) p) (
    λ (size, at). (size, λ b h. (chosen p b h).0 (at b h)),
    λ (size, placed). (size, λ b h. (chosen p b h).1 (placed b h)),
  )

  -- the candidates are the lists of sixteen clouds that do not get 13
  pub candidates-are : (p : List ℕ) → Memᴰ p (candidates d) ↔ ((length p ≡ 16) × ((place : ℕ) → judge d p ≡ refused 13 place → ⊥))
  candidates-are p = Iff.trans (candidates-placed p) (
    λ (size, placed). (size, (never-13 d p).1 placed),
    λ (size, never). (size, (never-13 d p).0 never),
  )

  -- the secure ones are the lists of sixteen clouds that Judge calls secure
  pub candidates-secure : (p : List ℕ) → (Memᴰ p (candidates d) × (secure d p ≡ true)) ↔ ((length p ≡ 16) × (judge d p ≡ ok tt))
  candidates-secure p = (
    λ (m, safe). let (size, placed) = (candidates-placed p).0 m in (size, (judge-candidate d p).1 (placed, safe)),
    λ (size, judged). let (placed, safe) = (judge-candidate d p).0 judged in ((candidates-placed p).1 (size, placed), safe),
  )

choices-ascend : (d : Description) (c : List ℕ) → Memᴰ c (map (choices_of d) positions) → Ascending ltb c
unfolding choices_of
choices-ascend d c m = let (b, i, e) = Memᴰ.of_map (choices_of d) positions m in rw (← e) (keep-ascends ltb (may_stand d b) (below 8) (from-ascends 0 8))

-- the candidates are in lexicographic order
pub candidates-ascend : (d : Description) → Ascending before (candidates d)
unfolding candidates
candidates-ascend d = sequences-ascend (map (choices_of d) positions) (choices-ascend d)

-- each of them once
pub candidates-once : (d : Description) → Once (candidates d)
unfolding candidates
candidates-once d = sequences-once (map (choices_of d) positions) (choices-ascend d)

-- the candidates are the choices of one cloud for each of the sixteen positions; a position's clouds are those below 8 that it may have
pub candidates-choices : (d : Description) → candidates d ≡ sequences (map (λ b. keep (may_stand d b) (below 8)) positions)
unfolding candidates choices_of
candidates-choices d = refl
