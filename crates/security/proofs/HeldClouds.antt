-- The clouds that hold a datum, marked one after the other: its own, and those of the services on its edges.
use Prim.Native.Nat.{ℕ, ◌+◌, ◌≤◌, ◌<◌}
use native.Mathlib.Decide.{dec_lt, ℕ_discrete}
use native.Mathlib.Omega.{arith}
use mathlib.Core.Path.{◌≡◌, refl, sym, ap, ap₂, ◌∙◌}
use mathlib.Core.Logic.{inl, inr}
use mathlib.Core.Bool.{Bool, true, false, ◌&&◌, ◌||◌, cond, or-false}
use mathlib.Core.List.{List}
use lib.Dec.{ltb, eqb}
use lib.ListN.{length, get_or, set, take, replicate, length-set, length-map, get_or-replicate}
use lib.Seq.{take_all, get_or-set_same, get_or-set_other, ext_get_or}
use borrow.Author.Tests.{eqb-true, eq-eqb, ne_eqb, lt-ltb, le-ltb}
use Rattle.description.specs.declared.workflow.Edge.{Edge}
use Rattle.description.specs.declared.workflow.Pair.{Pair}
use Rattle.description.specs.Declarations.{Description, no_edge, edge}
use Rattle.security.specs.HeldClouds.{marked, held_by}
use Rattle.security.specs.Placements.{service_cloud, holds, holds_both}
use Rattle.security.proofs.Holding.{holder-if, holds-if}
use Rattle.sequences.specs.Lists.{any, below}
use Rattle.sequences.proofs.Agreeing.{tests_agree}
use Rattle.sequences.proofs.Counting.{get_or-below, length-below}
use Rattle.sequences.proofs.Members.{any-members, get_d_map}
use Rattle.sequences.proofs.Parts.{any_next}
use Rattle.sequences.proofs.Tests.{cond_ind, both-pass, one_passes, told-by-one}

-- an edge of datum n whose service stands on cloud k
abbrev stands_on : List ℕ → (n k : ℕ) → Edge → Bool
stands_on p n k e = eqb e.datum n && eqb (service_cloud p e) k

-- a cloud holds a datum if the datum stands there, or a service on one of its edges, whether or not the edge moves the datum
holds_by : (d : Description) (p : List ℕ) (n k : ℕ) → holds d p n k ≡ (eqb (get_or p n 0) k || any (stands_on p n k) d.edges)
holds_by d p n k = tests_agree _ _ (
  λ t.
      let (u, m, at) = (holds-if d p n k).0 t in
      (one_passes (eqb (get_or p n 0) k) (any (stands_on p n k) d.edges)).1 (elim ((holder-if d n u).0 m) [
        | inl own ↦ inl (eq-eqb _ _ (ap (λ b. get_or p b 0) (sym own) ∙ at))
        | inr (e, i, of, by) ↦ inr ((any-members (stands_on p n k) d.edges).1
            (e, i, (both-pass _ _).1 (eq-eqb _ _ of, eq-eqb _ _ (ap (λ b. get_or p b 0) by ∙ at))))
      ]),
  λ t. elim ((one_passes (eqb (get_or p n 0) k) (any (stands_on p n k) d.edges)).0 t) [
    | inl own ↦ (holds-if d p n k).1 (n, (holder-if d n n).1 (inl refl), eqb-true _ _ own)
    | inr some ↦
        let (e, i, both) = (any-members (stands_on p n k) d.edges).0 some in
        let (of, at) = (both-pass _ _).0 both in
        (holds-if d p n k).1 (e.service, (holder-if d n e.service).1 (inr (e, i, eqb-true _ _ of, refl)), eqb-true _ _ at)
  ],
)

-- ---- marks

module _ (a : List ℕ) (c : ℕ) (size : length a ≡ 8) where
  marked-size : length (marked a c) ≡ 8
  marked-size = cond_ind (λ (l : List ℕ). length l ≡ 8) (ltb c 8) (set a c 1) a (λ _. length-set a c 1 ∙ size) (λ _. size)

  marked-at : (k : ℕ) → k < 8 → get_or (marked a c) k 0 ≡ cond (eqb c k) 1 (get_or a k 0)
  marked-at k h = elim (dec_lt c 8) [
    | yes low ↦ simp (lt-ltb c 8 low) (elim (ℕ_discrete c k) [
      | yes e ↦ rw (eq-eqb c k e) (rw (← e) (get_or-set_same a c 1 0 (omega (arith, size))))
      | no n ↦ rw (ne_eqb c k n) (get_or-set_other a c k 1 0 (λ e. n (sym e)))
    ])
    | no high ↦ simp (le-ltb c 8 (omega arith), ne_eqb c k (λ e. omega arith))
  ]

-- all clouds of the datum and of the first i edges are marked
pub record Held (d : Description) (p : List ℕ) (n : ℕ) (a : List ℕ) (i : ℕ) : Type 0 where
  pub size : length a ≡ 8
  pub entry : (k : ℕ) → k < 8 → get_or a k 0 ≡ cond (eqb (get_or p n 0) k || any (stands_on p n k) (take i d.edges)) 1 0

module _ {d : Description} {p : List ℕ} {n : ℕ} where
  -- the datum's own cloud
  pub held-own : {a : List ℕ} → a ≡ marked (replicate 8 0) (get_or p n 0) → Held d p n a 0
  held-own e = rw e (record {
    size = marked-size (replicate 8 0) (get_or p n 0) refl;
    entry = λ k h.
        marked-at (replicate 8 0) (get_or p n 0) refl k h ∙ ap (λ (x : ℕ). cond (eqb (get_or p n 0) k) 1 x) (get_or-replicate 8 k 0 0 h) ∙
        ap (λ b. cond b 1 0) (sym (or-false (eqb (get_or p n 0) k)));
  })

  module _ {a : List ℕ} {i : ℕ} (held : Held d p n a i) (there : i < length d.edges) where
    one_more : (k : ℕ) → any (stands_on p n k) (take (i + 1) d.edges) ≡
        (any (stands_on p n k) (take i d.edges) || (stands_on p n k (edge d i) || false))
    one_more k = any_next (stands_on p n k) d.edges no_edge i there

    -- the service of one more edge
    pub held_one : (edge d i).datum ≡ n → Held d p n (marked a (service_cloud p (edge d i))) (i + 1)
    held_one of = record {
      size = marked-size a (service_cloud p (edge d i)) held.size;
      entry = λ k h.
          marked-at a (service_cloud p (edge d i)) held.size k h ∙ ap (λ (x : ℕ). cond (eqb (service_cloud p (edge d i)) k) 1 x) (held.entry k h) ∙
          either (eqb (service_cloud p (edge d i)) k) (eqb (get_or p n 0) k) (any (stands_on p n k) (take i d.edges)) ∙
          ap (λ b. cond (eqb (get_or p n 0) k || b) 1 0)
          (ap (λ b. any (stands_on p n k) (take i d.edges) || ((b && eqb (service_cloud p (edge d i)) k) || false)) (sym (eq-eqb _ _ of)) ∙ sym (one_more k));
    }
      where
        either : (x own some : Bool) → ◌≡◌ {A = ℕ} (cond x 1 (cond (own || some) 1 0)) (cond (own || (some || (x || false))) 1 0)
        either true true some = refl
        either true false true = refl
        either true false false = refl
        either false true some = refl
        either false false true = refl
        either false false false = refl

    -- an edge of another datum
    pub held-other : ((edge d i).datum ≡ n → ⊥) → Held d p n a (i + 1)
    held-other other = record {
      size = held.size;
      entry = λ k h.
          let fails : stands_on p n k (edge d i) ≡ false = rw (ne_eqb (edge d i).datum n other) refl in
          let same : any (stands_on p n k) (take (i + 1) d.edges) ≡ any (stands_on p n k) (take i d.edges) =
          one_more k ∙ rw fails (or-false (any (stands_on p n k) (take i d.edges))) in
          held.entry k h ∙ ap (λ b. cond (eqb (get_or p n 0) k || b) 1 0) (sym same);
    }

module _ (d : Description) (p : List ℕ) (n : ℕ) where
  held-entry : (k : ℕ) → k < 8 → get_or (held_by d p n) k 0 ≡ cond (holds d p n k) 1 0
  unfolding held_by
  held-entry k h =
      get_d_map (λ j. cond (holds d p n j) 1 0) (below 8) k 0 0 (omega (arith, length-below 8)) ∙ ap (λ j. cond (holds d p n j) 1 0) (get_or-below 8 k 0 h)

  -- all of them
  pub held_all : {a : List ℕ} {i : ℕ} → Held d p n a i → length d.edges ≤ i → a ≡ held_by d p n
  unfolding held_by
  held_all {a} {i} held h =
      ext_get_or 0 a (held_by d p n) (held.size ∙ sym (length-map {B = ℕ} (below 8) (λ j. cond (holds d p n j) 1 0) ∙ length-below 8)) (λ k l.
      let low : k < 8 = omega (arith, held.size) in
      held.entry k low ∙ ap (λ es. cond (eqb (get_or p n 0) k || any (stands_on p n k) es) 1 0) (take_all i d.edges h) ∙
      ap (λ b. cond b 1 0) (sym (holds_by d p n k)) ∙ sym (held-entry k low))

  -- a mark is read back
  held_at : (k : ℕ) → k < 8 → eqb (get_or (held_by d p n) k 0) 1 ≡ holds d p n k
  held_at k h = ap (λ (x : ℕ). eqb x 1) (held-entry k h) ∙ told-by-one (holds d p n k)

-- marks in both mean that a cloud holds both data of a pair
pub both-held : (d : Description) (p : List ℕ) (a : Pair) (k : ℕ) {left right : List ℕ} → k < 8 → left ≡ held_by d p a.left → right ≡ held_by d p a.right
    → (eqb (get_or left k 0) 1 && eqb (get_or right k 0) 1) ≡ holds_both d p a k
unfolding holds_both
both-held d p a k h e f = ap₂ ◌&&◌
    (ap (λ l. eqb (get_or l k 0) 1) e ∙ held_at d p a.left k h) (ap (λ l. eqb (get_or l k 0) 1) f ∙ held_at d p a.right k h)
