-- The data between one writer and one reader: their two services are blocks. With the conflicts, this is what the tests of a placement ask.
use Prim.Native.Nat.{ℕ, zero, suc, ◌+◌, ◌*◌, ◌/◌, ◌%◌, ◌<◌}
use native.Mathlib.Omega.{arith}
use mathlib.Core.Path.{◌≡◌, refl, ap, ap₂, ◌∙◌}
use mathlib.Core.Logic.{◌⊎◌, inl, inr, ⊎_elim}
use mathlib.Core.Bool.{Bool, true, false, ◌||◌, cond}
use mathlib.Core.List.{List, [], ◌∷◌}
use lib.Dec.{eqb}
use lib.ListN.{length, get_or}
use borrow.Author.Tests.{eq-eqb, ne_eqb}
use Rattle.description.specs.declared.workflow.Edge.{Edge}
use Rattle.description.specs.declared.workflow.Way.{Way}
use Rattle.description.specs.declared.workflow.Way.TheVariants.{Reads, Writes}
use Rattle.description.specs.Declarations.{Description, no_edge}
use Rattle.description.specs.Invariants.{WellFormed}
use Rattle.sequences.specs.Lists.{keep}
use Rattle.sequences.proofs.Tests.{cond_ind}
use Rattle.visit.specs.Tables.{Paired}
use Rattle.table_entries.specs.Building.{is_of, only_of, only, of_pair, pair_at, pairs_of, exchanges_of, bytes_of, tables_of}
use Rattle.table_entries.proofs.Conflicting.{list-few, count-is, conflict-small}
use Rattle.sequences.proofs.Filling.{get_or-table_to}
use Rattle.table_entries.proofs.Places.{pair-in}
use Rattle.description.proofs.Named.{service-block}

-- P holds of each element
abbrev Every : {A : Type 0} → (A → Type 0) → List A → Type 0
Every P [] = Unit {0}
Every P (x ∷ xs) = P x × Every P xs

module _ {A : Type 0} (P : A → Type 0) where
  every-at : (z : A) (l : List A) → ((i : ℕ) → i < length l → P (get_or l i z)) → Every P l
  every-at z [] h = tt
  every-at z (x ∷ l) h = (h 0 (omega arith), every-at z l (λ i k. h (suc i) (omega arith)))

  every-kept : (t : A → Bool) (l : List A) → Every P l → Every P (keep t l)
  every-kept t [] p = tt
  every-kept t (x ∷ l) p = cond_ind (Every P) (t x) (x ∷ keep t l) (keep t l) (λ _. (p.0, every-kept t l p.1)) (λ _. every-kept t l p.1)

-- the service of the only edge is 255 or low
only-low : (n : ℕ) (es : List Edge) → Every (λ e. e.service < n) es → (only_of es ≡ 255) ⊎ (only_of es < n)
only-low n [] p = inl refl
only-low n (e ∷ []) p = inr p.0
only-low n (e ∷ f ∷ es) p = inl refl

-- a pair is 255 if either of the two is, and otherwise the two
pub pair-none : (a b r : ℕ) → (a ≡ 255) ⊎ (b ≡ 255) → of_pair a b r ≡ 255
pair-none a b r h = go r (⊎_elim (λ p. inl (eq-eqb a 255 p)) (λ p. inr (eq-eqb b 255 p)) h)
  where
    none : (s t : Bool) (x : ℕ) → (s ≡ true) ⊎ (t ≡ true) → cond (s || t) 255 x ≡ 255
    none true t x k = refl
    none false true x k = refl
    none false false x (inl k) = let z : ◌≡◌ {A = ℕ} 0 1 = cc in absurd (omega arith)
    none false false x (inr k) = let z : ◌≡◌ {A = ℕ} 0 1 = cc in absurd (omega arith)

    go : (r : ℕ) → (eqb a 255 ≡ true) ⊎ (eqb b 255 ≡ true) → of_pair a b r ≡ 255
    go zero k = none (eqb a 255) (eqb b 255) a k
    go (suc r) k = none (eqb a 255) (eqb b 255) b k

module _ (a b : ℕ) (h : a ≡ 255 → ⊥) (k : b ≡ 255 → ⊥) where
  pub pair-first : of_pair a b 0 ≡ a
  pair-first = simp (ne_eqb a 255 h, ne_eqb b 255 k)

  pub pair-second : of_pair a b 1 ≡ b
  pair-second = simp (ne_eqb a 255 h, ne_eqb b 255 k)

-- both of a pair are low if the first is
both-low : (n a b : ℕ) → (a ≡ 255) ⊎ (a < n) → (b ≡ 255) ⊎ (b < n) → of_pair a b 0 < 16 → (of_pair a b 0 < n) × (of_pair a b 1 < n)
both-low n a b (inl p) h l = absurd (let e = ap (λ (t : Bool). cond (t || eqb b 255) 255 a) (eq-eqb a 255 p) in omega arith)
both-low n a b (inr p) (inl h) l = absurd (third (eqb a 255) (eqb b 255) (eq-eqb b 255 h) l)
  where
    third : (s t : Bool) → t ≡ true → cond (s || t) 255 a < 16 → ⊥
    third true t e k = omega arith
    third false true e k = omega arith
    third false false e k = let z : ◌≡◌ {A = ℕ} 0 1 = cc in omega arith
both-low n a b (inr p) (inr h) l = go (eqb a 255 || eqb b 255) l
  where
    go : (t : Bool) → cond t 255 a < 16 → (cond t 255 a < n) × (cond t 255 b < n)
    go true k = absurd (omega arith)
    go false k = (p, h)

module _ (d : Description) (wf : WellFormed d) where
  services-low : Every (λ (e : Edge). e.service < length d.blocks) d.edges
  services-low = every-at (λ (e : Edge). e.service < length d.blocks) no_edge d.edges (service-block d wf)

  low : (way : Way) (m : ℕ) → (only d way m ≡ 255) ⊎ (only d way m < length d.blocks)
  low way m =
      only-low (length d.blocks) (keep (is_of way m) d.edges)
      (every-kept (λ (e : Edge). e.service < length d.blocks) (is_of way m) d.edges services-low)

  -- the entries of datum m, whatever lies after the pairs
  pub first-of-pair : (last : List ℕ) (m : ℕ) → m < length d.blocks
      → get_or (bytes_of d last) (97 + 2 * m) 0 ≡ of_pair (only d Writes m) (only d Reads m) 0
  unfolding pairs_of
  first-of-pair last m h =
      let q : 2 * m / 2 ≡ m = omega arith in
      let r : 2 * m % 2 ≡ 0 = omega arith in
      let low : 2 * m < 32 = omega (arith, wf.limits.blocks) in
      pair-in d last (2 * m) low ∙ get_or-table_to 32 (2 * length d.blocks) (pair_at d) (2 * m) low (omega arith) ∙
      ap₂ (λ (a b : ℕ). of_pair (only d Writes a) (only d Reads a) b) q r

  pub second-of-pair : (last : List ℕ) (m : ℕ) → m < length d.blocks
      → get_or (bytes_of d last) (97 + (2 * m + 1)) 0 ≡ of_pair (only d Writes m) (only d Reads m) 1
  unfolding pairs_of
  second-of-pair last m h =
      let q : (2 * m + 1) / 2 ≡ m = omega arith in
      let r : (2 * m + 1) % 2 ≡ 1 = omega arith in
      let low : 2 * m + 1 < 32 = omega (arith, wf.limits.blocks) in
      pair-in d last (2 * m + 1) low ∙ get_or-table_to 32 (2 * length d.blocks) (pair_at d) (2 * m + 1) low (omega arith) ∙
      ap₂ (λ (a b : ℕ). of_pair (only d Writes a) (only d Reads a) b) q r

  -- the service of an only edge is small
  pub service-few : (way : Way) (m : ℕ) (e : Edge) → keep (is_of way m) d.edges ≡ e ∷ [] → e.service < 254
  service-few way m e k =
      let p = every-kept (λ (f : Edge). f.service < length d.blocks) (is_of way m) d.edges services-low in
      let l : e.service < length d.blocks = (rw k at p).0 in
      omega (arith, wf.limits.blocks)

  -- writers and readers are blocks, and so are those that may not share a cloud
  pub paired : Paired (tables_of d) (length d.blocks)
  unfolding tables_of
  paired = record {
    pairs_small = λ m l h.
        let first = first-of-pair (exchanges_of d) m l in
        rw (first, second-of-pair (exchanges_of d) m l)
        (both-low (length d.blocks) (only d Writes m) (only d Reads m) (low Writes m) (low Reads m) (rw first at h));
    conflicts_few = rw (count-is d wf) (list-few d wf);
    conflicts_small = conflict-small d wf;
  }
