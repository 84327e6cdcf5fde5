-- The services of each datum's edges, noted edge by edge, and the only ones of a datum.
use Rattle.std.proofs.Common.{ℕ, zero, suc, ◌≡◌, ◌/◌, ◌%◌, ◌<◌, true, false, List, [], ◌∷◌, ◌++◌, get_or, set, replicate, refl, sym, ap, ap₂, ◌∙◌, arith, eq-eqb, ne_eqb}
use native.Mathlib.Decide.{ℕ_discrete}
use mathlib.Core.Bool.{and-false}
use mathlib.Core.List.{append-nil}
use mathlib.Core.Logic.{inl, inr}
use lib.ListN.{length-set}
use lib.Seq.{get_or-set_same, get_or-set_other}
use Rattle.description.specs.declared.workflow.Edge.{Edge}
use Rattle.description.specs.declared.workflow.Way.{Way}
use Rattle.description.specs.declared.workflow.Way.TheVariants.{Reads, Writes}
use Rattle.description.specs.Declarations.{Description, same_way}
use Rattle.description.specs.Invariants.{WellFormed}
use Rattle.exchange_tables.specs.declared.Only.{Only}
use Rattle.exchange_tables.specs.declared.Only.TheVariants.{Nobody}
use Rattle.exchange_tables.specs.Exchanges.{noted, noted_with, Noted, paired}
use Rattle.sequences.specs.Lists.{keep}
use Rattle.sequences.proofs.Parts.{keep_append}
use Rattle.table_entries.specs.Building.{is_of, edges_of, only_of, only, of_pair, pair_at}
use Rattle.table_entries.proofs.Paired.{pair-none, pair-first, pair-second, service-few}

-- one more edge is noted by what was noted before
noted_more : (es : List Edge) (e : Edge) → noted (es ++ (e ∷ [])) ≡ noted_with (noted es) e.service
noted_more [] e = refl
noted_more (x ∷ []) e = refl
noted_more (x ∷ y ∷ es) e = refl

nobody-at : (n m : ℕ) → get_or (replicate n Nobody) m Nobody ≡ Nobody
nobody-at zero m = refl
nobody-at (suc n) zero = refl
nobody-at (suc n) (suc m) = nobody-at n m

module _ {way : Way} where
  pub noted_none : Noted way [] (replicate 16 Nobody)
  noted_none = record { size = refl; entry = λ m h. nobody-at 16 m }

  module _ {es : List Edge} {a : List Only} (e : Edge) (n : Noted way es a) where
    still : (m : ℕ) → is_of way m e ≡ false → noted (keep (is_of way m) (es ++ (e ∷ []))) ≡ noted (keep (is_of way m) es)
    still m f = ap noted (keep_append (is_of way m) es (e ∷ []) ∙ simp (f, append-nil))

    -- an edge that goes the other way
    pub noted_other : same_way way e.way ≡ false → Noted way (es ++ (e ∷ [])) a
    noted_other f = record { size = n.size; entry = λ m h. n.entry m h ∙ sym (still m (simp f)) }

    -- an edge that goes this way
    abbrev after : Only
    after = noted_with (get_or a e.datum Nobody) e.service

    here : same_way way e.way ≡ true → e.datum < 16 → get_or (set a e.datum after) e.datum Nobody ≡ noted (keep (is_of way e.datum) (es ++ (e ∷ [])))
    here t low =
        let of : is_of way e.datum e ≡ true = simp (t, eq-eqb e.datum e.datum refl) in
        let one : keep (is_of way e.datum) (e ∷ []) ≡ e ∷ [] = simp of in
        let more : keep (is_of way e.datum) (es ++ (e ∷ [])) ≡ keep (is_of way e.datum) es ++ (e ∷ []) =
        keep_append (is_of way e.datum) es (e ∷ []) ∙ ap (λ (l : List Edge). keep (is_of way e.datum) es ++ l) one in
        get_or-set_same a e.datum after Nobody (omega (arith, n.size)) ∙ ap (λ o. noted_with o e.service) (n.entry e.datum low) ∙
        sym (ap noted more ∙ noted_more (keep (is_of way e.datum) es) e)

    pub noted_one : same_way way e.way ≡ true → e.datum < 16 → Noted way (es ++ (e ∷ [])) (set a e.datum after)
    noted_one t low = record {
      size = length-set a e.datum after ∙ n.size;
      entry = λ m h. elim (ℕ_discrete m e.datum) [
        | yes p ↦ rw p (here t low)
        | no p ↦
            let other : is_of way m e ≡ false = simp (ne_eqb e.datum m (λ q. p (sym q)), and-false (same_way way e.way)) in
            get_or-set_other a e.datum m after Nobody p ∙ n.entry m h ∙ sym (still m other)
      ];
    }

low : (e : Edge) → ((f : Edge) → ◌≡◌ {A = List Edge} (e ∷ []) (f ∷ []) → f.service < 254) → e.service ≡ 255 → ⊥
low e h p = omega (arith, h e refl)

-- what is noted of two lists of edges gives the two only services
paired-only : (es fs : List Edge) → ((e : Edge) → es ≡ e ∷ [] → e.service < 254) → ((e : Edge) → fs ≡ e ∷ [] → e.service < 254) → (i : ℕ)
    → paired (noted es) (noted fs) i ≡ of_pair (only_of es) (only_of fs) i
paired-only [] fs l m i = sym (pair-none 255 (only_of fs) i (inl refl))
paired-only (e ∷ f ∷ es) fs l m i = sym (pair-none 255 (only_of fs) i (inl refl))
paired-only (e ∷ []) [] l m i = sym (pair-none e.service 255 i (inr refl))
paired-only (e ∷ []) (f ∷ g ∷ fs) l m i = sym (pair-none e.service 255 i (inr refl))
paired-only (e ∷ []) (f ∷ []) l m zero = sym (pair-first e.service f.service (low e l) (low f m))
paired-only (e ∷ []) (f ∷ []) l m (suc i) = sym (pair-second e.service f.service (low e l) (low f m))

-- so for a datum
pub paired-at : (d : Description) → WellFormed d → (m j i : ℕ) {writers readers : Only} → writers ≡ noted (edges_of d Writes m)
    → readers ≡ noted (edges_of d Reads m) → j / 2 ≡ m → j % 2 ≡ i → paired writers readers i ≡ pair_at d j
paired-at d wf m j i w r quo rem =
    ap₂ (λ x y. paired x y i) w r ∙ paired-only (edges_of d Writes m) (edges_of d Reads m) (service-few d wf Writes m) (service-few d wf Reads m) i ∙
    sym (ap₂ (λ (x y : ℕ). of_pair (only d Writes x) (only d Reads x) y) quo rem)
