-- The services of each datum's edges, marked edge by edge.
use Rattle.std.proofs.Common.{◌≡◌, ℕ, zero, suc, ◌<◌, Bool, true, false, List, [], ◌∷◌, ◌++◌, length, get_or, set, replicate, refl, sym, ap, ◌∙◌, arith}
use native.Mathlib.Decide.{ℕ_discrete}
use mathlib.Core.Bool.{◌||◌, or-true, or-false, or_assoc, and-false}
use lib.Dec.{eqb}
use lib.ListN.{length-set}
use lib.Seq.{get_or-set_same, get_or-set_other}
use borrow.Author.Tests.{eq-eqb, ne_eqb}
use Rattle.description.specs.declared.workflow.Edge.{Edge}
use Rattle.security.specs.Conflicts.{serves}
use Rattle.sequences.specs.Lists.{any}
use Rattle.table_entries.specs.Building.{Served}

module _ {A : Type 0} where
  -- each of n equal elements
  alike : (x z : A) (n i : ℕ) → i < n → get_or (replicate n x) i z ≡ x
  alike x z zero i h = absurd (omega arith)
  alike x z (suc n) zero h = refl
  alike x z (suc n) (suc i) h = alike x z n i (omega arith)

any_last : (t : Edge → Bool) (es : List Edge) (e : Edge) → any t (es ++ (e ∷ [])) ≡ (any t es || t e)
any_last t [] e = or-false (t e)
any_last t (x ∷ es) e = rw (any_last t es e) (sym (or_assoc (t x) (any t es) (t e)))

-- no edge is marked yet
pub served_none : Served [] (replicate 16 (replicate 16 false))
served_none = record {
  size = refl;
  row_size = λ n h. ap length (alike (replicate 16 false) [] 16 n h);
  marks = λ n u h l. ap (λ r. get_or r u false) (alike (replicate 16 false) [] 16 n h) ∙ alike false false 16 u l;
}

-- one more edge
module _ {es : List Edge} {a : List (List Bool)} (e : Edge) (s : Served es a) (there : e.datum < 16) (here : e.service < 16) where
  abbrev row : List Bool
  row = set (get_or a e.datum []) e.service true

  others : (n u : ℕ) → n < 16 → u < 16 → serves n u e ≡ false → get_or (get_or a n []) u false ≡ any (serves n u) (es ++ (e ∷ []))
  others n u h l f = s.marks n u h l ∙ sym (any_last (serves n u) es e ∙ rw f (or-false _))

  pub served_more : Served (es ++ (e ∷ [])) (set a e.datum (set (get_or a e.datum []) e.service true))
  served_more = record {
    size = length-set a e.datum row ∙ s.size;
    row_size = λ n h. elim (ℕ_discrete n e.datum) [
      | yes p ↦ rw (p, get_or-set_same a e.datum row [] (omega (arith, s.size))) (length-set (get_or a e.datum []) e.service true ∙ s.row_size e.datum there)
      | no p ↦ ap length (get_or-set_other a e.datum n row [] p) ∙ s.row_size n h
    ];
    marks = λ n u h l. elim (ℕ_discrete n e.datum) [
      | no p ↦
          ap (λ r. get_or r u false) (get_or-set_other a e.datum n row [] p) ∙
          others n u h l (simp (ne_eqb e.datum n (λ q. p (sym q))))
      | yes p ↦ elim (ℕ_discrete u e.service) [
        | yes q ↦
            rw (p, q, get_or-set_same a e.datum row [] (omega (arith, s.size)))
            (get_or-set_same (get_or a e.datum []) e.service true false (omega (arith, s.row_size e.datum there)) ∙
            sym (any_last (serves e.datum e.service) es e ∙ simp (eq-eqb e.datum e.datum refl, eq-eqb e.service e.service refl) (or-true _)))
        | no q ↦
            rw (p, get_or-set_same a e.datum row [] (omega (arith, s.size)))
            (get_or-set_other (get_or a e.datum []) e.service u true false q ∙
            others e.datum u there l (simp (ne_eqb e.service u (λ r. q (sym r)), and-false (eqb e.datum e.datum))))
      ]
    ];
  }
