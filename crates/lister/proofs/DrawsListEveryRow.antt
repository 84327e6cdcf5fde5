-- The scope's item 3, for every accepted description: `specs/DrawsListEveryRow.antt`. What draws answer is in `Answering`; which placements
-- represent their options, and the counts, are laws of `survey`.
use Prim.Native.Nat.{ℕ}
use mathlib.Core.Path.{◌≡◌, refl, sym, ap, ◌∙◌}
use mathlib.Core.Logic.{◌↔◌, inl, inr}
use mathlib.Core.List.Memᴰ
use mathlib.Core.List.{List, [], ◌∷◌, ◌++◌, map, head?, head-eq_of_cons-eq, Memᴰ}
use mathlib.Core.Option.{none, some, some-ne-none}
use lib.ListN.{take, replicate}
use Rattle.description.specs.Declarations.{Description}
use Rattle.security.specs.Soundness.{read}
use Rattle.security.proofs.Accepted.{read-well_formed}
use Rattle.security.proofs.Candidates.{candidates-secure}
use Rattle.options.proofs.Options.{same_option-equivalence}
use Rattle.survey.specs.declared.Row.{Row}
use Rattle.survey.specs.declared.Cursor.{Cursor}
use Rattle.survey.specs.Rows.{secure_placements, census, row_of, rows, draw}
use Rattle.lister.specs.Calls.{census_call, draw_call}
use Rattle.lister.specs.DrawsListEveryRow.{at_start, past, answers, moved_by, results, SecurePlacement, RowFor, DrawsListEveryRow}
use Rattle.survey.proofs.Billing.{row-billed, row-adds-up}
use Rattle.survey.proofs.Counting.{census-sum, options-number}
use Rattle.survey.proofs.Drawing.{rows-rise, rows-standing}
use Rattle.lister.proofs.Answering.{answers-rows}
use Rattle.survey.proofs.Standing.{secure-members, options-stand, standing-earlier}
use Rattle.sequences.specs.Draws.{moved}
use Rattle.sequences.specs.Results.{ok}
use Rattle.sequences.proofs.Draws.{chained-map}
use Rattle.sequences.proofs.Results.{ok-inj}

module _ (s : List ℕ) (d : Description) (accepted : read s ≡ ok d) where
  -- ---- the calls

  -- each draw by the call gives the draw's answer
  draw-called : (c : Cursor) → draw_call s c ≡ ok (draw d c)
  unfolding draw_call
  draw-called c = rw accepted refl

  census-called : census_call s ≡ ok (census d)
  unfolding census_call
  census-called = rw accepted refl

  -- so draws in a row by the call give the answers, and none is refused
  results-rows : (n : ℕ) → results s n ≡ map ok (take n (map some (rows d) ++ replicate n none))
  unfolding results answers
  results-rows n =
      chained-map ok (draw d) (moved past) (draw_call s) moved_by draw-called (λ c answer. refl) at_start n ∙ ap (map ok) (answers-rows d n)

  -- the first answer is the first row
  first-called : draw_call s at_start ≡ ok (head? (rows d))
  unfolding results
  first-called = go (rows d) (results-rows 1)
    where
      go : (l : List Row) → draw_call s at_start ∷ [] ≡ map ok (take 1 (map some l ++ (none ∷ []))) → draw_call s at_start ≡ ok (head? l)
      go [] e = head-eq_of_cons-eq e
      go (r ∷ l) e = head-eq_of_cons-eq e

  -- ---- the rows

  -- the secure placements are those that Judge calls secure
  secure-are : (p : List ℕ) → Memᴰ p (secure_placements d) ↔ SecurePlacement d p
  secure-are p =
      let members = secure-members d p in
      let judged = candidates-secure d (read-well_formed s d accepted).limits.clouds p in (
        λ m. let c = members.0 m in let (size, says) = judged.0 (c.candidate, c.safe) in record { size = size; judged = says },
        λ p. let (candidate, safe) = judged.1 (p.size, p.judged) in members.1 (record { candidate = candidate; safe = safe }),
      )

  row-secure : (r : Row) → Memᴰ r (rows d) → SecurePlacement d r.placement
  row-secure r m = let (p, i, t, e) = (rows-standing d r).0 m in rw (← e) ((secure-are p).0 i)

  -- each secure placement has its row: that of the placement that represents its option
  row-for : (p : List ℕ) → SecurePlacement d p → (r : Row) × RowFor d p r
  row-for p secure =
      let m = (secure-are p).1 secure in
      let (q, k, t, a) = (options-stand d).exists p m in (
        row_of d q,
        record {
          listed = (rows-standing d (row_of d q)).1 (q, k, t, refl);
          same = a;
          only = λ r i b.
              let (z, j, u, e) = (rows-standing d r).0 i in
              let alike = (same_option-equivalence d).symmetric p z (rw (← e) at b) in
              sym e ∙ ap (row_of d) ((options-stand d).unique z q j k u t ((same_option-equivalence d).transitive z p q alike a));
          earliest = elim (standing-earlier d p q m t a) [ inl e ↦ inl (sym e) | inr e ↦ inr e ];
        },
      )

  none-secure : (draw_call s at_start ≡ ok none) ↔ ((p : List ℕ) → SecurePlacement d p → ⊥)
  none-secure = (
    λ e p secure. let (r, row) = row-for p secure in no_row (rows d) r (ok-inj (sym first-called ∙ e)) row.listed,
    λ h. first-called ∙ ap ok (empty (rows d) (λ r m. h r.placement (row-secure r m))),
  )
    where
      no_row : (l : List Row) (r : Row) → head? l ≡ none → Memᴰ r l → ⊥
      no_row [] r e m = Memᴰ.not-nil m
      no_row (x ∷ l) r e m = some-ne-none x e

      empty : (l : List Row) → ((r : Row) → Memᴰ r l → ⊥) → head? l ≡ none
      empty [] h = refl
      empty (x ∷ l) h = absurd (h x (Memᴰ.head refl))

  -- THE SCOPE'S ITEM 3: draws list every row.
  pub draws-list-every-row : DrawsListEveryRow s d
  draws-list-every-row = record {
    called = results-rows;
    drawn = answers-rows d;
    rising = rows-rise d;
    secure = row-secure;
    costs = λ r m. (row-billed d r m, row-adds-up d r m);
    represented = row-for;
    finished = none-secure;
    counted = census-called;
    options = options-number d;
    parted = census-sum d;
  }
