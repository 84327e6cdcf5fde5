-- A walk that counts, with enough room, leaves the words of the rows that it met one after the other, and what is beyond unchanged.
use Prim.Native.Nat.{ℕ, ◌+◌, ◌*◌, ◌≤◌}
use native.Mathlib.Nat.{add-zero}
use native.Mathlib.Numerals.{add-one}
use native.Mathlib.Omega.{arith}
use mathlib.Core.Path.{◌≡◌, refl, sym, ap, ◌∙◌}
use mathlib.Core.Bool.{Bool, true, false, cond}
use mathlib.Core.List.{List, [], ◌∷◌, ◌++◌, map, foldl, append_assoc, append-nil}
use lib.ListN.{length, take, drop, length-append, take-append-drop, length-drop}
use lib.Seq.{length-take-le, take_at, drop_at, drop-drop}
use Rattle.visit.specs.Tables.{Tests}
use Rattle.visit.specs.declared.counts.Keep.{Keep}
use Rattle.visit.proofs.Cases.{row-counted, other-counted, kept-other, kept_row, row-behind}
use Rattle.visit.proofs.Classes.{is_row as is_row_by}
use Rattle.visit.proofs.Counters.{keeping}
use Rattle.sorting.specs.Rows.{flat}
use Rattle.sorting.proofs.Rows.{flat-none, flat-more}
use Rattle.sequences.specs.Lists.{keep}

-- words put in at k come after what was before k, and what is beyond them stays
module _ (k : ℕ) (vs ws : List ℕ) (h : k + length vs ≤ length ws) where
  abbrev middle : List ℕ
  middle = take k ws ++ vs ++ drop (k + length vs) ws

  front_length : length (take k ws ++ vs) ≡ k + length vs
  front_length = length-append (take k ws) vs ∙ ap (λ n. n + length vs) (length-take-le k ws (omega arith))

  pub middle-length : length middle ≡ length ws
  middle-length = length-append (take k ws ++ vs) (drop (k + length vs) ws) ∙ omega (arith, front_length, length-drop (k + length vs) ws)

  front_of : take (k + length vs) middle ≡ take k ws ++ vs
  front_of = take_at (take k ws ++ vs) (drop (k + length vs) ws) (k + length vs) front_length

  beyond : (j : ℕ) → drop (k + length vs + j) middle ≡ drop (k + length vs + j) ws
  beyond j =
      sym (drop-drop j (k + length vs) middle)
      ∙ ap (drop j) (drop_at (take k ws ++ vs) (drop (k + length vs) ws) (k + length vs) front_length) ∙ drop-drop j (k + length vs) ws

-- the words after some rows are put in, if there were n rows before and m are put in
abbrev pub after : (n m : ℕ) → List (ℕ × ℕ) → List ℕ → List ℕ
after n m rows ws = take (n * 2) ws ++ flat rows ++ drop ((n + m) * 2) ws

one-row : (n m : ℕ) (r : ℕ × ℕ) (rows : List (ℕ × ℕ)) (ws : List ℕ) → (n + (m + 1)) * 2 ≤ length ws
    → after (n + 1) m rows (take (n * 2) ws ++ (r.0 ∷ r.1 ∷ []) ++ drop (n * 2 + 2) ws) ≡ after n (m + 1) (r ∷ rows) ws
one-row n m r rows ws h =
    let vs : List ℕ = r.0 ∷ r.1 ∷ [] in
    let room : n * 2 + 2 ≤ length ws = omega arith in
    let e : (n + 1) * 2 ≡ n * 2 + 2 = omega arith in
    let f : (n + 1 + m) * 2 ≡ n * 2 + 2 + m * 2 = omega arith in
    let g : (n + (m + 1)) * 2 ≡ n * 2 + 2 + m * 2 = omega arith in
    rw (e, f, g, flat-more r rows, front_of (n * 2) vs ws room, beyond (n * 2) vs ws room (m * 2))
    (ap (λ l. l ++ drop (n * 2 + 2 + m * 2) ws) (append_assoc (take (n * 2) ws) vs (flat rows)))

module _ {A : Type 0} (weight number : A → ℕ) (tests : A → Tests) where
  abbrev is_row : A → Bool
  is_row a = is_row_by (weight a) (tests a)

  abbrev words : A → ℕ × ℕ
  words a = (weight a, number a)

  abbrev step : Keep → A → Keep
  step = keeping weight number tests

  -- the same for a given list of placements
  abbrev leave : (n : ℕ) → List A → List ℕ → List ℕ
  leave n rows ws = after n (length rows) (map words rows) ws

  -- THE WORDS OF A WALK THAT COUNTS
  pub kept-words : (l : List A) (k : Keep) → (k.count.rows + length (keep is_row l)) * 2 ≤ length k.keys.now
      → (foldl step k l).keys.now ≡ after k.count.rows (length (keep is_row l)) (map words (keep is_row l)) k.keys.now
  kept-words [] k h =
      let n : ℕ = k.count.rows in
      let ws : List ℕ = k.keys.now in
      sym (ap (λ l. (take (n * 2) ws ++ l) ++ drop ((n + 0) * 2) ws) flat-none
      ∙ ap (λ l. l ++ drop ((n + 0) * 2) ws) (append-nil (take (n * 2) ws))
      ∙ ap (λ m. take (n * 2) ws ++ drop (m * 2) ws) (add-zero n) ∙ take-append-drop (n * 2) ws)
  kept-words (a ∷ l) k h = go (kept-words l (step k a)) (is_row a) refl h
    where
      ws : List ℕ
      ws = k.keys.now

      n : ℕ
      n = k.count.rows

      go : (((step k a).count.rows + length (keep is_row l)) * 2 ≤ length (step k a).keys.now
          → (foldl step (step k a) l).keys.now ≡ leave (step k a).count.rows (keep is_row l) (step k a).keys.now)
          → (b : Bool) → is_row a ≡ b → (n + length (cond b (a ∷ keep is_row l) (keep is_row l))) * 2 ≤ length ws
          → (foldl step (step k a) l).keys.now ≡ leave n (cond b (a ∷ keep is_row l) (keep is_row l)) ws
      go rest true e h =
          let m : ℕ = length (keep is_row l) in
          let counted = row-counted (weight a) (number a) (tests a) k.count e in
          let stored = kept_row (weight a) (number a) (tests a) k.count ws e ∙ row-behind n (weight a) (number a) ws (omega arith) in
          let same : length (step k a).keys.now ≡ length ws =
          ap length stored ∙ middle-length (n * 2) (weight a ∷ number a ∷ []) ws (omega arith) in
          rest (omega (arith, counted, same))
          ∙ (λ i. after (counted i) m (map words (keep is_row l)) (stored i)) ∙ one-row n m (words a) (map words (keep is_row l)) ws (omega arith)
          ∙ ap (λ x. after n x (words a ∷ map words (keep is_row l)) ws) (add-one m)
      go rest false e h =
          let counted = other-counted (weight a) (number a) (tests a) k.count e ∙ add-zero n in
          let same = kept-other (weight a) (number a) (tests a) k.count ws e in
          rest (omega (arith, counted, ap length same))
          ∙ (λ i. after (counted i) (length (keep is_row l)) (map words (keep is_row l)) (same i))

  -- they are the words that were lent
  pub kept-reference : (l : List A) (k : Keep) → (foldl step k l).keys.ghost_name ≡ k.keys.ghost_name
  kept-reference [] k = refl
  kept-reference (a ∷ l) k = kept-reference l (step k a)
