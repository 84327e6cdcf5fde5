-- The rows' keys, sorted, are those of the list, and with their bills they are the list.
use Prim.Native.Nat.{ℕ, ◌+◌, ◌*◌, ◌≤◌}
use native.Mathlib.Omega.{arith}
use mathlib.Core.Path.{◌≡◌, refl, sym, ap, ap₂, subst, ◌∙◌}
use mathlib.Core.Bool.{true, cond}
use mathlib.Core.List.Memᴰ
use mathlib.Core.List.{List, [], ◌∷◌, ◌++◌, map, map-map, Memᴰ}
use lib.ListN.{length, drop, replicate, length-append, length-drop, length-map, length-replicate}
use lib.Seq.{take_at, drop_at, drop-append-add, drop-drop}
use Rattle.sequences.specs.Lists.{sort, joined}
use Rattle.sequences.proofs.Agreeing.{map-agree}
use Rattle.sequences.proofs.Joined.{joined_length}
use Rattle.sequences.proofs.Sorting.{sort-map}
use Rattle.description.specs.Declarations.{Description}
use Rattle.security.specs.Accepted.{Admitted}
use Rattle.costs.specs.declared.answers.Bill.{Bill}
use Rattle.costs.specs.Cost.{bill_of, cost}
use Rattle.sorting.specs.Rows.{flat, lower, pairs, sorted_front, cleared_front, room_for}
use Rattle.sorting.proofs.Room.{has_room, sorted-front-is, cleared-front-is}
use Rattle.sorting.proofs.Rows.{length-flat, pairs-flat, flat-each}
use Rattle.survey.specs.declared.Row.{Row}
use Rattle.survey.specs.Rows.{earlier, rows}
use Rattle.survey.specs.RowWords.{row_key, keys_needed, unsorted}
use Rattle.survey.proofs.Billing.{row-billed, row-costs}
use Rattle.survey.proofs.Drawing.{rows-sorted}
use Rattle.survey.proofs.Drawing.{unsorted as unsorted_rows}
use Rattle.survey.proofs.RowsInWords.{ordered-rows, unsorted-pairs, unsorted-length, words_row}
use Rattle.whole_list.specs.Billing.{Priced, AllPriced, billed, billed_front}
use Rattle.whole_list.specs.WholeList.{row_words, listed, needed, cleared}

-- the list is the words of the rows, in their order: five for each
pub listed-words : (d : Description) → listed d ≡ joined (map (row_words d) (rows d))
unfolding listed
listed-words d = refl

pub listed-length : (d : Description) → length (listed d) ≡ needed d
listed-length d = ap length (listed-words d) ∙ joined_length (row_words d) 5 (λ r. refl) (rows d)

module _ (d : Description) (a : Admitted d) where
  -- the keys of the rows, in the rows' order
  abbrev pub keys : List ℕ
  keys = flat (map (row_key d) (rows d))

  keys_length : length keys ≡ keys_needed d
  keys_length = length-flat (map (row_key d) (rows d)) ∙ ap (λ k. k * 2) (length-map (rows d) (row_key d))

  -- SORTED, THEY ARE THE KEYS OF THE LIST
  sorted-keys : flat (sort lower (pairs (unsorted d))) ≡ keys
  sorted-keys =
      ap (λ l. flat (sort lower l)) (unsorted-pairs d a) ∙
      ap flat (sort-map (row_key d) earlier lower (unsorted_rows d) (ordered-rows d a)) ∙
      ap (λ l. flat (map (row_key d) l)) (sym (rows-sorted d))

  -- the sort turns the one into the other, and leaves what is beyond
  pub sorted_front_lem : (ws : List ℕ) → sorted_front (length (rows d)) (unsorted d ++ ws) ≡ keys ++ ws
  sorted_front_lem ws =
      sorted-front-is (length (rows d)) (unsorted d ++ ws) ∙
      ap₂ (λ x y. flat (sort lower (pairs x)) ++ y)
      (take_at (unsorted d) ws (keys_needed d) (unsorted-length d a)) (drop_at (unsorted d) ws (keys_needed d) (unsorted-length d a))
      ∙ ap (λ l. l ++ ws) sorted-keys

  -- a key with the bill of its placement is the row that has the key
  billed-row : (r : Row) → Memᴰ r (rows d) → billed d (row_key d r) ≡ row_words d r
  billed-row r m =
      let bill : Bill → List ℕ = λ b. (row_key d r).0 ∷ (row_key d r).1 ∷ b.storage ∷ b.transfer ∷ b.cpu ∷ [] in
      ap bill (ap (bill_of d) (words_row d a r m) ∙ sym (row-billed d r m))

  -- a key's cost is that of its placement
  pub keys-priced : (ws : List ℕ) → AllPriced d (length (rows d)) (keys ++ ws)
  keys-priced ws i h = flat-each (Priced d) (map (row_key d) (rows d)) ws each i (omega (arith, length-map (rows d) (row_key d)))
    where
      each : (k : ℕ × ℕ) → Memᴰ k (map (row_key d) (rows d)) → Priced d k
      each k m =
          let (r, listed, e) = Memᴰ.of_map (row_key d) (rows d) m in
          subst (Priced d) e (row-costs d r listed ∙ ap (cost d) (sym (words_row d a r listed)))

  -- WITH THEIR BILLS, THEY ARE THE LIST
  pub billed-front : (ws : List ℕ) → billed_front d (length (rows d)) (keys ++ ws) ≡ listed d
  billed-front ws =
      ap (λ l. joined (map (billed d) (pairs l))) (take_at keys ws (keys_needed d) keys_length) ∙
      ap (λ l. joined (map (billed d) l)) (pairs-flat (map (row_key d) (rows d))) ∙
      ap joined (map-map (billed d) (row_key d) (rows d) ∙ map-agree _ _ (rows d) billed-row) ∙ sym (listed-words d)

  -- THE STEPS TOGETHER: a walk keeps the keys in the scratch, they are sorted there with the rows' words as spare words, and billed
  module _ (words scratch : List ℕ) (h : needed d ≤ length words) (k : keys_needed d ≤ length scratch)
      {count : ℕ} {kept : List ℕ} (counted : count ≡ length (rows d)) (keeps : kept ≡ unsorted d ++ drop (keys_needed d) scratch) where
    fits : room_for count kept words ≡ true
    fits =
        let size : length kept ≡ length scratch =
        ap length keeps ∙ length-append (unsorted d) (drop (keys_needed d) scratch) ∙
        omega (arith, unsorted-length d a, length-drop (keys_needed d) scratch) in
        has_room count kept words (omega arith) (omega arith)

    pub sorted-scratch : {after : List ℕ} → after ≡ cond (room_for count kept words) (sorted_front count kept) kept
        → after ≡ keys ++ drop (keys_needed d) scratch
    sorted-scratch e =
        e ∙ ap (λ b. cond b (sorted_front count kept) kept) fits ∙ (λ i. sorted_front (counted i) (keeps i)) ∙ sorted_front_lem (drop (keys_needed d) scratch)

    pub spare-words : {after : List ℕ} → after ≡ cond (room_for count kept words) (cleared_front count words) words
        → after ≡ cleared d ++ drop (keys_needed d) words
    spare-words e =
        e ∙ ap (λ b. cond b (cleared_front count words) words) fits ∙ ap (λ n. cleared_front n words) counted ∙ cleared-front-is (length (rows d)) words

    -- what is beyond the rows was not touched by the sort
    beyond-spare : drop (needed d) (cleared d ++ drop (keys_needed d) words) ≡ drop (needed d) words
    beyond-spare =
        let n = length (rows d) in
        let e : needed d ≡ length (cleared d) + n * 3 = omega (arith, length-replicate {A = ℕ} (keys_needed d) 0) in
        let f : keys_needed d + n * 3 ≡ needed d = omega arith in
        ap (λ j. drop j (cleared d ++ drop (keys_needed d) words)) e ∙ drop-append-add (cleared d) (drop (keys_needed d) words) (n * 3) ∙
        drop-drop (n * 3) (keys_needed d) words ∙ ap (λ j. drop j words) f

    pub all-billed : {sorted spare after : List ℕ} → sorted ≡ keys ++ drop (keys_needed d) scratch → spare ≡ cleared d ++ drop (keys_needed d) words
        → after ≡ billed_front d count sorted ++ drop (count * 5) spare → after ≡ listed d ++ drop (needed d) words
    all-billed s e b =
        b ∙ (λ i. billed_front d (counted i) (s i) ++ drop (counted i * 5) (e i)) ∙
        ap₂ ◌++◌ (billed-front (drop (keys_needed d) scratch)) beyond-spare

    pub all-cleared : {sorted after : List ℕ} → sorted ≡ keys ++ drop (keys_needed d) scratch
        → after ≡ replicate (count * 2) 0 ++ drop (count * 2) sorted → after ≡ cleared d ++ drop (keys_needed d) scratch
    all-cleared s b =
        b ∙ (λ i. replicate (counted i * 2) 0 ++ drop (counted i * 2) (s i)) ∙
        ap (λ l. cleared d ++ l) (drop_at keys (drop (keys_needed d) scratch) (keys_needed d) keys_length)
