-- What the program writes is what is printed: the pages of the rows that List leaves are their lines, one after the other, and with the last
-- line they are `printed`.
use Prim.Native.Nat.{ℕ, zero, suc, ◌+◌, ◌-◌, ◌*◌, ◌/◌, ◌≤◌, ◌<◌, min}
use native.Mathlib.Decide.{dec_lt}
use native.Mathlib.Omega.{arith}
use mathlib.Core.Path.{◌≡◌, refl, sym, ap, ap₂, subst, ◌∙◌}
use mathlib.Core.Bool.{false}
use Rattle.std.specs.Prelude.{Option, None, Some, IfSome, is_some}
use Rattle.std.specs.Io.KnownBytes.{Appends, Consumes, IsAtEnd}
use mathlib.Core.List.{List, [], ◌∷◌, ◌++◌, map, append-nil, append_assoc, Memᴰ}
use lib.ListN.{length, take, drop, replicate, length-append, length-take, length-drop}
use lib.Seq.{take_at, take_all, drop-drop, take-append_seam, drop-append_seam}
use Rattle.sequences.specs.Lists.{from, below, joined}
use Rattle.sequences.specs.Results.{Result, ok, refused}
use Rattle.decoding.specs.Bytes.{Bytes, deciding_bytes}
use Rattle.description.specs.Declarations.{Description}
use Rattle.security.specs.Accepted.{Admitted}
use Rattle.security.specs.Soundness.{read}
use Rattle.security.proofs.Accepted.{read-admitted, read-front}
use Rattle.packing.specs.Packing.{digits as clouds}
use Rattle.packing.proofs.Digits.{digits-length}
use Rattle.survey.specs.declared.Row.{Row}
use Rattle.survey.specs.Rows.{rows}
use Rattle.survey.specs.RowWords.{row_key}
use Rattle.survey.proofs.RowsInWords.{rows_few, words_row}
use Rattle.whole_list.specs.WholeList.{row_words, listed, needed, capacity, list_call, rows_after}
use Rattle.whole_list.proofs.Answers.{call-goes, rows-go, fitting as rows_fit, fits-room}
use Rattle.whole_list.proofs.Sorted.{listed-words, listed-length}
use Rattle.list_text.specs.Lines.{ascii, digit, decimal, amount_text, row_line, options_line, written}
use Rattle.list_text.specs.RowLines.{words_line, lines_of, rows_text}
use Rattle.list_text.proofs.RowLines.{words-line, taken-apart}
use Rattle.standard_input.specs.Failures.{BreaksOff}
use Rattle.std.proofs.KnownBytes.{Appends-nil, Appends-trans}
use Rattle.std.proofs.lemmas.List.{nil_from_length}
use Rattle.std.proofs.lemmas.Option.{IfSome_then}
use Rattle.standard_input.proofs.Breaking.{broken_behind}
use Rattle.standard_input.proofs.Reading.{read_front}
use Rattle.listoptions.specs.Printed.{row_lines, printed_for, printed}
use Rattle.listoptions.specs.Making.{held_words, held_keys, held_bytes, page_rows, page_words, rows_of, blocks_of, page_of, lines_in, page_text, last_line, BeginsWith, NextBytes}

-- ---- pages

-- fewer than five words are no row
no_row : (b : ℕ) (l : List ℕ) → length l < 5 → lines_of b l ≡ []
no_row b [] h = refl
no_row b (u ∷ []) h = refl
no_row b (u ∷ v ∷ []) h = refl
no_row b (u ∷ v ∷ w ∷ []) h = refl
no_row b (u ∷ v ∷ w ∷ x ∷ []) h = refl
no_row b (u ∷ v ∷ w ∷ x ∷ y ∷ l) h = absurd (omega arith)

-- a page has the lines of as many rows as there are, up to its own number of rows
up_to : (b m : ℕ) (l : List ℕ) → lines_of b (take (min (length l / 5) m * 5) l) ≡ lines_of b (take (m * 5) l)
up_to b m l = elim (dec_lt (length l / 5) m) [
  | yes h ↦
      let n = length l / 5 in
      let more = drop (n * 5) l in
      let e : min n m * 5 ≡ n * 5 = omega arith in
      let f : m * 5 ≡ (n + (m - n)) * 5 = omega arith in
      let none = no_row b (take ((m - n) * 5) more) (omega (arith, length-take ((m - n) * 5) more, length-drop (n * 5) l)) in
      let lines = lines_of b (take (n * 5) l) in
      let all = ap (λ (k : ℕ). lines_of b (take k l)) f ∙ taken-apart b n (m - n) l ∙ ap (λ r. lines ++ r) none ∙ append-nil lines in
      ap (λ (k : ℕ). lines_of b (take k l)) e ∙ sym all
  | no h ↦ let e : min (length l / 5) m * 5 ≡ m * 5 = omega arith in ap (λ (k : ℕ). lines_of b (take k l)) e
]

-- what goes into a page's bytes is the page
pub page-made : (blocks k : ℕ) (words text : List ℕ) → length text ≡ held_bytes → rows_text (drop (k * page_rows * 5) words) blocks text ≡ page_text blocks words k
page-made blocks k words text h =
    let l = drop (k * page_rows * 5) words in
    let e : length text / 101 ≡ page_rows = omega arith in
    ap (λ (m : ℕ). lines_in blocks (take (min (length l / 5) m * 5) l)) e ∙ up_to (min blocks 16) page_rows l

-- the same of the words of one page alone, which are no more than a page takes
pub lines-made : (blocks : ℕ) (page text : List ℕ) → length page ≤ page_words → length text ≡ held_bytes → rows_text page blocks text ≡ lines_in blocks page
lines-made blocks page text few h = page-made blocks 0 page text h ∙ ap (lines_in blocks) (take_all page_words page few)

-- one more page
pub next-page : (blocks k : ℕ) (words : List ℕ)
    → lines_in blocks (take ((k + 1) * page_rows * 5) words) ≡ lines_in blocks (take (k * page_rows * 5) words) ++ page_text blocks words k
next-page blocks k words =
    let e : (k + 1) * page_rows * 5 ≡ (k * page_rows + page_rows) * 5 = omega arith in
    ap (λ (n : ℕ). lines_in blocks (take n words)) e ∙ taken-apart (min blocks 16) (k * page_rows) page_rows words

-- a page is cut from the front of what is left: it is the first words of that, and what is behind it are the others
module _ (page rest left : List ℕ) (e : left ≡ page ++ rest) (size : length page ≡ min page_words (length left)) where
  cut-front : take page_words left ≡ page
  cut-front = elim (dec_lt (length left) page_words) [
    | yes h ↦
        let none : rest ≡ [] = nil_from_length rest (omega (arith, ap length e ∙ length-append page rest)) in
        take_all page_words left (omega arith) ∙ e ∙ ap (λ r. page ++ r) none ∙ append-nil page
    | no h ↦ let whole : length page ≡ page_words = omega arith in ap (take page_words) e ∙ take_at page rest page_words whole
  ]

  cut-behind : drop page_words left ≡ rest
  cut-behind = elim (dec_lt (length left) page_words) [
    | yes h ↦
        let none : rest ≡ [] = nil_from_length rest (omega (arith, ap length e ∙ length-append page rest)) in
        nil_from_length (drop page_words left) (omega (arith, length-drop page_words left)) ∙ sym none
    | no h ↦ let whole : length page ≡ page_words = omega arith in ap₂ drop (sym whole) e ∙ drop-append_seam page rest
  ]

  -- where the words of the pages before page k are gone, it is page k of all words, and what is behind it is left where page k is gone too
  pub cut-page : (words : List ℕ) (k : ℕ) → left ≡ drop (k * page_rows * 5) words → page ≡ page_of words k
  cut-page words k from = sym cut-front ∙ ap (take page_words) from

  pub cut-rest : (words : List ℕ) (k : ℕ) → left ≡ drop (k * page_rows * 5) words → rest ≡ drop ((k + 1) * page_rows * 5) words
  cut-rest words k from =
      let n : k * page_rows * 5 + page_words ≡ (k + 1) * page_rows * 5 = omega arith in
      sym cut-behind ∙ ap (drop page_words) from ∙ drop-drop page_words (k * page_rows * 5) words ∙ ap (λ (m : ℕ). drop m words) n

-- the lines of the rows that are left are those of the next page and those of the rows behind it
pub page-cut : (blocks : ℕ) (page rest left : List ℕ) → left ≡ page ++ rest → length page ≡ min page_words (length left)
    → lines_in blocks left ≡ lines_in blocks page ++ lines_in blocks rest
page-cut blocks page rest left e size = elim (dec_lt (length left) page_words) [
  | yes h ↦
      let none : rest ≡ [] = nil_from_length rest (omega (arith, ap length e ∙ length-append page rest)) in
      let all : left ≡ page = e ∙ ap (λ r. page ++ r) none ∙ append-nil page in
      ap (lines_in blocks) all ∙ sym (ap (λ r. lines_in blocks page ++ lines_in blocks r) none ∙ append-nil (lines_in blocks page))
  | no h ↦
      let b = min blocks 16 in
      let n = length left in
      let whole : length page ≡ page_words = omega arith in
      let front : take page_words left ≡ page = ap (take page_words) e ∙ take_at page rest page_words whole in
      let behind : drop page_words left ≡ rest = ap₂ drop (sym whole) e ∙ drop-append_seam page rest in
      let few : length rest ≤ n * 5 = omega (arith, ap length e ∙ length-append page rest) in
      ap (lines_of b) (sym (take_all ((page_rows + n) * 5) left (omega arith))) ∙ taken-apart b page_rows n left ∙
      ap₂ ◌++◌ (ap (lines_of b) front) (ap (lines_of b) (ap (take (n * 5)) behind ∙ take_all (n * 5) rest few))
]

-- THE PAGES TOGETHER ARE THE LINES of all rows, if there are enough of them
pages-from : (blocks k n : ℕ) (words : List ℕ)
    → joined (map (page_text blocks words) (from k n)) ≡ lines_in blocks (take (n * page_rows * 5) (drop (k * page_rows * 5) words))
pages-from blocks k zero words = refl
pages-from blocks k (suc n) words =
    let l = drop (k * page_rows * 5) words in
    let e : k * page_rows * 5 + page_rows * 5 ≡ suc k * page_rows * 5 = omega arith in
    let f : (page_rows + n * page_rows) * 5 ≡ suc n * page_rows * 5 = omega arith in
    ap (λ r. page_text blocks words k ++ r)
    (pages-from blocks (suc k) n words ∙
    ap (λ r. lines_in blocks (take (n * page_rows * 5) r)) (sym (drop-drop (page_rows * 5) (k * page_rows * 5) words ∙ ap (λ (m : ℕ). drop m words) e))) ∙
    sym (taken-apart (min blocks 16) page_rows (n * page_rows) l) ∙ ap (λ (m : ℕ). lines_in blocks (take m l)) f

pub pages-lines : (blocks n : ℕ) (words : List ℕ) → length words ≤ n * page_rows * 5 → joined (map (page_text blocks words) (below n)) ≡ lines_in blocks words
pages-lines blocks n words h = pages-from blocks 0 n words ∙ ap (lines_in blocks) (take_all (n * page_rows * 5) words h)

-- ---- the lines of a description's rows

-- the line of a row, and of the words that it has in lent memory
abbrev line_of : (n : ℕ) → Row → List ℕ
line_of n r = row_line r.cost r.placement n r.bill.storage r.bill.transfer r.bill.cpu

abbrev key_line : Description → (n : ℕ) → Row → List ℕ
key_line d n r = words_line n (row_key d r).0 (row_key d r).1 r.bill.storage r.bill.transfer r.bill.cpu

-- the words of rows make the lines of the rows, if each row's words make its own line
lines-of-rows : (d : Description) (n : ℕ) (rs : List Row) → ((r : Row) → Memᴰ r rs → key_line d n r ≡ line_of n r)
    → lines_of n (joined (map (row_words d) rs)) ≡ row_lines n rs
lines-of-rows d n [] h = refl
lines-of-rows d n (r ∷ rs) h = ap₂ ◌++◌ (h r (Memᴰ.head refl)) (lines-of-rows d n rs (λ x m. h x (Memᴰ.tail m)))

module _ (d : Description) (a : Admitted d) where
  abbrev n : ℕ
  n = length d.blocks

  -- the blocks of a row are the clouds packed in its second word
  row-line : (r : Row) → Memᴰ r (rows d) → key_line d n r ≡ line_of n r
  row-line r m =
      let packed = clouds n (row_key d r).1 in
      let size = digits-length n (row_key d r).1 in
      let b = r.bill in
      let same : take n packed ≡ take n r.placement =
      take_all n packed (omega arith) ∙ sym (take_at packed (replicate (16 - n) 0) n size) ∙ ap (take n) (words_row d a r m) in
      words-line n r.cost (row_key d r).1 b.storage b.transfer b.cpu ∙
      ap (λ l. decimal r.cost ++ ascii " " ++ map digit l ++ amount_text b.storage ++ amount_text b.transfer ++ amount_text b.cpu ++ ascii "\n") same

  listed-lines : lines_in n (listed d) ≡ row_lines n (rows d)
  listed-lines =
      let sixteen : min n 16 ≡ n = omega (arith, a.well_formed.limits.blocks) in
      ap (λ (b : ℕ). lines_of b (listed d)) sixteen ∙ ap (lines_of n) (listed-words d) ∙ lines-of-rows d n (rows d) row-line

-- ---- all of it

-- room for as many rows as there can be candidates
abbrev pub held_rows : ℕ
held_rows = capacity held_words held_keys

-- the words of the rows that are printed, from what List answers and leaves
abbrev pub printed_words : Result (ℕ × ℕ) → List ℕ → List ℕ
printed_words answer after = take (rows_of answer * 5) after

-- the rows that are printed are within the words that the call was lent
pub rows-within : (s : List ℕ) (a : Result (ℕ × ℕ)) → a ≡ list_call s held_rows → rows_of a ≤ held_rows
rows-within s (ok e) h = fits-room s held_rows e (sym h)
rows-within s (refused number place) h = omega arith

-- THEIR LINES AND THE LAST ONE ARE WHAT IS PRINTED
pub lines-printed : (s words : List ℕ) → Bytes s
    → lines_in (blocks_of (list_call s held_rows)) (printed_words (list_call s held_rows) (rows_after s held_rows words)) ++ last_line (list_call s held_rows) ≡ printed s
unfolding printed
lines-printed s words bytes = go (read s) refl
  where
    text : Result (ℕ × ℕ) → List ℕ → List ℕ
    text answer after = lines_in (blocks_of answer) (printed_words answer after) ++ last_line answer

    go : (x : Result Description) → read s ≡ x → text (list_call s held_rows) (rows_after s held_rows words) ≡ printed_for x
    go (ok d) e =
        let a = read-admitted s d e bytes in
        let l = rows_fit d held_rows (omega (arith, rows_few d a, a.few)) in
        let beyond = drop (length (listed d)) words in
        ap₂ text (call-goes s held_rows e ∙ l.answers) (rows-go s held_rows e words ∙ l.rows words) ∙
        ap (λ w. lines_in (length d.blocks) w ++ options_line (length (rows d))) (take_at (listed d) beyond (needed d) (listed-length d)) ∙
        ap (λ t. t ++ options_line (length (rows d))) (listed-lines d a)
    go (refused number place) e = ap₂ text (call-goes s held_rows e) (rows-go s held_rows e words)

-- THE PAGES TOGETHER, AND THE LAST LINE, ARE WHAT IS PRINTED
pub pages-printed : (s words : List ℕ) (n : ℕ) → Bytes s
    → let answer = list_call s held_rows in
    let after = printed_words answer (rows_after s held_rows words) in
    length after ≤ n * page_rows * 5 → joined (map (page_text (blocks_of answer) after) (below n)) ++ last_line answer ≡ printed s
pages-printed s words n bytes h =
    let answer = list_call s held_rows in
    let after = printed_words answer (rows_after s held_rows words) in
    ap (λ l. l ++ last_line answer) (pages-lines (blocks_of answer) n after h) ∙ lines-printed s words bytes

-- the same for what List answered and left
pub all_lines : (s words : List ℕ) → Bytes s → {answer : Result (ℕ × ℕ)} {after : List ℕ} {n blocks : ℕ}
    → answer ≡ list_call s held_rows → after ≡ rows_after s held_rows words → n ≡ rows_of answer → blocks ≡ blocks_of answer
    → lines_in blocks (take (n * 5) after) ++ last_line answer ≡ printed s
all_lines s words bytes {answer} {after} e f g h =
    ap₂ (λ (m b : ℕ). lines_in b (take (m * 5) after) ++ last_line answer) g h ∙
    ap₂ (λ x w. lines_in (blocks_of x) (printed_words x w) ++ last_line x) e f ∙ lines-printed s words bytes

-- ---- what is handed over next

-- after a front comes the part that follows it
pub next-bytes : (front part rest : List ℕ) {text : List ℕ} {done : ℕ} → (front ++ part) ++ rest ≡ text → done ≡ length front
    → NextBytes text done part
next-bytes front part rest {text} {done} e d =
    let behind = sym (drop-append_seam front (part ++ rest)) ∙ ap (drop (length front)) (sym (append_assoc front part rest) ∙ e) in
    sym (take-append_seam part rest) ∙ ap (take (length part)) (behind ∙ ap (λ n. drop n text) (sym d))

-- the lines of the rows behind page k
abbrev lines_behind : (blocks k : ℕ) → List ℕ → List ℕ
lines_behind blocks k words = lines_of (min blocks 16) (take (length words * 5) (drop ((k + 1) * page_rows * 5) words))

-- the lines are those of the pages before page k, page k and what is behind it
lines-by-page : (blocks k : ℕ) (words : List ℕ)
    → lines_in blocks words ≡ (lines_in blocks (take (k * page_rows * 5) words) ++ page_text blocks words k) ++ lines_behind blocks k words
lines-by-page blocks k words =
    let b = min blocks 16 in
    let m = (k + 1) * page_rows in
    let n = length words in
    ap (lines_of b) (sym (take_all ((m + n) * 5) words (omega arith))) ∙ taken-apart b m n words ∙
    ap (λ l. l ++ lines_behind blocks k words) (next-page blocks k words)

-- for pages: page k comes after the lines of the pages before it
pub page-next : (blocks k : ℕ) (words : List ℕ) {text : List ℕ} {done : ℕ} → BeginsWith text (lines_in blocks words)
    → done ≡ length (lines_in blocks (take (k * page_rows * 5) words)) → NextBytes text done (page_text blocks words k)
page-next blocks k words (rest, e) d =
    let front = lines_in blocks (take (k * page_rows * 5) words) in
    let page = page_text blocks words k in
    let more = lines_behind blocks k words in
    next-bytes front page (more ++ rest) (sym (append_assoc (front ++ page) more rest) ∙ ap (λ l. l ++ rest) (sym (lines-by-page blocks k words)) ∙ e) d

-- the lines broke off if page k did, after those of the pages before it
pub page-broken : (blocks k : ℕ) (words : List ℕ) (a b c : Option (List ℕ)) → Appends a b (lines_in blocks (take (k * page_rows * 5) words))
    → BreaksOff b c (page_text blocks words k) → BreaksOff a c (lines_in blocks words)
page-broken blocks k words a b c written broken =
    let front = lines_in blocks (take (k * page_rows * 5) words) in
    let page = page_text blocks words k in
    let more = lines_behind blocks k words in
    subst (BreaksOff a c) (sym (lines-by-page blocks k words ∙ append_assoc front page more)) (broken_behind a b c front page more written broken)

-- nothing is said of an error that is not there
pub no-error : {E : Type 0} (P : E → Type 0) (failed : Option E) → failed ≡ None → IfSome failed P
no-error P failed h = subst (λ o. IfSome o P) (sym h) tt

-- and of the one that is there it is so
pub with-error : {E : Type 0} (Q : Type 0) (failed : Option E) (e : E) → IfSome failed (λ x. Q) → failed ≡ Some e → Q
with-error Q failed e q h = subst (λ o. IfSome o (λ x. Q)) h q

-- what did not fail has no error
pub not-failed : {E : Type 0} (failed : Option E) → is_some failed ≡ false → failed ≡ None
not-failed None h = refl
not-failed (Some e) h = cc

-- the lines of the rows before those that are left were handed over, and are so many bytes
pub record Handed (blocks : ℕ) (rows left : List ℕ) (sent : ℕ) (old new : Option (List ℕ)) : Type 0 where
  pub front : List ℕ
  pub lines : front ++ lines_in blocks left ≡ lines_in blocks rows
  pub bytes : sent ≡ length front
  pub taken : Appends old new front

pub none-handed : (blocks : ℕ) (rows left : List ℕ) (old : Option (List ℕ)) → left ≡ rows → Handed blocks rows left 0 old old
none-handed blocks rows left old e = record { front = []; lines = ap (lines_in blocks) e; bytes = refl; taken = Appends-nil old }

pub all-handed : (blocks : ℕ) (rows left : List ℕ) (sent : ℕ) (old new : Option (List ℕ)) → Handed blocks rows left sent old new → length left ≡ 0
    → (sent ≡ length (lines_in blocks rows)) × Appends old new (lines_in blocks rows)
all-handed blocks rows left sent old new h none =
    let all : h.front ≡ lines_in blocks rows =
    sym (ap (λ l. h.front ++ lines_in blocks l) (nil_from_length left none) ∙ append-nil h.front) ∙ h.lines in (
      h.bytes ∙ ap length all,
      subst (Appends old new) all h.taken,
    )

-- the next page of what is left
module _ (blocks : ℕ) (rows left page rest : List ℕ) (sent : ℕ) (old new : Option (List ℕ)) (h : Handed blocks rows left sent old new)
    (e : left ≡ page ++ rest) (size : length page ≡ min page_words (length left)) where
  by-page : h.front ++ (lines_in blocks page ++ lines_in blocks rest) ≡ lines_in blocks rows
  by-page = ap (λ l. h.front ++ l) (sym (page-cut blocks page rest left e size)) ∙ h.lines

  -- it comes next in a text that begins with the lines
  pub cut-next : (text : List ℕ) → BeginsWith text (lines_in blocks rows) → NextBytes text sent (lines_in blocks page)
  cut-next text (after, begins) =
      let lines = lines_in blocks page in
      let more = lines_in blocks rest in
      next-bytes h.front lines (more ++ after)
      (sym (append_assoc (h.front ++ lines) more after) ∙ ap (λ l. l ++ after) (append_assoc h.front lines more ∙ by-page) ∙ begins) h.bytes

  pub page-handed : (after : Option (List ℕ)) (bytes : ℕ) → bytes ≡ sent + length (lines_in blocks page) → Appends new after (lines_in blocks page)
      → Handed blocks rows rest bytes old after
  page-handed after bytes count written = record {
    front = h.front ++ lines_in blocks page;
    lines = append_assoc h.front (lines_in blocks page) (lines_in blocks rest) ∙ by-page;
    bytes = count ∙ ap (λ (n : ℕ). n + length (lines_in blocks page)) h.bytes ∙ sym (length-append h.front (lines_in blocks page));
    taken = Appends-trans old new after h.front (lines_in blocks page) h.taken written;
  }

  -- the lines broke off if the page did
  pub cut-broken : (after : Option (List ℕ)) → BreaksOff new after (lines_in blocks page) → BreaksOff old after (lines_in blocks rows)
  cut-broken after broken =
      subst (BreaksOff old after) by-page (broken_behind old new after h.front (lines_in blocks page) (lines_in blocks rest) h.taken broken)

-- a text that was put at the front of a buffer is what is handed over of it
pub front-is : (text old : List ℕ) {now : List ℕ} {end : ℕ} → end ≡ length text → now ≡ written text old 0 → take end now ≡ text
front-is text old e h = ap₂ take e h ∙ take-append_seam text (drop (0 + length text) old)

-- what is put at the front of a text ends within it
pub text-within : (text old : List ℕ) {now : List ℕ} {end : ℕ} → end ≡ length text → now ≡ written text old 0 → end ≤ length now
text-within text old e h = omega (arith, e, ap length h ∙ length-append text (drop (0 + length text) old))

-- The first `deciding_bytes` of a longer input decide what is printed, so the program need not read more than fits into its buffer.
pub printed-front : (s : List ℕ) (n : ℕ) → deciding_bytes ≤ n → printed (take n s) ≡ printed s
unfolding printed
printed-front s n h = ap printed_for (read-front s n h)

-- what is so of the text that is printed for what was read is so of that for what a reader had left: what fits decides
pub read-decides : (P : List ℕ → Type 0) (old new : Option (List ℕ)) (space : List ℕ) (count : ℕ) → length space ≡ 4096 → count ≤ length space
    → Consumes old new (take count space) → (count < length space → IsAtEnd new) → P (printed (take count space)) → IfSome old (λ s. P (printed s))
read-decides P old new space count size few e end p =
    IfSome_then old (read_front (λ s. P (printed s)) old new space 4096 count size few e end p)
    (λ s. subst P (printed-front s 4096 (omega arith)))
