-- The lines of many rows: how long a line is, what its parts are, and that the lines of rows one after the other are those of all.
use Prim.Native.Nat.{ℕ, zero, suc, ◌+◌, ◌*◌, ◌/◌, ◌≤◌, ◌<◌, ◌^◌}
use native.Mathlib.Omega.{arith}
use mathlib.Core.Path.{◌≡◌, refl, sym, ap, ◌∙◌}
use mathlib.Core.List.{List, [], ◌∷◌, ◌++◌, map, append-nil, append_assoc}
use lib.ListN.{length, get_or, take, drop, length-append, length-map, get_or-map}
use lib.Seq.{take_all, take-nil}
use Rattle.sequences.proofs.Loops.{rest}
use Rattle.packing.specs.Packing.{digits as clouds}
use Rattle.packing.proofs.Digits.{digits-length}
use Rattle.list_text.specs.Lines.{digit, decimal, amount_text, row_line}
use Rattle.list_text.specs.RowLines.{words_of_row, bytes_of_line, words_line, front_text, lines_of}
use Rattle.list_text.specs.Statements.{RowLines}
use Rattle.list_text.proofs.Decimals.{fit_words}

-- the byte of a block's cloud
pub cloud_byte : (blocks place block cloud : ℕ) → cloud < 8 → cloud ≡ get_or (clouds blocks place) block 0
    → 48 + cloud ≡ get_or (map digit (clouds blocks place)) block (digit 0)
cloud_byte blocks place block cloud low e =
    let d : 48 + cloud ≡ digit cloud = omega arith in
    d ∙ ap digit e ∙ sym (get_or-map digit (clouds blocks place) block 0)

pub clouds-size : (n p : ℕ) → length (map digit (clouds n p)) ≡ n
clouds-size n p = length-map (clouds n p) digit ∙ digits-length n p

-- the line of a row's words is the line of the row that they pack
pub words-line : (blocks cost place storage transfer cpu : ℕ)
    → words_line blocks cost place storage transfer cpu ≡ row_line cost (clouds blocks place) blocks storage transfer cpu
unfolding words_line
words-line blocks cost place storage transfer cpu = refl

-- a line is made of these parts
pub line-parts : (blocks cost place storage transfer cpu : ℕ)
    → words_line blocks cost place storage transfer cpu
    ≡ front_text blocks cost place ++ amount_text storage ++ amount_text transfer ++ amount_text cpu ++ (10 ∷ [])
unfolding words_line front_text
line-parts blocks cost place storage transfer cpu =
    ap (λ l. decimal cost ++ (32 ∷ []) ++ map digit l ++ amount_text storage ++ amount_text transfer ++ amount_text cpu ++ (10 ∷ []))
    (take_all blocks (clouds blocks place) (omega (arith, digits-length blocks place)))

pub front_length : (blocks cost place : ℕ) → length (front_text blocks cost place) ≡ length (decimal cost) + blocks + 1
unfolding front_text
front_length blocks cost place = let n = clouds-size blocks place in simp length-append (omega arith)

pub line_length : (blocks cost place storage transfer cpu : ℕ)
    → length (words_line blocks cost place storage transfer cpu)
    ≡ length (decimal cost) + blocks + length (decimal storage) + length (decimal transfer) + length (decimal cpu) + 5
line_length blocks cost place storage transfer cpu =
    let n = front_length blocks cost place in
    ap length (line-parts blocks cost place storage transfer cpu) ∙ simp length-append (omega arith)

pub row-lines : RowLines
row-lines = record {
  line =
      λ blocks cost place storage transfer cpu h l₁ l₂ l₃ l₄.
      (let n = fit_words cost storage transfer cpu l₁ l₂ l₃ l₄ in
      let e = line_length blocks cost place storage transfer cpu in
      record { some = omega arith; few = omega arith });
}

-- the words of one more row
abbrev row_and : ℕ → ℕ
row_and n = suc (suc (suc (suc (suc n))))

-- the lines of the first i words are those of the first j and of the k words after these
abbrev Apart : (b i j k : ℕ) (l : List ℕ) → Type 0
Apart b i j k l = lines_of b (take i l) ≡ lines_of b (take j l) ++ lines_of b (take k (drop j l))

no_words : (b k : ℕ) → [] ≡ lines_of b (take k [])
no_words b k = sym (ap (lines_of b) (take-nil k))

row_before : (b i j k : ℕ) → ((l : List ℕ) → Apart b i j k l) → (l : List ℕ) → Apart b (row_and i) (row_and j) k l
row_before b i j k h [] = no_words b k
row_before b i j k h (cost ∷ []) = no_words b k
row_before b i j k h (cost ∷ place ∷ []) = no_words b k
row_before b i j k h (cost ∷ place ∷ storage ∷ []) = no_words b k
row_before b i j k h (cost ∷ place ∷ storage ∷ transfer ∷ []) = no_words b k
row_before b i j k h (cost ∷ place ∷ storage ∷ transfer ∷ cpu ∷ l) =
    let line = words_line b cost place storage transfer cpu in
    ap (λ s. line ++ s) (h l) ∙ sym (append_assoc line (lines_of b (take j l)) (lines_of b (take k (drop j l))))

-- the lines of m rows, and of n more after them
pub taken-apart : (b m n : ℕ) (l : List ℕ)
    → lines_of b (take ((m + n) * words_of_row) l)
    ≡ lines_of b (take (m * words_of_row) l) ++ lines_of b (take (n * words_of_row) (drop (m * words_of_row) l))
taken-apart b zero n l = let e : (zero + n) * words_of_row ≡ n * words_of_row = omega arith in ap (λ (k : ℕ). lines_of b (take k l)) e
taken-apart b (suc m) n l =
    let e : (suc m + n) * words_of_row ≡ row_and ((m + n) * words_of_row) = omega arith in
    let f : suc m * words_of_row ≡ row_and (m * words_of_row) = omega arith in
    rw (e, f) (row_before b ((m + n) * words_of_row) (m * words_of_row) (n * words_of_row) (taken-apart b m n) l)

-- the line of the row whose first word is word i
abbrev pub line_at : (b : ℕ) (words : List ℕ) (i : ℕ) → List ℕ
line_at b words i =
    words_line b (get_or words i 0) (get_or words (i + 1) 0) (get_or words (i + 2) 0) (get_or words (i + 3) 0) (get_or words (i + 4) 0)

next_word : (words : List ℕ) (i j : ℕ) → i < length words → j ≡ i + 1 → drop i words ≡ get_or words i 0 ∷ drop j words
next_word words i j h e = rest words 0 i h ∙ ap (λ (n : ℕ). get_or words i 0 ∷ drop n words) (sym e)

one-row : (b : ℕ) (words : List ℕ) (i : ℕ) → i + 4 < length words → lines_of b (take words_of_row (drop i words)) ≡ line_at b words i
one-row b words i h =
    let w₀ = next_word words i (i + 1) (omega arith) refl in
    let w₁ = next_word words (i + 1) (i + 2) (omega arith) (omega arith) in
    let w₂ = next_word words (i + 2) (i + 3) (omega arith) (omega arith) in
    let w₃ = next_word words (i + 3) (i + 4) (omega arith) (omega arith) in
    let w₄ = next_word words (i + 4) (i + 5) h (omega arith) in
    rw (w₀, w₁, w₂, w₃, w₄) (append-nil (line_at b words i))

-- one more row
pub next_row : (b : ℕ) (words : List ℕ) (row : ℕ) → row * words_of_row + 4 < length words
    → lines_of b (take ((row + 1) * words_of_row) words) ≡ lines_of b (take (row * words_of_row) words) ++ line_at b words (row * words_of_row)
next_row b words row room =
    taken-apart b row 1 words ∙ ap (λ l. lines_of b (take (row * words_of_row) words) ++ l) (one-row b words (row * words_of_row) room)

-- a line has at most `bytes_of_line` bytes, and many lines as many times that
pub line-few : (b : ℕ) (words : List ℕ) (i : ℕ) → b ≤ 16 → ((k : ℕ) → get_or words k 0 < 2 ^ 64) → length (line_at b words i) ≤ bytes_of_line
line-few b words i h w = (row-lines.line b _ _ _ _ _ h (w i) (w (i + 2)) (w (i + 3)) (w (i + 4))).few

pub lines-few : (b : ℕ) (words : List ℕ) → b ≤ 16 → ((i : ℕ) → get_or words i 0 < 2 ^ 64)
    → length (lines_of b words) ≤ bytes_of_line * (length words / words_of_row)
lines-few b [] h w = omega arith
lines-few b (cost ∷ []) h w = omega arith
lines-few b (cost ∷ place ∷ []) h w = omega arith
lines-few b (cost ∷ place ∷ storage ∷ []) h w = omega arith
lines-few b (cost ∷ place ∷ storage ∷ transfer ∷ []) h w = omega arith
lines-few b (cost ∷ place ∷ storage ∷ transfer ∷ cpu ∷ words) h w =
    let line = words_line b cost place storage transfer cpu in
    let few : length line ≤ bytes_of_line = line-few b (cost ∷ place ∷ storage ∷ transfer ∷ cpu ∷ words) 0 h w in
    omega (arith, length-append line (lines_of b words), lines-few b words h (λ i. w (row_and i)))
