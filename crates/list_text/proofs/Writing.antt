-- Bytes written into a buffer: a text after a text, and a byte after a text.
use Prim.Native.Nat.{ℕ, suc, ◌+◌, ◌≤◌, ◌<◌}
use native.Mathlib.Numerals.{add-one}
use native.Mathlib.Omega.{arith}
use mathlib.Core.Path.{◌≡◌, refl, sym, ap, ap₂, ◌∙◌}
use mathlib.Core.List.{List, [], ◌∷◌, ◌++◌, append_assoc}
use lib.ListN.{length, take, drop, set, length-append, length-drop, take-append-drop}
use lib.Seq.{set_split, take_at, drop_at, drop-drop, length-take-le, append_snoc}
use Rattle.list_text.specs.Lines.{written}

module _ (text buffer : List ℕ) (at : ℕ) (room : at + length text ≤ length buffer) where
  front_length : length (take at buffer ++ text) ≡ at + length text
  front_length = length-append (take at buffer) text ∙ ap (λ (n : ℕ). n + length text) (length-take-le at buffer (omega arith))

  pub written-length : length (written text buffer at) ≡ length buffer
  written-length =
      let f = front_length in
      let d = length-drop (at + length text) buffer in
      length-append (take at buffer ++ text) (drop (at + length text) buffer) ∙ omega arith

  pub written-front : take (at + length text) (written text buffer at) ≡ take at buffer ++ text
  written-front = take_at (take at buffer ++ text) (drop (at + length text) buffer) (at + length text) front_length

  written_back : drop (at + length text) (written text buffer at) ≡ drop (at + length text) buffer
  written_back = drop_at (take at buffer ++ text) (drop (at + length text) buffer) (at + length text) front_length

  -- a text after the text
  behind : (more : List ℕ) → written more (written text buffer at) (at + length text) ≡ written (text ++ more) buffer at
  behind more =
      let n = at + length text in
      let e : n + length more ≡ at + length (text ++ more) = omega (arith, length-append text more) in
      ap₂ ◌++◌ (ap (λ l. l ++ more) written-front ∙ append_assoc (take at buffer) text more)
      (sym (drop-drop (length more) n (written text buffer at)) ∙ ap (drop (length more)) written_back ∙ drop-drop (length more) n buffer
      ∙ ap (λ (k : ℕ). drop k buffer) e)

-- a byte stored is a text of one byte
pub one_byte : (buffer : List ℕ) (i b : ℕ) → i < length buffer → set buffer i b ≡ written (b ∷ []) buffer i
one_byte buffer i b h =
    set_split buffer i b h ∙ sym (append_snoc (take i buffer) b (drop (suc i) buffer))
    ∙ ap (λ (n : ℕ). take i buffer ++ (b ∷ []) ++ drop n buffer) (sym (add-one i))

-- the same for a buffer into which the first text was written already
pub then-text : (text first buffer : List ℕ) (at i : ℕ) → buffer ≡ written text first at → i ≡ at + length text
    → (more : List ℕ) → i ≤ length first → written more buffer i ≡ written (text ++ more) first at
then-text text first buffer at i e here more room = ap₂ (written more) e here ∙ behind text first at (omega arith) more

-- A text is in the buffer from `at` up to `end`, where the next one can go.
pub record Put (text first buffer : List ℕ) (at end : ℕ) : Type 0 where
  pub ends : end ≡ at + length text
  pub bytes : buffer ≡ written text first at

module _ {text first buffer : List ℕ} {at end : ℕ} (p : Put text first buffer at end) where
  pub then-put : {last : List ℕ} {stop : ℕ} (more : List ℕ) → end ≤ length first → stop ≡ end + length more → last ≡ written more buffer end
      → Put (text ++ more) first last at stop
  then-put more room e f = record {
    ends = omega (arith, length-append text more, p.ends);
    bytes = f ∙ then-text text first buffer at end p.bytes p.ends more room;
  }

  pub then-byte : (b : ℕ) → end < length first → Put (text ++ (b ∷ [])) first (set buffer end b) at (end + 1)
  then-byte b room =
      let l : length buffer ≡ length first = ap length p.bytes ∙ written-length text first at (omega (arith, p.ends)) in
      then-put (b ∷ []) (omega arith) refl (one_byte buffer end b (omega arith))

-- a text that stands between what was before it and after it
pub stands : (text first buffer : List ℕ) (at : ℕ) → take at buffer ≡ take at first → drop at buffer ≡ text ++ drop (at + length text) first
    → buffer ≡ written text first at
stands text first buffer at front back =
    sym (take-append-drop at buffer) ∙ ap₂ ◌++◌ front back ∙ sym (append_assoc (take at first) text (drop (at + length text) first))
