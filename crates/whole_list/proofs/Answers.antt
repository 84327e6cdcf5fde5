-- What the call answers and leaves, case by case: the rows fit, they do not, or the description is refused.
use Prim.Native.Nat.{ℕ, ◌≤◌, ◌<◌}
use mathlib.Core.Path.{◌≡◌, refl, sym, ap, subst}
use mathlib.Core.Bool.{Bool, true, false, cond}
use mathlib.Core.List.{List, ◌++◌}
use lib.Dec.{leb}
use lib.ListN.{length, drop}
use borrow.Author.Tests.{le-leb, lt-leb, leb-true}
use Rattle.description.specs.Declarations.{Description}
use Rattle.security.specs.Soundness.{read}
use Rattle.survey.specs.Rows.{rows}
use Rattle.sequences.specs.Results.{Result, ok, refused, and_then}
use Rattle.sequences.proofs.Results.{ok-inj, ok-not-refused}
use Rattle.whole_list.specs.WholeList.{listed, needed, listed_in, list_call, replaced, cleared, rows_after, scratch_after}

-- the result of the call, from Read's result
abbrev called : Result Description → (room : ℕ) → Result (ℕ × ℕ)
called r room = and_then r (λ d. listed_in d room)

-- the call depends on Read's result: its answer, and the lent words after it
module _ (s : List ℕ) (room : ℕ) {v : Result Description} (gives : read s ≡ v) where
  pub call-goes : list_call s room ≡ called v room
  unfolding list_call
  call-goes = ap (λ r. called r room) gives

  pub rows-go : (words : List ℕ) → rows_after s room words ≡ replaced v room listed words
  unfolding rows_after
  rows-go words = ap (λ r. replaced r room listed words) gives

  pub scratch-goes : (words : List ℕ) → scratch_after s room words ≡ replaced v room cleared words
  unfolding scratch_after
  scratch-goes words = ap (λ r. replaced r room cleared words) gives

-- the answer for an accepted description, and the lent words after it
pub record Left (d : Description) (room : ℕ) (answer : Result (ℕ × ℕ)) (front back : List ℕ → List ℕ) : Type 0 where
  pub answers : listed_in d room ≡ answer
  pub rows : (words : List ℕ) → replaced (ok d) room listed words ≡ front words
  pub scratch : (words : List ℕ) → replaced (ok d) room cleared words ≡ back words

-- the rows fit, or they do not
module _ (d : Description) (room : ℕ) where
  abbrev within : List ℕ → List ℕ → List ℕ
  within front words = front ++ drop (length front) words

  pub fitting : length (rows d) ≤ room → Left d room (ok (length (rows d), length d.blocks)) (within (listed d)) (within (cleared d))
  fitting h = let t = le-leb (length (rows d)) room h in record { answers = rw t refl; rows = λ words. rw t refl; scratch = λ words. rw t refl }

  pub short : room < length (rows d) → Left d room (refused 16 (needed d)) (λ words. words) (λ words. words)
  short h = let t = lt-leb (length (rows d)) room h in record { answers = rw t refl; rows = λ words. rw t refl; scratch = λ words. rw t refl }

-- the rows that are answered fit into the room
pub fits-room : (s : List ℕ) (room : ℕ) (e : ℕ × ℕ) → list_call s room ≡ ok e → e.0 ≤ room
unfolding list_call
fits-room s room e = go (read s)
  where
    fits : (d : Description) (b : Bool) → leb (length (rows d)) room ≡ b
        → cond b (ok (length (rows d), length d.blocks)) (refused 16 (needed d)) ≡ ok e → e.0 ≤ room
    fits d true t h = subst (λ x. x.0 ≤ room) (ok-inj h) (leb-true (length (rows d)) room t)
    fits d false t h = absurd (ok-not-refused (sym h))

    go : (r : Result Description) → called r room ≡ ok e → e.0 ≤ room
    go (ok d) h = fits d (leb (length (rows d)) room) refl h
    go (refused number place) h = absurd (ok-not-refused (sym h))
