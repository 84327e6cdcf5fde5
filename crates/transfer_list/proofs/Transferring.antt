-- Transfers, edge by edge: the first edge's own, then those of the rest; and their bytes, four for each.
use Prim.Native.Nat.{ℕ, suc, ◌+◌, ◌*◌, ◌≤◌, ◌<◌, zero-le}
use native.Mathlib.Nat.{suc-mul, zero-mul}
use native.Mathlib.Numerals.{add-one}
use native.Mathlib.Omega.{arith}
use mathlib.Core.Path.{◌≡◌, refl, sym, ap, ap₂, ◌∙◌}
use mathlib.Core.Bool.{Bool, true, false, cond}
use mathlib.Core.List.{List, [], ◌∷◌, ◌++◌, map, append-nil, append_assoc}
use Rattle.std.specs.List.{filter}
use lib.ListN.{length, get_or, take, drop, length-append, take-append-drop, drop_of_length-le}
use borrow.Author.Tests.{lt-ltb, le-ltb}
use lib.Seq.{sets, sets-eq, length-sets, length-take-le, take_at, drop_at, drop-drop}
use Rattle.description.specs.declared.workflow.Edge.{Edge}
use Rattle.description.specs.Declarations.{Description, no_edge}
use Rattle.security.specs.Placements.{moves}
use Rattle.transfer_list.specs.Transfers.{Transfer, transfer_of, transfers_from, transfers, bytes_of, fitted, buffer_after}
use Rattle.sequences.specs.Results.{ok, refused}
use Rattle.sequences.specs.Lists.{sum}
use Rattle.sequences.proofs.Loops.{rest}
use Rattle.sequences.proofs.Tests.{cond_ind}

-- the edge's own transfer, if it makes one, comes before those of the later edges
pub own_first : (n : ℕ) (p : List ℕ) (e : Edge) (es : List Edge) → transfers_from n p (e ∷ es) ≡ transfers_from n p (e ∷ []) ++ transfers_from (suc n) p es
own_first n p e es = go (moves p e)
  where
    go : (b : Bool)
        → cond b (transfer_of n p e ∷ transfers_from (suc n) p es) (transfers_from (suc n) p es) ≡
        cond b (transfer_of n p e ∷ []) [] ++ transfers_from (suc n) p es
    go true = refl
    go false = refl

pub bytes-append : (ts us : List Transfer) → bytes_of (ts ++ us) ≡ bytes_of ts ++ bytes_of us
bytes-append [] us = refl
bytes-append (t ∷ ts) us = ap (λ l. t.edge ∷ t.datum ∷ t.source ∷ t.destination ∷ l) (bytes-append ts us)

-- four bytes for each
pub bytes-length : (ts : List Transfer) → length (bytes_of ts) ≡ length ts * 4
bytes-length [] = sym (zero-mul 4)
bytes-length (t ∷ ts) = rw suc-mul (omega (arith, bytes-length ts))

-- from edge i on: edge i's own, and from the next edge on
pub from_next : (p : List ℕ) (es : List Edge) (i : ℕ) → i < length es
    → transfers_from i p (drop i es) ≡ transfers_from i p (get_or es i no_edge ∷ []) ++ transfers_from (i + 1) p (drop (i + 1) es)
from_next p es i h =
    ap (transfers_from i p) (rest es no_edge i h) ∙ own_first i p (get_or es i no_edge) (drop (i + 1) es) ∙
    ap (λ (k : ℕ). transfers_from i p (get_or es i no_edge ∷ []) ++ transfers_from k p (drop (i + 1) es)) (sym (add-one i))

-- an edge that moves its datum makes one transfer, another makes none
pub moved-one : (n : ℕ) (p : List ℕ) (e : Edge) → moves p e ≡ true → length (transfers_from n p (e ∷ [])) ≡ 1
moved-one n p e h = simp h

pub stayed-none : (n : ℕ) (p : List ℕ) (e : Edge) → moves p e ≡ false → length (transfers_from n p (e ∷ [])) ≡ 0
stayed-none n p e h = simp h

-- there is one for each edge that moves its datum
counted-from : (n : ℕ) (p : List ℕ) (es : List Edge) → length (filter (moves p) es) ≡ length (transfers_from n p es)
counted-from n p [] = refl
counted-from n p (e ∷ es) = go (moves p e) (counted-from (suc n) p es)
  where
    go : (b : Bool) → length (filter (moves p) es) ≡ length (transfers_from (suc n) p es)
        → length (cond b (e ∷ filter (moves p) es) (filter (moves p) es))
        ≡ length (cond b (transfer_of n p e ∷ transfers_from (suc n) p es) (transfers_from (suc n) p es))
    go true h = ap suc h
    go false h = h

pub transfers_counted : (d : Description) (p : List ℕ) → length (filter (moves p) d.edges) ≡ length (transfers d p)
unfolding transfers
transfers_counted d p = counted-from 0 p d.edges

-- there are no more transfers than edges
pub transfers-length : (n : ℕ) (p : List ℕ) (es : List Edge) → length (transfers_from n p es) ≤ length es
transfers-length n p [] = zero-le
transfers-length n p (e ∷ es) =
    cond_ind (λ (l : List Transfer). length l ≤ suc (length es)) (moves p e) (transfer_of n p e ∷ transfers_from (suc n) p es) (transfers_from (suc n) p es)
    (λ _. omega (arith, transfers-length (suc n) p es)) (λ _. omega (arith, transfers-length (suc n) p es))

pub transfers-few : (d : Description) (p : List ℕ) → length (transfers d p) ≤ length d.edges
unfolding transfers
transfers-few d p = transfers-length 0 p d.edges

-- Writing the transfers of the edges es to a buffer that held b₀, edge by edge: before edge i the bytes below `at` are those of the
-- earlier edges, and from there on the buffer is unchanged.
module _ (p : List ℕ) (es : List Edge) (b₀ : List ℕ) where
  pub record Writing (b : List ℕ) (at i : ℕ) : Type 0 where
    pub size : length b ≡ length b₀
    pub inside : at ≤ length b
    pub done : bytes_of (transfers_from 0 p es) ≡ take at b ++ bytes_of (transfers_from i p (drop i es))
    pub kept : drop at b ≡ drop at b₀

  pub begins : Writing b₀ 0 0
  begins = record { size = refl; inside = omega arith; done = refl; kept = refl }

  module _ (b : List ℕ) (at i : ℕ) (w : Writing b at i) where
    pub ends_at : length es ≤ i → length (bytes_of (transfers_from 0 p es)) ≡ at
    ends_at h =
        ap length (w.done ∙ ap (λ l. take at b ++ bytes_of (transfers_from i p l)) (drop_of_length-le es h) ∙ append-nil (take at b)) ∙
        length-take-le at b w.inside

    pub ends : length es ≤ i → b ≡ bytes_of (transfers_from 0 p es) ++ drop (length (bytes_of (transfers_from 0 p es))) b₀
    ends h =
        let all : bytes_of (transfers_from 0 p es) ≡ take at b =
        w.done ∙ ap (λ l. take at b ++ bytes_of (transfers_from i p l)) (drop_of_length-le es h) ∙ append-nil (take at b) in
        rw (all, length-take-le at b w.inside, ← w.kept) (sym (take-append-drop at b))

    module _ (h : i < length es) where
      abbrev own : List ℕ
      own = bytes_of (transfers_from i p (get_or es i no_edge ∷ []))

      abbrev later : List ℕ
      later = bytes_of (transfers_from (i + 1) p (drop (i + 1) es))

      parted : bytes_of (transfers_from 0 p es) ≡ take at b ++ own ++ later
      parted =
          w.done ∙ ap (λ l. take at b ++ bytes_of l) (from_next p es i h) ∙
          ap (λ l. take at b ++ l) (bytes-append (transfers_from i p (get_or es i no_edge ∷ [])) (transfers_from (i + 1) p (drop (i + 1) es))) ∙
          sym (append_assoc (take at b) own later)

      pub room : length (bytes_of (transfers_from 0 p es)) ≤ length b₀ → at + length own ≤ length b
      room fits =
          let e = ap length parted ∙ length-append (take at b ++ own) later in
          let f = length-append (take at b) own in
          let g = length-take-le at b w.inside in
          let s = w.size in
          omega arith

      pub goes_on : at + length own ≤ length b → Writing (sets b at own) (at + length own) (i + 1)
      goes_on fits =
          let e = sets-eq own b at fits in
          let front : length (take at b ++ own) ≡ at + length own =
          length-append (take at b) own ∙ ap (λ (n : ℕ). n + length own) (length-take-le at b w.inside) in
          record {
            size = length-sets b at own ∙ w.size;
            inside = simp length-sets fits;
            done = parted ∙ ap (λ l. l ++ later) (sym (ap (take (at + length own)) e ∙ take_at (take at b ++ own) _ (at + length own) front));
            kept =
                ap (drop (at + length own)) e ∙ drop_at (take at b ++ own) _ (at + length own) front ∙
                sym (drop-drop (length own) at b) ∙ ap (drop (length own)) w.kept ∙ drop-drop (length own) at b₀;
          }

-- a buffer that is too short, and one that is not
pub too_short : (n : ℕ) (ts : List Transfer) → n < length (bytes_of ts) → fitted n ts ≡ refused 16 (length (bytes_of ts))
too_short n ts h = simp (lt-ltb _ _ h)

pub long-enough : (n : ℕ) (ts : List Transfer) → length (bytes_of ts) ≤ n → fitted n ts ≡ ok ts
long-enough n ts h = simp (le-ltb _ _ h)

-- a refusal leaves the buffer unchanged
pub refused_leaves : (number place : ℕ) (buffer : List ℕ) → buffer_after (refused number place) buffer ≡ buffer
unfolding buffer_after
refused_leaves number place buffer = refl

-- a sum over transfers that does not depend on the edge's number is a sum over edges
from-by-edge : (f : Transfer → ℕ) (p : List ℕ) → ((n : ℕ) (e : Edge) → f (transfer_of n p e) ≡ f (transfer_of 0 p e)) → (n : ℕ) (es : List Edge)
    → sum (map f (transfers_from n p es)) ≡ sum (map (λ e. cond (moves p e) (f (transfer_of 0 p e)) 0) es)
from-by-edge f p any n [] = refl
from-by-edge f p any n (e ∷ es) = step (moves p e) (from-by-edge f p any (suc n) es)
  where
    others : ℕ
    others = sum (map (λ e. cond (moves p e) (f (transfer_of 0 p e)) 0) es)

    step : (t : Bool) → sum (map f (transfers_from (suc n) p es)) ≡ others
        → sum (map f (cond t (transfer_of n p e ∷ transfers_from (suc n) p es) (transfers_from (suc n) p es))) ≡ cond t (f (transfer_of 0 p e)) 0 + others
    step true h = ap₂ ◌+◌ (any n e) h
    step false h = omega (arith, h)

pub by-edge : (f : Transfer → ℕ) (d : Description) (p : List ℕ) → ((n : ℕ) (e : Edge) → f (transfer_of n p e) ≡ f (transfer_of 0 p e))
    → sum (map f (transfers d p)) ≡ sum (map (λ e. cond (moves p e) (f (transfer_of 0 p e)) 0) d.edges)
unfolding transfers
by-edge f d p any = from-by-edge f p any 0 d.edges
