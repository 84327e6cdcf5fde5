-- The numbers from k on, and those below n: how many there are, and each by its position.
use mathlib.Core.Path.{◌≡◌, refl, sym, ap, ◌∙◌}
use mathlib.Core.List.{List, ◌∷◌, ◌++◌}
use Prim.Native.Nat.{ℕ, zero, suc, ◌+◌, ◌<◌}
use native.Mathlib.Nat.{zero-add, add-zero, suc-add}
use native.Mathlib.Omega.{arith}
use lib.ListN.{length, get_or}
use Rattle.sequences.specs.Lists.{from, below}

pub length_from : (k n : ℕ) → length (from k n) ≡ n
length_from k zero = refl
length_from k (suc n) = ap suc (length_from (suc k) n)

pub get_or-from : (k n i default : ℕ) → i < n → get_or (from k n) i default ≡ k + i
get_or-from k zero i default h = absurd (omega arith)
get_or-from k (suc n) zero default h = omega arith
get_or-from k (suc n) (suc i) default h = get_or-from (suc k) n i default (omega arith) ∙ (omega arith)

pub length-below : (n : ℕ) → length (below n) ≡ n
length-below = length_from 0

pub get_or-below : (n i default : ℕ) → i < n → get_or (below n) i default ≡ i
get_or-below n i default h = get_or-from 0 n i default h ∙ (omega arith)

-- m numbers and then n more
pub from-split : (k m n : ℕ) → from k (m + n) ≡ from k m ++ from (k + m) n
from-split k zero n = ap (from k) (zero-add n) ∙ ap (λ (s : ℕ). from s n) (sym (add-zero k))
from-split k (suc m) n =
    let e : suc k + m ≡ k + suc m = omega arith in
    ap (from k) (suc-add m n) ∙ ap (λ (l : List ℕ). k ∷ l) (from-split (suc k) m n ∙ ap (λ (s : ℕ). from (suc k) m ++ from s n) e)
