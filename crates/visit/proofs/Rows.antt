-- The cases of the row test: to which end a datum can move. The tests look at the bytes of the tables alone.
use Prim.Native.Nat.{ℕ, ◌+◌, ◌*◌, ◌≤◌, ◌<◌}
use mathlib.Core.Path.{◌≡◌, refl}
use mathlib.Core.Bool.{Bool, false}
use mathlib.Core.List.{List, []}
use lib.ListN.{get_or}
use borrow.Author.Tests.{lt-ltb, le-ltb, eq-eqb, ne_eqb}
use Rattle.sequences.specs.Bits.{bit}
use Rattle.packing.specs.Packing.{digits}
use Rattle.visit.specs.declared.tables.Tables.{Tables as Lent}
use Rattle.visit.specs.Lent.{tests_in}
use Rattle.visit.specs.Tables.{Tables, tables, pair, exchange, apart, moves_to, better_on, stands, Paired, tests_of}

module _ (t : Tables) (q : List ℕ) (m : ℕ) where
  -- block m is a datum that would do better at its other end
  abbrev pub better_away : Bool
  better_away = better_on t q m (moves_to t q m)

  -- it would do better on k
  abbrev pub better_there : ℕ → Bool
  better_there k = bit (exchange t (m * 8 + get_or q m 0)) k

  pub unpaired : 16 ≤ pair t (2 * m) → better_away ≡ false
  unpaired h = simp (le-ltb (pair t (2 * m)) 16 h)

  module _ (a c : ℕ) (paired : pair t (2 * m) < 16) (e : a ≡ get_or q (pair t (2 * m)) 0) (f : c ≡ get_or q (pair t (2 * m + 1)) 0) where
    pub together : a ≡ c → better_away ≡ false
    together g = simp (lt-ltb (pair t (2 * m)) 16 paired, ← e, ← f, eq-eqb a c g)

    pub at-writer : (a ≡ c → ⊥) → get_or q m 0 ≡ a → better_away ≡ better_there c
    at-writer g h = simp (lt-ltb (pair t (2 * m)) 16 paired, ← e, ← f, ne_eqb a c g, eq-eqb (get_or q m 0) a h)

    pub at-reader : (a ≡ c → ⊥) → (get_or q m 0 ≡ a → ⊥) → get_or q m 0 ≡ c → better_away ≡ better_there a
    at-reader g h i = simp (lt-ltb (pair t (2 * m)) 16 paired, ← e, ← f, ne_eqb a c g, ne_eqb (get_or q m 0) a h, eq-eqb (get_or q m 0) c i)

    pub elsewhere : (a ≡ c → ⊥) → (get_or q m 0 ≡ a → ⊥) → (get_or q m 0 ≡ c → ⊥) → better_away ≡ false
    elsewhere g h i = simp (lt-ltb (pair t (2 * m)) 16 paired, ← e, ← f, ne_eqb a c g, ne_eqb (get_or q m 0) a h, ne_eqb (get_or q m 0) c i)

-- ---- the tests do not depend on the words

module _ (words bytes : List ℕ) (n : ℕ) where
  pub tests-bytes : (q : List ℕ) → tests_of (tables [] bytes) n q ≡ tests_of (tables words bytes) n q
  unfolding apart stands
  tests-bytes q = refl

  pub paired-bytes : Paired (tables words bytes) n → Paired (tables [] bytes) n
  paired-bytes p = record { pairs_small = p.pairs_small; conflicts_few = p.conflicts_few; conflicts_small = p.conflicts_small }

-- nor do those of the tables that a walk is lent
pub lent-bytes : (t : Lent) (place : ℕ) → tests_of (tables [] t.bytes.now) t.blocks (digits t.blocks place) ≡ tests_in t place
lent-bytes t place = tests-bytes t.words.now t.bytes.now t.blocks (digits t.blocks place)
