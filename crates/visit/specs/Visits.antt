-- What is done at a placement. A walk counts, or counts and keeps the rows, or draws one row.
use Rattle.std.specs.Prelude.{ℕ, ◌+◌, ◌*◌, ◌^◌, Bool, not, ◌&&◌, ◌||◌, cond, Option, None, Some, List, ltb, leb, eqb, length, set}
use Rattle.weights.specs.Weights.{cost_limit, is_unexposed, class_of, secure_class, clash_class}
use Rattle.visit.specs.Tables.{Tests}
use Rattle.visit.specs.declared.Met.{Met}
use Rattle.visit.specs.declared.counts.Count.{Count}
use Rattle.visit.specs.declared.counts.Keep.{Keep}
use Rattle.visit.specs.declared.draws.Draw.{Draw}

-- ---- a walk that counts

-- the counters are one for each class and one for the rows; the sum of all counts stays below a limit
abbrev pub counter_count : ℕ
counter_count = 5

abbrev pub count_limit : ℕ
count_limit = 2 ^ 60

-- the sum of all counts
abbrev pub tally : Count → ℕ
tally c = c.secure + c.breaks_first + c.breaks_second + c.clashes + c.rows

-- nothing is counted yet
abbrev pub to_count : Count
to_count = record { secure = 0; breaks_first = 0; breaks_second = 0; clashes = 0; rows = 0 }

-- one if the test passes, none if it fails
abbrev pub one : Bool → ℕ
one b = cond b 1 0

-- one more of class k
abbrev pub one_more : (k : ℕ) → Count → Count
one_more k c = record {
  secure = c.secure + one (eqb k secure_class);
  breaks_first = c.breaks_first + one (eqb k 1);
  breaks_second = c.breaks_second + one (eqb k 2);
  clashes = c.clashes + one (eqb k clash_class);
  rows = c.rows;
}

-- the class of a placement: by its weight, and if no edge breaks a rule, by the blocks that may not share a cloud
abbrev pub class_at : (weight : ℕ) → Tests → ℕ
class_at weight t = cond (is_unexposed weight && not t.apart) clash_class (class_of weight)

-- a placement in which no edge breaks a rule is a row if it passes both tests
abbrev pub passes : Tests → Bool
passes t = t.apart && t.stands

-- a placement is counted in its class, and if it is a row, among the rows
unfoldable pub counted : (weight place : ℕ) → Tests → Count → Count
counted weight _ t c =
    let classed = one_more (class_at weight t) c in
    record classed { rows = c.rows + one (is_unexposed weight && passes t) }

-- ---- one that keeps the rows as well

-- Rows in lent words, two words a row: the cost, then the packed placement. The words with one put in as row n, if they have room for it.
unfoldable pub with_row : (n cost place : ℕ) → List ℕ → List ℕ
with_row n cost place words = cond (leb (n * 2 + 2) (length words)) (set (set words (n * 2) cost) (n * 2 + 1) place) words

-- each row is kept after those that were met before it
unfoldable pub keep_row : (weight place : ℕ) → Tests → Count → List ℕ → List ℕ
keep_row weight place t c words = cond (is_unexposed weight && passes t) (with_row c.rows weight place words) words

-- a placement is counted, and if it is a row, it is kept
abbrev pub kept : (weight place : ℕ) → Tests → Keep → Keep
kept weight place t k = record {
  count = counted weight place t k.count;
  keys = record k.keys { now = keep_row weight place t k.count k.keys.now };
}

-- ---- one that draws

-- (cost, place) comes before (cost', place')
abbrev pub earlier : (cost place cost' place' : ℕ) → Bool
earlier cost place cost' place' = ltb cost cost' || (eqb cost cost' && ltb place place')

-- the row is not before the floor, and comes before the best so far
abbrev pub wanted : Draw → (cost place : ℕ) → Bool
wanted d cost place = not (earlier cost place d.floor.weight d.floor.place) && earlier cost place d.best.weight d.best.place

-- asked for the first row that is not before a floor; so far there is none, and the best costs more than any row
abbrev pub to_draw : (floor place : ℕ) → Draw
to_draw floor place = record { floor = record { weight = floor; place = place }; best = record { weight = cost_limit; place = 0 } }

-- It becomes the best row if it is wanted and passes the tests. If an edge breaks a rule, it weighs more than any best cost.
unfoldable pub drawn : (weight place : ℕ) → Tests → Draw → Draw
drawn weight place t d = cond (wanted d weight place && passes t) (record d { best = record { weight = weight; place = place } }) d

-- the best row, if there is one
abbrev pub found : Draw → Option Met
found d = cond (eqb d.best.weight cost_limit) None (Some d.best)
