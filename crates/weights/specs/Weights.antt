-- A weight is one number that has a placement's cost and what it breaks: the cost, plus `first_penalty` for each edge that breaks the rule
-- that is looked for first, and `second_penalty` for each edge that breaks the other. A cost is below 2^53 and there are at most 32 edges,
-- so neither the cost nor the first kind ever carries over.
use Rattle.std.specs.Prelude.{ℕ, ◌+◌, ◌*◌, ◌/◌, ◌%◌, ◌^◌, Bool, cond, ltb, eqb}

-- every cost is below it
abbrev pub cost_limit : ℕ
cost_limit = 2 ^ 53

-- more than there can be edges
abbrev pub radix : ℕ
radix = 33

abbrev pub first_penalty : ℕ
first_penalty = cost_limit

abbrev pub second_penalty : ℕ
second_penalty = radix * cost_limit

-- what one edge adds is below it: one penalty, and a charge below 2^53
abbrev pub term_limit : ℕ
term_limit = (radix + 1) * cost_limit

-- a weight below the limit is the cost of a placement in which no edge breaks a rule
abbrev pub is_unexposed : ℕ → Bool
is_unexposed w = ltb w cost_limit

-- The class of a placement: 0 if it is secure, 1 if it breaks the rule that is looked for first, 2 if it breaks the other alone, and 3 if
-- it breaks neither and is not secure. No single edge decides class 3, so the weight does not show it.
abbrev pub classes : ℕ
classes = 4

abbrev pub secure_class : ℕ
secure_class = 0

abbrev pub clash_class : ℕ
clash_class = 3

-- by the weight alone
unfoldable pub class_of : ℕ → ℕ
class_of w = cond (is_unexposed w) 0 (cond (eqb (w / cost_limit % radix) 0) 2 1)
