-- What each number means, from the rules themselves, and how Standing explains number 13.
use Rattle.std.specs.Prelude.{ℕ, zero, suc, ◌≤◌, ◌<◌, ◌≡◌, ◌↔◌, List, length, get_or}
use Rattle.std.specs.Prelude.{Some}
use Rattle.description.specs.Declarations.{Description, block}
use Rattle.labels.specs.Labels.{Covers}
use Rattle.security.specs.Soundness.{cloud_label, block_label}
use Rattle.security.specs.Statements.{Stands}
use Rattle.judging.specs.Calls.{judge_call}
use Rattle.sequences.specs.Results.{ok, refused}
use Rattle.standing.specs.Reasons.{standing_call}

-- the position has a block, and cloud k is declared
abbrev pub Declared : Description → (b k : ℕ) → Type 0
Declared d b k = (b < length d.blocks) × (k < length d.clouds)

-- What the answer n says of position b and cloud k. 0: a block may stand there, and a position without a block has 0. 1: there is no such
-- cloud. 2: the cloud does not cover the block. 3: the cloud covers it, and its pin is to another one. 4: there is no block, and k is not 0.
abbrev pub Explained : Description → (b k n : ℕ) → Type 0
Explained d b k zero = (b < length d.blocks → Stands d b k) × (length d.blocks ≤ b → k ≡ 0)
Explained d b k (suc zero) = (b < length d.blocks) × (length d.clouds ≤ k)
Explained d b k (suc (suc zero)) = Declared d b k × (Covers (cloud_label d k) (block_label d b) → ⊥)
Explained d b k (suc (suc (suc zero))) =
    Declared d b k × Covers (cloud_label d k) (block_label d b) × ((c : ℕ) × ((block d b).pin ≡ Some c) × (c ≡ k → ⊥))
Explained d b k (suc (suc (suc (suc zero)))) = (length d.blocks ≤ b) × (k ≡ 0 → ⊥)
Explained d b k (suc (suc (suc (suc (suc n))))) = ⊥

-- Judge gives 13 exactly at the lowest position to which Standing does not answer 0.
abbrev pub Explains13 : (s p : List ℕ) → Type 0
Explains13 s p = (b : ℕ) → (judge_call s p ≡ refused 13 b) ↔ (
    (b < 16) ×
    ((n : ℕ) × (0 < n) × (standing_call s b (get_or p b 0) ≡ ok n)) ×
    ((i : ℕ) → i < b → standing_call s i (get_or p i 0) ≡ ok 0)
    )
