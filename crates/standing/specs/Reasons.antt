-- Why a position may not have a cloud: the tests behind number 13, in their order.
use Rattle.std.specs.Prelude.{ℕ, cond, List, eqb}
use Rattle.description.specs.Declarations.{Description, block, names_cloud, names_block}
use Rattle.labels.specs.Labels.{covers}
use Rattle.security.specs.Soundness.{cloud_label, block_label, pin_allows, read}
use Rattle.sequences.specs.Results.{Result, ok, and_then}

-- Of block b on cloud k. 1: no such cloud is declared; 2: its label does not cover the block's (rule 7); 3: the block's pin is to another
-- cloud; 0: the block may stand there.
abbrev pub reason_of_block : Description → (b k : ℕ) → ℕ
reason_of_block d b k =
    cond (names_cloud d k) (cond (covers (cloud_label d k) (block_label d b)) (cond (pin_allows (block d b).pin k) 0 3) 2) 1

-- Of any position. 4: it has no block, and the byte is not 0.
unfoldable pub reason : Description → (b k : ℕ) → ℕ
reason d b k = cond (names_block d b) (reason_of_block d b k) (cond (eqb k 0) 0 4)

-- The call Standing: what Read refuses goes first, and there is no other refusal.
unfoldable pub standing_call : List ℕ → (b k : ℕ) → Result ℕ
standing_call s b k = and_then (read s) (λ d. ok (reason d b k))
