-- The search from b on finds what the search from the start finds.
use Rattle.std.proofs.Common.{◌≡◌, length, get_or, sym, ap, ◌∙◌, arith}
use Rattle.security.specs.Placements.{bad_position}
use Rattle.security.specs.Soundness.{positions}
use Rattle.security.proofs.Equations.{bad_position_of}
use Rattle.security.proofs.PermittedClouds.{byte-tells}
use Rattle.sequences.proofs.Counting.{get_or-below}
use Rattle.sequences.proofs.Loops.{first-hit, first-miss, told}
use Rattle.verdicts.proofs.first_bad_position.Goals as goal
use Rattle.verdicts.proofs.first_bad_position.Goals.{After-is_bad}

-- what the test says of position b
tested : (c : After-is_bad) → c.is_bad.result ≡ bad_position c.args.choices.now c.args.placement c.loop-b.b
tested c =
    let d = c.args.choices.now in
    let b = c.loop-b.b in
    let blocks : c.block_count-n.result ≡ length d.blocks = c.block_count-n.ensures.value ∙ ap (λ e. length e.blocks) c.description.ensures in
    let few = rw c.description.ensures at c.block_count-n.ensures.few_clouds in
    let judged = byte-tells d b (get_or c.args.placement b 0) (omega arith) few in
    c.is_bad.ensures ∙ simp (bad_position_of, blocks, c.masks-masks.ensures, judged)

pub returns-then-is_bad : goal.returns-then-is_bad
returns-then-is_bad c =
    let b = c.loop-b.b in
    let bad = bad_position c.args.choices.now c.args.placement in
    let hit = told bad (sym (get_or-below 16 b 0 (omega arith))) (tested (goal.at.returns-then-is_bad c).After-is_bad) c.if-is_bad.true in
    sym (c.loop-b.invariant ∙ first-hit bad positions 0 b (omega arith) hit)

pub loop-b-preserved : goal.loop-b-preserved
loop-b-preserved c =
    let b = c.loop-b.b in
    let bad = bad_position c.args.choices.now c.args.placement in
    let miss = told bad (sym (get_or-below 16 b 0 (omega arith))) (tested (goal.at.loop-b-preserved c).After-is_bad) c.if-is_bad.false in
    c.loop-b.invariant ∙ first-miss bad positions 0 b (omega arith) miss
