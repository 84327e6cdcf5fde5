-- Each command that is sound moves on by its width.
use Prim.Native.Nat.{ℕ, ◌+◌, ◌-◌, ◌≤◌, ◌<◌}
use borrow.Author.Rules.{rules}
use lib.ListN.{length, drop, take, length-drop}
use mathlib.Core.List.{List}
use mathlib.Core.Path.{◌≡◌, sym, ap, subst, ◌∙◌}
use native.Mathlib.Omega.{arith}
use Rattle.decoding.proofs.Turns.{stops_at, goes_on, whole, width_positive, part-is}
use Rattle.description.specs.Declarations.{Description}
use Rattle.description.specs.Meaning.{outcome_of}
use Rattle.decoding.specs.Format.{read_from, command_at}
use Rattle.command_steps.specs.declared.BadCommand.{BadCommand}
use Rattle.std.specs.Prelude.{Ok, Err}
use Rattle.std.specs.Prelude as std
use Rattle.command_steps.specs.Steps.{Steps}
use Rattle.reading.proofs.read_commands.Goals as goal

-- the step of the bytes from `at` on, as the code hands them over
module _ (s : List ℕ) (at : ℕ) (earlier later : Description) where
  abbrev from : List ℕ
  from = drop at s

  steps : {r : std.Result ℕ BadCommand} → (let part = take (length s - at) (drop at s) in Steps part (command_at part earlier) later r)
      → (t : std.Result ℕ BadCommand) → r ≡ t → Steps from (command_at from earlier) later t
  steps {r = r} h t e = subst (Steps from (command_at from earlier) later) e (subst (λ l. Steps l (command_at l earlier) later r) (part-is s at) h)

  fits : (width : ℕ) → Steps from (command_at from earlier) later (Ok width) → at < length s → (at + width ≤ length s) × (1 ≤ width)
  fits width step lt = omega (arith, whole from (command_at from earlier) (sym step.fault), width_positive from earlier, step.width, length-drop at s)

pub returns-in-Err : goal.returns-in-Err
returns-in-Err c =
    let s = c.args.s.now in
    let at = c.loop-at.at in
    let earlier = c.loop-at.w in
    let later = c.command_step.new.w in
    let step = steps s at earlier later c.command_step.ensures (Err c.in-Err.bad) c.in-Err.is in
    ap (λ r. outcome_of (Err r) later) c.at-in-Err.ensures ∙
    sym (stops_at s at earlier (search rules) c.if-s-at-eq-END.false (sym step.fault)) ∙ c.loop-at.invariant.1

pub loop-at-preserved : goal.loop-at-preserved
loop-at-preserved c =
    let s = c.args.s.now in
    let at = c.loop-at.at in
    let earlier = c.loop-at.w in
    let later = c.command_step.new.w in
    let width = c.in-Ok.width in
    let step = steps s at earlier later c.command_step.ensures (Ok width) c.in-Ok.is in
    let next = at + width in
    let on = goes_on s at earlier (search rules) c.if-s-at-eq-END.false width step.width (sym step.fault) in (
      (fits s at earlier later width step c.loop-at-test.true).0,
      ap (λ d. read_from (drop next s) 0 next d) (step.after (sym step.fault)) ∙ sym on ∙ c.loop-at.invariant.1,
    )
