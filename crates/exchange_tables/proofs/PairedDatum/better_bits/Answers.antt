-- The bits of the clouds from `there` on, from the highest down.
use Rattle.std.proofs.Common.{◌≡◌, ℕ, ◌+◌, ◌-◌, ◌*◌, ◌≤◌, ◌<◌, Bool, refl, sym, ap, ap₂, ◌∙◌, arith}
use mathlib.Core.Bool.{true, false, cond}
use mir.Val.{bool_byte}
use Rattle.sequences.specs.Bits.{bits}
use Rattle.sequences.proofs.Bits.{bits_none, bits-room, bits-next}
use Rattle.table_entries.specs.Building.{better_by}
use Rattle.exchange_tables.proofs.PairedDatum.better_bits.Goals.{In-loop-there}
use Rattle.exchange_tables.proofs.PairedDatum.better_bits.Goals as goal

pub loop-there-init : goal.loop-there-init
loop-there-init c =
    let none : c.args.clouds - c.args.clouds ≡ 0 = omega arith in
    rw none (sym (bits_none _ _))

byte : (b : Bool) → bool_byte b ≡ cond b 1 0
byte true = refl
byte false = refl

byte-small : (b : Bool) → bool_byte b ≤ 1
byte-small true = omega arith
byte-small false = omega arith

room : (c : In-loop-there) → c.loop-there.better < 128
room c =
    let a = c.args in
    let s = a.self.now in
    let there = c.loop-there.there in
    rw c.loop-there.invariant
    (bits-room (better_by s.description.now s.mask s.number a.here) there (a.clouds - there) (omega (arith, c.requires.clouds_bound)))

pub overflow_mul-better : goal.overflow_mul-better
overflow_mul-better c = omega (arith, room (goal.at.overflow_mul-better c).In-loop-there)

pub overflow_add-better : goal.overflow_add-better
overflow_add-better c = omega (arith, room (goal.at.overflow_add-better c).In-loop-there, c.from.ensures, byte-small c.is_better.result)

pub loop-there-preserved : goal.loop-there-preserved
loop-there-preserved c =
    let a = c.args in
    let s = a.self.now in
    let there = c.loop-there.there in
    let better = better_by s.description.now s.mask s.number a.here in
    let low : a.clouds - (a.clouds - there + 1) ≡ there - 1 = omega arith in
    let number : a.clouds - there + 1 ≡ a.clouds - (there - 1) = omega arith in
    let at : a.clouds - 1 - (a.clouds - there) ≡ there - 1 = omega arith in
    let above : a.clouds - (a.clouds - there) ≡ there = omega arith in
    let next = rw (low, number, at, above) at (bits-next better a.clouds (a.clouds - there) (omega arith)) in
    ap₂ (λ (n m : ℕ). n + 2 * m) (c.from.ensures ∙ byte c.is_better.result ∙ ap (λ (b : Bool). cond b 1 0) c.is_better.ensures) c.loop-there.invariant ∙ sym next

pub returns : goal.returns
returns c =
    let a = c.args in
    let s = a.self.now in
    let there = c.loop-there.there in
    let all : there ≡ 0 = omega arith in
    let number : a.clouds - there ≡ a.clouds = omega arith in
    let better = better_by s.description.now s.mask s.number a.here in
    c.loop-there.invariant ∙ ap₂ (bits better) all number ∙
    sym (ap (λ (t : Bool). cond t (bits better 0 a.clouds) 0) (sym c.may_stand.ensures ∙ c.if-not-may_stand.false))
