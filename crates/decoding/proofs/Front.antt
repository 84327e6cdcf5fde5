-- THE FIRST BYTES DECIDE. Good commands fill at most 360 bytes, and no command has more than 10: in a longer input, the first bad command,
-- or 00 with a byte after it, lies within these.
use Prim.Native.Nat.{ℕ, zero, suc, pred, ◌+◌, ◌-◌, ◌*◌, ◌≤◌, ◌<◌}
use native.Mathlib.Decide.{dec_le}
use native.Mathlib.Omega.{arith}
use mathlib.Core.Path.{◌≡◌, refl, sym, ap, ◌∙◌}
use mathlib.Core.Bool.{Bool, true, false, cond}
use mathlib.Core.List.{List, [], ◌∷◌, ◌++◌}
use mathlib.Core.Option.{Option, none, some, some-ne-none}
use lib.ListN.{length, get_or, set, take, length-append, length-set, length-take}
use lib.Seq.{take_all, get_or-take}
use lib.Dec.{ltb, eqb}
use Rattle.sequences.specs.Results.{Result, refused, and_then}
use Rattle.sequences.proofs.Tests.{cond-none}
use Rattle.decoding.specs.Bytes.{deciding_bytes}
use Rattle.description.specs.declared.workflow.Block.{Block}
use Rattle.description.specs.declared.workflow.Way.{Way}
use Rattle.description.specs.declared.workflow.Way.TheVariants.{Reads, Writes}
use Rattle.description.specs.Declarations.{Description, nothing, no_block, pinned, is_pinned, block}
use Rattle.decoding.specs.Format.{u8_at, edge_in, edge_at, pair_in, Command}
use Rattle.decoding.specs.Format.{command_at, fault_of, ended, read_from, inhabited, decode}
use Rattle.decoding.specs.Commands.{cloud_in, datum_in, service_in}
use Rattle.decoding.proofs.Commands.{cloud-taken, datum-taken, service-taken, edge-taken, pin-taken, pair-taken}
use Rattle.decoding.proofs.Prefix.{Agree, command-by, fault-by}
use Rattle.decoding.proofs.Turns.{each-command, width_positive, width_few, ends, fails, goes}

-- three bytes for the pin of each block that has none
abbrev pins_left : List Block → ℕ
pins_left [] = 0
pins_left (b ∷ bs) = cond (is_pinned b.pin) 0 3 + pins_left bs

-- How many bytes of good commands there is room for: 10 for a cloud, 7 for a block and 3 for its pin, 3 for an edge or a pair.
abbrev left : Description → ℕ
left d =
    10 * (8 - length d.clouds) + 10 * (16 - length d.blocks) + 3 * (32 - length d.edges) + 3 * (8 - length d.pairs) + pins_left d.blocks

pins-snoc : (l : List Block) (b : Block) → pins_left (l ++ (b ∷ [])) ≤ pins_left l + 3
pins-snoc [] b = go (is_pinned b.pin)
  where
    go : (p : Bool) → cond p 0 3 + 0 ≤ 3
    go true = omega arith
    go false = omega arith
pins-snoc (x ∷ l) b = omega (arith, pins-snoc l b)

-- a block that had no pin gets one
pins-set : (l : List Block) (i k : ℕ) → i < length l → is_pinned (get_or l i no_block).pin ≡ false
    → pins_left (set l i (pinned (get_or l i no_block) k)) + 3 ≡ pins_left l
pins-set [] i k h e = absurd (omega arith)
pins-set (x ∷ l) zero k h e = rw e (omega arith)
pins-set (x ∷ l) (suc i) k h e = let r = pins-set l i k (omega arith) e in omega arith

-- a command that is taken uses up as much room as it has bytes
spends : (s : List ℕ) (d : Description) → fault_of s (command_at s d) ≡ none → left (command_at s d).after + (command_at s d).width ≤ left d
spends s d =
    each-command (λ c. fault_of s c ≡ none → left c.after + c.width ≤ left d) s d
    (λ e. let t = cloud-taken s d e in omega (arith, length-append d.clouds (cloud_in s ∷ [])))
    (λ e. let t = datum-taken s d e in omega (arith, length-append d.blocks (datum_in s ∷ []), pins-snoc d.blocks (datum_in s)))
    (λ e. let t = service-taken s d e in omega (arith, length-append d.blocks (service_in s ∷ []), pins-snoc d.blocks (service_in s)))
    (edge Reads)
    (edge Writes)
    (λ e.
    let t = pin-taken s d e in
    let x = pinned (block d (u8_at s 1)) (u8_at s 2) in
    omega (arith, length-set d.blocks (u8_at s 1) x, pins-set d.blocks (u8_at s 1) (u8_at s 2) t.block t.free))
    (λ e. let t = pair-taken s d e in omega (arith, length-append d.pairs (pair_in s ∷ [])))
    (λ e. absurd (some-ne-none 2 (cond-none (ltb (length s) 1) 1 (some 2) e).1))
  where
    edge : (w : Way) → fault_of s (edge_at w s d) ≡ none → left (edge_at w s d).after + 3 ≤ left d
    edge w e = let t = edge-taken s d w e in omega (arith, t.room, length-append d.edges (edge_in w s ∷ []))

-- there is a byte after 00 in both
followed : (n : ℕ) (rest : List ℕ) (at : ℕ) (d : Description) → 0 < n → 0 < length rest
    → (ended (take n rest) at d ≡ refused 3 at) × (ended rest at d ≡ refused 3 at)
followed zero rest at d h k = absurd (omega arith)
followed (suc n) [] at d h k = absurd (omega arith)
followed (suc n) (b ∷ rest) at d h k = (refl, refl)

-- two inputs are refused with the same number at the same place
abbrev Refused : Result Description → Result Description → Type 0
Refused x y = (number : ℕ) × (place : ℕ) × (x ≡ refused number place) × (y ≡ refused number place)

-- after a command there is enough for those that there is still room for
enough : (n width l m : ℕ) → 0 + l + 10 ≤ suc n → 0 < width → m + width ≤ l → pred width + m + 10 ≤ n
enough n width l m h positive spent = omega arith

-- If there are more bytes than the first n, and n are enough for the commands that there is room for and one more, the first n are refused
-- as all are.
front : (s : List ℕ) (n skip at : ℕ) (d : Description) → n < length s → skip + left d + 10 ≤ n
    → Refused (read_from (take n s) skip at d) (read_from s skip at d)
front [] n skip at d h k = absurd (omega arith)
front (b ∷ rest) zero skip at d h k = absurd (omega arith)
front (b ∷ rest) (suc n) (suc skip) at d h k = front rest n skip (suc at) d (omega arith) (omega arith)
front (b ∷ rest) (suc n) zero at d h k =
    one (eqb b 0) (fault_of long c) refl refl (λ e. front rest n (pred c.width) (suc at) c.after (omega arith) (room e))
  where
    long : List ℕ
    long = b ∷ rest

    short : List ℕ
    short = b ∷ take n rest

    c : Command
    c = command_at long d

    few : c.width ≤ 10
    few = width_few long d

    agree : Agree long short c.width
    agree i j = sym (get_or-take (suc n) long i 0 (omega (arith, few)))

    same : command_at short d ≡ c
    same = sym (command-by long short d agree)

    -- what is left is enough for the commands after this one
    room : fault_of long c ≡ none → pred c.width + left c.after + 10 ≤ n
    room e = enough n c.width (left d) (left c.after) k (width_positive long d) (spends long d e)

    unfaulted : fault_of short (command_at short d) ≡ fault_of long c
    unfaulted = sym (fault-by long short d agree (omega (arith, few)) (omega (arith, few, length-take n rest)))

    one : (z : Bool) (f : Option ℕ) → eqb b 0 ≡ z → fault_of long c ≡ f
        → (fault_of long c ≡ none → Refused (read_from (take n rest) (pred c.width) (suc at) c.after) (read_from rest (pred c.width) (suc at) c.after))
        → Refused (read_from short 0 at d) (read_from long 0 at d)
    one true f z q next =
        let e = followed n rest (suc at) d (omega arith) (omega arith) in
        (3, suc at, ends b (take n rest) at d z ∙ e.0, ends b rest at d z ∙ e.1)
    one false (some m) z q next = (m, at, fails b (take n rest) at d z (unfaulted ∙ q), fails b rest at d z q)
    one false none z q next =
        let (m, p, e, f) = next q in
        let sooner = ap (λ x. read_from (take n rest) (pred x.width) (suc at) x.after) same in
        (m, p, goes b (take n rest) at d z (unfaulted ∙ q) ∙ sooner ∙ e, goes b rest at d z q ∙ f)

pub front-decides : (s : List ℕ) (n : ℕ) → deciding_bytes ≤ n → decode (take n s) ≡ decode s
unfolding decode
front-decides s n h = go (dec_le (length s) n)
  where
    go : Dec (length s ≤ n) → decode (take n s) ≡ decode s
    go (yes l) = ap decode (take_all n s l)
    go (no l) =
        let (number, place, e, f) = front s n 0 0 nothing (omega arith) (omega arith) in
        ap (λ r. and_then r (inhabited (length (take n s)))) e ∙ sym (ap (λ r. and_then r (inhabited (length s))) f)
