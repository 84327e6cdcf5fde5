-- Nothing is left of the number 0.
use Rattle.std.proofs.Common.{◌≡◌, ap, ◌∙◌, arith}
use Rattle.sequences.specs.Bits.{set_bits}
use Rattle.sequences.proofs.SetBits.{none-set}
use Rattle.walk.proofs.set_bits.SetBitsIterator.next.Goals as goal

pub returns-then-is_empty-clause-steps : goal.returns-then-is_empty-clause-steps
returns-then-is_empty-clause-steps c =
    let none : c.args.self.now.rest ≡ 0 = omega arith in
    (ap set_bits none ∙ none-set, ap set_bits none ∙ none-set)
