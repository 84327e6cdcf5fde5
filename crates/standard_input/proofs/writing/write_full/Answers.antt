-- What a turn of the loop writes comes after what was written before.
use Rattle.std.proofs.Common.{◌≡◌, ◌∙◌, ◌-◌, ◌+◌, ◌++◌, ℕ, List, arith, ap, subst, sym, length, take, drop, length-drop}
use Rattle.std.specs.Io.KnownBytes.{Appends}
use Rattle.std.proofs.KnownBytes.{Appends-trans}
use Rattle.std.proofs.Math.Seq.{take-add, take_all}
use Rattle.standard_input.proofs.writing.write_full.Goals as goal

-- after the first bytes come the first ones of the rest
one_more : (a n : ℕ) (bytes : List ℕ) → take a bytes ++ take n (take (length bytes - a) (drop a bytes)) ≡ take (a + n) bytes
one_more a n bytes =
    let rest = take_all (length bytes - a) (drop a bytes) (omega (arith, length-drop a bytes)) in
    ap (λ l. take a bytes ++ take n l) rest ∙ sym (take-add a n bytes)

pub loop-done-preserved : goal.loop-done-preserved
loop-done-preserved g c =
    let written = one_more c.loop-done.done c.in_ok-more.more c.args.bytes.now in
    record {
      in_bounds = omega (arith, c.in_ok-more.ensures.bound);
      written = subst (Appends _ _) written (Appends-trans _ _ _ _ _ c.loop-done.invariant.written c.in_ok-more.ensures.bytes);
    }
