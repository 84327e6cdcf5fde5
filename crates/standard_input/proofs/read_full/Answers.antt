-- What a turn of the loop read stands after what was read before.
use Rattle.std.proofs.Common.{◌≡◌, ℕ, ◌+◌, ◌-◌, ◌≤◌, List, Option, ◌++◌, arith, length, take, sym, ap, ◌∙◌, subst, length-take-le, rules}
use Rattle.std.proofs.lemmas.List.{take-append-le}
use Rattle.std.proofs.Math.Seq.{take-append-add}
use Rattle.std.specs.Io.KnownBytes.{Consumes}
use Rattle.std.proofs.KnownBytes.{Consumes-trans}
use borrow.Rule.Slice.PartMut.{put_mid, post_of}
use Rattle.standard_input.proofs.read_full.Goals as goal

-- the first bytes of a part that was written begin after those before it
after_part : (a k n : ℕ) (xs ys : List ℕ) → a ≤ length xs → n ≤ length ys → take (a + n) (put_mid a k xs ys) ≡ take a xs ++ take n ys
after_part a k n xs ys within fits =
    let all = ys ++ post_of a k xs in
    ap (λ m. take (m + n) (take a xs ++ all)) (sym (length-take-le a xs within))
    ∙ take-append-add (take a xs) all n ∙ ap (λ l. take a xs ++ l) (take-append-le n ys (post_of a k xs) fits)

-- what a turn read fits, and stands after what was read before
in_room : (done k more : ℕ) (xs ys : List ℕ) → more ≤ length ys → (more ≤ length ys → done + more ≤ length (put_mid done k xs ys))
    → done + more ≤ length (put_mid done k xs ys)
in_room done k more xs ys fits room = room fits

more_read : (done k more : ℕ) (xs ys : List ℕ) (old mid new : Option (List ℕ)) → done ≤ length xs → more ≤ length ys
    → Consumes old mid (take done xs) → Consumes mid new (take more ys) → Consumes old new (take (done + more) (put_mid done k xs ys))
more_read done k more xs ys old mid new within fits before this =
    subst (Consumes _ _) (sym (after_part done k more xs ys within fits)) (Consumes-trans _ _ _ _ _ before this)

pub loop-done-preserved : goal.loop-done-preserved
loop-done-preserved g c =
    let done = c.loop-done.done in
    let buffer = c.loop-done.buffer in
    record {
      in_bounds = in_room done (length buffer - done) _ buffer _ (search rules) (λ fits. omega arith);
      taken = more_read done (length buffer - done) _ buffer _ _ _ _ c.loop-done.invariant.in_bounds (search rules) c.loop-done.invariant.taken (search rules);
    }
