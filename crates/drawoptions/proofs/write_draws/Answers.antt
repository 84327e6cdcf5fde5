-- Before each draw the cursor is that of the chain, and the lines of the draws before it were handed over.
use Rattle.std.proofs.Common.{◌+◌, add-one, sym, ap₂, subst, ◌∙◌}
use Rattle.std.specs.Io.KnownBytes.{Appends}
use Rattle.std.proofs.KnownBytes.{Appends-nil, Appends-trans}
use Rattle.std.proofs.lemmas.Result.{err_from_is_err_and}
use Rattle.standard_input.specs.Failures.{BreaksOff}
use Rattle.standard_input.proofs.Breaking.{broken_last}
use Rattle.lister.proofs.Chained.{chain-begins}
use Rattle.drawoptions.specs.Drawing.{line_for, line_at}
use Rattle.drawoptions.proofs.Lines.{next-line}
use Rattle.drawoptions.proofs.write_draws.Goals as goal

pub loop-draw-init : goal.loop-draw-init
loop-draw-init g c = record {
  size = c.requires;
  chain = c.begin-cursor.ensures ∙ sym (chain-begins c.args.description.now);
  taken = Appends-nil _;
}

pub write_line-requires : goal.write_line-requires
unfolding line_at
write_line-requires g c =
    let l = c.loop-draw in
    let in-chain = c.advance-link.ensures.in_chain l.draw l.invariant.chain in
    c.put_line-end.ensures.1 ∙ ap₂ (λ d a. line_for d l.draw a) c.digits_of-digits.ensures.0 in-chain.0

-- a line that broke off comes after the lines of the draws before it
pub returns-in_err-write_line-clause-err : goal.returns-in_err-write_line-clause-err
returns-in_err-write_line-clause-err g c =
    let l = c.loop-draw in
    let s = c.args.description.now in
    let broken = broken_last _ _ _ _ (line_at s l.draw) l.invariant.taken c.in_err-write_line.ensures.err in
    let error = err_from_is_err_and c.from_residual.result c.from_residual.ensures.1 in
    rw error.1 (l.draw + 1, subst (BreaksOff _ _) (sym (next-line s l.draw)) broken)

pub returns-in_default-clause-ok : goal.returns-in_default-clause-ok
returns-in_default-clause-ok g c =
    let l = c.loop-draw in (
      l.draw + 1,
      subst (Appends _ _) (sym (next-line c.args.description.now l.draw)) (Appends-trans _ _ _ _ _ l.invariant.taken c.in_ok-write_line.ensures.ok),
    )

pub returns-in_default-2-clause-ok : goal.returns-in_default-2-clause-ok
returns-in_default-2-clause-ok g c =
    let l = c.loop-draw in (
      l.draw + 1,
      subst (Appends _ _) (sym (next-line c.args.description.now l.draw)) (Appends-trans _ _ _ _ _ l.invariant.taken c.in_ok-write_line.ensures.ok),
    )

pub loop-draw-preserved : goal.loop-draw-preserved
loop-draw-preserved g c =
    let l = c.loop-draw in
    let in-chain = c.advance-link.ensures.in_chain l.draw l.invariant.chain in
    record {
      size = c.put_line-end.auto.text ∙ l.invariant.size;
      chain = rw add-one in-chain.1;
      taken = subst (Appends _ _) (sym (next-line c.args.description.now l.draw)) (Appends-trans _ _ _ _ _ l.invariant.taken c.in_ok-write_line.ensures.ok);
    }
