-- Each return follows from what the searches before it found.
use Rattle.std.proofs.Common.{sym}
use Rattle.security.proofs.Equations.{judge_of}
use Rattle.verdicts.proofs.verdict.Goals as goal

pub returns-in-Some : goal.returns-in-Some
returns-in-Some c = simp (judge_of, sym c.in-Some.ensures)

pub returns-in-Some-first_exposing_read : goal.returns-in-Some-first_exposing_read
returns-in-Some-first_exposing_read c =
    let read = rw c.description-w.ensures at c.in-Some-first_exposing_read.ensures in
    simp (judge_of, sym c.in_default.ensures, sym read)

pub returns-in-Some-first_exposing_write : goal.returns-in-Some-first_exposing_write
returns-in-Some-first_exposing_write c =
    let read = rw c.description-w.ensures at c.in_default-first_exposing_read.ensures in
    let write = rw c.description-w.ensures at c.in-Some-first_exposing_write.ensures in
    simp (judge_of, sym c.in_default.ensures, sym read, sym write)

pub returns-in-Some-first_broken : goal.returns-in-Some-first_broken
returns-in-Some-first_broken c =
    let read = rw c.description-w.ensures at c.in_default-first_exposing_read.ensures in
    let write = rw c.description-w.ensures at c.in_default-first_exposing_write.ensures in
    let pair = rw c.description-w.ensures at c.in-Some-first_broken.ensures in
    simp (judge_of, sym c.in_default.ensures, sym read, sym write, sym pair)

pub returns-in_default-first_broken : goal.returns-in_default-first_broken
returns-in_default-first_broken c =
    let read = rw c.description-w.ensures at c.in_default-first_exposing_read.ensures in
    let write = rw c.description-w.ensures at c.in_default-first_exposing_write.ensures in
    let pair = rw c.description-w.ensures at c.in_default-first_broken.ensures in
    simp (judge_of, sym c.in_default.ensures, sym read, sym write, sym pair)
