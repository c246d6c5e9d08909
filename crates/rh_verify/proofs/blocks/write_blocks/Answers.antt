use Rattle.std.proofs.Common.{◌≡◌, ◌≤◌, ◌+◌, ℕ, List, [], length, Some, Ok, Err, refl, sym, ap, subst, ◌++◌, append-nil, ◌∙◌, arith}
use Rattle.std.proofs.lemmas.List.{nil_from_length}
use Rattle.std.proofs.lemmas.Bool.Decides.{nat_tests}
use Rattle.std.proofs.lemmas.Result.{err_from_is_err_and}
use Rattle.rh_model.specs.ClusterView.{ClusterView}
use Rattle.rh_devices.proofs.Passing.{passed_none}
use Rattle.rh_script.specs.Commands.{line_of}
use Rattle.rh_run.specs.RunText.{bad_line, lines_asked}
use Rattle.rh_verify.specs.Spaces.{lines_of}
use Rattle.rh_verify.specs.Expected.{Check, asked_by, checks, Passes}
use Rattle.rh_verify.specs.Judging.{Takes}
use Rattle.rh_verify.proofs.Texts.{asked_as, lines_as}
use Rattle.rh_verify.proofs.Counting.{within}
use Rattle.rh_verify.proofs.Turning.{goes_on, breaks, stops, told_so_far, bad_next, bad_here, checks_left, bad_left}
use Rattle.rh_verify.proofs.blocks.write_blocks.Goals as goal

pub take_line-requires-clause-commands : goal.take_line-requires-clause-commands
take_line-requires-clause-commands g c =
    let so_far = c.lines.invariant in
    let some : 1 ≤ length c.lines.rest.now = grind (arith, nat_tests, c.is_empty.ensures, c.lines-test.true) in
    let bound = within so_far.text.0 c.lines.tally c.lines.passed so_far.text.3 so_far.text.4 in
    omega (arith, bound.0, some, so_far.count, c.requires.begun, c.requires.numbers)

pub take_line-requires-clause-checked : goal.take_line-requires-clause-checked
take_line-requires-clause-checked g c =
    let so_far = c.lines.invariant in
    let some : 1 ≤ length c.lines.rest.now = grind (arith, nat_tests, c.is_empty.ensures, c.lines-test.true) in
    let bound = within so_far.text.0 c.lines.tally c.lines.passed so_far.text.3 so_far.text.4 in
    omega (arith, bound.1, some, so_far.count, c.requires.begun, c.requires.numbers)

pub take_line-requires-clause-differing : goal.take_line-requires-clause-differing
take_line-requires-clause-differing g c =
    let so_far = c.lines.invariant in
    let some : 1 ≤ length c.lines.rest.now = grind (arith, nat_tests, c.is_empty.ensures, c.lines-test.true) in
    let bound = within so_far.text.0 c.lines.tally c.lines.passed so_far.text.3 so_far.text.4 in
    omega (arith, bound.2, some, so_far.count, c.requires.begun, c.requires.numbers)

pub returns-clause-counted : goal.returns-clause-counted
returns-clause-counted g c =
    let so_far = c.lines.invariant in
    within so_far.text.0 c.lines.tally (length c.args.script.now) so_far.text.3 (omega (arith, so_far.text.4, so_far.count))

pub returns-then-taken-clause-counted : goal.returns-then-taken-clause-counted
returns-then-taken-clause-counted g c =
    let so_far = c.lines.invariant in
    let rules = g.R.Rehearsal.rules in
    let start = g.R.Rehearsal.view c.args.rehearsal.now in
    let k = rules.cluster start in
    let r = c.content.result.now in
    let turn = rw c.if-taken.true at (subst (λ (x : ClusterView). Takes g.K.Sink.takes g.K.Sink.fails rules (Ok c.in_ok-taken.taken.is_bad) (g.R.Rehearsal.view c.lines.rehearsal) (g.R.Rehearsal.view c.take_line.new.rehearsal) c.lines.tally c.take_line.new.tally (c.args.first + c.lines.passed) (r, line_of x r)
    (asked_by x (lines_of c.split_line.result.1.now)) c.lines.writer c.take_line.new.writer)
    so_far.same c.in_ok-taken.ensures.taken) in
    within so_far.text.0 c.take_line.new.tally (length c.args.script.now) (turn.1 ∙ so_far.text.3) (omega (arith, so_far.text.4, so_far.count))

pub lines-init : goal.lines-init
lines-init g c =
    let rules = g.R.Rehearsal.rules in
    let start = g.R.Rehearsal.view c.args.rehearsal.now in
    let k = rules.cluster start in
    let zero : c.args.first ≡ c.args.first + 0 = omega arith in
    record {
      text = (
        [],
        passed_none g.K.Sink.takes c.args.writer.now.inner,
        ap (λ (n : ℕ). checks rules start n (asked_by k (lines_of c.args.script.now))) zero,
        refl,
        omega arith,
      );
      bad = refl;
      watch = c.requires.writer;
      same = refl;
      count = omega arith;
    }

pub lines-preserved : goal.lines-preserved
lines-preserved g c =
    let takes = g.K.Sink.takes in
    let fails = g.K.Sink.fails in
    let rules = g.R.Rehearsal.rules in
    let start = g.R.Rehearsal.view c.args.rehearsal.now in
    let k = rules.cluster start in
    let r = c.content.result.now in
    let rest = c.lines.rest.now in
    let line = c.split_line.result.0.now in
    let after = c.split_line.result.1.now in
    let so_far = c.lines.invariant in
    let turn = rw c.if-taken.false at (subst (λ (x : ClusterView). Takes takes fails rules (Ok c.in_ok-taken.taken.is_bad) (g.R.Rehearsal.view c.lines.rehearsal) (g.R.Rehearsal.view c.take_line.new.rehearsal)
    c.lines.tally c.take_line.new.tally (c.args.first + c.lines.passed) (r, line_of x r) (asked_by x (lines_of after)) c.lines.writer c.take_line.new.writer)
    so_far.same c.in_ok-taken.ensures.taken) in
    let passes = subst (λ (x : ClusterView). Passes (asked_by x (lines_of after)) (asked_by x (lines_of c.in_ok-taken.taken.rest.now)) c.in_ok-taken.taken.count)
    so_far.same c.in_ok-taken.ensures.rest in
    let left = lines_of c.in_ok-taken.taken.rest.now in
    let count = c.in_ok-taken.taken.count in
    let text = goes_on takes fails rules start (g.R.Rehearsal.view c.lines.rehearsal) (g.R.Rehearsal.view c.take_line.new.rehearsal) c.args.first c.lines.passed
    (asked_by k (lines_of c.args.script.now)) (asked_by k (lines_of rest)) (asked_by k (lines_of after)) (r, line_of k r)
    c.args.writer.now c.lines.writer c.take_line.new.writer c.lines.tally c.take_line.new.tally so_far.text.0
    (asked_as rest line after c.split_line.ensures.line k r c.content.ensures) so_far.text.1 so_far.text.2 so_far.text.3 so_far.text.4 turn in
    let near : c.args.first + (c.lines.passed + 1) ≡ (c.args.first + c.lines.passed) + 1 = omega arith in
    let far : (c.args.first + c.lines.passed) + count ≡ c.args.first + (c.lines.passed + count) = omega arith in
    let few = text.4 in
    let some = c.in_ok-taken.ensures.some in
    record {
      text = (
        text.0,
        text.1,
        text.2 ∙ ap (λ (n : ℕ). text.0 ++ checks rules (g.R.Rehearsal.view c.take_line.new.rehearsal) n (asked_by k (lines_of after))) near
            ∙ ap (λ (xs : List Check). text.0 ++ xs) (checks_left k (lines_of after) left count passes rules (g.R.Rehearsal.view c.take_line.new.rehearsal) (c.args.first + c.lines.passed))
            ∙ ap (λ (n : ℕ). text.0 ++ checks rules (g.R.Rehearsal.view c.take_line.new.rehearsal) n (asked_by k left)) far,
        text.3,
        omega (arith, few, some),
      );
      bad = so_far.bad ∙ ap (bad_line (c.lines.passed + 1)) (lines_as rest line after c.split_line.ensures.line k r c.content.ensures)
          ∙ bad_next (c.lines.passed + 1) (line_of k r) (lines_asked k (lines_of after)) turn.3
          ∙ bad_left k (lines_of after) left count passes (c.lines.passed + 1)
          ∙ ap (λ (n : ℕ). bad_line n (lines_asked k left)) (omega arith);
      watch = turn.6;
      same = c.in_ok-taken.ensures.cluster ∙ so_far.same;
      count = omega (arith, so_far.count, c.split_line.ensures.shorter, c.in_ok-taken.ensures.within);
    }

pub returns-in_err-taken-clause-text : goal.returns-in_err-taken-clause-text
returns-in_err-taken-clause-text g c =
    let takes = g.K.Sink.takes in
    let fails = g.K.Sink.fails in
    let rules = g.R.Rehearsal.rules in
    let start = g.R.Rehearsal.view c.args.rehearsal.now in
    let k = rules.cluster start in
    let r = c.content.result.now in
    let rest = c.lines.rest.now in
    let line = c.split_line.result.0.now in
    let after = c.split_line.result.1.now in
    let f = c.in_err-taken.field-0.0 in
    let so_far = c.lines.invariant in
    let turn = subst (λ (x : ClusterView). Takes takes fails rules (Err f) (g.R.Rehearsal.view c.lines.rehearsal) (g.R.Rehearsal.view c.take_line.new.rehearsal)
    c.lines.tally c.take_line.new.tally (c.args.first + c.lines.passed) (r, line_of x r) (asked_by x (lines_of after)) c.lines.writer c.take_line.new.writer)
    so_far.same c.in_err-taken.ensures.taken in
    let p = err_from_is_err_and c.from_residual.result c.from_residual.ensures.1 in
    rw (p.1, p.2)
    (breaks takes fails rules start (g.R.Rehearsal.view c.lines.rehearsal) (g.R.Rehearsal.view c.take_line.new.rehearsal) c.args.first c.lines.passed
    (asked_by k (lines_of c.args.script.now)) (asked_by k (lines_of rest)) (asked_by k (lines_of after)) (r, line_of k r)
    c.args.writer.now c.lines.writer c.take_line.new.writer c.lines.tally c.take_line.new.tally so_far.text.0
    (asked_as rest line after c.split_line.ensures.line k r c.content.ensures) so_far.text.1 so_far.text.2 so_far.text.3 so_far.text.4 f turn)

pub returns-then-taken-clause-text : goal.returns-then-taken-clause-text
returns-then-taken-clause-text g c =
    let takes = g.K.Sink.takes in
    let fails = g.K.Sink.fails in
    let rules = g.R.Rehearsal.rules in
    let start = g.R.Rehearsal.view c.args.rehearsal.now in
    let k = rules.cluster start in
    let r = c.content.result.now in
    let rest = c.lines.rest.now in
    let line = c.split_line.result.0.now in
    let after = c.split_line.result.1.now in
    let so_far = c.lines.invariant in
    let turn = rw c.if-taken.true at (subst (λ (x : ClusterView). Takes takes fails rules (Ok c.in_ok-taken.taken.is_bad) (g.R.Rehearsal.view c.lines.rehearsal) (g.R.Rehearsal.view c.take_line.new.rehearsal)
    c.lines.tally c.take_line.new.tally (c.args.first + c.lines.passed) (r, line_of x r) (asked_by x (lines_of after)) c.lines.writer c.take_line.new.writer)
    so_far.same c.in_ok-taken.ensures.taken) in
    let here = asked_as rest line after c.split_line.ensures.line k r c.content.ensures in
    let whole = stops takes fails rules start (g.R.Rehearsal.view c.lines.rehearsal) (g.R.Rehearsal.view c.take_line.new.rehearsal) c.args.first c.lines.passed
    (asked_by k (lines_of c.args.script.now)) (asked_by k (lines_of rest)) (asked_by k (lines_of after)) (r, line_of k r)
    c.args.writer.now c.lines.writer c.take_line.new.writer c.lines.tally c.take_line.new.tally so_far.text.0
    here so_far.text.1 so_far.text.2 so_far.text.3 so_far.text.4 turn.0 in
    let bad = so_far.bad ∙ ap (bad_line (c.lines.passed + 1)) (lines_as rest line after c.split_line.ensures.line k r c.content.ensures)
    ∙ bad_here (c.lines.passed + 1) (line_of k r) (lines_asked k (lines_of after)) turn.0 in
    rw (turn.1, turn.2)
    (told_so_far takes fails rules start (g.R.Rehearsal.view c.lines.rehearsal) (g.R.Rehearsal.view c.take_line.new.rehearsal) c.args.first c.lines.passed
    (asked_by k (lines_of c.args.script.now)) (asked_by k (lines_of rest)) (asked_by k (lines_of after)) (r, line_of k r)
    c.args.writer.now c.lines.writer c.take_line.new.writer c.lines.tally c.take_line.new.tally so_far.text.0
    here so_far.text.1 so_far.text.2 so_far.text.3 so_far.text.4 (Some (c.lines.passed + 1)) (bad_line 1 (lines_asked k (lines_of c.args.script.now)))
    (sym bad) whole so_far.watch)

pub returns-clause-text : goal.returns-clause-text
returns-clause-text g c =
    let rules = g.R.Rehearsal.rules in
    let start = g.R.Rehearsal.view c.args.rehearsal.now in
    let k = rules.cluster start in
    let rest = c.lines.rest.now in
    let so_far = c.lines.invariant in
    let none : rest ≡ [] = nil_from_length rest (grind (arith, nat_tests, c.is_empty.ensures, c.lines-test.false)) in
    let whole = so_far.text.2 ∙ ap (λ (bytes : List ℕ). so_far.text.0 ++ checks rules (g.R.Rehearsal.view c.lines.rehearsal) (c.args.first + c.lines.passed) (asked_by k (lines_of bytes))) none
    ∙ append-nil so_far.text.0 in
    let bad = so_far.bad ∙ ap (λ (bytes : List ℕ). bad_line (c.lines.passed + 1) (lines_asked k (lines_of bytes))) none in
    rw whole ((λ i. (so_far.text.3 i, sym bad i)), so_far.text.1, so_far.watch)
