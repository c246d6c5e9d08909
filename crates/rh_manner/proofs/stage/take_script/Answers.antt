use Rattle.std.proofs.Common.{◌≡◌, ◌∙◌, ◌++◌, List, [], ℕ, length, true, false, refl, sym, ap, subst, arith}
use Rattle.std.proofs.lemmas.Bool.Decides.{nat_tests}
use Rattle.std.proofs.lemmas.Result.{err_from_is_err_and}
use Rattle.rh_devices.specs.Devices.{Passed, WroteFront}
use Rattle.rh_devices.proofs.Passing.{passed_more, fault_behind, fault_before}
use Rattle.rh_model.specs.ClusterView.{ClusterView}
use Rattle.rh_run.specs.RunText.{script_end}
use Rattle.rh_script.specs.Lines.{raw_lines, content}
use Rattle.rh_script.specs.Commands.{line_of}
use Rattle.rh_manner.specs.Speech.{line_said, line_made, is_bad}
use Rattle.rh_manner.specs.Stages.{script_from, bad_from}
use Rattle.rh_manner.proofs.DialogueLines.{text_goes_on, bad_goes_on, text_ends, bad_ends, text_breaks, no_bytes}
use Rattle.rh_manner.proofs.stage.take_script.Goals as goal

pub returns-in_err-answer_line-clause-lines : goal.returns-in_err-answer_line-clause-lines
returns-in_err-answer_line-clause-lines g c =
    let takes = g.K.Sink.takes in
    let fails = g.K.Sink.fails in
    let sp = g.T.Speaker.speech c.args.speaker.now in
    let start = g.T.Speaker.view c.args.start in
    let at = c.lines in
    let v = g.T.Speaker.view at.rehearsal in
    let line = c.split_line.result.0.now in
    let tail = raw_lines c.split_line.result.1.now in
    let f = c.in_err-answer_line.field-0.0 in
    let told : List ℕ = line_said sp v at.number (content line) (line_of (sp.cluster v) (content line)) in
    let said : line_said sp v at.number c.content.result.now (line_of (sp.cluster v) c.content.result.now) ≡ told =
    λ i. line_said sp v at.number (c.content.ensures i) (line_of (sp.cluster v) (c.content.ensures i)) in
    let p = err_from_is_err_and c.from_residual.result c.from_residual.ensures.1 in
    rw (p.1, p.2)
    (λ more.
    let breaks = text_breaks sp start v c.args.first at.number (raw_lines c.args.lines.now) (raw_lines at.rest.now) tail line
    at.invariant.text.0 at.invariant.same c.split_line.ensures.line at.invariant.text.2 at.invariant.bad more in
    subst (λ (t : List ℕ). WroteFront takes fails f t c.args.writer.now c.answer_line.new.writer) (sym breaks.1)
    (fault_behind takes fails f c.args.writer.now at.writer c.answer_line.new.writer at.invariant.text.0 (told ++ breaks.0) at.invariant.text.1
    (fault_before takes fails f at.writer c.answer_line.new.writer told breaks.0
    (subst (λ (t : List ℕ). WroteFront takes fails f t at.writer c.answer_line.new.writer) said c.in_err-answer_line.ensures.text))))

pub returns-then-branch-clause-lines : goal.returns-then-branch-clause-lines
returns-then-branch-clause-lines g c =
    let takes = g.K.Sink.takes in
    let sp = g.T.Speaker.speech c.args.speaker.now in
    let start = g.T.Speaker.view c.args.start in
    let at = c.lines in
    let v = g.T.Speaker.view at.rehearsal in
    let line = c.split_line.result.0.now in
    let tail = raw_lines c.split_line.result.1.now in
    let told : List ℕ = line_said sp v at.number (content line) (line_of (sp.cluster v) (content line)) in
    let said : line_said sp v at.number c.content.result.now (line_of (sp.cluster v) c.content.result.now) ≡ told =
    λ i. line_said sp v at.number (c.content.ensures i) (line_of (sp.cluster v) (c.content.ensures i)) in
    let bad : is_bad (line_of (sp.cluster v) (content line)) ≡ true =
    ap (λ (t : List ℕ). is_bad (line_of (sp.cluster v) t)) (sym c.content.ensures) ∙ sym c.in_ok-answer_line.ensures.bad ∙ c.if-branch.true in
    let wrote = subst (λ (t : List ℕ). Passed takes at.writer.inner c.answer_line.new.writer.inner t) said c.in_ok-answer_line.ensures.text.0 in (
      at.invariant.text.0 ++ told,
      passed_more takes c.args.writer.now.inner at.writer.inner c.answer_line.new.writer.inner at.invariant.text.0 _ at.invariant.text.1 wrote,
      c.in_ok-answer_line.ensures.text.1,
      record {
        text = text_ends sp start v c.args.first at.number (raw_lines c.args.lines.now) (raw_lines at.rest.now) tail line
            at.invariant.text.0 at.invariant.same c.split_line.ensures.line at.invariant.text.2 at.invariant.bad bad;
        end = λ more. ap script_end (bad_ends sp start v c.args.first at.number (raw_lines c.args.lines.now) (raw_lines at.rest.now) tail line
            at.invariant.text.0 at.invariant.same c.split_line.ensures.line at.invariant.text.2 at.invariant.bad bad more);
      },
    )

pub lines-init : goal.lines-init
lines-init g c = record {
  text = ([], ([], refl, refl), λ more. refl);
  bad = λ more. refl;
  watch = c.requires.writer;
  same = refl;
  count = omega arith;
}

pub lines-preserved : goal.lines-preserved
lines-preserved g c =
    let takes = g.K.Sink.takes in
    let sp = g.T.Speaker.speech c.args.speaker.now in
    let start = g.T.Speaker.view c.args.start in
    let at = c.lines in
    let v = g.T.Speaker.view at.rehearsal in
    let line = c.split_line.result.0.now in
    let tail = raw_lines c.split_line.result.1.now in
    let asks : line_of (sp.cluster v) c.content.result.now ≡ line_of (sp.cluster v) (content line) = ap (line_of (sp.cluster v)) c.content.ensures in
    let told : List ℕ = line_said sp v at.number (content line) (line_of (sp.cluster v) (content line)) in
    let said : line_said sp v at.number c.content.result.now (line_of (sp.cluster v) c.content.result.now) ≡ told =
    λ i. line_said sp v at.number (c.content.ensures i) (asks i) in
    let good : is_bad (line_of (sp.cluster v) (content line)) ≡ false =
    ap is_bad (sym asks) ∙ sym c.in_ok-answer_line.ensures.bad ∙ c.if-branch.false in
    let made = c.in_ok-answer_line.ensures.made ∙ ap (line_made sp v) asks in
    let wrote = subst (λ (t : List ℕ). Passed takes at.writer.inner c.answer_line.new.writer.inner t) said c.in_ok-answer_line.ensures.text.0 in
    record {
      text = (
        at.invariant.text.0 ++ told,
        passed_more takes c.args.writer.now.inner at.writer.inner c.answer_line.new.writer.inner at.invariant.text.0 _ at.invariant.text.1 wrote,
        text_goes_on sp start v c.args.first at.number (raw_lines c.args.lines.now) (raw_lines at.rest.now) tail line
            at.invariant.text.0 at.invariant.same c.split_line.ensures.line at.invariant.text.2 at.invariant.bad
            (g.T.Speaker.view c.answer_line.new.rehearsal) made good,
      );
      bad = bad_goes_on sp start v c.args.first at.number (raw_lines c.args.lines.now) (raw_lines at.rest.now) tail line
          at.invariant.text.0 at.invariant.same c.split_line.ensures.line at.invariant.text.2 at.invariant.bad good;
      watch = c.in_ok-answer_line.ensures.text.1;
      same = c.in_ok-answer_line.ensures.cluster ∙ at.invariant.same;
      count = omega (arith, at.invariant.count, ap length c.split_line.ensures.line);
    }

pub returns-clause-lines : goal.returns-clause-lines
returns-clause-lines g c =
    let sp = g.T.Speaker.speech c.args.speaker.now in
    let start = g.T.Speaker.view c.args.start in
    let at = c.lines in
    let v = g.T.Speaker.view at.rehearsal in
    let none : raw_lines at.rest.now ≡ raw_lines [] = ap raw_lines (no_bytes at.rest.now (grind (arith, nat_tests, c.is_empty.ensures, c.lines-test.false))) in (
      at.invariant.text.0,
      at.invariant.text.1,
      at.invariant.watch,
      record {
        text = λ more. at.invariant.text.2 more ∙ ap (λ ls. at.invariant.text.0 ++ script_from sp v at.number (ls ++ more)) none;
        end = λ more. ap script_end (at.invariant.bad more ∙ ap (λ ls. bad_from (sp.cluster start) at.number (ls ++ more)) none
            ∙ ap (λ (k : ClusterView). bad_from k at.number more) (sym at.invariant.same));
        parted = refl;
        silent = λ (not : true ≡ false). absurd (cc not);
      },
    )
