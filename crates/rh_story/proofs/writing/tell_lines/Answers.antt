use Rattle.std.proofs.Common.{◌≡◌, ℕ, List, [], map, true, false, subst, sym, ap, ◌∙◌, arith}
use Rattle.std.proofs.lemmas.List.{nil_from_length}
use Rattle.std.proofs.lemmas.Bool.Decides.{nat_tests}
use Rattle.std.proofs.lemmas.Result.{err_from_is_err_and}
use Rattle.rh_devices.specs.declared.fault.WriteFault.{WriteFault}
use Rattle.rh_devices.specs.Devices.{WroteFront}
use Rattle.rh_model.specs.ClusterView.{ClusterView}
use Rattle.rh_script.specs.Lines.{raw_lines, content}
use Rattle.rh_script.specs.Commands.{line_of}
use Rattle.rh_run.specs.RunText.{bad_line, lines_asked}
use Rattle.rh_story.specs.LineText.{is_bad}
use Rattle.rh_story.specs.TableText.{shown}
use Rattle.rh_story.proofs.Telling.{lines_join, fault_here, fault_later, line_breaks, rest_breaks, story_ends, story_goes_on, ending_breaks, ending_ends}
use Rattle.rh_story.proofs.writing.tell_lines.Goals as goal

pub returns-in_err-write_text : goal.returns-in_err-write_text
returns-in_err-write_text g c =
    let takes = g.K.Sink.takes in
    let fails = g.K.Sink.fails in
    let p = err_from_is_err_and c.from_residual-in_err-write_text.result c.from_residual-in_err-write_text.ensures.1 in
    rw (p.1, p.2)
    (line_breaks takes fails g.T.Teller.telling (g.T.Teller.view c.args.sim.now) (g.T.Teller.view c.lines.sim) c.lines.number c.args.lack.now c.lines.behind.now c.split_line.result.0.now
    (raw_lines c.args.script.now) (raw_lines c.lines.rest.now) (raw_lines c.split_line.result.1.now)
    c.args.writer.now c.lines.writer c.write_text.new.writer c.lines.invariant.text.0 c.text_to_show-text.result.now
    c.split_line.ensures.line c.lines.invariant.text.1 c.lines.invariant.text.2
    (c.text_to_show-text.ensures ∙ ap (λ t. shown c.split_line.result.0.now (raw_lines c.split_line.result.1.now) t) (c.as_slice.ensures.value ∙ c.in_ok-is_bad.ensures.text))
    c.in_err-write_text.field-0.0
    (subst (λ (f : WriteFault). WroteFront takes fails f c.text_to_show-text.result.now c.lines.writer c.write_text.new.writer)
    (sym c.in_err-write_text.ensures.only) (c.in_err-write_text.ensures.front, c.in_err-write_text.ensures.err)))

pub returns-in_err-write_text-2 : goal.returns-in_err-write_text-2
returns-in_err-write_text-2 g c =
    let takes = g.K.Sink.takes in
    let fails = g.K.Sink.fails in
    let rest = c.split_line.result.1.now in
    let p = err_from_is_err_and c.from_residual-in_err-write_text-2.result c.from_residual-in_err-write_text-2.ensures.1 in
    rw (p.1, p.2)
    (rest_breaks takes fails g.T.Teller.telling (g.T.Teller.view c.args.sim.now) (g.T.Teller.view c.lines.sim) c.lines.number c.args.lack.now c.lines.behind.now c.split_line.result.0.now
    (raw_lines c.args.script.now) (raw_lines c.lines.rest.now) (raw_lines rest)
    c.args.writer.now c.lines.writer c.write_text.new.writer c.lines.invariant.text.0 c.text_to_show-text.result.now
    c.split_line.ensures.line c.lines.invariant.text.1 c.lines.invariant.text.2
    (c.text_to_show-text.ensures ∙ ap (λ t. shown c.split_line.result.0.now (raw_lines c.split_line.result.1.now) t) (c.as_slice.ensures.value ∙ c.in_ok-is_bad.ensures.text))
    (sym c.in_ok-is_bad.ensures.bad ∙ c.if-is_bad.true) rest (sym (lines_join rest)) c.in_ok-write_text.ensures.whole
    c.write_text-then-is_bad.new.writer
    c.in_err-write_text-2.field-0.0
    (subst (λ (f : WriteFault). WroteFront takes fails f rest c.write_text.new.writer c.write_text-then-is_bad.new.writer)
    (sym c.in_err-write_text-2.ensures.only) (c.in_err-write_text-2.ensures.front, c.in_err-write_text-2.ensures.err)))

pub returns-then-is_bad : goal.returns-then-is_bad
returns-then-is_bad g c =
    let takes = g.K.Sink.takes in
    let fails = g.K.Sink.fails in
    let rest = c.split_line.result.1.now in
    let line = c.split_line.result.0.now in
    let bad = sym c.in_ok-is_bad.ensures.bad ∙ c.if-is_bad.true in (
      fault_here (g.T.Teller.telling.cluster (g.T.Teller.view c.args.sim.now)) c.lines.number line (raw_lines c.args.script.now) (raw_lines c.lines.rest.now) (raw_lines rest)
          c.split_line.ensures.line c.lines.invariant.fault
          (subst (λ (k : ClusterView). is_bad (line_of k (content line)) ≡ true) c.lines.invariant.same bad),
      story_ends takes fails g.T.Teller.telling (g.T.Teller.view c.args.sim.now) (g.T.Teller.view c.lines.sim) c.lines.number c.args.lack.now c.lines.behind.now line
          (raw_lines c.args.script.now) (raw_lines c.lines.rest.now) (raw_lines rest)
          c.args.writer.now c.lines.writer c.write_text.new.writer c.lines.invariant.text.0 c.text_to_show-text.result.now
          c.split_line.ensures.line c.lines.invariant.text.1 c.lines.invariant.text.2
          (c.text_to_show-text.ensures ∙ ap (λ t. shown c.split_line.result.0.now (raw_lines c.split_line.result.1.now) t) (c.as_slice.ensures.value ∙ c.in_ok-is_bad.ensures.text))
          bad rest (sym (lines_join rest)) c.in_ok-write_text.ensures.whole c.write_text-then-is_bad.new.writer
          c.in_ok-write_text-2.ensures.whole,
      c.in_ok-write_text-2.ensures.ok,
    )

pub returns-in_err-write_ending : goal.returns-in_err-write_ending
returns-in_err-write_ending g c =
    let p = err_from_is_err_and c.from_residual-in_err-write_ending.result c.from_residual-in_err-write_ending.ensures.1 in
    let none : c.lines.rest.now ≡ [] = nil_from_length c.lines.rest.now (grind (arith, nat_tests, c.is_empty.ensures, c.lines-test.false)) in
    rw (p.1, p.2)
    (ending_breaks g.K.Sink.takes g.K.Sink.fails g.T.Teller.telling (g.T.Teller.view c.args.sim.now) (g.T.Teller.view c.lines.sim) c.lines.number c.args.lack.now c.lines.behind.now
    (raw_lines c.args.script.now) (raw_lines c.lines.rest.now) c.args.writer.now c.lines.writer c.write_ending.new.writer
    c.lines.invariant.text.0 (ap raw_lines none) c.lines.invariant.text.1 c.lines.invariant.text.2
    c.in_err-write_ending.field-0.0 c.in_err-write_ending.ensures)

pub returns : goal.returns
returns g c =
    let none : c.lines.rest.now ≡ [] = nil_from_length c.lines.rest.now (grind (arith, nat_tests, c.is_empty.ensures, c.lines-test.false)) in (
      c.lines.invariant.fault
          ∙ ap (λ (bytes : List ℕ). bad_line c.lines.number (lines_asked (g.T.Teller.telling.cluster (g.T.Teller.view c.args.sim.now)) (map content (raw_lines bytes)))) none,
      ending_ends g.K.Sink.takes g.K.Sink.fails g.T.Teller.telling (g.T.Teller.view c.args.sim.now) (g.T.Teller.view c.lines.sim) c.lines.number c.args.lack.now c.lines.behind.now
          (raw_lines c.args.script.now) (raw_lines c.lines.rest.now) c.args.writer.now c.lines.writer c.write_ending.new.writer
          c.lines.invariant.text.0 (ap raw_lines none) c.lines.invariant.text.1 c.lines.invariant.text.2
          c.in_ok-write_ending.ensures.0,
      c.in_ok-write_ending.ensures.1,
    )

pub lines-preserved : goal.lines-preserved
lines-preserved g c =
    let takes = g.K.Sink.takes in
    let fails = g.K.Sink.fails in
    let rest = c.split_line.result.1.now in
    let line = c.split_line.result.0.now in
    let good = sym c.in_ok-is_bad.ensures.bad ∙ c.if-is_bad.false in
    record {
      text = story_goes_on takes fails g.T.Teller.telling (g.T.Teller.view c.args.sim.now) (g.T.Teller.view c.lines.sim) c.lines.number c.args.lack.now c.lines.behind.now line
          (raw_lines c.args.script.now) (raw_lines c.lines.rest.now) (raw_lines rest)
          c.args.writer.now c.lines.writer c.write_text.new.writer c.lines.invariant.text.0 c.text_to_show-text.result.now
          c.split_line.ensures.line c.lines.invariant.text.1 c.lines.invariant.text.2
          (c.text_to_show-text.ensures ∙ ap (λ t. shown c.split_line.result.0.now (raw_lines c.split_line.result.1.now) t) (c.as_slice.ensures.value ∙ c.in_ok-is_bad.ensures.text))
          good (g.T.Teller.view c.tell_line.new.sim) c.in_ok-is_bad.ensures.sim c.lack_behind-behind.result.now c.lack_behind-behind.ensures
          c.in_ok-write_text.ensures.whole;
      fault = fault_later (g.T.Teller.telling.cluster (g.T.Teller.view c.args.sim.now)) c.lines.number line (raw_lines c.args.script.now) (raw_lines c.lines.rest.now) (raw_lines rest)
          c.split_line.ensures.line c.lines.invariant.fault
          (subst (λ (k : ClusterView). is_bad (line_of k (content line)) ≡ false) c.lines.invariant.same good);
      watch = c.in_ok-write_text.ensures.ok;
      same = c.in_ok-is_bad.ensures.cluster ∙ c.lines.invariant.same;
      utf8 = c.lack_behind-behind.utf8;
      count = omega (arith, c.lines.invariant.count, c.split_line.ensures.shorter);
    }
