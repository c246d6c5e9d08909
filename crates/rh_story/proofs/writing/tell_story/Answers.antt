use Rattle.std.proofs.Common.{List, ℕ, [], map, subst, sym, ap, ◌∙◌}
use Rattle.std.proofs.lemmas.Result.{err_from_is_err_and}
use Rattle.rh_devices.proofs.Passing.{fault_before}
use Rattle.rh_script.specs.Lines.{raw_lines, content, lines_behind}
use Rattle.rh_run.specs.RunText.{bad_line, lines_asked, Wrote}
use Rattle.rh_run.proofs.Turns.{wrote_behind}
use Rattle.rh_story.specs.TableText.{lack_behind}
use Rattle.rh_story.specs.StoryText.{head_if, lines_by}
use Rattle.rh_story.proofs.writing.tell_story.Goals as goal

pub returns-in_err-write_head : goal.returns-in_err-write_head
returns-in_err-write_head g c =
    let p = err_from_is_err_and c.from_residual-in_err-write_head.result c.from_residual-in_err-write_head.ensures.1 in
    let head = head_if c.args.whole (raw_lines c.args.input.now) in
    rw (p.1, p.2)
    (fault_before g.K.Sink.takes g.K.Sink.fails c.in_err-write_head.field-0.0 c.args.writer.now c.write_head.new.writer
    head (lines_by g.T.Teller.telling (g.T.Teller.view c.args.sim.now) 1 (lack_behind [] head) (lines_behind (raw_lines c.args.input.now)))
    (rw (sym (c.as_slice.ensures.value ∙ c.in_ok-head.ensures)) c.in_err-write_head.ensures))

pub returns : goal.returns
returns g c =
    let takes = g.K.Sink.takes in
    let fails = g.K.Sink.fails in
    let t = g.T.Teller.telling in
    let s = g.T.Teller.view c.args.sim.now in
    let lines = lines_behind (raw_lines c.args.input.now) in
    let head = head_if c.args.whole (raw_lines c.args.input.now) in
    let lack = c.lack_behind-lack.result.now in
    let is = c.as_slice-2.ensures.value ∙ c.in_ok-head.ensures in
    wrote_behind takes fails c.tell_lines.result c.args.writer.now c.write_head.new.writer c.tell_lines.new.writer
    head (lines_by t s 1 (lack_behind [] head) lines)
    (bad_line 1 (lines_asked (t.cluster s) (map content lines)))
    (rw (sym (c.as_slice.ensures.value ∙ c.in_ok-head.ensures)) c.in_ok-write_head.ensures.0)
    (subst (λ (l : List ℕ). Wrote takes fails c.tell_lines.result (lines_by t s 1 l lines)
    (bad_line 1 (lines_asked (t.cluster s) (map content lines))) c.write_head.new.writer c.tell_lines.new.writer)
    (c.lack_behind-lack.ensures ∙ ap (λ t. lack_behind [] t) is)
    (subst (λ (ls : List (List ℕ)). Wrote takes fails c.tell_lines.result (lines_by t s 1 lack ls)
    (bad_line 1 (lines_asked (t.cluster s) (map content ls))) c.write_head.new.writer c.tell_lines.new.writer)
    c.script_of.ensures c.tell_lines.ensures))
