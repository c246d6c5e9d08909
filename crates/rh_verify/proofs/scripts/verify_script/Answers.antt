use Rattle.std.proofs.Common.{◌≡◌, ℕ, List, map, filter, length, Ok, Option, ap, subst, ◌∙◌}
use Rattle.std.specs.List.{flat_map}
use Rattle.std.specs.Borrow.{Bor}
use Rattle.std.proofs.lemmas.Result.{err_from_is_err_and}
use Rattle.rh_model.specs.ClusterView.{ClusterView}
use Rattle.rh_devices.specs.Devices.{WroteFront}
use Rattle.rh_devices.proofs.Passing.{nothing_yet}
use Rattle.rh_run.specs.RunText.{bad_line, lines_asked, Wrote}
use Rattle.rh_verify.specs.declared.tally.Tally.{Tally}
use Rattle.rh_verify.specs.Spaces.{lines_of}
use Rattle.rh_verify.specs.Expected.{asked_by, ahead, numbered, is_expectation}
use Rattle.rh_verify.specs.Blocks.{stray_text}
use Rattle.rh_verify.specs.Counts.{with_stray}
use Rattle.rh_verify.specs.Judging.{Gave}
use Rattle.rh_verify.specs.VerifyText.{line_behind, script_tally, script_text, script_end, last_text, last_end}
use Rattle.rh_verify.proofs.Whole.{strays_fail, blocks_fail, last_behind}
use Rattle.rh_verify.proofs.scripts.verify_script.Goals as goal

pub returns-in_err-lines : goal.returns-in_err-lines
returns-in_err-lines g c =
    let sim = g.R.Rehearsal.view c.args.rehearsal.now in
    let p = err_from_is_err_and c.from_residual.result c.from_residual.ensures.1 in
    rw (p.1, p.2) (
      nothing_yet g.K.Sink.takes g.K.Sink.fails c.args.writer.now.inner
          (script_text g.R.Rehearsal.rules sim (line_behind c.args.text.now) (lines_of c.args.script.now)),
      c.requires,
    )

pub returns-in_err-count : goal.returns-in_err-count
returns-in_err-count g c =
    let takes = g.K.Sink.takes in
    let fails = g.K.Sink.fails in
    let r = g.R.Rehearsal.rules in
    let sim = g.R.Rehearsal.view c.args.rehearsal.now in
    let first = c.line_behind-first.result in
    let texts = lines_of c.args.script.now in
    let f = c.in_err-count.field-0.0 in
    let same = ap (map (λ (line : Bor (List ℕ)). line.now)) c.as_slice.ensures.value ∙ c.in_ok-lines.ensures.lines
    ∙ ap (λ (k : ClusterView). ahead (asked_by k texts)) c.cluster.ensures in
    let p = err_from_is_err_and c.from_residual-in_err-count.result c.from_residual-in_err-count.ensures.1 in
    rw (p.1, p.2)
    (subst (λ (k : ℕ). WroteFront takes fails f (script_text r sim k texts) c.args.writer.now c.write_stray.new.writer) c.line_behind-first.ensures.number
    (strays_fail takes fails r sim first texts f c.args.writer.now c.write_stray.new.writer
    (subst (λ (ls : List (List ℕ)). WroteFront takes fails f
    (flat_map stray_text (filter (λ at. is_expectation at.1) (numbered first ls))) c.args.writer.now c.write_stray.new.writer)
    same c.in_err-count.ensures.text)))

pub returns-in_err-counted : goal.returns-in_err-counted
returns-in_err-counted g c =
    let takes = g.K.Sink.takes in
    let fails = g.K.Sink.fails in
    let r = g.R.Rehearsal.rules in
    let sim = g.R.Rehearsal.view c.args.rehearsal.now in
    let first = c.line_behind-first.result in
    let texts = lines_of c.args.script.now in
    let f = c.in_err-counted.field-0.0 in
    let same = ap (map (λ (line : Bor (List ℕ)). line.now)) c.as_slice.ensures.value ∙ c.in_ok-lines.ensures.lines
    ∙ ap (λ (k : ClusterView). ahead (asked_by k texts)) c.cluster.ensures in
    let stray = subst (λ (ls : List (List ℕ)). Gave takes fails (Ok c.in_ok-count.count)
    (flat_map stray_text (filter (λ at. is_expectation at.1) (numbered first ls)))
    (length (filter (λ at. is_expectation at.1) (numbered first ls))) c.args.writer.now c.write_stray.new.writer)
    same c.in_ok-count.ensures.text in
    let p = err_from_is_err_and c.from_residual-in_err-counted.result c.from_residual-in_err-counted.ensures.1 in
    rw (p.1, p.2)
    (subst (λ (k : ℕ). WroteFront takes fails f (script_text r sim k texts) c.args.writer.now c.write_blocks.new.writer) c.line_behind-first.ensures.number
    (blocks_fail takes fails r sim first texts f c.args.writer.now c.write_stray.new.writer c.write_blocks.new.writer stray.1
    c.in_err-counted.ensures.text))

pub returns : goal.returns
returns g c =
    let takes = g.K.Sink.takes in
    let fails = g.K.Sink.fails in
    let r = g.R.Rehearsal.rules in
    let sim = g.R.Rehearsal.view c.args.rehearsal.now in
    let first = c.line_behind-first.result in
    let texts = lines_of c.args.script.now in
    let found = c.in_ok-counted.counted in
    let same = ap (map (λ (line : Bor (List ℕ)). line.now)) c.as_slice.ensures.value ∙ c.in_ok-lines.ensures.lines
    ∙ ap (λ (k : ClusterView). ahead (asked_by k texts)) c.cluster.ensures in
    let stray = subst (λ (ls : List (List ℕ)). Gave takes fails (Ok c.in_ok-count.count)
    (flat_map stray_text (filter (λ at. is_expectation at.1) (numbered first ls)))
    (length (filter (λ at. is_expectation at.1) (numbered first ls))) c.args.writer.now c.write_stray.new.writer)
    same c.in_ok-count.ensures.text in
    let blocks = c.in_ok-counted.ensures.text in
    let tally : c.with_stray.result ≡ script_tally r sim first texts =
    c.with_stray.ensures ∙ (λ i. with_stray (stray.0 i) (blocks.0 i).0) in
    let bad : found.1 ≡ bad_line 1 (lines_asked (r.cluster sim) texts) = λ i. (blocks.0 i).1 in
    subst (λ (k : ℕ). Wrote takes fails c.write_last.result (script_text r sim k texts) (script_end r sim k texts)
    c.args.writer.now c.write_last.new.writer) c.line_behind-first.ensures.number
    (last_behind takes fails r sim first texts c.write_last.result c.args.writer.now c.write_stray.new.writer
    c.write_blocks.new.writer c.write_last.new.writer stray.1 blocks.1
    (subst (λ (n : Option ℕ). Wrote takes fails c.write_last.result (last_text (script_tally r sim first texts) n)
    (last_end (script_tally r sim first texts) n) c.write_blocks.new.writer c.write_last.new.writer) bad
    (subst (λ (t : Tally). Wrote takes fails c.write_last.result (last_text t found.1) (last_end t found.1)
    c.write_blocks.new.writer c.write_last.new.writer) tally c.write_last.ensures)))
