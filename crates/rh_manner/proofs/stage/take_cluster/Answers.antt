use Rattle.std.proofs.Common.{◌≡◌, ◌≢◌, ◌∙◌, ◌++◌, List, [], ℕ, length, map, true, false, Ok, Err, refl, sym, ap, subst, arith}
use Rattle.std.specs.List.{list_any}
use Rattle.std.proofs.lemmas.Result.{err_from_is_err_and}
use Rattle.rh_cluster.specs.ClusterOf.{cluster_of}
use Rattle.rh_devices.specs.Devices.{WroteFront}
use Rattle.rh_devices.proofs.Passing.{passed_none}
use Rattle.rh_script.specs.Lines.{raw_lines, content, is_separator, cluster_text}
use Rattle.rh_manner.specs.declared.stage.Stage.TheVariants as stage
use Rattle.rh_manner.specs.Speech.{over_said}
use Rattle.rh_manner.specs.Voices.{opening_in, fault_in}
use Rattle.rh_manner.specs.Stages.{opened_from, opened_end, script_from}
use Rattle.rh_manner.proofs.Parting.{all_if_none, none_if_all, some_if_less, script_few}
use Rattle.rh_manner.proofs.Openings.{text_goes_on, end_goes_on, text_opens, text_read, end_read, numbers_more, opens}
use Rattle.rh_manner.proofs.stage.take_cluster.Goals as goal

pub returns-then-front-lines-clause-lines : goal.returns-then-front-lines-clause-lines
returns-then-front-lines-clause-lines g c =
    let sp = g.T.Speaker.speech c.args.speaker.now in
    let before = c.args.before.items in
    let lines = c.args.lines.now in
    let none : list_any is_separator (raw_lines lines) ≡ false =
    none_if_all lines (omega (arith, ap length c.cut.ensures.cluster, c.if-front-lines.true)) in
    let it : c.in_ok-text.text.items ≡ before ++ lines =
    c.in_ok-text.ensures ∙ ap (λ (t : List ℕ). before ++ t) (c.cut.ensures.cluster ∙ all_if_none lines none) in (
      [],
      passed_none g.K.Sink.takes c.args.writer.now.inner,
      c.requires.writer,
      record {
        text = λ more. text_goes_on sp before lines none more ∙ ap (λ (t : List ℕ). opened_from sp t more) (sym it);
        end = λ more. end_goes_on sp before lines none more ∙ ap (λ (t : List ℕ). opened_end t more) (sym it);
        parted = sym none;
        silent = λ h. refl;
      },
    )

pub returns-in_err-opened-clause-lines : goal.returns-in_err-opened-clause-lines
returns-in_err-opened-clause-lines g c =
    let takes = g.K.Sink.takes in
    let fails = g.K.Sink.fails in
    let sp = g.T.Speaker.speech c.args.speaker.now in
    let before = c.args.before.items in
    let lines = c.args.lines.now in
    let script = c.cut.result.1.now in
    let less : length (cluster_text lines) ≢ length lines = λ same. c.if-front-lines.false (ap length c.cut.ensures.cluster ∙ same) in
    let whole : c.as_slice.result.now ≡ before ++ cluster_text lines =
    c.as_slice.ensures.value ∙ c.in_ok-text.ensures ∙ ap (λ (t : List ℕ). before ++ t) c.cut.ensures.cluster in
    let f = c.in_err-opened.field-0.0 in
    let p = err_from_is_err_and c.from_residual-in_err-opened.result c.from_residual-in_err-opened.ensures.1 in
    rw (p.1, p.2)
    (λ more.
    subst (λ (t : List ℕ). WroteFront takes fails f t c.args.writer.now c.open.new.writer)
    (ap (λ (t : List ℕ). over_said sp t (map content (raw_lines script ++ more)) (cluster_of t)) whole
    ∙ sym (text_opens sp before lines script (some_if_less lines less) c.cut.ensures.script more))
    (c.in_err-opened.ensures (map content (raw_lines script ++ more))))

pub returns-in-Script-clause-lines : goal.returns-in-Script-clause-lines
returns-in-Script-clause-lines g c =
    let takes = g.K.Sink.takes in
    let fails = g.K.Sink.fails in
    let sp = g.T.Speaker.speech c.args.speaker.now in
    let before = c.args.before.items in
    let lines = c.args.lines.now in
    let script = c.cut.result.1.now in
    let less : length (cluster_text lines) ≢ length lines = λ same. c.if-front-lines.false (ap length c.cut.ensures.cluster ∙ same) in
    let some : list_any is_separator (raw_lines lines) ≡ true = some_if_less lines less in
    let whole : before ++ cluster_text lines ≡ c.as_slice.result.now =
    sym (c.as_slice.ensures.value ∙ c.in_ok-text.ensures ∙ ap (λ (t : List ℕ). before ++ t) c.cut.ensures.cluster) in
    let r = c.in-Script.rehearsal in
    let first = g.T.Speaker.view r in
    let it = rw c.in-Script.is at c.in_ok-opened.ensures in
    let is : cluster_of (before ++ cluster_text lines) ≡ Ok (sp.cluster first) = ap cluster_of whole ∙ it.0 in
    let begun : sp.begun (sp.cluster first) (before ++ cluster_text lines) ≡ first = ap (sp.begun (sp.cluster first)) whole ∙ sym it.1 in
    opens takes fails sp g.T.Speaker.view (stage.Cluster c.args.before) (stage.Script r 1) (raw_lines lines) (raw_lines script)
    (opening_in sp.form (sp.cluster first)) c.args.writer.now c.open.new.writer c.take_script.new.writer it.2
    (λ more. text_read sp before lines script some c.cut.ensures.script (Ok (sp.cluster first)) is more
    ∙ ap (λ (v : g.T.Speaker.View). opening_in sp.form (sp.cluster first) ++ script_from sp v 1 (raw_lines script ++ more)) begun)
    (λ more. end_read sp before lines script some c.cut.ensures.script (Ok (sp.cluster first)) is more)
    refl some c.take_script.result c.take_script.ensures.lines

pub returns-in-Script-clause-number : goal.returns-in-Script-clause-number
returns-in-Script-clause-number g c =
    numbers_more c.take_script.result _ _ (omega (arith, script_few c.args.lines.now c.cut.result.1.now c.cut.ensures.script)) c.take_script.ensures.number

pub returns-clause-lines : goal.returns-clause-lines
returns-clause-lines g c =
    let sp = g.T.Speaker.speech c.args.speaker.now in
    let before = c.args.before.items in
    let lines = c.args.lines.now in
    let script = c.cut.result.1.now in
    let less : length (cluster_text lines) ≢ length lines = λ same. c.if-front-lines.false (ap length c.cut.ensures.cluster ∙ same) in
    let some : list_any is_separator (raw_lines lines) ≡ true = some_if_less lines less in
    let whole : before ++ cluster_text lines ≡ c.as_slice.result.now =
    sym (c.as_slice.ensures.value ∙ c.in_ok-text.ensures ∙ ap (λ (t : List ℕ). before ++ t) c.cut.ensures.cluster) in
    let f = c.in-Refused.fault in
    let it = rw c.in-Refused.is at c.in_ok-opened.ensures in
    let is : cluster_of (before ++ cluster_text lines) ≡ Err f = ap cluster_of whole ∙ it.0 in (
      fault_in sp.form f,
      it.1,
      it.2,
      record {
        text = λ more. text_read sp before lines script some c.cut.ensures.script (Err f) is more;
        end = λ more. end_read sp before lines script some c.cut.ensures.script (Err f) is more;
      },
    )

pub take_script-requires-clause-room : goal.take_script-requires-clause-room
take_script-requires-clause-room g c = omega (arith, script_few c.args.lines.now c.cut.result.1.now c.cut.ensures.script, c.requires.room)
