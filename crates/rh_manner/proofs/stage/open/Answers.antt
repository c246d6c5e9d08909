use Rattle.std.proofs.Common.{◌≡◌, ◌∙◌, List, ℕ, Result, Ok, sym, subst}
use Rattle.std.proofs.lemmas.Result.{err_from_is_err_and}
use Rattle.rh_cluster.specs.ClusterOf.{cluster_of}
use Rattle.rh_cluster.specs.declared.fault.ClusterFault.{ClusterFault}
use Rattle.rh_model.specs.ClusterView.{ClusterView}
use Rattle.rh_devices.specs.Devices.{WroteFront}
use Rattle.rh_devices.proofs.Passing.{fault_before}
use Rattle.rh_manner.specs.Speech.{over_said, script_said}
use Rattle.rh_manner.specs.Voices.{opening_in}
use Rattle.rh_manner.proofs.stage.open.Goals as goal

pub returns-in_err-begin-in-Ok : goal.returns-in_err-begin-in-Ok
returns-in_err-begin-in-Ok g c =
    let takes = g.K.Sink.takes in
    let fails = g.K.Sink.fails in
    let sp = g.T.Speaker.speech c.args.speaker.now in
    let text = c.args.text.now in
    let cluster = c.in-Ok.cluster in
    let f = c.in_err-begin-in-Ok.field-0.0 in
    let p = err_from_is_err_and c.from_residual-in_err-begin-in-Ok.result c.from_residual-in_err-begin-in-Ok.ensures.1 in
    let same : c.cluster.result.now ≡ cluster = c.cluster.ensures ∙ c.in_ok-rehearsal-in-Ok.ensures.cluster in
    let read : cluster_of text ≡ Ok cluster = c.in-Ok.ensures.exact in
    let said : opening_in c.form-form.result c.cluster.result.now ≡ opening_in sp.form cluster =
    λ i. opening_in (c.form-form.ensures i) (same i) in
    rw (p.1, p.2)
    (λ lines.
    subst (λ (r : Result ClusterView ClusterFault). WroteFront takes fails f (over_said sp text lines r) c.args.writer.now c.begin.new.writer) (sym read)
    (fault_before takes fails f c.args.writer.now c.begin.new.writer (opening_in sp.form cluster)
    (script_said sp (sp.begun cluster text) 1 lines)
    (subst (λ (t : List ℕ). WroteFront takes fails f t c.args.writer.now c.begin.new.writer) said c.in_err-begin-in-Ok.ensures)))
