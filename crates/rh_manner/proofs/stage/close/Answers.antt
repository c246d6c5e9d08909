use Rattle.std.proofs.Common.{◌≡◌, ◌∙◌, ◌++◌, [], ℕ, List, Ok, sym, ap, subst, append-nil}
use Rattle.rh_cluster.specs.ClusterOf.{cluster_of}
use Rattle.rh_devices.specs.Devices.{Passed}
use Rattle.rh_run.specs.RunText.{end_over}
use Rattle.rh_manner.specs.Speech.{over_said}
use Rattle.rh_manner.specs.Voices.{opening_in}
use Rattle.rh_manner.proofs.stage.close.Goals as goal

pub returns-in-Script-2 : goal.returns-in-Script-2
returns-in-Script-2 g c =
    let sp = g.T.Speaker.speech c.args.speaker.now in
    let cluster = sp.cluster (g.T.Speaker.view c.in-Script-2.field-0) in
    let text = c.in-Cluster.text.items in
    let it = rw c.in-Script-2.is at c.in_ok-open-in-Cluster.ensures in
    let read : cluster_of (text ++ []) ≡ Ok cluster =
    ap cluster_of (append-nil text ∙ sym c.as_slice.ensures.value) ∙ it.0 in
    let said : over_said sp (text ++ []) [] (cluster_of (text ++ [])) ≡ opening_in sp.form cluster =
    ap (over_said sp (text ++ []) []) read ∙ append-nil (opening_in sp.form cluster) in
    rw c.in-Cluster.is (
      ap (end_over []) read,
      subst (λ (t : List ℕ). Passed g.K.Sink.takes c.args.writer.now.inner c.open.new.writer.inner t) (sym said) it.2,
      it.3,
    )
