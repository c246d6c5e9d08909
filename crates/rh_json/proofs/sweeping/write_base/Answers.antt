use Rattle.std.proofs.Common.{◌∙◌, List, ℕ, ap, subst}
use Rattle.std.proofs.lemmas.Result.{err_from_is_err_and}
use Rattle.rh_script.specs.Lines.{script_lines}
use Rattle.rh_devices.proofs.Passing.{nothing_yet}
use Rattle.rh_run.specs.RunText.{Broke}
use Rattle.rh_json.specs.RunJson.{run_json}
use Rattle.rh_json.specs.SweepJson.{base_json}
use Rattle.rh_json.proofs.Front.{base_is_run}
use Rattle.rh_json.proofs.sweeping.write_base.Goals as goal

pub returns-in_err-base : goal.returns-in_err-base
returns-in_err-base g c =
    let p = err_from_is_err_and c.from_residual.result c.from_residual.ensures.1 in
    rw (p.1, p.2) (
      nothing_yet g.K.Sink.takes g.K.Sink.fails c.args.writer.now.inner (base_json c.args.cluster.now c.args.pick (script_lines c.args.input.now)),
      c.requires.writer,
    )

pub returns : goal.returns
returns g c =
    subst (λ (t : List ℕ). Broke g.K.Sink.takes g.K.Sink.fails c.write_run.result t c.args.writer.now c.write_run.new.writer)
    (ap (λ (bs : List ℕ). run_json bs c.args.pick) c.in_ok-base.ensures.text ∙ base_is_run c.args.cluster.now c.args.pick c.args.input.now c.requires.cluster)
    c.write_run.ensures
