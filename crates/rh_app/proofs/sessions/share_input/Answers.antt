use Rattle.std.proofs.Common.{Some, map, refl, ap, sym, ◌∙◌}
use Rattle.std.proofs.lemmas.Result.{err_from_is_err_and}
use Rattle.rh_cluster.specs.ClusterOf.{cluster_of}
use Rattle.rh_script.specs.Lines.{raw_lines, content}
use Rattle.rh_script.specs.Answers.{fault_text}
use Rattle.rh_run.specs.declared.fault.Told.TheVariants as told
use Rattle.rh_app.specs.Sessions.{MayGive}
use Rattle.rh_app.proofs.OneOf.{some_given, starved, cluster_fault_given, over_script}
use Rattle.rh_app.proofs.sessions.share_input.Goals as goal

pub returns-then-is_memory : goal.returns-then-is_memory
returns-then-is_memory g c =
    starved g.K.Sink.takes g.K.Sink.fails (MayGive c.args.pick c.args.input.now) c.args.writer.now c.requires
    (some_given c.args.input.now c.args.pick)

pub returns-in_err-write_fault-in-Err : goal.returns-in_err-write_fault-in-Err
returns-in_err-write_fault-in-Err g c =
    let other = c.is_memory.ensures.other c.if-is_memory.false in
    let read = ap cluster_of (sym c.cut.ensures.cluster) ∙ c.in-Err.ensures.exact other.0 other.1 in
    let p = err_from_is_err_and c.from_residual.result c.from_residual.ensures.1 in
    rw (p.1, p.2) (
      fault_text c.in-Err.fault,
      Some (told.Cluster c.in-Err.fault),
      cluster_fault_given c.args.input.now c.args.pick c.in-Err.fault read,
      c.in_err-write_fault-in-Err.ensures,
    )

pub returns-in_ok-write_fault-in-Err : goal.returns-in_ok-write_fault-in-Err
returns-in_ok-write_fault-in-Err g c =
    let other = c.is_memory.ensures.other c.if-is_memory.false in
    let read = ap cluster_of (sym c.cut.ensures.cluster) ∙ c.in-Err.ensures.exact other.0 other.1 in (
      fault_text c.in-Err.fault,
      Some (told.Cluster c.in-Err.fault),
      cluster_fault_given c.args.input.now c.args.pick c.in-Err.fault read,
      (refl, c.in_ok-write_fault-in-Err.ensures.0, c.in_ok-write_fault-in-Err.ensures.1),
    )

pub returns-in-Ok : goal.returns-in-Ok
returns-in-Ok g c =
    let read = ap cluster_of (sym c.cut.ensures.cluster) ∙ c.in-Ok.ensures.exact in
    over_script g.K.Sink.takes g.K.Sink.fails c.args.input.now c.args.pick c.in-Ok.cluster (map content (raw_lines c.cut.result.1.now))
    c.args.writer.now c.share_script.new.writer read c.cut.ensures.script c.share_script.result c.share_script.ensures
