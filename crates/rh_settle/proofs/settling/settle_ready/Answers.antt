use Rattle.std.proofs.Common.{List, All, sym, ap, ◌∙◌, subst}
use Rattle.std.proofs.lemmas.Result.{on_ok_weaker}
use Rattle.rh_model.specs.ClusterView.{ClusterView}
use Rattle.rh_state.specs.Stored.{read}
use Rattle.rh_rules.specs.declared.notice.Pair.{Pair}
use Rattle.rh_rules.specs.Course.{Course, fresh_of}
use Rattle.rh_trace.specs.Traces.{IsPairOf, course}
use Rattle.rh_rules.specs.Settling.{NoneEnabled, Settles, waits_told}
use Rattle.rh_trace.proofs.NextFirsts.{still_if_none_enabled}
use Rattle.rh_settle.proofs.SettlingLaws.{settles_by_pick, few_moves}
use Rattle.rh_settle.proofs.Unchanged.{all_moved_marked, waits_told_fresh}
use Rattle.rh_trace.proofs.Ways.{goes_more}
use Rattle.rh_settle.proofs.settling.settle_ready.Goals as goal

pub tell_waiting-requires : goal.tell_waiting-requires
tell_waiting-requires c =
    let o = course (read c.args.state.now) c.args.trace.now in
    let marked = ap (λ (p : Course). p.marked) c.in_ok-make_moves.ensures.moved ∙ all_moved_marked c.args.pick o in
    subst (λ (v : ClusterView). All (IsPairOf v) c.make_moves.new.trace.marked) (sym c.make_moves.ensures.cluster)
    (subst (λ (ps : List Pair). All (IsPairOf o.state.cluster) ps) (sym marked) c.requires.marked)

pub returns-clause-allowed : goal.returns-clause-allowed
returns-clause-allowed c =
    let o = course (read c.args.state.now) c.args.trace.now in
    on_ok_weaker c.tell_waiting.result
    (λ told. subst (Settles o) (sym (told ∙ ap waits_told c.in_ok-make_moves.ensures.moved))
    (settles_by_pick c.args.pick o c.formed.ensures.shape))
    c.tell_waiting.ensures.course

pub returns-clause-few : goal.returns-clause-few
returns-clause-few c = λ p run.
    few_moves (course (read c.args.state.now) c.args.trace.now) p c.formed.ensures.shape run

pub returns-in_err-make_moves-clause-few : goal.returns-in_err-make_moves-clause-few
returns-in_err-make_moves-clause-few c = λ p run.
    few_moves (course (read c.args.state.now) c.args.trace.now) p c.formed.ensures.shape run

pub returns-clause-still : goal.returns-clause-still
returns-clause-still c =
    let o = course (read c.make_moves.new.state) c.make_moves.new.trace in
    on_ok_weaker c.tell_waiting.result
    (λ told. subst (NoneEnabled o.state) (sym (ap fresh_of told ∙ waits_told_fresh o))
    ((still_if_none_enabled o.state (fresh_of o)).0 c.in_ok-make_moves.ensures.still))
    c.tell_waiting.ensures.course

pub returns-clause-way : goal.returns-clause-way
returns-clause-way c = goes_more _ _ _ _ _ _ c.make_moves.ensures.way c.tell_waiting.ensures.way
