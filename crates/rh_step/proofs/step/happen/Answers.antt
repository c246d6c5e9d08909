use Rattle.std.proofs.Common.{sym, ◌∙◌, subst}
use Rattle.std.proofs.lemmas.Result.{on_ok_weaker}
use Rattle.rh_state.specs.Stored.{read}
use Rattle.rh_settle.specs.Starting.{StartsAreMarked}
use Rattle.rh_trace.specs.Traces.{course}
use Rattle.rh_trace.proofs.Ways.{goes_more, goes_cluster}
use Rattle.rh_events.specs.Counts.{own_edits}
use Rattle.rh_step.proofs.Following.{changed_sound, changed_pairs, few_followed}
use Rattle.rh_step.proofs.StartsKept.{none_starts, starts_changed}
use Rattle.rh_step.proofs.step.happen.Goals as goal

pub follow-requires-clause-sound : goal.follow-requires-clause-sound
follow-requires-clause-sound c =
    changed_sound (course (read c.args.state.now) c.args.trace.now) _ c.args.event.now c.in_ok-change.ensures.course c.requires.valid.sound c.requires.accepted

pub follow-requires-clause-marked : goal.follow-requires-clause-marked
follow-requires-clause-marked c =
    changed_pairs (course (read c.args.state.now) c.args.trace.now) _ c.args.event.now c.in_ok-change.ensures.course c.requires.accepted c.requires.marked

pub follow_marked-requires-clause-sound : goal.follow_marked-requires-clause-sound
follow_marked-requires-clause-sound c =
    changed_sound (course (read c.args.state.now) c.args.trace.now) _ c.args.event.now c.in_ok-change.ensures.course c.requires.valid.sound c.requires.accepted

pub follow_marked-requires-clause-marked : goal.follow_marked-requires-clause-marked
follow_marked-requires-clause-marked c =
    changed_pairs (course (read c.args.state.now) c.args.trace.now) _ c.args.event.now c.in_ok-change.ensures.course c.requires.accepted c.requires.marked

pub follow_marked-requires-clause-starts : goal.follow_marked-requires-clause-starts
follow_marked-requires-clause-starts c =
    let o = course (read c.args.state.now) c.args.trace.now in
    subst StartsAreMarked (sym c.in_ok-change.ensures.course)
    (starts_changed o c.args.event.now (sym c.may_let_start.ensures ∙ c.if-may_let_start.false) (none_starts o c.requires.valid))

pub returns-then-may_let_start-clause-way : goal.returns-then-may_let_start-clause-way
returns-then-may_let_start-clause-way c = goes_more _ _ _ _ _ _ c.change.ensures.way c.follow.ensures.way

pub returns-then-may_let_start-clause-few : goal.returns-then-may_let_start-clause-few
returns-then-may_let_start-clause-few c =
    let s = read c.args.state.now in
    on_ok_weaker c.follow.result
    (few_followed s.cluster (read c.change.new.state).cluster (own_edits s.cluster c.args.event.now) c.args.trace.now c.change.new.trace c.follow.new.trace
    (goes_cluster _ _ _ _ c.in_ok-change.ensures.way) c.in_ok-change.ensures.few)
    c.follow.ensures.few

pub returns-else-may_let_start-clause-way : goal.returns-else-may_let_start-clause-way
returns-else-may_let_start-clause-way c = goes_more _ _ _ _ _ _ c.change.ensures.way c.follow_marked.ensures.way

pub returns-else-may_let_start-clause-few : goal.returns-else-may_let_start-clause-few
returns-else-may_let_start-clause-few c =
    let s = read c.args.state.now in
    on_ok_weaker c.follow_marked.result
    (few_followed s.cluster (read c.change.new.state).cluster (own_edits s.cluster c.args.event.now) c.args.trace.now c.change.new.trace c.follow_marked.new.trace
    (goes_cluster _ _ _ _ c.in_ok-change.ensures.way) c.in_ok-change.ensures.few)
    c.follow_marked.ensures.few
