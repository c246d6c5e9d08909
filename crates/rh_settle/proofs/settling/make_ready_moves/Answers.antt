use Rattle.std.proofs.Common.{List, sym, ap, ◌∙◌, subst, All, arith}
use Rattle.rh_model.specs.ClusterView.{ClusterView}
use Rattle.rh_state.specs.Shape.{IsNodeOf, IsAppOf}
use Rattle.rh_state.specs.Stored.{read}
use Rattle.rh_rules.specs.declared.notice.Pair.{Pair}
use Rattle.rh_settle.specs.Boards.{nodes_changed, mover, AreLocals, IsBoardOf}
use Rattle.rh_rules.specs.Course.{Course, fresh_of}
use Rattle.rh_trace.specs.Traces.{course}
use Rattle.rh_settle.proofs.Movers.{changed_nodes, moved_app}
use Rattle.rh_settle.proofs.Fuel.{state_moved, fresh_moved}
use Rattle.rh_settle.proofs.Making.{makeable, smaller, same, runs_still, none_left}
use Rattle.rh_trace.proofs.Ways.{goes_more, goes_cluster}
use Rattle.rh_settle.proofs.settling.make_ready_moves.Goals as goal

pub next_on-requires : goal.next_on-requires
next_on-requires c = λ n. c.moves.invariant.board.exact n

pub make_move-requires : goal.make_move-requires
make_move-requires c =
    let o = course (read c.moves.state) c.moves.trace in
    makeable o c.args.pick c.in-Some.next c.formed.ensures.shape (c.in-Some.ensures (fresh_of o) c.moves.invariant.board) c.moves.invariant.runs

pub follow-requires : goal.follow-requires
follow-requires c =
    let o = course (read c.moves.state) c.moves.trace in
    let made = makeable o c.args.pick c.in-Some.next c.formed.ensures.shape (c.in-Some.ensures (fresh_of o) c.moves.invariant.board) c.moves.invariant.runs in
    let same = sym (goes_cluster _ _ _ _ c.make_move.ensures.way) in
    record {
      app = subst (λ (v : ClusterView). IsAppOf v (mover c.in-Some.next)) same (moved_app (read c.moves.state) c.in-Some.next made);
      nodes = subst (λ (v : ClusterView). All (IsNodeOf v) (nodes_changed c.in-Some.next)) same (changed_nodes (read c.moves.state) c.in-Some.next made);
      marks = subst (λ (v : ClusterView). AreLocals v c.moves.board.local) same c.moves.invariant.board.local;
    }

pub moves-preserved : goal.moves-preserved
moves-preserved c =
    let o = course (read c.moves.state) c.moves.trace in
    let p = course (read c.make_move.new.state) c.make_move.new.trace in
    let next = c.in-Some.ensures (fresh_of o) c.moves.invariant.board in
    let made = c.in_ok-make_move.ensures.course in
    record {
      board = subst (λ (ps : List Pair). IsBoardOf p.state ps c.follow.new.self)
          (sym (ap fresh_of made ∙ fresh_moved o c.in-Some.next))
          (c.follow.ensures o.state (fresh_of o) c.moves.invariant.board (ap (λ (q : Course). q.state) made ∙ state_moved o c.in-Some.next));
      same = same o c.args.pick c.in-Some.next c.formed.ensures.shape next p made ∙ c.moves.invariant.same;
      runs = runs_still o c.args.pick c.in-Some.next c.formed.ensures.shape next p made c.moves.invariant.runs;
      way = goes_more _ _ _ _ _ _ c.moves.invariant.way c.make_move.ensures.way;
      few = omega (arith, c.moves.invariant.few, c.make_move.ensures.few);
    }

pub moves-smaller : goal.moves-smaller
moves-smaller c =
    let o = course (read c.moves.state) c.moves.trace in
    let p = course (read c.make_move.new.state) c.make_move.new.trace in
    let next = c.in-Some.ensures (fresh_of o) c.moves.invariant.board in
    smaller o c.args.pick c.in-Some.next c.formed.ensures.shape next p c.in_ok-make_move.ensures.course

pub returns-clause-moved : goal.returns-clause-moved
returns-clause-moved c =
    let o = course (read c.moves.state) c.moves.trace in
    sym (none_left o c.args.pick (c.in_default.ensures (fresh_of o) c.moves.invariant.board)).0 ∙ c.moves.invariant.same

pub returns-clause-still : goal.returns-clause-still
returns-clause-still c =
    let o = course (read c.moves.state) c.moves.trace in
    (none_left o c.args.pick (c.in_default.ensures (fresh_of o) c.moves.invariant.board)).1

pub returns-clause-cluster : goal.returns-clause-cluster
returns-clause-cluster c = goes_cluster _ _ _ _ c.moves.invariant.way

pub returns-in_err-make_move-clause-way : goal.returns-in_err-make_move-clause-way
returns-in_err-make_move-clause-way c = goes_more _ _ _ _ _ _ c.moves.invariant.way c.make_move.ensures.way

pub returns-in_err-make_move-clause-cluster : goal.returns-in_err-make_move-clause-cluster
returns-in_err-make_move-clause-cluster c = goes_cluster _ _ _ _ (goes_more _ _ _ _ _ _ c.moves.invariant.way c.make_move.ensures.way)
