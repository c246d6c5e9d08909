use Rattle.std.proofs.Common.{cond, ap, subst, sym, ◌∙◌}
use Rattle.rh_place.specs.Sets.{has}
use Rattle.rh_settle.specs.declared.board.Board.TheInside.{Inside}
use Rattle.rh_model.specs.ClusterView.{ClusterView}
use Rattle.rh_state.specs.Shape.{IsAppOf}
use Rattle.rh_rules.specs.Course.{is_local}
use Rattle.rh_model.specs.Marks.{is_marked}
use Rattle.rh_settle.specs.Boards.{BoardView, touches_local}
use Rattle.rh_base.proofs.Truths.{both, same_refl}
use Rattle.rh_settle.proofs.board.Board.look_again.Goals as goal
use Rattle.rh_settle.proofs.board.Board.look_again.Goals.{then-touches_local, else-touches_local}

pub returns-clause-local : goal.returns-clause-local
returns-clause-local c = λ marked. elim c.if-touches_local.branch [
  | then-touches_local w ↦ ap (λ (b : Inside). has b.starts c.args.node) w.self-inside-is ∙ w.put-self-inside.ensures c.args.node
      ∙ ap (λ b. cond b w.starts_at.result (has c.self.inside.starts c.args.node)) (same_refl c.args.node.0)
      ∙ w.starts_at.ensures
  | else-touches_local w ↦ both c.touches_local.result (c.touches_local.ensures ∙ ap (λ (v : ClusterView). touches_local v c.args.moved) c.cluster-3.ensures ∙ marked) w.if-touches_local.false
]

pub returns-clause-apart : goal.returns-clause-apart
returns-clause-apart c = λ apart. elim c.if-touches_local.branch [
  | then-touches_local w ↦ both c.touches_local.result w.if-touches_local.true (c.touches_local.ensures ∙ ap (λ (v : ClusterView). touches_local v c.args.moved) c.cluster-3.ensures ∙ apart)
  | else-touches_local w ↦ ap (λ (b : Inside). b.starts) w.self-inside-is ∙ ap (λ (v : BoardView). v.starts) c.self.view_is
]

pub returns-clause-starts : goal.returns-clause-starts
returns-clause-starts c = λ n other. elim c.if-touches_local.branch [
  | then-touches_local w ↦ ap (λ (b : Inside). has b.starts n) w.self-inside-is ∙ w.put-self-inside.ensures n
      ∙ ap (λ b. cond b w.starts_at.result (has c.self.inside.starts n)) other ∙ ap (λ (v : BoardView). has v.starts n) c.self.view_is
  | else-touches_local w ↦ ap (λ (b : Inside). has b.starts n) w.self-inside-is ∙ ap (λ (v : BoardView). has v.starts n) c.self.view_is
]

pub touches_local-requires-clause-marks : goal.touches_local-requires-clause-marks
touches_local-requires-clause-marks c = λ a of.
    ap (λ (v : BoardView). is_marked v.local a) c.self.view_is
    ∙ c.requires.marks a (subst (λ (v : ClusterView). IsAppOf v a) c.cluster-3.ensures of)
    ∙ ap (λ (v : ClusterView). is_local v a) (sym c.cluster-3.ensures)
