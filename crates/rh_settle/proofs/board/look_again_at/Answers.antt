use Rattle.std.proofs.Common.{◌≡◌, ◌&&◌, ◌∙◌, ℕ, Bool, true, false, refl, sym, ap, subst, arith}
use Rattle.rh_model.specs.declared.node.App.{App}
use Rattle.rh_model.specs.ClusterView.{ClusterView, app_count, app_numbered}
use Rattle.rh_model.specs.Marks.{is_marked, touches}
use Rattle.rh_state.specs.Numbers.{same_app, same_node}
use Rattle.rh_state.specs.Shape.{IsAppOf}
use Rattle.rh_state.specs.Stored.{read}
use Rattle.rh_base.proofs.Lists.{cases}
use Rattle.rh_rules.specs.Placing.{is_operational}
use Rattle.rh_settle.specs.Boards.{is_among, matters}
use Rattle.rh_base.proofs.Truths.{same_number}
use Rattle.rh_settle.proofs.TakenMarks.{one_taken}
use Rattle.rh_settle.proofs.Touches.{left_touched, none_left}
use Rattle.rh_settle.proofs.board.look_again_at.Goals as goal

pub apps-init : goal.apps-init
apps-init c =
    let v = (read c.args.state.now).cluster in
    let x = c.args.moved in
    let kept = subst (λ (w : ClusterView). (a : App) → IsAppOf w a → is_marked c.touched_by.result a ≡ touches w x a) c.cluster-2.ensures c.touched_by.ensures.marks in
    record {
      touched = left_touched v x c.args.moving.now c.touched_by.result c.and-rest.result c.and-rest.ensures kept;
      here = λ a off of m t mattering. none_left v x c.args.moving.now c.touched_by.result c.and-rest.result c.and-rest.ensures kept a of off m t;
      others = λ a n h. refl;
    }

pub apps-preserved : goal.apps-preserved
apps-preserved c =
    let s = read c.args.state.now in
    let app = c.in-Some.app in
    let old = c.apps.invariant in
    let found = c.look_again_for.ensures in
    let new = c.look_again_for.new.able in
    let e = c.app_count-count.ensures.count ∙ ap (λ (v : ClusterView). app_count v) c.cluster.ensures in
    let of_app : IsAppOf s.cluster app = (let b = c.in-Some.ensures.below in omega (arith, e, b)) in
    record {
      touched = λ a of h. old.touched a of (first (is_marked c.apps.rest a) _ (sym (c.in-Some.ensures.taken a) ∙ h));
      here = one_taken (λ (a : App). IsAppOf s.cluster a → is_marked c.args.moving.now a ≡ true → touches s.cluster c.args.moved a ≡ true
          → matters s c.args.fresh.now a c.args.node ≡ true → is_among new a c.args.node ≡ is_operational s a c.args.node)
          c.apps.rest c.take_below.new.self app c.in-Some.ensures.taken
          (λ b off of m t mattering. cases (same_app b app)
          (λ y. subst (λ (j : ℕ). matters s c.args.fresh.now (app_numbered j) c.args.node ≡ true
          → is_among new (app_numbered j) c.args.node ≡ is_operational s (app_numbered j) c.args.node) (sym (same_number b.0 app.0 y)) found.here mattering)
          (λ f. found.others b c.args.node (ap (λ p. p && same_node c.args.node c.args.node) f) ∙ old.here b off of m t mattering))
          (λ of m t mattering. found.here mattering);
      others = λ a n h. found.others a n (cases (same_app a app)
          (λ y. both_sides (same_app a app) (same_node n c.args.node) (sym (ap (λ p. p && same_node n c.args.node)
          (ap (λ (j : ℕ). touches s.cluster c.args.moved (app_numbered j)) (same_number a.0 app.0 y) ∙ old.touched app of_app c.in-Some.ensures.marked)) ∙ h))
          (λ f. ap (λ p. p && same_node n c.args.node) f))
          ∙ old.others a n h;
    }
  where
    first : (p q : Bool) → p && q ≡ true → p ≡ true
    first true q h = refl
    first false q h = h

    both_sides : (p q : Bool) → q ≡ false → p && q ≡ false
    both_sides true q h = h
    both_sides false q h = refl

pub returns-clause-here : goal.returns-clause-here
returns-clause-here c = λ a of m t mattering.
    let e = c.app_count-count.ensures.count ∙ ap (λ (v : ClusterView). app_count v) c.cluster.ensures in
    c.apps.invariant.here a (c.in_default.ensures.none refl a (omega (arith, e, of))) of m t mattering

pub returns-clause-others : goal.returns-clause-others
returns-clause-others c = c.apps.invariant.others
