use Rattle.std.proofs.Common.{◌≡◌, true, [], ap, sym, ◌∙◌, arith, refl}
use Rattle.rh_model.specs.declared.node.App.{App}
use Rattle.rh_model.specs.ClusterView.{ClusterView, app_count}
use Rattle.rh_state.specs.Shape.{IsAppOf}
use Rattle.rh_base.proofs.Lists.{cases}
use Rattle.rh_rules.specs.Moves.{takeovers}
use Rattle.rh_model.specs.Marks.{is_marked}
use Rattle.rh_settle.proofs.Boards.{unmarked_kept}
use Rattle.rh_settle.proofs.Searches.{found_behind, none_behind, none_picked}
use Rattle.rh_settle.proofs.TakenMarks.{one_taken}
use Rattle.rh_state.specs.Stored.{read}
use Rattle.rh_settle.proofs.search.next_takeover.Goals as goal

pub returns-in-Some-takeover_of : goal.returns-in-Some-takeover_of
returns-in-Some-takeover_of c = λ fresh h.
    let s = read c.args.state.now in
    let e = c.app_count-count.ensures.count ∙ ap (λ (v : ClusterView). app_count v) c.cluster.ensures in
    found_behind c.args.pick s.cluster (takeovers s fresh) c.in-Some.app c.in-Some-takeover_of.next (omega (arith, e, c.in-Some.ensures.below))
    (λ a of lt. cases (is_marked c.args.board.now.moving a)
    (λ y. c.apps.invariant fresh h a (c.in-Some.ensures.first a lt) y of)
    (λ f. unmarked_kept s fresh c.args.board.now a c.formed.ensures.shape of h f))
    (c.in-Some-takeover_of.ensures fresh h)

pub apps-preserved : goal.apps-preserved
apps-preserved c = λ fresh h.
    let s = read c.args.state.now in
    one_taken (λ (a : App). is_marked c.args.board.now.moving a ≡ true → IsAppOf s.cluster a → takeovers s fresh a ≡ [])
    c.apps.rest c.take_below.new.self c.in-Some.app c.in-Some.ensures.taken (c.apps.invariant fresh h)
    (λ y of. none_picked c.args.pick (takeovers s fresh c.in-Some.app) (sym (c.in_default-takeover_of.ensures fresh h)))

pub returns : goal.returns
returns c = λ fresh h.
    let s = read c.args.state.now in
    let e = c.app_count-count.ensures.count ∙ ap (λ (v : ClusterView). app_count v) c.cluster.ensures in
    none_behind c.args.pick s.cluster (takeovers s fresh)
    (λ a of. cases (is_marked c.args.board.now.moving a)
    (λ y. c.apps.invariant fresh h a (c.in_default.ensures.none refl a (omega (arith, e, of))) y of)
    (λ f. unmarked_kept s fresh c.args.board.now a c.formed.ensures.shape of h f))
