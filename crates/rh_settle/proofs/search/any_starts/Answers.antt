use Rattle.std.proofs.Common.{◌≡◌, ◌&&◌, true, false, sym, ap, ◌∙◌, refl, arith}
use Rattle.rh_model.specs.declared.node.App.{App}
use Rattle.rh_model.specs.ClusterView.{ClusterView, app_count}
use Rattle.rh_state.specs.StateView.{waits_at}
use Rattle.rh_state.specs.Stored.{read}
use Rattle.rh_model.specs.Marks.{is_marked}
use Rattle.rh_rules.specs.Moves.{can_start}
use Rattle.rh_settle.proofs.Starts.{one_starts, none_starts}
use Rattle.rh_settle.proofs.TakenMarks.{one_taken}
use Rattle.rh_settle.proofs.search.any_starts.Goals as goal

pub returns-then-starts : goal.returns-then-starts
returns-then-starts c = sym (one_starts (read c.args.state.now) c.args.node c.in-Some.app (sym c.starts.ensures ∙ c.if-starts.true))

pub apps-preserved : goal.apps-preserved
apps-preserved c =
    let s = read c.args.state.now in
    one_taken (λ (a : App). is_marked c.args.local.now a ≡ true → (waits_at s c.args.node a && can_start s c.args.node a) ≡ false)
    c.apps.rest c.take_below.new.self c.in-Some.app c.in-Some.ensures.taken c.apps.invariant
    (λ y. sym c.starts.ensures ∙ c.if-starts.false)

pub returns : goal.returns
returns c =
    let s = read c.args.state.now in
    let e = c.app_count-count.ensures.count ∙ ap (λ (v : ClusterView). app_count v) c.cluster.ensures in
    sym (none_starts s c.args.node c.args.local.now c.formed.ensures.shape c.requires.marks
    (λ a of marked. c.apps.invariant a (c.in_default.ensures.none refl a (omega (arith, e, of))) marked))
