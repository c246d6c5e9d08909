use Rattle.std.proofs.Common.{◌≡◌, true, false, Option, Some, None, is_some, is_none, sym, ap, ◌∙◌}
use Rattle.rh_model.specs.ClusterView.{ClusterView, spread_of}
use Rattle.std.specs.Option.{option_map}
use Rattle.rh_state.specs.Stored.{read}
use Rattle.rh_refusals.proofs.RefusedByHand.{takeover_some, takeover_stands}
use Rattle.rh_refusals.proofs.refusing.takeover_refusal.Goals as goal

there : {A B : Type 0} (f : A → B) (o : Option A) (v : Option B) → option_map f o ≡ v → is_some o ≡ true → is_none v ≡ false
there f None v e h = absurd (cc h)
there f (Some x) v e h = ap is_none (sym e)

pub returns-in-Some : goal.returns-in-Some
returns-in-Some c =
    takeover_some (read c.args.state.now) c.args.node c.args.app c.refusal_by_hand.result c.refusal_by_hand.ensures.tests c.args.restart c.in-Some.refusal
    c.in-Some.is

pub returns-in-Some-standing_refusal : goal.returns-in-Some-standing_refusal
returns-in-Some-standing_refusal c =
    takeover_stands (read c.args.state.now) c.args.node c.args.app c.refusal_by_hand.result c.refusal_by_hand.ensures.tests c.args.restart
    c.standing.result c.standing_refusal.result c.in-Some-standing_refusal.refusal c.in_default.is
    (ap (λ (v : ClusterView). is_none (spread_of v c.args.app)) (sym c.cluster.ensures)
    ∙ there _ c.spread.result (spread_of c.cluster.result.now c.args.app) c.spread.ensures c.if-is_none.ensures)
    (sym c.if-not-is_listed_at.ensures)
    c.standing.ensures.standing c.standing_refusal.ensures c.in-Some-standing_refusal.is
