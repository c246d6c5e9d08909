use Rattle.std.proofs.Common.{◌≢◌, sym, ap, ◌∙◌, subst}
use Rattle.rh_state.specs.declared.status.Place.TheVariants.{Off}
use Rattle.rh_state.specs.Setters.{unlisted}
use Rattle.rh_state.specs.StateView.{StateView, place_of}
use Rattle.rh_state.specs.Stored.{read}
use Rattle.rh_events.proofs.Moving.{unlisted_waiting, waits_now}
use Rattle.rh_events.proofs.by_hand.start_if_off.Goals as goal

pub returns-in_ok-push_waiting-clause-started : goal.returns-in_ok-push_waiting-clause-started
returns-in_ok-push_waiting-clause-started c =
    subst (λ (s : StateView). place_of s c.args.node c.args.app ≢ Off) (sym c.in_ok-push_waiting.ensures.part)
    (waits_now (read c.args.state.now) c.args.node c.args.app c.formed.ensures.shape c.requires.node)

pub returns-in_ok-push_waiting-clause-others : goal.returns-in_ok-push_waiting-clause-others
returns-in_ok-push_waiting-clause-others c =
    ap (λ s. unlisted s c.args.node c.args.app) c.in_ok-push_waiting.ensures.part
    ∙ unlisted_waiting (read c.args.state.now) c.args.node c.args.app
