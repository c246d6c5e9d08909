use Rattle.std.proofs.Common.{◌≡◌, true, slice_get, sym, ap, ◌∙◌, is_some, IfSome, List, Option, subst}
use Rattle.rh_model.specs.declared.node.App.{App}
use Rattle.rh_state.specs.StateView.{running_at, waiting_at, is_started}
use Rattle.rh_state.specs.Stored.{read}
use Rattle.rh_events.proofs.Emptying.{first_none, runs_first, waits_first}
use Rattle.rh_events.proofs.ending.first_started.Goals as goal

pub returns-in-Some-clause-started : goal.returns-in-Some-clause-started
returns-in-Some-clause-started c = runs_first (read c.args.state.now) c.args.node c.in-Some.app (sym c.first_running.ensures.first ∙ c.in-Some.is)

pub returns-in-None-clause-none : goal.returns-in-None-clause-none
returns-in-None-clause-none c =
    let s = read c.args.state.now in
    let n = c.args.node in (
      λ none. (
        first_none (running_at s n) (ap is_some (sym c.first_running.ensures.first ∙ c.in-None.is)),
        first_none (waiting_at s n) (ap is_some (sym c.first_waiting.ensures.first) ∙ none),
      ),
      λ both. ap is_some (c.first_waiting.ensures.first ∙ ap (λ (xs : List App). slice_get xs 0) both.1),
    )

pub returns-in-None-clause-started : goal.returns-in-None-clause-started
returns-in-None-clause-started c =
    let s = read c.args.state.now in
    subst (λ (o : Option App). IfSome o (λ app. is_started s c.args.node app ≡ true)) (sym c.first_waiting.ensures.first) (waits_first s c.args.node)
