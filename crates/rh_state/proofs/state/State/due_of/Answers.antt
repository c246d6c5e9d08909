use Rattle.std.proofs.Common.{◌≡◌, ◌∙◌}
use Rattle.rh_state.specs.Timers.{timer_numbered}
use Rattle.rh_state.specs.Stored.{read}
use Rattle.rh_state.proofs.TimerNumbers.{due_numbered}
use Rattle.rh_state.proofs.state.State.due_of.Goals as goal

pub returns : goal.returns
unfolding read
returns c =
    let numbered : timer_numbered c.self.inside.cluster.value c.number_of.result ≡ c.args.timer = rw (← c.self.view_is) at c.number_of.ensures.numbered in
    rw (← c.self.view_is) (c.due_of.ensures.due ∙ due_numbered c.self.inside.cluster.value c.self.inside.wheel _ _ numbered)
