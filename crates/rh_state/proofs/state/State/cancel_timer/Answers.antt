use Rattle.std.proofs.Common.{◌≡◌, IsSome}
use Rattle.rh_state.specs.Timers.{timer_numbered, due_among}
use Rattle.rh_state.specs.Edits.{exchange}
use Rattle.rh_state.specs.Stored.{read, timers_of}
use Rattle.rh_state.proofs.TimerNumbers.{due_numbered, without_numbered}
use Rattle.rh_state.proofs.state.State.cancel_timer.Goals as goal

pub cancel-edit-requires : goal.cancel-edit-requires
unfolding read
cancel-edit-requires c =
    let cluster = c.self.inside.cluster.value in
    let numbered : timer_numbered cluster c.number_of-number.result ≡ c.args.timer = rw (← c.self.view_is) at c.number_of-number.ensures.numbered in
    let set : IsSome (due_among c.args.timer (timers_of cluster c.self.inside.wheel)) = rw (← c.self.view_is) at c.requires.set in
    rw (due_numbered cluster c.self.inside.wheel _ _ numbered) set

pub returns-clause-part : goal.returns-clause-part
unfolding read
returns-clause-part c =
    let cluster = c.self.inside.cluster.value in
    let numbered : timer_numbered cluster c.number_of-number.result ≡ c.args.timer = rw (← c.self.view_is) at c.number_of-number.ensures.numbered in
    rw (← c.self.view_is, without_numbered cluster c.self.inside.wheel c.cancel-edit.new.self _ _ numbered c.cancel-edit.ensures.list)

pub returns-clause-exact : goal.returns-clause-exact
unfolding exchange
returns-clause-exact c = rw c.cancel-edit.ensures.exact c.self.view_is
