use Rattle.std.proofs.Common.{◌≡◌, IsNone}
use Rattle.rh_state.specs.Timers.{timer_numbered, due_among}
use Rattle.rh_state.specs.Edits.{exchange}
use Rattle.rh_state.specs.Stored.{read, timers_of}
use Rattle.rh_state.proofs.TimerNumbers.{due_numbered, behind_numbered}
use Rattle.rh_state.proofs.state.State.arm_timer.Goals as goal

pub arm-edit-requires-clause-unarmed : goal.arm-edit-requires-clause-unarmed
unfolding read
arm-edit-requires-clause-unarmed c =
    let cluster = c.self.inside.cluster.value in
    let numbered : timer_numbered cluster c.number_of-number.result ≡ c.args.timer = rw (← c.self.view_is) at c.number_of-number.ensures.numbered in
    let unset : IsNone (due_among c.args.timer (timers_of cluster c.self.inside.wheel)) = rw (← c.self.view_is) at c.requires.unset in
    rw (due_numbered cluster c.self.inside.wheel _ _ numbered) unset

pub returns-clause-part : goal.returns-clause-part
unfolding read
returns-clause-part c =
    let cluster = c.self.inside.cluster.value in
    let numbered : timer_numbered cluster c.number_of-number.result ≡ c.args.timer = rw (← c.self.view_is) at c.number_of-number.ensures.numbered in
    rw (← c.self.view_is, behind_numbered cluster c.self.inside.wheel c.arm-edit.new.self c.args.due _ _ numbered c.arm-edit.ensures.list)

pub returns-clause-exact : goal.returns-clause-exact
unfolding exchange
returns-clause-exact c = rw c.arm-edit.ensures.exact c.self.view_is
