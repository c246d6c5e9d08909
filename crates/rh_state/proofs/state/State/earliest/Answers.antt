use Rattle.std.proofs.Common.{◌≡◌, ap}
use Rattle.std.specs.Option.{option_map}
use Rattle.rh_state.specs.Timers.{timer_numbered}
use Rattle.rh_state.specs.Stored.{read}
use Rattle.rh_state.proofs.TimerNumbers.{first_numbered, meant}
use Rattle.rh_state.proofs.state.State.earliest.Goals as goal

pub returns-in-Some-clause-first : goal.returns-in-Some-clause-first
unfolding read
returns-in-Some-clause-first c =
    let cluster = c.self.inside.cluster.value in
    let numbered : c.timer_of.result ≡ timer_numbered cluster c.in-Some.number = rw (← c.self.view_is) at c.timer_of.ensures.timer in
    rw (← c.self.view_is, first_numbered cluster c.self.inside.wheel, numbered)
    (ap (option_map (meant cluster)) c.in-Some.ensures.first)

pub returns-in-None-clause-first : goal.returns-in-None-clause-first
unfolding read
returns-in-None-clause-first c =
    let cluster = c.self.inside.cluster.value in
    rw (← c.self.view_is, first_numbered cluster c.self.inside.wheel)
    (ap (option_map (meant cluster)) c.in-None.ensures.first)
