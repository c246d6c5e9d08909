use Rattle.std.proofs.Common.{◌∙◌, subst}
use Rattle.rh_state.specs.StateView.{StateView}
use Rattle.rh_explore.specs.Exploring.{scope_of}
use Rattle.rh_explore.specs.Families.{knowing, ExpandsSo}
use Rattle.rh_explore.proofs.Leading.{can_leave, left_again}
use Rattle.rh_explore.proofs.worker.Worker.expand_behind.Goals as goal

pub expand_here-requires-clause-idle : goal.expand_here-requires-clause-idle
expand_here-requires-clause-idle c = record { none = c.requires.idle.none; calm = c.requires.idle.calm }

pub take_back-requires : goal.take_back-requires
take_back-requires c =
    can_leave c.make.new.state c.expand_here.new.state c.make.new.self c.expand_here.new.self.entered c.in_ok-expansion.ensures.state
    c.in_ok-expansion.ensures.entered c.in_ok-make.ensures.led.all

pub returns-clause-expansion : goal.returns-clause-expansion
returns-clause-expansion c =
    let s = c.args.search.now in
    subst (λ (t : StateView). ExpandsSo (scope_of s) s.asks.now (knowing c.args.known.now) t c.in_ok-expansion.expansion) c.in_ok-make.ensures.state
    c.in_ok-expansion.ensures.expansion

pub returns-clause-state : goal.returns-clause-state
returns-clause-state c =
    c.take_back.ensures.state
    ∙ left_again c.make.new.state c.expand_here.new.state c.make.new.self c.expand_here.new.self.entered c.in_ok-expansion.ensures.state
    c.in_ok-expansion.ensures.entered
    ∙ c.in_ok-make.ensures.led.back

pub returns-clause-idle : goal.returns-clause-idle
returns-clause-idle c = record { none = c.in_ok-expansion.ensures.idle.none; calm = c.in_ok-expansion.ensures.idle.calm }
