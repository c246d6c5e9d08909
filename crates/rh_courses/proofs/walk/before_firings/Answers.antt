use Rattle.std.proofs.Common.{◌≡◌, ◌+◌, false, Option, Some, None, is_some, refl, ap, sym, ◌∙◌}
use Rattle.rh_state.specs.StateView.{earliest}
use Rattle.rh_state.specs.Stored.{read}
use Rattle.rh_rules.specs.Time.{due_by}
use Rattle.rh_courses.specs.Moments.{behind_firings}
use Rattle.rh_courses.proofs.Passing.{no_tick, none_in_tick}
use Rattle.rh_courses.proofs.walk.before_firings.Goals as goal

nothing : {A : Type 0} (o : Option A) → is_some o ≡ false → o ≡ None
nothing None is = refl
nothing (Some x) is = absurd (cc is)

pub returns-else-fires_within : goal.returns-else-fires_within
returns-else-fires_within c = λ pick.
    let s = read c.args.state.now in
    ap (behind_firings pick s) c.in-Tick.is
    ∙ none_in_tick pick s c.in-Tick.ms (nothing (due_by (s.time + c.in-Tick.ms) (earliest s)) (sym c.fires_within.ensures ∙ c.if-fires_within.false))

pub returns-in_default : goal.returns-in_default
returns-in_default c = λ pick. no_tick pick (read c.args.state.now) c.args.event.now c.in_default.not-Tick
