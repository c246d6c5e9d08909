use Rattle.std.proofs.Common.{◌∙◌, ap, sym, subst}
use Rattle.rh_trail.specs.SimView.{Held}
use Rattle.rh_outcomes.specs.Outcomes.{outcome_in}
use Rattle.rh_outcomes.specs.Sweeping.{HasRoomFor}
use Rattle.rh_sweep.proofs.Branching.{begins, kept_for_room}
use Rattle.rh_sweep.proofs.branch.Branch.try_plan.Goals as goal

pub try_events-tried-requires : goal.try_events-tried-requires
try_events-tried-requires c =
    let base : Held = c.args.base.now in (
      base,
      base.seen,
      kept_for_room c.args.self.now base base.seen _ (begins c.args.self.now base c.is_chained.ensures c.requires.at),
      subst (HasRoomFor base.seen) (sym c.as_slice.ensures.value) c.requires.room,
    )

pub go_back-requires : goal.go_back-requires
go_back-requires c =
    let base : Held = c.args.base.now in
    let led = c.try_events-tried.ensures.ahead base base.seen
    (kept_for_room c.args.self.now base base.seen _ (begins c.args.self.now base c.is_chained.ensures c.requires.at))
    (subst (HasRoomFor base.seen) (sym c.as_slice.ensures.value) c.requires.room) in
    (led.0, kept_for_room _ base led.0 _ led.1)

pub returns-clause-outcome : goal.returns-clause-outcome
returns-clause-outcome c =
    let base : Held = c.args.base.now in
    c.in_ok-outcome.ensures.outcome base base.seen
    (kept_for_room c.args.self.now base base.seen _ (begins c.args.self.now base c.is_chained.ensures c.requires.at))
    (subst (HasRoomFor base.seen) (sym c.as_slice.ensures.value) c.requires.room)
    ∙ ap (outcome_in base.seen) c.as_slice.ensures.value
