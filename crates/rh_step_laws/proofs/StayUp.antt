-- A node that is up stays up, unless it ends.
use Rattle.std.proofs.Common.{◌≡◌, ℕ, ◌+◌, Bool, true, false, cond, List, [], ◌∷◌, None, fold, ap, ◌∙◌, inl, inr}
use Rattle.rh_model.specs.ClusterView.{mandatory_of}
use Rattle.rh_model.specs.declared.node.Node.{Node}
use Rattle.rh_state.specs.declared.status.Mode.TheVariants.{Up}
use Rattle.rh_state.specs.declared.status.Standing.{Standing}
use Rattle.rh_state.specs.declared.status.Standing.TheVariants.{Lost}
use Rattle.rh_state.specs.declared.status.Timer.{Timer}
use Rattle.rh_state.specs.declared.status.Timer.TheVariants.{Sync, Failover}
use Rattle.rh_state.specs.Numbers.{nodes_of}
use Rattle.rh_state.specs.StateView.{StateView, mode_of, standing_of}
use Rattle.rh_rules.specs.declared.pick.Pick.{Pick}
use Rattle.rh_rules.specs.declared.notice.Notice.TheVariants as notice
use Rattle.rh_rules.specs.Course.{Course, course_of}
use Rattle.rh_rules.specs.Settling.{settled}
use Rattle.rh_rules.specs.declared.event.Event.{Event}
use Rattle.rh_rules.specs.declared.event.Event.TheVariants.{Tick}
use Rattle.rh_rules.specs.NodesStart.{all_alive, is_ready, come_up, come_up_if_ready, ready_come_up}
use Rattle.rh_rules.specs.NodesEnd.{ended, wanted_if_lost}
use Rattle.rh_rules.specs.Steps.{change, followed, next}
use Rattle.rh_rules.specs.Refusals.{refused}
use Rattle.rh_rules.specs.Time.{effect, taken_off, fired, all_fired, ticked}
use Rattle.rh_step_laws.specs.Laws.{UpUntilEnded}
use Rattle.rh_trace.proofs.Behind.{settled_after}
use Rattle.rh_settle.proofs.Unchanged.{settled_modes}
use Rattle.rh_step.proofs.Fuel.{timer_count, by_firing}
use Rattle.rh_events.proofs.StaysUp.{StaysUp, mode_in, told_still, come_up_stays, ended_stays}
use Rattle.rh_events.proofs.EachEvent.{change_stays}

ready_stays : (n : Node) (ms : List Node) (o : Course) → StaysUp n o → StaysUp n (fold come_up_if_ready o ms)
unfolding come_up_if_ready
ready_stays n [] o stays = stays
ready_stays n (m ∷ ms) o stays = ready_stays n ms (come_up_if_ready o m) (by (is_ready o.state m))
  where
    by : (b : Bool) → StaysUp n (cond b (come_up o m) o)
    by true = come_up_stays n m o stays
    by false = stays

settled_stays : (n : Node) (pick : Pick) (o : Course) → StaysUp n o → StaysUp n (settled pick o)
settled_stays n pick o (inl up) = inl (ap (λ modes. mode_in modes n) (settled_modes pick o) ∙ up)
settled_stays n pick o (inr has) = inr (told_still (settled pick) (λ base p. settled_after base pick p) o (notice.Ended n) has)

pub rest_stays : (n : Node) (pick : Pick) (o : Course) → StaysUp n o → StaysUp n (settled pick (ready_come_up o))
unfolding ready_come_up
rest_stays n pick o stays = settled_stays n pick (ready_come_up o) (ready_stays n (nodes_of o.state.cluster) o stays)

-- timers
effect_stays : (n : Node) (o : Course) (t : Timer) → StaysUp n o → StaysUp n (effect o t)
effect_stays n o (Sync m) stays = by (all_alive o.state (mandatory_of o.state.cluster m))
  where
    by : (b : Bool) → StaysUp n (cond b (come_up o m) (ended o m))
    by true = come_up_stays n m o stays
    by false = ended_stays n m o stays
effect_stays n o (Failover a) stays = by (standing_of o.state a)
  where
    by : (standing : Standing) → StaysUp n (record o { state = wanted_if_lost o.state a standing })
    by (Lost m) = stays
    by _ = stays

fired_stays : (n : Node) (pick : Pick) (o : Course) (entry : ℕ × Timer) → StaysUp n o → StaysUp n (fired pick o entry)
unfolding fired
fired_stays n pick o entry stays = rest_stays n pick (effect (taken_off o entry) entry.1) (effect_stays n (taken_off o entry) entry.1 stays)

ticked_stays : (n : Node) (pick : Pick) (o : Course) (ms : ℕ) → StaysUp n o → StaysUp n (ticked pick o ms)
unfolding ticked all_fired
ticked_stays n pick o ms stays = by_firing (StaysUp n) pick (o.state.time + ms) (λ p entry h is. fired_stays n pick p entry h) (timer_count o) o stays

-- any event
followed_stays : (s : StateView) (e : Event) (pick : Pick) (n : Node) → refused s e ≡ None → mode_of s n ≡ Up → StaysUp n (followed pick (course_of s [] []) e)
unfolding followed
followed_stays s e pick n fine up = rest_stays n pick (change (course_of s [] []) e) (change_stays s e n fine up)

pub up_until_ended : UpUntilEnded
unfolding next
up_until_ended s (Tick ms) pick n fine up = ticked_stays n pick (course_of s [] []) ms (inl up)
up_until_ended s e pick n fine up = followed_stays s e pick n fine up
