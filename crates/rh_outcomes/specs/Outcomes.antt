-- What comes of a plan: what one caller is told who makes its events, one after the other, up to the first refused one (ours).
use Rattle.std.specs.Prelude.{ℕ, List, [], ◌∷◌, take, map, count_by, slice_get, Bool, true, false, Option, Some, None, is_some, if◌then◌else◌}
use Rattle.std.specs.List.{flat_map, prefix_len}
use Rattle.rh_model.specs.declared.node.App.{App}
use Rattle.rh_state.specs.declared.status.Kind.TheVariants.{Takeover}
use Rattle.rh_state.specs.declared.status.Standing.{Standing}
use Rattle.rh_state.specs.Numbers.{apps_of}
use Rattle.rh_state.specs.StateView.{StateView, standing_of}
use Rattle.rh_rules.specs.declared.notice.Notice.{Notice}
use Rattle.rh_rules.specs.declared.notice.Notice.TheVariants.{Started}
use Rattle.rh_rules.specs.Course.{is_local}
use Rattle.rh_rules.specs.declared.event.Event.{Event}
use Rattle.rh_rules.specs.declared.refusal.Refusal.{Refusal}
use Rattle.rh_calls.specs.declared.call.Call.{Call}
use Rattle.rh_calls.specs.declared.call.Call.TheVariants.{Step}
use Rattle.rh_calls.specs.declared.call.Reply.{Reply}
use Rattle.rh_calls.specs.declared.call.Reply.TheVariants.{Done, Refused}
use Rattle.rh_trail.specs.SimView.{SimView, state_of}
use Rattle.rh_trail.specs.Lone.{replies, sim_after}
use Rattle.rh_plans.specs.declared.plan.Outcome.{Outcome}
use Rattle.rh_plans.specs.declared.plan.Plan.{Plan}

-- ---- what is read off the replies

-- the event was accepted
abbrev pub is_done : Reply → Bool
is_done (Done _) = true
is_done _ = false

-- the notices of an accepted event
abbrev pub told : Reply → List Notice
told (Done notices) = notices
told _ = []

-- the event of this number was refused, if its reply says so
abbrev pub refusal_at : ℕ → Option Reply → Option (ℕ × Refusal)
refusal_at number (Some (Refused refusal)) = Some (number, refusal)
refusal_at number _ = None

-- an application was started that was lost with another node (Distributed Applications, "Failover")
abbrev pub is_failover : Notice → Bool
is_failover (Started _ _ _ lost) = is_some lost
is_failover _ = false

-- one was started in place of one that ran at another node (Distributed Applications, "Takeover")
abbrev pub is_takeover : Notice → Bool
is_takeover (Started _ _ (Takeover _) _) = true
is_takeover _ = false

-- ---- what is read off the simulation behind them

-- a distributed application and where it stands; nothing for a local one
unfoldable pub standing_in : StateView → App → List (App × Standing)
standing_in s a = if is_local s.cluster a then [] else (a, standing_of s a) ∷ []

-- all of them, in the order of the applications
abbrev pub standings_in : StateView → List (App × Standing)
standings_in s = flat_map (standing_in s) (apps_of s.cluster)

-- ---- the outcome

-- the calls of a caller who makes these events
abbrev pub steps : List Event → List Call
steps events = map (λ e. Step e) events

-- calls are given these replies, and so many of them are accepted before the first refused one
abbrev pub outcome_by : SimView → List Call → List Reply → ℕ → Outcome
outcome_by base calls answers accepted = record {
  accepted = accepted;
  refused = refusal_at accepted (slice_get answers accepted);
  standings = standings_in (state_of (sim_after base (take accepted calls)));
  failovers = count_by is_failover (flat_map told (take accepted answers));
  takeovers = count_by is_takeover (flat_map told (take accepted answers));
}

abbrev pub outcome_in : SimView → List Event → Outcome
outcome_in base events = outcome_by base (steps events) (replies base (steps events)) (prefix_len is_done (replies base (steps events)))

abbrev pub outcome_of : SimView → Plan → Outcome
outcome_of base plan = outcome_in base plan.events.items
