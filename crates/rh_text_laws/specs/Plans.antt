-- What comes of a plan is read off what one caller is answered to its base and its events (ours).
use Rattle.std.specs.Prelude.{◌≡◌, ℕ, ◌+◌, List, [], ◌∷◌, ◌++◌, length, take, map, count_by}
use Rattle.std.specs.Prelude.{Option, Some, None, slice_get}
use Rattle.std.specs.List.{flat_map}
use Rattle.std.specs.Option.{option_map}
use Rattle.rh_model.specs.ClusterView.{ClusterView}
use Rattle.rh_rules.specs.declared.pick.Pick.{Pick}
use Rattle.rh_state.specs.StateView.{StateView}
use Rattle.rh_rules.specs.declared.notice.Notice.{Notice}
use Rattle.rh_rules.specs.declared.event.Event.{Event}
use Rattle.rh_rules.specs.declared.refusal.Refusal.{Refusal}
use Rattle.rh_calls.specs.declared.call.Call.{Call}
use Rattle.rh_calls.specs.declared.call.Reply.{Reply}
use Rattle.rh_calls.specs.declared.call.Reply.TheVariants.{Done, Refused}
use Rattle.rh_rules.specs.Refusals.{refused}
use Rattle.rh_trail.specs.SimView.{SimView, state_of}
use Rattle.rh_trail.specs.Lone.{opened, replies, sim_after}
use Rattle.rh_plans.specs.declared.plan.Outcome.{Outcome}
use Rattle.rh_plans.specs.declared.plan.Plan.{Plan}
use Rattle.rh_outcomes.specs.Outcomes.{is_failover, is_takeover, standings_in, steps, outcome_of}
use Rattle.rh_outcomes.specs.Sweeping.{HasRoom}

-- what is told of events that are accepted one after the other, and why the next one is refused, if it
-- is
pub record AnswersView : Type 0 where
  pub told : List (List Notice)
  pub why : Option Refusal

-- as replies to the calls that make them
abbrev pub refused_with : Option Refusal → List Reply
refused_with None = []
refused_with (Some why) = Refused why ∷ []

abbrev pub replies_of : AnswersView → List Reply
replies_of a = map (λ notices. Done notices) a.told ++ refused_with a.why

-- the events that are answered so: those of a plan up to the refused one, with it
abbrev pub events_answered : AnswersView → List Event → List Event
events_answered a events = take (length a.told + 1) events

-- the outcome that is read off these answers, and off the state behind them
abbrev pub outcome_read : AnswersView → StateView → Outcome
outcome_read a s = record {
  accepted = length a.told;
  refused = option_map (λ why. (length a.told, why)) a.why;
  standings = standings_in s;
  failovers = count_by is_failover (flat_map (λ notices. notices) a.told);
  takeovers = count_by is_takeover (flat_map (λ notices. notices) a.told);
}

-- one caller makes the calls of a base, and then the events of a plan up to the refused one: these are
-- the answers to the events, and this is the state behind them
pub record IsAnswered
    (c : ClusterView) (pick : Pick) (calls : List Call) (events : List Event)
    (a : AnswersView) (s : StateView) : Type 0 where
  pub replies :
      replies (opened c pick) (calls ++ steps (events_answered a events))
      ≡ replies (opened c pick) calls ++ replies_of a
  -- where none is refused, all of them are made
  pub whole : a.why ≡ None → length a.told ≡ length events
  pub state :
      s ≡ state_of (sim_after (opened c pick) (calls ++ steps (events_answered a events)))

-- an outcome is read off such answers
pub record IsReadOffRun
    (c : ClusterView) (pick : Pick) (calls : List Call) (events : List Event)
    (o : Outcome) : Type 0 where
  pub answers : AnswersView
  pub state : StateView
  pub answered : IsAnswered c pick calls events answers state
  pub outcome : o ≡ outcome_read answers state

-- so it is with the outcome of each plan
abbrev pub PlanIsRun : Type 0
PlanIsRun =
    (c : ClusterView) (pick : Pick) (calls : List Call) (plan : Plan)
    → let base = sim_after (opened c pick) calls in
    IsReadOffRun c pick calls plan.events.items (outcome_of base plan)

-- ---- the refused event

-- the event of this place is refused for this reason by the rules, in the state behind those before it
pub record IsRefusedAt (base : SimView) (events : List Event) (place : ℕ) (why : Refusal) : Type 0 where
  pub event : Event
  pub there : slice_get events place ≡ Some event
  pub by_rules : refused (state_of (sim_after base (steps (take place events)))) event ≡ Some why

-- so it is where the trail has room for the plan: no event of it is refused for a full trail
abbrev pub PlanRefusedByRules : Type 0
PlanRefusedByRules =
    (base : SimView) (plan : Plan) (place : ℕ) (why : Refusal) → HasRoom base plan
    → (outcome_of base plan).refused ≡ Some (place, why)
    → IsRefusedAt base plan.events.items place why
