-- Worked rows: what the laws of plans ask is met, computed from the definitions.
use Rattle.std.proofs.Common.{◌≡◌, [], ◌∷◌, Some, codes, refl, List, None, arith}
use Rattle.rh_model.specs.ClusterView.{ClusterView, numbered}
use Rattle.rh_rules.specs.declared.pick.Pick.TheVariants.{First}
use Rattle.rh_state.specs.Numbers.{nodes_of, apps_of}
use Rattle.rh_state.specs.First.{first, configured}
use Rattle.rh_rules.specs.Settling.{moved_by, all_moved}
use Rattle.rh_rules.specs.NodesStart.{all_alive, is_ready, come_up, come_up_if_ready, ready_come_up, booted}
use Rattle.rh_rules.specs.declared.notice.Notice.TheVariants.{Up, Ended}
use Rattle.rh_rules.specs.declared.event.Event.TheVariants.{Boot, Crash}
use Rattle.rh_rules.specs.declared.refusal.Refusal.TheVariants.{NotAlive, TrailFull}
use Rattle.rh_rules.specs.Marking.{mark_all}
use Rattle.rh_rules.specs.NodesEnd.{cleared, lost_if_ran, all_lost, ended}
use Rattle.rh_rules.specs.Refusals.{refused}
use Rattle.rh_rules.specs.Steps.{followed, next}
use Rattle.rh_step.specs.Runs.{step}
use Rattle.rh_calls.specs.declared.call.Call.TheVariants as call
use Rattle.rh_calls.specs.declared.call.Reply.TheVariants.{Done}
use Rattle.rh_trail.specs.Lone.{opened, replies, sim_after}
use Rattle.rh_outcomes.specs.Outcomes.{steps, outcome_in}
use Rattle.rh_trail.specs.SimView.{SimView}
use Rattle.rh_rules.specs.declared.event.Event.{Event}
use Rattle.rh_outcomes.specs.Sweeping.{HasRoomFor}
use Rattle.rh_text_laws.specs.Plans.{AnswersView, replies_of, events_answered}

abbrev one_node : ClusterView
one_node = record { profile = 1; node_names = codes "a" ∷ []; app_names = []; platform_names = []; nodes = []; apps = [] }

-- the node ends, and then it can't end again; what stands behind that in the plan isn't made
abbrev answers : AnswersView
answers = record { told = (Ended (numbered 0) ∷ []) ∷ []; why = Some NotAlive }

answers_row : replies (opened one_node First) (call.Step (Boot (numbered 0)) ∷ steps (events_answered answers (Crash (numbered 0) ∷ Crash (numbered 0) ∷ Boot (numbered 0) ∷ [])))
    ≡ Done (Up (numbered 0) ∷ []) ∷ replies_of answers
unfolding nodes_of apps_of configured moved_by all_moved all_alive is_ready mark_all come_up come_up_if_ready ready_come_up booted cleared lost_if_ran all_lost
    ended followed refused next step
answers_row = refl

-- ---- the trail has room for the plan, and its second event is refused
abbrev base : SimView
base = sim_after (opened one_node First) (call.Step (Boot (numbered 0)) ∷ [])

abbrev events : List Event
events = Crash (numbered 0) ∷ Crash (numbered 0) ∷ Boot (numbered 0) ∷ []

refused_row : (outcome_in base events).refused ≡ Some (1, NotAlive)
unfolding nodes_of apps_of configured moved_by all_moved all_alive is_ready mark_all come_up come_up_if_ready ready_come_up booted cleared lost_if_ran all_lost
    ended followed refused next step
refused_row = refl

room_row : HasRoomFor base events
unfolding nodes_of apps_of configured refused next step
room_row = omega arith

-- where it hasn't room, an event that the rules accept is refused: that it has is needed
full_row : (outcome_in (record (opened one_node First) { cursor = 65535 }) (Boot (numbered 0) ∷ [])).refused ≡ Some (0, TrailFull)
unfolding nodes_of apps_of configured refused
full_row = refl

accepted_row : refused (first one_node) (Boot (numbered 0)) ≡ None
unfolding nodes_of apps_of configured refused
accepted_row = refl
