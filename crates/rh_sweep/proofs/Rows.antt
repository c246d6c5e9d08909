-- Worked rows: the definitions compute to what an operator expects.
use Rattle.std.proofs.Common.{◌≡◌, [], ◌∷◌, Some, None, codes, refl}
use Rattle.rh_model.specs.ClusterView.{ClusterView, numbered, app_numbered}
use Rattle.rh_rules.specs.declared.event.Event.TheVariants.{Boot, Crash}
use Rattle.rh_rules.specs.declared.refusal.Refusal.TheVariants.{AlreadyAlive, NotAlive}
use Rattle.rh_rules.specs.declared.notice.Notice.TheVariants.{Started, Up}
use Rattle.rh_state.specs.declared.status.Kind.TheVariants.{Normal, Failover, Takeover}
use Rattle.rh_state.specs.Numbers.{nodes_of, apps_of}
use Rattle.rh_state.specs.First.{configured}
use Rattle.rh_rules.specs.Settling.{moved_by, all_moved}
use Rattle.rh_rules.specs.NodesStart.{all_alive, is_ready, come_up, come_up_if_ready, ready_come_up, booted}
use Rattle.rh_rules.specs.Marking.{mark_all}
use Rattle.rh_rules.specs.Refusals.{refused}
use Rattle.rh_rules.specs.Steps.{followed, next}
use Rattle.rh_step.specs.Runs.{step}
use Rattle.rh_trail.specs.Lone.{opened}
use Rattle.rh_calls.specs.declared.call.Reply.TheVariants.{Done, Refused}
use Rattle.rh_outcomes.specs.Outcomes.{outcome_in, outcome_by}

abbrev one_node : ClusterView
one_node = record { profile = 1; node_names = codes "a" ∷ []; app_names = []; platform_names = []; nodes = []; apps = [] }

-- the first refused event ends the plan, though the one behind it would be accepted
ends_at_refused_row : (pick : _) → outcome_in (opened one_node pick) (Boot (numbered 0) ∷ Boot (numbered 0) ∷ Crash (numbered 0) ∷ [])
    ≡ record { accepted = 1; refused = Some (1, AlreadyAlive); standings = []; failovers = 0; takeovers = 0 }
unfolding nodes_of apps_of configured moved_by all_moved all_alive is_ready mark_all come_up come_up_if_ready ready_come_up booted followed refused next step
ends_at_refused_row pick = refl

-- what is lost and then started is a failover, also where it starts normally; a start in place of one that runs is a takeover
counts_row : (pick : _) → outcome_by (opened one_node pick) []
    (Done (Up (numbered 0) ∷ Started (app_numbered 0) (numbered 0) (Failover (numbered 1)) (Some (numbered 1)) ∷ [])
    ∷ Done (Started (app_numbered 1) (numbered 0) Normal (Some (numbered 1)) ∷ Started (app_numbered 2) (numbered 0) Normal None ∷ [])
    ∷ Done (Started (app_numbered 0) (numbered 1) (Takeover (numbered 0)) None ∷ []) ∷ Refused NotAlive ∷ []) 3
    ≡ record { accepted = 3; refused = Some (3, NotAlive); standings = []; failovers = 2; takeovers = 1 }
unfolding nodes_of apps_of configured
counts_row pick = refl
