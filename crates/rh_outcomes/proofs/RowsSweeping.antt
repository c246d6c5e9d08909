-- Worked rows: when plans are swept, and what is read off their end.
use Rattle.std.proofs.Common.{◌≡◌, ℕ, List, false, [], ◌∷◌, Option, Some, None, codes, refl, arith}
use Rattle.rh_model.specs.ClusterView.{ClusterView, AppView, numbered, app_numbered}
use Rattle.rh_model.specs.declared.settings.Spread.{Spread}
use Rattle.rh_state.specs.declared.status.Standing.TheVariants.{Quiet, Running, Lost}
use Rattle.rh_state.specs.First.{first, configured}
use Rattle.rh_state.specs.Numbers.{nodes_of, apps_of}
use Rattle.rh_rules.specs.declared.event.Event.TheVariants.{Boot, Crash}
use Rattle.rh_trail.specs.SimView.{SimView}
use Rattle.rh_trail.specs.Lone.{opened}
use Rattle.rh_plans.specs.declared.fault.SweepFault.TheVariants.{BaseNotAtEnd, TrailRoom, OutOfMemory}
use Rattle.rh_plans.specs.declared.plan.Plan.{Plan}
use Rattle.rh_outcomes.specs.Outcomes.{outcome_in, standing_in, standings_in}
use Rattle.rh_plans.specs.Workers.{AreWorkers}
use Rattle.rh_outcomes.specs.Sweeping.{IsAtEnd, HasRoomFor, MaySweep, WhyNotSwept}

abbrev one_node : ClusterView
one_node = record { profile = 1; node_names = codes "a" ∷ []; app_names = []; platform_names = []; nodes = []; apps = [] }

-- the last step that was taken back could be made again
at_end_row : (pick : _) → IsAtEnd (opened one_node pick) × (IsAtEnd (record (opened one_node pick) { trail = Boot (numbered 0) ∷ [] }) → ⊥)
    × IsAtEnd (record (opened one_node pick) { trail = Boot (numbered 0) ∷ []; cursor = 1 })
at_end_row pick = (refl, λ end. omega (arith, end), refl)

-- the cursor and the plan's length together are at most 65,535
room_row : (pick : _) → HasRoomFor (record (opened one_node pick) { cursor = 65535 }) []
    × HasRoomFor (record (opened one_node pick) { cursor = 65534 }) (Boot (numbered 0) ∷ [])
    × (HasRoomFor (record (opened one_node pick) { cursor = 65535 }) (Boot (numbered 0) ∷ []) → ⊥)
    × (HasRoomFor (record (opened one_node pick) { cursor = 65534 }) (Boot (numbered 0) ∷ Crash (numbered 0) ∷ []) → ⊥)
room_row pick = (omega arith, omega arith, λ room. omega (arith, room), λ room. omega (arith, room))

-- the number of workers comes before the base's end, and that before the room in its trail; want of memory is the last reason
order_row : (base : SimView) (plans : List Plan) (workers : ℕ)
    → (WhyNotSwept base plans workers BaseNotAtEnd → AreWorkers workers)
    × (WhyNotSwept base plans workers TrailRoom → AreWorkers workers × IsAtEnd base)
    × (WhyNotSwept base plans workers OutOfMemory → MaySweep base plans workers)
order_row base plans workers = (λ why. why.0, λ why. (why.0, why.1), λ why. why)

-- ---- outcomes

no_events_row : (pick : _) → outcome_in (opened one_node pick) [] ≡ record { accepted = 0; refused = None; standings = []; failovers = 0; takeovers = 0 }
unfolding nodes_of apps_of configured
no_events_row pick = refl

-- the distributed applications alone, in their order
abbrev app : Option Spread → AppView
app spread = record { deps = []; start_arg = None; phases = false; spread = spread }

abbrev apps : ClusterView
apps = record {
  profile = 1;
  node_names = codes "a" ∷ codes "b" ∷ [];
  app_names = codes "w" ∷ codes "x" ∷ codes "y" ∷ [];
  platform_names = [];
  nodes = [];
  apps = app (Some (record { timeout = 0; groups = [] })) ∷ app None ∷ app (Some (record { timeout = 5; groups = [] })) ∷ [];
}

standings_row : standings_in (record (first apps) { standings = Lost (numbered 1) ∷ Quiet ∷ Running (numbered 0) ∷ [] })
    ≡ (app_numbered 0, Lost (numbered 1)) ∷ (app_numbered 2, Running (numbered 0)) ∷ []
unfolding standing_in nodes_of apps_of configured
standings_row = refl
