-- When plans are swept, and why not (ours).
use Rattle.std.specs.Prelude.{◌≡◌, ◌≤◌, ◌+◌, ℕ, List, length, All}
use Rattle.rh_rules.specs.declared.event.Event.{Event}
use Rattle.rh_trail.specs.SimView.{SimView}
use Rattle.rh_trail.specs.Lone.{trail_limit}
use Rattle.rh_plans.specs.declared.fault.SweepFault.{SweepFault}
use Rattle.rh_plans.specs.declared.fault.SweepFault.TheVariants.{WorkerCount, BaseNotAtEnd, TrailRoom, OutOfMemory}
use Rattle.rh_plans.specs.declared.plan.Plan.{Plan}
use Rattle.rh_plans.specs.Workers.{AreWorkers}

-- no step could be made again
abbrev pub IsAtEnd : SimView → Type 0
IsAtEnd s = s.cursor ≡ length s.trail

-- the trail has room for these events behind the cursor
abbrev pub HasRoomFor : SimView → List Event → Type 0
HasRoomFor s events = s.cursor + length events ≤ trail_limit

abbrev pub HasRoom : SimView → Plan → Type 0
HasRoom s plan = HasRoomFor s plan.events.items

abbrev pub MaySweep : SimView → List Plan → ℕ → Type 0
MaySweep base plans workers = AreWorkers workers × IsAtEnd base × All (HasRoom base) plans

-- why there is no sweep: the first reason that applies
abbrev pub WhyNotSwept : SimView → List Plan → ℕ → SweepFault → Type 0
WhyNotSwept base plans workers WorkerCount = AreWorkers workers → ⊥
WhyNotSwept base plans workers BaseNotAtEnd = AreWorkers workers × (IsAtEnd base → ⊥)
WhyNotSwept base plans workers TrailRoom = AreWorkers workers × IsAtEnd base × (All (HasRoom base) plans → ⊥)
WhyNotSwept base plans workers OutOfMemory = MaySweep base plans workers
