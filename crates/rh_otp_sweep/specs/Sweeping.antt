-- When plans are swept on live nodes, and why not (ours): as by the manual's rules.
use Rattle.std.specs.Prelude.{◌≡◌, ◌≤◌, ◌+◌, ℕ, List, length, All, false}
use Rattle.rh_plans.specs.declared.fault.SweepFault.{SweepFault}
use Rattle.rh_plans.specs.declared.fault.SweepFault.TheVariants.{WorkerCount, BaseNotAtEnd, TrailRoom, OutOfMemory}
use Rattle.rh_plans.specs.declared.plan.Plan.{Plan}
use Rattle.rh_plans.specs.Workers.{AreWorkers}
use Rattle.rh_otp_sim.specs.Sim.{LiveSimView, can_redo}
use Rattle.rh_otp_sweep.specs.declared.sharing.TheConstants.{STEP_LIMIT}

-- no step could be made again
abbrev pub IsAtEnd : LiveSimView → Type 0
IsAtEnd base = can_redo base ≡ false

-- the base's steps and the plan's events are no more than there may be
abbrev pub HasRoom : LiveSimView → Plan → Type 0
HasRoom base plan = base.history.cursor + length plan.events.items ≤ STEP_LIMIT

abbrev pub MaySweep : LiveSimView → List Plan → ℕ → Type 0
MaySweep base plans workers = AreWorkers workers × IsAtEnd base × All (HasRoom base) plans

-- why there is no sweep: the first reason that applies
abbrev pub WhyNotSwept : LiveSimView → List Plan → ℕ → SweepFault → Type 0
WhyNotSwept base plans workers WorkerCount = AreWorkers workers → ⊥
WhyNotSwept base plans workers BaseNotAtEnd = AreWorkers workers × (IsAtEnd base → ⊥)
WhyNotSwept base plans workers TrailRoom = AreWorkers workers × IsAtEnd base × (All (HasRoom base) plans → ⊥)
WhyNotSwept base plans workers OutOfMemory = MaySweep base plans workers
