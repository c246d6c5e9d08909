-- Worked rows: how a fault is shown.
use Rattle.std.proofs.Common.{◌≡◌, [], ◌∷◌, codes, map, refl, arith}
use Rattle.rh_plans.specs.declared.fault.SweepFault.TheVariants.{WorkerCount, BaseNotAtEnd, TrailRoom, OutOfMemory}
use Rattle.rh_plans.specs.FaultWords.{fault_words}
use Rattle.rh_plans.specs.Workers.{AreWorkers}
use Rattle.rh_plans.specs.declared.workers.TheConstants.{MAX_WORKERS}

fault_words_row : map fault_words (WorkerCount ∷ BaseNotAtEnd ∷ TrailRoom ∷ OutOfMemory ∷ [])
    ≡ codes "V1 worker_count" ∷ codes "V2 base_not_at_end" ∷ codes "V3 trail_room" ∷ codes "V4 out_of_memory" ∷ []
fault_words_row = refl

-- 1 to 16 workers
workers_row : (MAX_WORKERS ≡ 16) × (AreWorkers 0 → ⊥) × AreWorkers 1 × AreWorkers 16 × (AreWorkers 17 → ⊥)
workers_row = (refl, λ are. omega (arith, are.0), (omega arith, omega arith), (omega arith, omega arith), λ are. omega (arith, are.1))
