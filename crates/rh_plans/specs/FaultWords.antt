-- How the reason why there is no sweep is shown (ours).
use Rattle.std.specs.Prelude.{ℕ, List, codes}
use Rattle.rh_plans.specs.declared.fault.SweepFault.{SweepFault}
use Rattle.rh_plans.specs.declared.fault.SweepFault.TheVariants.{WorkerCount, BaseNotAtEnd, TrailRoom, OutOfMemory}

-- a fault's code and name
abbrev pub fault_words : SweepFault → List ℕ
fault_words WorkerCount = codes "V1 worker_count"
fault_words BaseNotAtEnd = codes "V2 base_not_at_end"
fault_words TrailRoom = codes "V3 trail_room"
fault_words OutOfMemory = codes "V4 out_of_memory"
