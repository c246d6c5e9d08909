-- Which programs start threads, and how many (ours).
use Rattle.std.specs.Prelude.{◌==◌, Bool, true, false}
use Rattle.rh_plans.specs.Workers.{AreWorkers}
use Rattle.rh_asked.specs.declared.program.Program.{Program}
use Rattle.rh_asked.specs.declared.program.Program.TheVariants.{Explore, ExploreJson, Sessions, Sweep, SweepJson, SweepLive, SweepLiveJson}

-- it starts no threads: a search or a sweep by one worker needs none beside the caller's
abbrev pub is_alone : Program → Bool
is_alone (Explore pick room workers) = workers == 1
is_alone (ExploreJson pick room workers) = workers == 1
is_alone (Sessions pick) = false
is_alone (Sweep pick workers) = workers == 1
is_alone (SweepJson pick workers) = workers == 1
is_alone (SweepLive order workers) = workers == 1
is_alone (SweepLiveJson order workers) = workers == 1
is_alone program = true

-- a search and a sweep have a number of workers that there may be
abbrev pub IsStaffed : Program → Type 0
IsStaffed (Explore pick room workers) = AreWorkers workers
IsStaffed (ExploreJson pick room workers) = AreWorkers workers
IsStaffed (Sweep pick workers) = AreWorkers workers
IsStaffed (SweepJson pick workers) = AreWorkers workers
IsStaffed (SweepLive order workers) = AreWorkers workers
IsStaffed (SweepLiveJson order workers) = AreWorkers workers
IsStaffed program = Unit {0}
