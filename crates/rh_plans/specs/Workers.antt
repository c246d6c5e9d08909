-- How many may try plans (ours).
use Rattle.std.specs.Prelude.{◌≤◌, ℕ}
use Rattle.rh_plans.specs.declared.workers.TheConstants.{MAX_WORKERS}

abbrev pub AreWorkers : ℕ → Type 0
AreWorkers workers = (1 ≤ workers) × (workers ≤ MAX_WORKERS)
