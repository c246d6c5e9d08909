-- How much a cluster file may hold, and how long its waits can be (ours).
use Rattle.std.specs.Prelude.{ℕ, Bool, ◌≤◌, ◌==◌, ◌||◌, if◌then◌else◌}
use Rattle.rh_model.specs.declared.limits.TheConstants.{MAX_NODES, MAX_APPS, FIRST_PROFILE_NODES, FIRST_PROFILE_APPS}
use Rattle.rh_model.specs.declared.limits.TheConstants.{TIMEOUT_LIMIT}
use Rattle.rh_model.specs.declared.settings.SyncWait.{SyncWait}
use Rattle.rh_model.specs.declared.settings.SyncWait.TheVariants.{Unset, After, Forever}

-- the profiles: sets of rules by which a cluster is simulated
abbrev pub is_profile : ℕ → Bool
is_profile number = number == 1 || number == 2

-- most nodes of a cluster of this profile
abbrev pub node_limit : ℕ → ℕ
node_limit profile = if profile == 2 then MAX_NODES else FIRST_PROFILE_NODES

-- most applications of a cluster of this profile
abbrev pub app_limit : ℕ → ℕ
app_limit profile = if profile == 2 then MAX_APPS else FIRST_PROFILE_APPS

-- most milliseconds of a timeout
abbrev pub timeout_limit : ℕ
timeout_limit = TIMEOUT_LIMIT

-- a wait that ends by itself ends within the limit
abbrev pub IsWithinLimit : SyncWait → Type 0
IsWithinLimit Unset = Unit {0}
IsWithinLimit (After ms) = ms ≤ timeout_limit
IsWithinLimit Forever = Unit {0}
