-- How far a simulation goes (ours).
use Rattle.std.specs.Prelude.{ℕ}
use Rattle.rh_state.specs.declared.state.TheConstants.State.{TIME_LIMIT, INCARNATION_LIMIT}

-- the last millisecond
abbrev pub time_limit : ℕ
time_limit = TIME_LIMIT

-- most incarnations of a node
abbrev pub incarnation_limit : ℕ
incarnation_limit = INCARNATION_LIMIT
