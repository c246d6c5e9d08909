-- A node comes back to nodes that are up and at rest: every order of the whole boot ends alike.
use Rattle.std.specs.Prelude.{◌≡◌, All, true}
use Rattle.rh_model.specs.ClusterView.{boot_of}
use Rattle.rh_model.specs.declared.node.App.{App}
use Rattle.rh_model.specs.declared.node.Node.{Node}
use Rattle.rh_model.specs.declared.settings.Restart.{Restart}
use Rattle.rh_otp_system.specs.Doing.{booted}
use Rattle.rh_otp_system.specs.State.{SystemView, own_at}
use Rattle.rh_otp_laws.specs.Acting.{IsReached}
use Rattle.rh_otp_crashes.specs.Crashes.{AreAtRest, FailOverLater}
use Rattle.rh_otp_stops.specs.Stops.{EndsAlike}
use Rattle.rh_otp_scripts.specs.Scripts.{HasNoTuple}
use Rattle.rh_otp_joins.specs.Joins.{ComesBack, uncounted}

-- No list that the node's own `distributed` (kernel(6)) has of what its boot list names has a tuple (ours).
abbrev pub CanBootThere : Node → SystemView → Type 0
CanBootThere n s = All (λ (row : App × Restart). HasNoTuple (own_at s n) row.0) (boot_of s.cluster n)

-- The whole boot ends alike, from the node's beginning to the end of its boot script, with all that the others do for it: in every order,
-- and so by every order that `settle` is told. If the command waits for nodes that end by themselves, an application that is lost with a
-- node is started elsewhere after some time (init(3), application(3), kernel(6), `sync_nodes_timeout`, `distributed`).
abbrev pub ReturnsEndAlike : Type 0
ReturnsEndAlike = (s : SystemView) (n : Node) → IsReached s → AreAtRest s → ComesBack n s → CanBootThere n s
    → (s.ends_soon ≡ true → FailOverLater s)
    → EndsAlike (uncounted (booted n s))
