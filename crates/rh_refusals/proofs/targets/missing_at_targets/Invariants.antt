use Rattle.std.proofs.Common.{◌≡◌, ◌<◌, ℕ, None}
use Rattle.rh_model.specs.ClusterView.{numbered}
use Rattle.rh_state.specs.Stored.{read}
use Rattle.rh_refusals.specs.Targets.{missing_if_target}
use Rattle.rh_refusals.proofs.targets.missing_at_targets.Given as goal

abbrev pub invariant-nodes : goal.invariant-nodes
invariant-nodes l = (j : ℕ) → j < l.number → missing_if_target (read l.state) l.app (numbered j) ≡ None
