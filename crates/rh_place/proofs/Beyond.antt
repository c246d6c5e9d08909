-- No application can run at a node that isn't one of the cluster's.
use Rattle.std.proofs.Common.{◌≡◌, ℕ, ◌<◌, ◌≤◌, ap, arith, false, true, length, unwrap_or, ◌&&◌, nat_lt}
use Rattle.std.proofs.lemmas.Option.{slice_get_past}
use Rattle.std.proofs.lemmas.Bool.Decides.{nat_tests}
use Rattle.rh_model.specs.declared.node.Node.{Node}
use Rattle.rh_model.specs.declared.node.App.{App}
use Rattle.rh_state.specs.declared.status.Mode.TheVariants.{Down}
use Rattle.rh_state.specs.StateView.{StateView, is_up, is_started, is_allowed}
use Rattle.rh_rules.specs.Placing.{is_operational, deps_run}

pub beyond : (s : StateView) (a : App) (n : Node) → length s.modes ≤ n.0 → is_operational s a n ≡ false
unfolding is_operational
beyond s a n past = ap (λ m. is_up (unwrap_or m Down) && (is_started s n a && (is_allowed s n a && deps_run s n a))) (slice_get_past s.modes n.0 past)

pub is_below : (n m : ℕ) → nat_lt n m ≡ true → n < m
is_below n m h = grind (arith, nat_tests)

pub is_above : (n m : ℕ) → nat_lt n m ≡ false → m ≤ n
is_above n m h = grind (arith, nat_tests)
