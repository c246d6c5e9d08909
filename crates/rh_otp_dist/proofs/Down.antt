-- Those who wait in permit/6 are gone through apart from the list that they stand in.
use Rattle.std.proofs.Common.{◌≡◌, Bool, true, false, cond, not, List, [], ◌∷◌, refl, ap, ◌∙◌}
use Rattle.rh_model.specs.declared.node.App.{App}
use Rattle.rh_model.specs.declared.node.Node.{Node}
use Rattle.rh_otp_dist.specs.State.{TurnView}
use Rattle.rh_otp_dist.specs.Views.{PermitWaitView}
use Rattle.rh_otp_dist.specs.Told.{with_waits}
use Rattle.rh_otp_dist.specs.Down.{still_awaited, is_none_left, stop_waiting, stop_row, keep_row, check_each, check_waiting}

stopped_apart : (b : Bool) (row : App × PermitWaitView) (waits : List (App × PermitWaitView)) (t : TurnView)
    → cond b (stop_waiting row.0 row.1.caller (with_waits waits t)) (with_waits waits t) ≡ with_waits waits (cond b (stop_waiting row.0 row.1.caller t) t)
stopped_apart true row waits t = refl
stopped_apart false row waits t = refl

checked_each : (n : Node) (e : Bool) (kept rows waits : List (App × PermitWaitView)) (t : TurnView)
    → check_each n e kept rows (with_waits waits t) ≡ check_each n e kept rows t
checked_each n e kept [] waits t = refl
checked_each n e kept (row ∷ rows) waits t =
    ap (check_each n (not e) (keep_row n e row kept) rows) (stopped_apart (is_none_left (still_awaited e n row.1.nodes)) row waits t)
    ∙ checked_each n (not e) (keep_row n e row kept) rows waits (stop_row n e row t)

-- who waits is taken out, gone through, and those that are left are put back
pub checked_apart : (n : Node) (t : TurnView) → check_each n true [] t.state.p_reqs (with_waits [] t) ≡ check_waiting n t
unfolding check_waiting
checked_apart n t = checked_each n true [] t.state.p_reqs [] t
