-- Answers change what was done, and nothing of the state.
use Rattle.std.proofs.Common.{◌≡◌, ◌==◌, List, [], ◌∷◌, Bool, true, false, cond, Option, Some, None, refl, ap, sym, ◌∙◌}
use Rattle.rh_model.specs.declared.node.App.{App}
use Rattle.rh_otp_model.specs.declared.fault.Outcome.{Outcome}
use Rattle.rh_otp_model.specs.declared.process.Process.{Process}
use Rattle.rh_otp_model.specs.Rows.{without_rows}
use Rattle.rh_otp_controller.specs.State.{ControllerView, TurnView}
use Rattle.rh_otp_controller.specs.Sending.{reply_to}
use Rattle.rh_otp_controller.specs.Starting.{reply_each, with_requests, reply_to_requester}

-- with another state
abbrev pub with_state : ControllerView → TurnView → TurnView
with_state s t = record t { state = s }

replied_apart : (b : Bool) (caller : Option Process) (outcome : Outcome) (s : ControllerView) (t : TurnView)
    → cond b (reply_to caller outcome (with_state s t)) (with_state s t) ≡ with_state s (cond b (reply_to caller outcome t) t)
replied_apart true None outcome s t = refl
replied_apart true (Some caller) outcome s t = refl
replied_apart false caller outcome s t = refl

pub replies_apart : (a : App) (outcome : Outcome) (rows : List (App × Option Process)) (s : ControllerView) (t : TurnView)
    → reply_each a outcome rows (with_state s t) ≡ with_state s (reply_each a outcome rows t)
replies_apart a outcome [] s t = refl
replies_apart a outcome (row ∷ rows) s t =
    ap (reply_each a outcome rows) (replied_apart (row.0.0 == a.0) row.1 outcome s t)
    ∙ replies_apart a outcome rows s (cond (row.0.0 == a.0) (reply_to row.1 outcome t) t)

-- the requests are taken out, answered, and those that are left are put back
pub requests_put_back : (a : App) (outcome : Outcome) (t : TurnView)
    → with_requests (without_rows a t.state.start_req) (reply_each a outcome t.state.start_req (with_requests [] t)) ≡ reply_to_requester a outcome t
unfolding reply_to_requester
requests_put_back a outcome t =
    ap (with_requests (without_rows a t.state.start_req)) (replies_apart a outcome t.state.start_req (record t.state { start_req = [] }) t)
    ∙ ap (λ (s : ControllerView). with_requests (without_rows a t.state.start_req) (with_state s (reply_each a outcome t.state.start_req t)))
    (sym (ap (λ (u : TurnView). u.state) (replies_apart a outcome t.state.start_req t.state t)))
