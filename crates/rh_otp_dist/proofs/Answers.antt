-- Answers change what was done, and nothing of the state.
use Rattle.std.proofs.Common.{◌≡◌, ◌==◌, List, [], ◌∷◌, Bool, true, false, cond, refl, ap, sym, ◌∙◌}
use Rattle.rh_model.specs.declared.node.App.{App}
use Rattle.rh_otp_model.specs.declared.fault.Outcome.{Outcome}
use Rattle.rh_otp_model.specs.declared.process.Process.{Process}
use Rattle.rh_otp_model.specs.Rows.{without_rows}
use Rattle.rh_otp_dist.specs.State.{DistView, TurnView, with_state}
use Rattle.rh_otp_dist.specs.Sending.{answer, answer_each, with_takeovers, del_t_reqs}
use Rattle.rh_otp_model.specs.declared.fault.Outcome.TheVariants.{Done}
use Rattle.rh_otp_dist.specs.Views.{PermitWaitView}
use Rattle.rh_otp_dist.specs.Told.{with_ends, answer_ends, answer_waits, with_waits, answer_permits}

answered_apart : (b : Bool) (caller : Process) (outcome : Outcome) (d : DistView) (t : TurnView)
    → cond b (answer caller outcome (with_state d t)) (with_state d t) ≡ with_state d (cond b (answer caller outcome t) t)
answered_apart true caller outcome d t = refl
answered_apart false caller outcome d t = refl

pub answers_apart : (a : App) (outcome : Outcome) (rows : List (App × Process)) (d : DistView) (t : TurnView)
    → answer_each a outcome rows (with_state d t) ≡ with_state d (answer_each a outcome rows t)
answers_apart a outcome [] d t = refl
answers_apart a outcome (row ∷ rows) d t =
    ap (answer_each a outcome rows) (answered_apart (row.0.0 == a.0) row.1 outcome d t)
    ∙ answers_apart a outcome rows d (cond (row.0.0 == a.0) (answer row.1 outcome t) t)

-- who waits for a takeover is taken out, answered, and those that are left are put back
pub takeovers_put_back : (a : App) (outcome : Outcome) (t : TurnView)
    → with_takeovers (without_rows a t.state.t_reqs) (answer_each a outcome t.state.t_reqs (with_takeovers [] t)) ≡ del_t_reqs a outcome t
unfolding del_t_reqs
takeovers_put_back a outcome t =
    ap (with_takeovers (without_rows a t.state.t_reqs)) (answers_apart a outcome t.state.t_reqs (record t.state { t_reqs = [] }) t)
    ∙ ap (λ (d : DistView). with_takeovers (without_rows a t.state.t_reqs) (with_state d (answer_each a outcome t.state.t_reqs t)))
    (sym (ap (λ (u : TurnView). u.state) (answers_apart a outcome t.state.t_reqs t.state t)))

-- the same of who waits for the end of an application
pub ends_put_back : (a : App) (t : TurnView)
    → with_ends (without_rows a t.state.s_reqs) (answer_each a Done t.state.s_reqs (with_ends [] t)) ≡ answer_ends a t
unfolding answer_ends
ends_put_back a t =
    ap (with_ends (without_rows a t.state.s_reqs)) (answers_apart a Done t.state.s_reqs (record t.state { s_reqs = [] }) t)
    ∙ ap (λ (d : DistView). with_ends (without_rows a t.state.s_reqs) (with_state d (answer_each a Done t.state.s_reqs t)))
    (sym (ap (λ (u : TurnView). u.state) (answers_apart a Done t.state.s_reqs t.state t)))

waits_apart : (a : App) (rows : List (App × PermitWaitView)) (d : DistView) (t : TurnView)
    → answer_waits a rows (with_state d t) ≡ with_state d (answer_waits a rows t)
waits_apart a [] d t = refl
waits_apart a (row ∷ rows) d t =
    ap (answer_waits a rows) (answered_apart (row.0.0 == a.0) row.1.caller Done d t)
    ∙ waits_apart a rows d (cond (row.0.0 == a.0) (answer row.1.caller Done t) t)

-- the same of who waits in permit/6
pub waits_put_back : (a : App) (t : TurnView)
    → with_waits (without_rows a t.state.p_reqs) (answer_waits a t.state.p_reqs (with_waits [] t)) ≡ answer_permits a t
unfolding answer_permits
waits_put_back a t =
    ap (with_waits (without_rows a t.state.p_reqs)) (waits_apart a t.state.p_reqs (record t.state { p_reqs = [] }) t)
    ∙ ap (λ (d : DistView). with_waits (without_rows a t.state.p_reqs) (with_state d (answer_waits a t.state.p_reqs t)))
    (sym (ap (λ (u : TurnView). u.state) (waits_apart a t.state.p_reqs t.state t)))
