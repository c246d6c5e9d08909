-- A call that starts an application, where nodes were at rest and the node's dist_ac knows no node that may run it or runs it.
use Rattle.std.proofs.Common.{◌≡◌, ◌⊎◌, ℕ, Bool, true, false, cond, List, [], ◌∷◌, Option, refl, sym, ap, subst, ◌∙◌, inl, inr}
use Rattle.std.proofs.lemmas.Bool.{cases_Bool}
use Rattle.rh_model.specs.ClusterView.{ClusterView}
use Rattle.rh_model.specs.declared.node.App.{App}
use Rattle.rh_model.specs.declared.node.Node.{Node}
use Rattle.rh_otp_model.specs.declared.fault.Outcome.TheVariants.{Done}
use Rattle.rh_otp_model.specs.declared.message.Message.TheVariants as message
use Rattle.rh_otp_model.specs.declared.message.Reply.{Reply}
use Rattle.rh_otp_model.specs.declared.message.Reply.TheVariants as reply_of
use Rattle.rh_otp_model.specs.declared.process.Process.{Process}
use Rattle.rh_otp_model.specs.Own.{OwnView, controls}
use Rattle.rh_otp_model.specs.Rows.{has_row, without_rows}
use Rattle.rh_otp_controller.specs.declared.state.Starting.{Starting}
use Rattle.rh_otp_controller.specs.Changes.{received}
use Rattle.rh_otp_controller.specs.Starting.{end_starting, replied, start_reply}
use Rattle.rh_otp_controller.specs.State.{ControllerView}
use Rattle.rh_otp_controller.specs.State.{TurnView as ControllerTurn}
use Rattle.rh_otp_dist.specs.declared.state.Standing.TheVariants as standing
use Rattle.rh_otp_dist.specs.Attempts.{finish}
use Rattle.rh_otp_dist.specs.Choosing.{remote, start_distributed, outside}
use Rattle.rh_otp_dist.specs.State.{DistView, TurnView, is_among}
use Rattle.rh_otp_dist.specs.Views.{AttemptView}
use Rattle.rh_otp_system.specs.declared.calls.Ask.TheVariants as ask
use Rattle.rh_otp_system.specs.declared.calls.Call.{Call}
use Rattle.rh_otp_system.specs.Doing.{called, call_of}
use Rattle.rh_otp_system.specs.State.{SystemView, node_at, own_at}
use Rattle.rh_otp_orders.specs.Confluence.{IsOrderly}
use Rattle.rh_otp_crashes.proofs.Turning.{turn}
use Rattle.rh_otp_locks.proofs.Locks.{none_at_rest}
use Rattle.rh_otp_stops.specs.Stops.{EndsAlike}
use Rattle.rh_otp_stops.proofs.Stop.{turn_at}
use Rattle.rh_otp_starts.specs.Elsewhere.{asked_attempt}
use Rattle.rh_otp_starts.proofs.Asking.{asks_start}
use Rattle.rh_otp_starts.proofs.Deciding.{Replied, asked_turn, reply_orderly, asked_orderly}
use Rattle.rh_otp_starts.proofs.Requests.{Decided, asking, starts_outside, told_so}
use Rattle.rh_otp_starts.proofs.Saying.{Ends, fresh, says_last, asked_last, answered_first, answers_first, found_first}
use Rattle.rh_otp_starts.proofs.Start.{over_before, asked_so, command_alike, starts_alike}
use Rattle.rh_otp_begins.specs.Nowhere.{RunsNowhere, StartsNowhereEndAlike}

-- ---- the dist_ac finds no node

starts_nowhere : (a : App) (t : TurnView) → RunsNowhere t.own a t.state
    → start_distributed (asked_attempt t.state a) t ≡ told_so a reply_of.NotStarted standing.Undefined t
unfolding finish
starts_nowhere a t r =
    let attempt : AttemptView = asked_attempt t.state a in
    starts_outside a t (ap (is_among t.here.node) r.nobody)
    ∙ ap (λ (candidates : List Node). outside attempt candidates (remote t.state a) t) r.nobody
    ∙ ap (λ (o : Option Node). outside attempt [] o t) r.unknown

-- it tells that the application isn't started
abbrev IsNo : Reply → Type 0
IsNo r = r ≡ reply_of.NotStarted

decides : (own : OwnView) (n : Node) (a : App) (d : DistView) → RunsNowhere own a d → Decided IsNo own n a d
decides own n a d r = record {
  answer = reply_of.NotStarted;
  is_so = refl;
  standing = standing.Undefined;
  starts = λ (c : ClusterView) (life w : ℕ).
      starts_nowhere a (asking w (turn c own n life d)) (record { nobody = r.nobody; unknown = r.unknown });
}

-- ---- its controller is told so

declined : (c : Call) (row : Starting) (rows : List (App × Option Process)) (starting : List (App × Starting)) (t : ControllerTurn)
    → t.state.is_ending ≡ false → has_row c.app rows ≡ false
    → Ends t.here c (received (message.Reply c.app reply_of.NotStarted)
    (fresh (record t { state = asked_last c row rows starting t.state })))
unfolding received start_reply
declined c row rows starting t not_ending nobody =
    subst (Ends t.here c) (sym is) (says_last c Done t (noted (answered_first c Done (without_rows a x.start_req) first)) refl refl)
  where
    a : App
    a = c.app

    x : ControllerView
    x = asked_last c row rows starting t.state

    first : ControllerTurn
    first = fresh (record t { state = x })

    noted : ControllerTurn → ControllerTurn
    noted u =
        let told : ControllerTurn = end_starting a u in
        record told { state = record told.state { started = (a, row.restart) ∷ told.state.started } }

    is : received (message.Reply a reply_of.NotStarted) first ≡ noted (answered_first c Done (without_rows a x.start_req) first)
    is =
        ap (λ (b : Bool). cond b first (start_reply a reply_of.NotStarted first)) not_ending
        ∙ ap (λ (found : Option Starting). replied a reply_of.NotStarted found first) (found_first a row starting)
        ∙ ap noted (answers_first c Done row rows starting t nobody)

-- ---- the law

told_no : {lives : Node → ℕ} {c : Call} (r : Reply) (s t : SystemView) → IsNo r → Replied lives c r s t → IsOrderly t
told_no {lives} {c} r s t is f =
    let x : ControllerView = (node_at s c.node).controller in
    reply_orderly r s t f
    (subst (λ (y : Reply). Ends (turn_at s c.node).here c (received (message.Reply c.app y) (asked_turn c f.row s))) (sym is)
    (declined c f.row x.start_req x.starting (turn_at s c.node) f.not_ending f.nobody))

pub nowhere_alike : StartsNowhereEndAlike
nowhere_alike s n a restart reached rest soon finds = by (cases_Bool (controls (own_at s n) a))
  where
    c : Call
    c = call_of (ask.Start restart) n a s

    -- nobody has a lock where all are at rest
    none : s.locks ≡ []
    none = none_at_rest s reached rest

    by : (controls (own_at s n) a ≡ true) ⊎ (controls (own_at s n) a ≡ false) → EndsAlike (called (ask.Start restart) n a s)
    by (inl controlled) =
        command_alike (ask.Start restart) s n a refl reached rest (over_before s soon)
        (λ answers f.
        asked_orderly IsNo (asked_so answers c s) f none (λ d has is. decides (own_at s n) n a d (finds d has is))
        (asks_start c restart (turn_at s n) controlled) (λ r t is_so replied. told_no r (asked_so answers c s) t is_so replied))
    by (inr local) = starts_alike s n a restart reached rest soon local
