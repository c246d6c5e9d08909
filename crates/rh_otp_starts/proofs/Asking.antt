-- What a controller says where an application that its dist_ac controls is started: it asks that, and answers what it is told.
use Rattle.std.proofs.Common.{◌≡◌, ◌&&◌, Bool, true, false, not, cond, List, [], ◌∷◌, Option, Some, None, refl, sym, ap, subst, ◌∙◌}
use Rattle.std.proofs.lemmas.Bool.{false≢true}
use Rattle.std.proofs.lemmas.List.Elements.{All-nil, All-cons}
use Rattle.rh_model.specs.declared.node.App.{App}
use Rattle.rh_model.specs.declared.node.Node.{Node}
use Rattle.rh_model.specs.declared.settings.Dep.{Dep}
use Rattle.rh_model.specs.declared.settings.Restart.{Restart}
use Rattle.rh_otp_model.specs.declared.fault.Fault.TheVariants.{AlreadyStarted, NeedsStarted}
use Rattle.rh_otp_model.specs.declared.fault.Outcome.TheVariants.{Done, Failed}
use Rattle.rh_otp_model.specs.declared.message.Message.TheVariants as message
use Rattle.rh_otp_model.specs.declared.message.Reply.TheVariants as reply_of
use Rattle.rh_otp_model.specs.declared.output.Envelope.{Envelope}
use Rattle.rh_otp_model.specs.declared.output.Output.TheVariants as output
use Rattle.rh_otp_model.specs.declared.process.Here.{Here}
use Rattle.rh_otp_model.specs.declared.process.Process.{Process}
use Rattle.rh_otp_model.specs.declared.process.Role.TheVariants as role
use Rattle.rh_otp_model.specs.declared.process.StartType.TheVariants.{Normal}
use Rattle.rh_otp_model.specs.Own.{controls}
use Rattle.rh_otp_model.specs.Processes.{process_at}
use Rattle.rh_otp_model.specs.Rows.{keyfind, has_row, without_rows}
use Rattle.rh_otp_controller.specs.declared.state.Place.TheVariants as place_of
use Rattle.rh_otp_controller.specs.declared.state.Starting.{Starting}
use Rattle.rh_otp_controller.specs.Calls.{is_forbidden, start, start_unless}
use Rattle.rh_otp_controller.specs.Changes.{received}
use Rattle.rh_otp_controller.specs.Sending.{send, reply}
use Rattle.rh_otp_controller.specs.Starting.{lacks_started, spawn_starter, add_starting, add_request, set_running, end_starting, started_by, has_started, replied, start_reply}
use Rattle.rh_otp_controller.specs.State.{ControllerView, TurnView}
use Rattle.rh_otp_system.specs.declared.calls.Call.{Call}
use Rattle.rh_otp_system.specs.Calls.{process_of}
use Rattle.rh_otp_starts.proofs.Saying.{Ends, fresh, silent, says_last, replies, asked_last, answered_first, answers_first, found_first}
use Rattle.rh_otp_starts.proofs.Turns.{IsSaid, sends, Turn}

-- it asks its dist_ac
abbrev pub it_asks : Here → Call → Envelope
it_asks h c = record { from = process_at h role.Controller; to = process_at h role.DistAc; message = message.StartRequest c.app }

-- it says no more than an answer, or asks its dist_ac, and goes on: nobody else has asked
pub data Asks (c : Call) (t u : TurnView) : Type 0 where
  says : Ends t.here c u → Asks c t u
  asks : (row : Starting) → Turn t.here.node u (it_asks t.here c ∷ []) → u.state ≡ asked_last c row t.state.start_req t.state.starting t.state
      → t.state.is_ending ≡ false → has_row c.app t.state.start_req ≡ false → Asks c t u

-- ---- it is told that the application runs elsewhere

pub replied_at : (c : Call) (m : Node) (row : Starting) (rows : List (App × Option Process)) (starting : List (App × Starting)) (t : TurnView)
    → t.state.is_ending ≡ false → has_row c.app rows ≡ false
    → Ends t.here c (received (message.Reply c.app (reply_of.Started m)) (fresh (record t { state = asked_last c row rows starting t.state })))
unfolding received start_reply has_started
replied_at c m row rows starting t not_ending nobody =
    subst (Ends t.here c) (sym is) (says_last c Done t (set_running a (place_of.At m) row.restart (end_starting a told)) refl refl)
  where
    a : App
    a = c.app

    x : ControllerView
    x = asked_last c row rows starting t.state

    first : TurnView
    first = fresh (record t { state = x })

    told : TurnView
    told = answered_first c Done (without_rows a x.start_req) first

    is : received (message.Reply a (reply_of.Started m)) first ≡ set_running a (place_of.At m) row.restart (end_starting a told)
    is =
        ap (λ (b : Bool). cond b first (start_reply a (reply_of.Started m) first)) not_ending
        ∙ ap (λ (found : Option Starting). replied a (reply_of.Started m) found first) (found_first a row starting)
        ∙ ap (λ (u : TurnView). started_by a (place_of.At m) None (keyfind a u.state.starting) u)
        (answers_first c Done row rows starting t nobody)
        ∙ ap (λ (found : Option Starting). started_by a (place_of.At m) None found told) (found_first a row starting)

-- ---- at a start

pub asks_start : (c : Call) (restart : Restart) (t : TurnView) → controls t.own c.app ≡ true
    → Asks c t (received (message.Start c.app restart (process_of c)) (fresh t))
unfolding received start
asks_start c restart t controlled = ended t.state.is_ending refl
  where
    a : App
    a = c.app

    p : Process
    p = process_of c

    row : Starting
    row = record { restart = Some restart; kind = Normal }

    waiting : TurnView
    waiting = record t { state = record t.state { start_p_false = (a, restart) ∷ t.state.start_p_false } }

    request : Bool → TurnView
    request b = add_request a (Some p) (add_starting a (Some restart) Normal
        (cond b (cond b (send (process_at t.here role.DistAc) (message.StartRequest a) (fresh t)) (fresh t)) (spawn_starter a Normal (fresh t))))

    here : (b : Bool) → b ≡ true → t.state.is_ending ≡ false → has_row a t.state.start_req ≡ false
        → Asks c t (cond (not b && is_forbidden (keyfind a t.state.permissions)) (reply p Done (fresh waiting)) (request b))
    here false is not_ending nobody = absurd (false≢true is)
    here true is not_ending nobody =
        let e : Envelope = it_asks t.here c in
        asks row (record { said = All-cons (IsSaid t.here.node) (output.Send e) [] (sends e) (All-nil (IsSaid t.here.node)); sent = refl })
        refl not_ending nobody

    lacks : (o : Option Dep) → t.state.is_ending ≡ false → has_row a t.state.start_req ≡ false
        → Asks c t (start_unless a restart p o (fresh t))
    lacks (Some d) not_ending nobody = says (replies c (Failed (NeedsStarted d)) t refl)
    lacks None not_ending nobody = here (controls t.own a) controlled not_ending nobody

    idle : (b : Bool) → t.state.is_ending ≡ false → has_row a t.state.start_req ≡ false
        → Asks c t (cond b (reply p (Failed (AlreadyStarted a)) (fresh t)) (start_unless a restart p (lacks_started t a) (fresh t)))
    idle true not_ending nobody = says (replies c (Failed (AlreadyStarted a)) t refl)
    idle false not_ending nobody = lacks (lacks_started t a) not_ending nobody

    begun : (b : Bool) → has_row a t.state.start_req ≡ b → t.state.is_ending ≡ false
        → Asks c t (cond b (add_request a (Some p) (fresh t))
        (cond (has_row a t.state.running) (reply p (Failed (AlreadyStarted a)) (fresh t))
        (start_unless a restart p (lacks_started t a) (fresh t))))
    begun true is not_ending = says (silent c (add_request a (Some p) t))
    begun false is not_ending = idle (has_row a t.state.running) not_ending is

    ended : (b : Bool) → t.state.is_ending ≡ b → Asks c t (cond b (fresh t) (start a restart p (fresh t)))
    ended true is = says (silent c t)
    ended false is = begun (has_row a t.state.start_req) refl is
