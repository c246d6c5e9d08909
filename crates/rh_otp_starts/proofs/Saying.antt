-- What a controller says where an application that its dist_ac doesn't control is started: an observer sees it start, its starter reports,
-- and the caller is answered.
use Rattle.std.proofs.Common.{◌≡◌, ◌⊎◌, ◌==◌, ◌&&◌, Bool, true, false, not, cond, List, [], ◌∷◌, Option, Some, None, is_some, find, refl, sym, ap, subst, ◌∙◌, inl, inr}
use Rattle.std.specs.Option.{option_map}
use Rattle.std.proofs.lemmas.Bool.{cases_Bool, eq-eqb, false≢true}
use Rattle.std.proofs.lemmas.List.Elements.{All-nil, All-cons}
use Rattle.std.specs.Prelude.{All}
use Rattle.rh_model.specs.declared.node.App.{App}
use Rattle.rh_model.specs.declared.settings.Dep.{Dep}
use Rattle.rh_model.specs.declared.settings.Restart.{Restart}
use Rattle.rh_otp_model.specs.declared.fault.Fault.TheVariants.{AlreadyStarted, NeedsStarted, NeedsRunning, NotRunning}
use Rattle.rh_otp_model.specs.declared.fault.Outcome.{Outcome}
use Rattle.rh_otp_model.specs.declared.fault.Outcome.TheVariants.{Done, Failed}
use Rattle.rh_otp_model.specs.declared.message.Message.TheVariants as message
use Rattle.rh_otp_model.specs.declared.output.Envelope.{Envelope}
use Rattle.rh_otp_model.specs.declared.output.Event.TheVariants as event
use Rattle.rh_otp_model.specs.declared.output.Output.{Output}
use Rattle.rh_otp_model.specs.declared.output.Output.TheVariants as output
use Rattle.rh_otp_model.specs.declared.process.Here.{Here}
use Rattle.rh_otp_model.specs.declared.process.Process.{Process}
use Rattle.rh_otp_model.specs.declared.process.Role.TheVariants as role
use Rattle.rh_otp_model.specs.declared.process.StartType.TheVariants.{Normal}
use Rattle.rh_otp_model.specs.Own.{controls}
use Rattle.rh_otp_model.specs.Processes.{process_at}
use Rattle.rh_otp_model.specs.Rows.{keyfind, keydelete, has_row, is_of, without, without_rows}
use Rattle.rh_otp_controller.specs.declared.state.Place.TheVariants as place_of
use Rattle.rh_otp_controller.specs.declared.state.Starting.{Starting}
use Rattle.rh_otp_controller.specs.Calls.{is_forbidden, start, start_unless, request_start, permit, permit_idle, permit_waiting, permit_distributed, update_permissions, top_ends, is_here, ends_with}
use Rattle.rh_otp_controller.specs.Changes.{received}
use Rattle.rh_otp_controller.specs.Sending.{control, send, reply, reply_to, tell}
use Rattle.rh_otp_controller.specs.Starting.{lacks_started, lacks_running, spawned, spawn_starter, add_starting, add_request, reply_each, with_requests, reply_to_requester, end_starting, outcome_of, ends_node, set_running, forget_end, started_by, has_started}
use Rattle.rh_otp_controller.specs.State.{ControllerView, TurnView}
use Rattle.rh_otp_system.specs.declared.calls.Call.{Call}
use Rattle.rh_otp_system.specs.Calling.{is_known}
use Rattle.rh_otp_system.specs.Calls.{process_of}
use Rattle.rh_otp_crashes.proofs.Carrying.{letters}
use Rattle.rh_otp_starts.proofs.Turns.{IsSaid, sends, shows, stops, Turn}
use Rattle.rh_otp_stops.proofs.Saying.{its_answer}

-- ---- its words

-- before it has done anything in its turn
abbrev pub fresh : TurnView → TurnView
fresh t = record t { out = [] }

-- the starter's report
abbrev pub it_started : Here → Call → Option Dep → Envelope
it_started h c error = record {
  from = process_at h (role.Starter c.app);
  to = process_at h role.Controller;
  message = message.ApplicationStarted c.app error;
}

-- nothing is on its way any more, or the answer to the caller alone
pub data IsLast (h : Here) (c : Call) : List Envelope → Type 0 where
  none : IsLast h c []
  answer : (o : Outcome) → is_known o ≡ false → IsLast h c (its_answer h c o ∷ [])

-- behind this turn
pub record Ends (h : Here) (c : Call) (u : TurnView) : Type 0 where
  pub more : List Envelope
  pub turn : Turn h.node u more
  pub last : IsLast h c more

-- behind this one, too; or the starter reports, and behind that turn
pub data Goes (c : Call) (t u : TurnView) : Type 0 where
  ends : Ends t.here c u → Goes c t u
  starts : (error : Option Dep) → Turn t.here.node u (it_started t.here c error ∷ [])
      → Ends t.here c (received (message.ApplicationStarted c.app error) (fresh (record t { state = u.state })))
      → Goes c t u

-- ---- it says nothing, or answers

pub silent : (c : Call) (t : TurnView) → Ends t.here c (fresh t)
silent c t = record {
  more = [];
  turn = record { said = All-nil (IsSaid t.here.node); sent = refl };
  last = none;
}

-- the answer is all that it has sent
pub says_last : (c : Call) (o : Outcome) (t u : TurnView) → u.out ≡ output.Send (its_answer t.here c o) ∷ [] → is_known o ≡ false
    → Ends t.here c u
says_last c o t u is known =
    let e : Envelope = its_answer t.here c o in
    record {
      more = e ∷ [];
      turn = record {
        said = subst (All (IsSaid t.here.node)) (sym is)
            (All-cons (IsSaid t.here.node) (output.Send e) [] (sends e) (All-nil (IsSaid t.here.node)));
        sent = ap letters is;
      };
      last = answer o known;
    }

pub replies : (c : Call) (o : Outcome) (t : TurnView) → is_known o ≡ false → Ends t.here c (reply (process_of c) o (fresh t))
replies c o t known = says_last c o t (reply (process_of c) o (fresh t)) refl known

-- ---- the starter has reported

-- it is the same application
pub same_app : (a : App) → (a.0 == a.0) ≡ true
same_app a = eq-eqb a.0 a.0 refl

pub none_replied : (a : App) (o : Outcome) (rows : List (App × Option Process)) (t : TurnView) → has_row a rows ≡ false
    → reply_each a o rows t ≡ t
none_replied a o [] t none_of = refl
none_replied a o (row ∷ rows) t none_of = by (cases_Bool (row.0.0 == a.0)) (λ nobody. none_replied a o rows t nobody)
  where
    found : (b : Bool) → Bool
    found b = is_some (option_map (λ (r : App × Option Process). r.1) (cond b (Some row) (find (is_of a) rows)))

    by : ((row.0.0 == a.0) ≡ true) ⊎ ((row.0.0 == a.0) ≡ false) → (has_row a rows ≡ false → reply_each a o rows t ≡ t)
        → reply_each a o (row ∷ rows) t ≡ t
    by (inl is) rest = absurd (false≢true (sym none_of ∙ ap found is))
    by (inr other) rest =
        ap (λ (b : Bool). reply_each a o rows (cond b (reply_to row.1 o t) t)) other
        ∙ rest (sym (ap found other) ∙ none_of)

-- where this one asked last, and nobody before
abbrev pub asked_last : Call → Starting → List (App × Option Process) → List (App × Starting) → ControllerView → ControllerView
asked_last c row rows starting x =
    record x { start_req = (c.app, Some (process_of c)) ∷ rows; starting = (c.app, row) ∷ starting }

-- behind its answer
abbrev pub answered_first : Call → Outcome → List (App × Option Process) → TurnView → TurnView
answered_first c o rows t = with_requests rows (reply (process_of c) o t)

-- whatever its start came to
reported_by : (c : Call) (row : Starting) (error : Option Dep) (rows : List (App × Option Process)) (t : TurnView)
    → controls t.own c.app ≡ false
    → Ends t.here c (started_by c.app place_of.Here error (Some row) (answered_first c (outcome_of error) rows (fresh t)))
reported_by c row None rows t local = by (controls t.own c.app) local
  where
    last : TurnView
    last = end_starting c.app (answered_first c Done rows (fresh t))

    by : (b : Bool) → b ≡ false → Ends t.here c (set_running c.app place_of.Here row.restart
        (cond b (send (process_at t.here role.DistAc) (message.Run c.app None) last) last))
    by true is = absurd (false≢true (sym is))
    by false is = says_last c Done t (set_running c.app place_of.Here row.restart last) refl refl
reported_by c row (Some d) rows t local = by (controls t.own c.app) local
  where
    o : Outcome
    o = Failed (NeedsRunning d)

    last : TurnView
    last = end_starting c.app (answered_first c o rows (fresh t))

    by : (b : Bool) → b ≡ false → Ends t.here c
        (let told : TurnView = cond b (send (process_at t.here role.DistAc) (message.Run c.app (Some d)) last) last in
        record told { state = record told.state { is_ending = ends_node row.restart } })
    by true is = absurd (false≢true (sym is))
    by false is = says_last c o t (record last { state = record last.state { is_ending = ends_node row.restart } }) refl refl

-- the caller is answered, and this is what was asked for
pub answers_first : (c : Call) (o : Outcome) (row : Starting) (rows : List (App × Option Process)) (starting : List (App × Starting))
    (t : TurnView) → has_row c.app rows ≡ false
    → reply_to_requester c.app o (fresh (record t { state = asked_last c row rows starting t.state }))
    ≡ answered_first c o (without_rows c.app ((c.app, Some (process_of c)) ∷ rows))
    (fresh (record t { state = asked_last c row rows starting t.state }))
unfolding reply_to_requester
answers_first c o row rows starting t nobody =
    let first : TurnView = fresh (record t { state = asked_last c row rows starting t.state }) in
    let left : List (App × Option Process) = without_rows c.app ((c.app, Some (process_of c)) ∷ rows) in
    ap (λ (b : Bool). with_requests left (reply_each c.app o rows (cond b (reply (process_of c) o first) first))) (same_app c.app)
    ∙ ap (with_requests left) (none_replied c.app o rows (reply (process_of c) o first) nobody)

pub found_first : (a : App) (row : Starting) (starting : List (App × Starting)) → keyfind a ((a, row) ∷ starting) ≡ Some row
found_first a row starting =
    ap (λ (b : Bool). option_map (λ (r : App × Starting). r.1) (cond b (Some (a, row)) (find (is_of a) starting))) (same_app a)

-- the start is over, whatever it came to
pub reports_so : (c : Call) (row : Starting) (error : Option Dep) (rows : List (App × Option Process)) (starting : List (App × Starting))
    (t : TurnView) → t.state.is_ending ≡ false → has_row c.app rows ≡ false
    → received (message.ApplicationStarted c.app error) (fresh (record t { state = asked_last c row rows starting t.state }))
    ≡ started_by c.app place_of.Here error (Some row)
    (answered_first c (outcome_of error) (without_rows c.app ((c.app, Some (process_of c)) ∷ rows))
    (fresh (record t { state = asked_last c row rows starting t.state })))
unfolding received has_started
reports_so c row error rows starting t not_ending nobody =
    let a : App = c.app in
    let first : TurnView = fresh (record t { state = asked_last c row rows starting t.state }) in
    let told : TurnView = answered_first c (outcome_of error) (without_rows a ((a, Some (process_of c)) ∷ rows)) first in
    ap (λ (b : Bool). cond b first (has_started a place_of.Here error first)) not_ending
    ∙ ap (λ (u : TurnView). started_by a place_of.Here error (keyfind a u.state.starting) u)
    (answers_first c (outcome_of error) row rows starting t nobody)
    ∙ ap (λ (found : Option Starting). started_by a place_of.Here error found told) (found_first a row starting)

reported : (c : Call) (row : Starting) (error : Option Dep) (rows : List (App × Option Process)) (starting : List (App × Starting))
    (t : TurnView) → controls t.own c.app ≡ false → t.state.is_ending ≡ false → has_row c.app rows ≡ false
    → Ends t.here c (received (message.ApplicationStarted c.app error)
    (fresh (record t { state = asked_last c row rows starting t.state })))
reported c row error rows starting t local not_ending nobody =
    subst (Ends t.here c) (sym (reports_so c row error rows starting t not_ending nobody))
    (reported_by c row error (without_rows c.app ((c.app, Some (process_of c)) ∷ rows))
    (record t { state = asked_last c row rows starting t.state }) local)

-- ---- it is started here

begins : (c : Call) (restart : Option Restart) (x : ControllerView) (t : TurnView) → controls t.own c.app ≡ false
    → x.is_ending ≡ false → has_row c.app x.start_req ≡ false
    → Goes c t (add_request c.app (Some (process_of c)) (add_starting c.app restart Normal
    (spawn_starter c.app Normal (fresh (record t { state = x })))))
unfolding spawn_starter received
begins c restart x t local not_ending nobody = by (lacks_running (record t { state = x }) c.app)
  where
    row : Starting
    row = record { restart = restart; kind = Normal }

    u : TurnView
    u = record t { state = x }

    begun : Option Dep → TurnView
    begun error = add_request c.app (Some (process_of c)) (add_starting c.app restart Normal (spawned c.app Normal error (fresh u)))

    next : (error : Option Dep) (y : ControllerView) → y.is_ending ≡ false → has_row c.app y.start_req ≡ false
        → Ends t.here c (received (message.ApplicationStarted c.app error)
        (fresh (record t { state = asked_last c row y.start_req y.starting y })))
    next error y so none_of = reported c row error y.start_req y.starting (record t { state = y }) local so none_of

    by : (error : Option Dep) → Goes c t (begun error)
    by None =
        let e : Envelope = it_started t.here c None in
        let seen : Output = output.Tell (event.Started c.app t.here.node Normal) in
        starts None
        (record {
          said = All-cons (IsSaid t.here.node) seen (output.Send e ∷ []) (shows c.app Normal)
              (All-cons (IsSaid t.here.node) (output.Send e) [] (sends e) (All-nil (IsSaid t.here.node)));
          sent = refl;
        })
        (next None (forget_end c.app u).state not_ending nobody)
    by (Some d) =
        let e : Envelope = it_started t.here c (Some d) in
        starts (Some d)
        (record { said = All-cons (IsSaid t.here.node) (output.Send e) [] (sends e) (All-nil (IsSaid t.here.node)); sent = refl })
        (next (Some d) x not_ending nobody)

-- ---- at a start

pub goes_start : (c : Call) (restart : Restart) (t : TurnView) → controls t.own c.app ≡ false
    → Goes c t (received (message.Start c.app restart (process_of c)) (fresh t))
unfolding received start
goes_start c restart t local = ended t.state.is_ending refl
  where
    a : App
    a = c.app

    p : Process
    p = process_of c

    waiting : TurnView
    waiting = record t { state = record t.state { start_p_false = (a, restart) ∷ t.state.start_p_false } }

    here : (b : Bool) → b ≡ false → t.state.is_ending ≡ false → has_row a t.state.start_req ≡ false
        → Goes c t (add_request a (Some p) (add_starting a (Some restart) Normal
        (cond b (control a (message.StartRequest a) (fresh t)) (spawn_starter a Normal (fresh t)))))
    here true is not_ending nobody = absurd (false≢true (sym is))
    here false is not_ending nobody = begins c (Some restart) t.state t local not_ending nobody

    allowed : (b : Bool) → t.state.is_ending ≡ false → has_row a t.state.start_req ≡ false
        → Goes c t (cond b (reply p Done (fresh waiting)) (request_start a restart p (fresh t)))
    allowed true not_ending nobody = ends (replies c Done waiting refl)
    allowed false not_ending nobody = here (controls t.own a) local not_ending nobody

    lacks : (o : Option Dep) → t.state.is_ending ≡ false → has_row a t.state.start_req ≡ false
        → Goes c t (start_unless a restart p o (fresh t))
    lacks (Some d) not_ending nobody = ends (replies c (Failed (NeedsStarted d)) t refl)
    lacks None not_ending nobody = allowed (not (controls t.own a) && is_forbidden (keyfind a t.state.permissions)) not_ending nobody

    idle : (b : Bool) → t.state.is_ending ≡ false → has_row a t.state.start_req ≡ false
        → Goes c t (cond b (reply p (Failed (AlreadyStarted a)) (fresh t)) (start_unless a restart p (lacks_started t a) (fresh t)))
    idle true not_ending nobody = ends (replies c (Failed (AlreadyStarted a)) t refl)
    idle false not_ending nobody = lacks (lacks_started t a) not_ending nobody

    begun : (b : Bool) → has_row a t.state.start_req ≡ b → t.state.is_ending ≡ false
        → Goes c t (cond b (add_request a (Some p) (fresh t))
        (cond (has_row a t.state.running) (reply p (Failed (AlreadyStarted a)) (fresh t))
        (start_unless a restart p (lacks_started t a) (fresh t))))
    begun true is not_ending = ends (silent c (add_request a (Some p) t))
    begun false is not_ending = idle (has_row a t.state.running) not_ending is

    ended : (b : Bool) → t.state.is_ending ≡ b → Goes c t (cond b (fresh t) (start a restart p (fresh t)))
    ended true is = ends (silent c t)
    ended false is = begun (has_row a t.state.start_req) refl is

-- ---- at a permit

pub goes_permit : (c : Call) (t : TurnView) → controls t.own c.app ≡ false → has_row c.app t.state.start_req ≡ false
    → Goes c t (received (message.Permit c.app true (process_of c)) (fresh t))
unfolding received permit
goes_permit c t local nobody = ended t.state.is_ending refl
  where
    a : App
    a = c.app

    p : Process
    p = process_of c

    noted : TurnView
    noted = update_permissions a true t

    waits : (x : ControllerView) (o : Option (Option Restart)) → x.is_ending ≡ false → has_row a x.start_req ≡ false
        → Goes c t (permit_waiting a true p o (fresh (record t { state = x })))
    waits x None not_ending none_asks = ends (replies c Done (record t { state = x }) refl)
    waits x (Some restart) not_ending none_asks = begins c restart x t local not_ending none_asks

    idle : (o : Option (Option Restart)) → t.state.is_ending ≡ false → Goes c t (permit_idle a true p o (fresh noted))
    idle (Some restart) not_ending =
        waits (record noted.state { started = keydelete a noted.state.started }) (Some restart) not_ending nobody
    idle None not_ending =
        waits (record noted.state { start_p_false = keydelete a noted.state.start_p_false })
        (option_map Some (keyfind a t.state.start_p_false)) not_ending nobody

    runs : (b : Bool) → t.state.is_ending ≡ false
        → Goes c t (cond b (reply p Done (fresh t)) (permit_idle a true p (keyfind a t.state.started) (fresh noted)))
    runs true not_ending = ends (replies c Done t refl)
    runs false not_ending = idle (keyfind a t.state.started) not_ending

    here : (b : Bool) → b ≡ false → t.state.is_ending ≡ false
        → Goes c t (cond b (permit_distributed a true p (fresh t))
        (cond (has_row a t.state.running) (reply p Done (fresh t)) (permit_idle a true p (keyfind a t.state.started) (fresh noted))))
    here true is not_ending = absurd (false≢true (sym is))
    here false is not_ending = runs (has_row a t.state.running) not_ending

    ended : (b : Bool) → t.state.is_ending ≡ b → Goes c t (cond b (fresh t) (permit a true p (fresh t)))
    ended true is = ends (silent c t)
    ended false is = here (controls t.own a) local is

-- ---- where it ends by itself

-- whether that ends its node or not
pub goes_exit : (c : Call) (is_normal : Bool) (t : TurnView) → controls t.own c.app ≡ false
    → Goes c t (received (message.TopEnds c.app is_normal (process_of c)) (fresh t))
unfolding received top_ends
goes_exit c is_normal t local = ended t.state.is_ending
  where
    a : App
    a = c.app

    p : Process
    p = process_of c

    e : Envelope
    e = its_answer t.here c Done

    seen : Output
    seen = output.Tell (event.Stopped a t.here.node)

    told : TurnView
    told = reply p Done (fresh t)

    gone : TurnView
    gone = tell (event.Stopped a t.here.node) (record told {
      state = record told.state { running = keydelete a told.state.running; ended = a ∷ without a told.state.ended };
    })

    last : Bool → TurnView
    last b = cond b (send (process_at t.here role.DistAc) (message.Stopped a) gone) gone

    over : TurnView → TurnView
    over u = record u { state = record u.state { is_ending = ends_with (keyfind a u.state.started) is_normal } }

    silently : (b : Bool) → b ≡ false → Ends t.here c (over (last b))
    silently true is = absurd (false≢true (sym is))
    silently false is = record {
      more = e ∷ [];
      turn = record {
        said = All-cons (IsSaid t.here.node) (output.Send e) (seen ∷ []) (sends e)
            (All-cons (IsSaid t.here.node) seen [] (stops a) (All-nil (IsSaid t.here.node)));
        sent = refl;
      };
      last = answer Done refl;
    }

    runs : (b : Bool) → Goes c t (cond b (over (last (controls t.own a))) (reply p (Failed NotRunning) (fresh t)))
    runs true = ends (silently (controls t.own a) local)
    runs false = ends (replies c (Failed NotRunning) t refl)

    ended : (b : Bool) → Goes c t (cond b (fresh t) (top_ends a is_normal p (fresh t)))
    ended true = ends (silent c t)
    ended false = runs (is_here (keyfind a t.state.running))
