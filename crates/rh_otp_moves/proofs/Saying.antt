-- What a controller says where it is to start an application, and where the starter reports.
use Rattle.std.proofs.Common.{◌≡◌, ◌⊎◌, ◌==◌, Bool, true, false, cond, List, [], ◌∷◌, Option, Some, None, refl, sym, ap, subst, ◌∙◌, inl, inr}
use Rattle.std.specs.Prelude.{All}
use Rattle.std.proofs.lemmas.List.Elements.{All-nil, All-cons}
use Rattle.rh_model.specs.ClusterView.{has_phases}
use Rattle.rh_model.specs.declared.node.App.{App}
use Rattle.rh_model.specs.declared.node.Node.{Node}
use Rattle.rh_model.specs.declared.settings.Dep.{Dep}
use Rattle.rh_model.specs.declared.settings.Restart.{Restart}
use Rattle.rh_otp_model.specs.declared.fault.Outcome.{Outcome}
use Rattle.rh_otp_model.specs.declared.message.Change.{Change}
use Rattle.rh_otp_model.specs.declared.message.Change.TheVariants as change_of
use Rattle.rh_otp_model.specs.declared.message.Message.TheVariants as message
use Rattle.rh_otp_model.specs.declared.output.Envelope.{Envelope}
use Rattle.rh_otp_model.specs.declared.output.Event.TheVariants as event
use Rattle.rh_otp_model.specs.declared.output.Output.{Output}
use Rattle.rh_otp_model.specs.declared.output.Output.TheVariants as output
use Rattle.rh_otp_model.specs.declared.process.Process.{Process}
use Rattle.rh_otp_model.specs.declared.process.Role.TheVariants as role
use Rattle.rh_otp_model.specs.declared.process.StartType.{StartType}
use Rattle.rh_otp_model.specs.declared.process.StartType.TheVariants.{Normal, Failover, Takeover}
use Rattle.rh_otp_model.specs.Own.{controls}
use Rattle.rh_otp_model.specs.Processes.{process_at}
use Rattle.rh_otp_model.specs.Rows.{keyfind, keydelete, has_row, without_rows}
use Rattle.rh_otp_controller.specs.declared.state.Place.{Place}
use Rattle.rh_otp_controller.specs.declared.state.Place.TheVariants as place_of
use Rattle.rh_otp_controller.specs.declared.state.Starting.{Starting}
use Rattle.rh_otp_controller.specs.Changes.{change, changed, change_running, change_idle, do_start, kept_restart, received, start_here}
use Rattle.rh_otp_controller.specs.Sending.{send}
use Rattle.rh_otp_controller.specs.Starting.{add_request, add_starting, end_starting, ends_node, has_started, lacks_running, reply_each, reply_to_requester, set_running, spawn_starter, spawned, started_by, with_requests}
use Rattle.rh_otp_controller.specs.Starting as controller
use Rattle.rh_otp_controller.specs.State.{ControllerView}
use Rattle.rh_otp_controller.specs.State.{TurnView as ControllerTurn}
use Rattle.rh_otp_crashes.proofs.Carrying.{letters}
use Rattle.rh_otp_starts.proofs.Saying.{fresh, none_replied}
use Rattle.rh_otp_starts.proofs.Turns.{IsSaid, sends, shows, Turn}
use Rattle.rh_otp_moves.proofs.Chain.{IsStart, starts, takes_over, fails_over, AskedAlone}

-- ---- what the controller says

-- it tells its dist_ac that the application runs, or what it lacks
abbrev pub told_runs : App → ControllerTurn → Option Dep → Envelope
told_runs a t error = record {
  from = process_at t.here role.Controller;
  to = process_at t.here role.DistAc;
  message = message.Run a error;
}

-- the starter's report
abbrev pub told_started : App → ControllerTurn → Option Dep → Envelope
told_started a t error = record {
  from = process_at t.here (role.Starter a);
  to = process_at t.here role.Controller;
  message = message.ApplicationStarted a error;
}

-- at a change by which it starts it says nothing, or that it runs already, or a starter reports
pub data Begun (a : App) (t u : ControllerTurn) : Type 0 where
  nothing : Turn t.here.node u [] → Begun a t u
  runs : Turn t.here.node u (told_runs a t None ∷ []) → Begun a t u
  spawns : (error : Option Dep) → Turn t.here.node u (told_started a t error ∷ []) → AskedAlone a u.state → Begun a t u

silent : (t u : ControllerTurn) → u.out ≡ [] → Turn t.here.node u []
silent t u none = record {
  said = subst (All (IsSaid t.here.node)) (sym none) (All-nil (IsSaid t.here.node));
  sent = ap letters none;
}

says : (t u : ControllerTurn) (e : Envelope) → u.out ≡ output.Send e ∷ [] → Turn t.here.node u (e ∷ [])
says t u e one = record {
  said = subst (All (IsSaid t.here.node)) (sym one)
      (All-cons (IsSaid t.here.node) (output.Send e) [] (sends e) (All-nil (IsSaid t.here.node)));
  sent = ap letters one;
}

spawned_says : (a : App) (kind : StartType) (error : Option Dep) (t : ControllerTurn)
    → Turn t.here.node (spawned a kind error (fresh t)) (told_started a t error ∷ [])
spawned_says a kind None t =
    let n : Node = t.here.node in
    let seen : Output = output.Tell (event.Started a n kind) in
    let e : Envelope = told_started a t None in
    record {
      said = All-cons (IsSaid n) seen (output.Send e ∷ []) (shows a kind)
          (All-cons (IsSaid n) (output.Send e) [] (sends e) (All-nil (IsSaid n)));
      sent = refl;
    }
spawned_says a kind (Some d) t = says t (spawned a kind (Some d) (fresh t)) (told_started a t (Some d)) refl

spawned_requests : (a : App) (kind : StartType) (error : Option Dep) (t : ControllerTurn)
    → (spawned a kind error (fresh t)).state.start_req ≡ t.state.start_req
spawned_requests a kind None t = refl
spawned_requests a kind (Some d) t = refl

does_start : (a : App) (restart : Option Restart) (kind : StartType) (t : ControllerTurn) → Begun a t (do_start a restart kind (fresh t))
unfolding do_start spawn_starter
does_start a restart kind t = by (has_row a t.state.start_req) refl
  where
    error : Option Dep
    error = lacks_running (fresh t) a

    told : ControllerTurn
    told = spawned a kind error (fresh t)

    kept : Option Restart
    kept = kept_restart restart (keyfind a t.state.started)

    said : Turn t.here.node told (told_started a t error ∷ [])
    said = spawned_says a kind error t

    asks : has_row a t.state.start_req ≡ false → (b : Bool)
        → Begun a t (add_request a None (cond b told (add_starting a kept kind told)))
    asks nobody true =
        spawns error (record { said = said.said; sent = said.sent })
        (record { rows = told.state.start_req; first = refl; nobody = ap (has_row a) (spawned_requests a kind error t) ∙ nobody })
    asks nobody false =
        spawns error (record { said = said.said; sent = said.sent })
        (record { rows = told.state.start_req; first = refl; nobody = ap (has_row a) (spawned_requests a kind error t) ∙ nobody })

    by : (b : Bool) → has_row a t.state.start_req ≡ b
        → Begun a t (cond b (fresh t) (add_request a None (cond (has_row a told.state.starting) told (add_starting a kept kind told))))
    by true is = nothing (silent t (fresh t) refl)
    by false is = asks is (has_row a told.state.starting)

-- whatever else it keeps
begun_with : (a : App) (t u : ControllerTurn) (x : ControllerView) → x.start_req ≡ u.state.start_req → Begun a t u
    → Begun a t (record u { state = x })
begun_with a t u x same (nothing said) = nothing (record { said = said.said; sent = said.sent })
begun_with a t u x same (runs said) = runs (record { said = said.said; sent = said.sent })
begun_with a t u x same (spawns error said asked) =
    spawns error (record { said = said.said; sent = said.sent })
    (record { rows = asked.rows; first = same ∙ asked.first; nobody = asked.nobody })

pub changes : (a : App) (what : Change) (t : ControllerTurn) → IsStart what → controls t.own a ≡ true
    → Begun a t (received (message.Change a what) (fresh t))
unfolding received change
changes a what t is listed = ends t.state.is_ending
  where
    f : ControllerTurn
    f = fresh t

    none : Begun a t f
    none = nothing (silent t f refl)

    idle : (w : Change) → IsStart w → Begun a t (change_idle a w f)
    idle _ starts = by (has_row a t.state.running) (has_row a t.state.started) (has_row a t.state.starting)
      where
        told : ControllerTurn
        told = do_start a None Normal f

        begun : Begun a t told
        begun = does_start a None Normal t

        by : (running started starting : Bool)
            → Begun a t (cond running f (cond started
            (record told { state = record told.state { started = keydelete a told.state.started } })
            (cond starting told f)))
        by true started starting = none
        by false true starting = begun_with a t told (record told.state { started = keydelete a told.state.started }) refl begun
        by false false true = begun
        by false false false = none
    idle _ (takes_over m) = none
    idle _ (fails_over m) = none

    here : Begun a t (cond (controls t.own a) (send (process_at t.here role.DistAc) (message.Run a None) f) f)
    here = by (controls t.own a) listed
      where
        by : (b : Bool) → b ≡ true → Begun a t (cond b (send (process_at t.here role.DistAc) (message.Run a None) f) f)
        by true so = runs (says t (send (process_at t.here role.DistAc) (message.Run a None) f) (told_runs a t None) refl)
        by false so = none

    begins : (w : Change) → IsStart w → Begun a t (start_here a w f)
    begins _ starts = does_start a None Normal t
    begins _ (takes_over m) = does_start a None (Takeover m) t
    begins _ (fails_over m) = does_start a None (cond (has_phases t.cluster a) (Failover m) Normal) t

    running : (w : Change) → IsStart w → (place : Place) → Begun a t (change_running a w place f)
    running _ starts place_of.Here = here
    running _ starts (place_of.At j) = begins change_of.StartIt starts
    running _ starts place_of.Nowhere = begins change_of.StartIt starts
    running _ (takes_over m) place_of.Here = here
    running _ (takes_over m) (place_of.At j) = begins (change_of.Takeover m None) (takes_over m)
    running _ (takes_over m) place_of.Nowhere = begins (change_of.Takeover m None) (takes_over m)
    running _ (fails_over m) place_of.Here = here
    running _ (fails_over m) (place_of.At j) = begins (change_of.Failover m) (fails_over m)
    running _ (fails_over m) place_of.Nowhere = begins (change_of.Failover m) (fails_over m)

    placed : (place : Place) (b : Bool) → Begun a t (cond b (change_running a what place f) (change_idle a what f))
    placed place true = running what is place
    placed place false = idle what is

    at : (o : Option Place) → Begun a t (changed a what o f)
    at None = idle what is
    at (Some place) = placed place (has_row a t.state.started)

    ends : (b : Bool) → Begun a t (cond b f (changed a what (keyfind a t.state.running) f))
    ends true = none
    ends false = at (keyfind a t.state.running)

-- at the report it says nothing, or how it went
abbrev pub Reported : App → Option Dep → ControllerTurn → ControllerTurn → Type 0
Reported a error t u = Turn t.here.node u [] ⊎ Turn t.here.node u (told_runs a t error ∷ [])

pub reports : (a : App) (error : Option Dep) (t : ControllerTurn) → AskedAlone a t.state → controls t.own a ≡ true
    → Reported a error t (received (message.ApplicationStarted a error) (fresh t))
unfolding received has_started reply_to_requester
reports a error t asked listed =
    subst (λ (told : ControllerTurn).
    Said (cond t.state.is_ending f (started_by a place_of.Here error (keyfind a told.state.starting) told)))
    (sym told_so) (ends t.state.is_ending)
  where
    f : ControllerTurn
    f = fresh t

    o : Outcome
    o = controller.outcome_of error

    Said : ControllerTurn → Type 0
    Said u = Reported a error t u

    alike : (b : Bool) (u : ControllerTurn) → cond b u u ≡ u
    alike true u = refl
    alike false u = refl

    told : ControllerTurn
    told = with_requests (without_rows a t.state.start_req) f

    told_so : with_requests (without_rows a t.state.start_req) (reply_each a o t.state.start_req f) ≡ told
    told_so =
        ap (with_requests (without_rows a t.state.start_req))
        (ap (λ (rows : List (App × Option Process)). reply_each a o rows f) asked.first
        ∙ ap (reply_each a o asked.rows) (alike (a.0 == a.0) f)
        ∙ none_replied a o asked.rows f asked.nobody)

    tells : (e : Option Dep) → e ≡ error → (b : Bool) → b ≡ true → (x : ControllerTurn → ControllerTurn)
        → ((u : ControllerTurn) → (x u).out ≡ u.out)
        → Said (x (cond b (send (process_at t.here role.DistAc) (message.Run a e) (end_starting a told)) (end_starting a told)))
    tells e is b so x same =
        let sent : ControllerTurn = send (process_at t.here role.DistAc) (message.Run a e) (end_starting a told) in
        subst (λ (y : Bool). Said (x (cond y sent (end_starting a told)))) (sym so)
        (inr (says t (x sent) (told_runs a t error) (same sent ∙ ap (λ (y : Option Dep). output.Send (told_runs a t y) ∷ []) is)))

    by : (e : Option Dep) (row : Option Starting) → e ≡ error → Said (started_by a place_of.Here e row told)
    by None None is = inl (silent t told refl)
    by (Some d) None is = inl (silent t told refl)
    by None (Some row) is = tells None is (controls t.own a) listed (λ u. set_running a place_of.Here row.restart u) (λ u. refl)
    by (Some d) (Some row) is =
        tells (Some d) is (controls t.own a) listed (λ u. record u { state = record u.state { is_ending = ends_node row.restart } })
        (λ u. refl)

    ends : (b : Bool) → Said (cond b f (started_by a place_of.Here error (keyfind a told.state.starting) told))
    ends true = inl (silent t f refl)
    ends false = by error (keyfind a told.state.starting) refl
