-- What a controller says while it starts an application, and whom its dist_ac tells of it.
use Rattle.std.proofs.Common.{◌≡◌, ◌++◌, ◌==◌, Bool, true, false, cond, List, [], ◌∷◌, Option, Some, None, refl, sym, ap, subst, ◌∙◌}
use Rattle.std.specs.Prelude.{All}
use Rattle.std.proofs.lemmas.List.Elements.{All-nil, All-cons, All-head, All-tail, All-filter}
use Rattle.rh_model.specs.ClusterView.{has_phases}
use Rattle.rh_model.specs.declared.node.App.{App}
use Rattle.rh_model.specs.declared.node.Node.{Node}
use Rattle.rh_model.specs.declared.settings.Dep.{Dep}
use Rattle.rh_otp_model.specs.declared.fault.Outcome.{Outcome}
use Rattle.rh_otp_model.specs.declared.fault.Outcome.TheVariants.{Done}
use Rattle.rh_otp_model.specs.declared.message.Change.TheVariants as change_of
use Rattle.rh_otp_model.specs.declared.message.Message.TheVariants as message
use Rattle.rh_otp_model.specs.declared.output.Event.TheVariants as event
use Rattle.rh_otp_model.specs.declared.output.Output.{Output}
use Rattle.rh_otp_model.specs.declared.output.Output.TheVariants as output
use Rattle.rh_otp_model.specs.declared.process.Here.{Here}
use Rattle.rh_otp_model.specs.declared.process.Process.{Process}
use Rattle.rh_otp_model.specs.declared.process.Role.TheVariants as role
use Rattle.rh_otp_model.specs.declared.process.StartType.{StartType}
use Rattle.rh_otp_model.specs.declared.process.StartType.TheVariants.{Failover, Normal}
use Rattle.rh_otp_model.specs.Own.{controls}
use Rattle.rh_otp_model.specs.Processes.{process_at}
use Rattle.rh_otp_model.specs.Rows.{keyfind, has_row, without_rows}
use Rattle.rh_otp_controller.specs.declared.state.Place.{Place}
use Rattle.rh_otp_controller.specs.declared.state.Place.TheVariants as place_of
use Rattle.rh_otp_controller.specs.declared.state.Starting.{Starting}
use Rattle.rh_otp_controller.specs.Changes.{changed, change, change_running, received, do_start, kept_restart}
use Rattle.rh_otp_controller.specs.Sending.{control, reply_to}
use Rattle.rh_otp_controller.specs.Starting.{lacks_running, spawn_starter, spawned, add_starting, add_request, reply_each, with_requests, reply_to_requester, end_starting, started_by, has_started}
use Rattle.rh_otp_controller.specs.State.{TurnView}

-- ---- its words

-- it says nothing, or that the application runs, or an observer sees it start and it is told of that
pub data Words (here : Here) (a : App) : List Output → Type 0 where
  silent : Words here a []
  runs : Words here a (output.Send (record {
    from = process_at here role.Controller;
    to = process_at here role.DistAc;
    message = message.Run a None;
  }) ∷ [])
  begins : (kind : StartType) → Words here a (output.Tell (event.Started a here.node kind) ∷ output.Send (record {
    from = process_at here (role.Starter a);
    to = process_at here role.Controller;
    message = message.ApplicationStarted a None;
  }) ∷ [])

-- nobody waits for these starts
abbrev pub AreNobodys : List (App × Option Process) → Type 0
AreNobodys rows = All (λ (row : App × Option Process). row.1 ≡ None) rows

-- a turn in which it has said no more
pub record Said (a : App) (t u : TurnView) : Type 0 where
  pub words : Words t.here a u.out
  pub ending : u.state.is_ending ≡ t.state.is_ending
  pub requests : AreNobodys u.state.start_req

says_nothing : (a : App) (t : TurnView) → t.out ≡ [] → AreNobodys t.state.start_req → Said a t t
says_nothing a t none requests = record { words = subst (Words t.here a) (sym none) silent; ending = refl; requests = requests }

-- it tells dist_ac, where that controls the application
says_runs : (a : App) (t u : TurnView) → u.out ≡ [] → u.here ≡ t.here → u.state.is_ending ≡ t.state.is_ending → AreNobodys u.state.start_req
    → Said a t (control a (message.Run a None) u)
says_runs a t u none same ending requests = by (controls u.own a)
  where
    told : Words t.here a (u.out ++ output.Send (record {
      from = process_at u.here role.Controller;
      to = process_at u.here role.DistAc;
      message = message.Run a None;
    }) ∷ [])
    told = subst (λ (h : Here). Words t.here a (u.out ++ output.Send (record {
      from = process_at h role.Controller;
      to = process_at h role.DistAc;
      message = message.Run a None;
    }) ∷ [])) (sym same) (subst (λ (out : List Output). Words t.here a (out ++ output.Send (record {
      from = process_at t.here role.Controller;
      to = process_at t.here role.DistAc;
      message = message.Run a None;
    }) ∷ [])) (sym none) runs)

    by : (b : Bool) → Said a t (cond b (record u {
      out = u.out ++ output.Send (record {
        from = process_at u.here role.Controller;
        to = process_at u.here role.DistAc;
        message = message.Run a None;
      }) ∷ [];
    }) u)
    by true = record { words = told; ending = ending; requests = requests }
    by false = record { words = subst (Words t.here a) (sym none) silent; ending = ending; requests = requests }

-- ---- do_start/5, where it lacks nothing and nobody waits

-- an observer has seen it start
abbrev seen_start : App → StartType → TurnView → TurnView
seen_start a kind t = spawned a kind None t

says_begins : (a : App) (kind : StartType) (t : TurnView) → t.out ≡ [] → lacks_running t a ≡ None → t.state.start_req ≡ []
    → Said a t (do_start a None kind t)
unfolding do_start spawn_starter
says_begins a kind t none needs free =
    subst (Said a t) (λ i. cond (has_row a (sym free i)) t (begun (sym needs i)))
    (by (has_row a t.state.starting))
  where
    begun : Option Dep → TurnView
    begun lack = add_request a None (cond (has_row a (spawned a kind lack t).state.starting) (spawned a kind lack t)
        (add_starting a (kept_restart None (keyfind a t.state.started)) kind (spawned a kind lack t)))

    words : Words t.here a (seen_start a kind t).out
    words = subst (λ (out : List Output). Words t.here a ((out ++ output.Tell (event.Started a t.here.node kind) ∷ []) ++ output.Send (record {
      from = process_at t.here (role.Starter a);
      to = process_at t.here role.Controller;
      message = message.ApplicationStarted a None;
    }) ∷ [])) (sym none) (begins kind)

    requests : AreNobodys ((a, None) ∷ t.state.start_req)
    requests = All-cons (λ (row : App × Option Process). row.1 ≡ None) (a, None) t.state.start_req refl
        (subst AreNobodys (sym free) (All-nil (λ (row : App × Option Process). row.1 ≡ None)))

    by : (b : Bool) → Said a t (add_request a None (cond b (seen_start a kind t)
        (add_starting a (kept_restart None (keyfind a t.state.started)) kind (seen_start a kind t))))
    by true = record { words = words; ending = refl; requests = requests }
    by false = record { words = words; ending = refl; requests = requests }

-- at a failover
pub says_failover : (a : App) (gone : Node) (t : TurnView) → t.out ≡ [] → lacks_running t a ≡ None → t.state.start_req ≡ []
    → Said a t (received (message.Change a (change_of.Failover gone)) t)
unfolding received change
says_failover a gone t none needs free = ended t.state.is_ending
  where
    nothing : Said a t t
    nothing = says_nothing a t none (subst AreNobodys (sym free) (All-nil (λ (row : App × Option Process). row.1 ≡ None)))

    starts : Said a t (do_start a None (cond (has_phases t.cluster a) (Failover gone) Normal) t)
    starts = says_begins a (cond (has_phases t.cluster a) (Failover gone) Normal) t none needs free

    running : (place : Place) → Said a t (change_running a (change_of.Failover gone) place t)
    running place_of.Here = says_runs a t t none refl refl nothing.requests
    running (place_of.At n) = starts
    running place_of.Nowhere = starts

    at : (o : Option Place) → Said a t (changed a (change_of.Failover gone) o t)
    at None = nothing
    at (Some place) = by (has_row a t.state.started)
      where
        by : (b : Bool) → Said a t (cond b (change_running a (change_of.Failover gone) place t) t)
        by true = running place
        by false = nothing

    ended : (b : Bool) → Said a t (cond b t (changed a (change_of.Failover gone) (keyfind a t.state.running) t))
    ended true = nothing
    ended false = at (keyfind a t.state.running)

-- ---- the start is over

answers_nobody : (a : App) (o : Outcome) (rows : List (App × Option Process)) (t : TurnView) → AreNobodys rows → reply_each a o rows t ≡ t
answers_nobody a o [] t nobodys = refl
answers_nobody a o (row ∷ rows) t nobodys =
    ap (λ (to : Option Process). reply_each a o rows (cond (row.0.0 == a.0) (reply_to to o t) t))
    (All-head (λ (row : App × Option Process). row.1 ≡ None) row rows nobodys)
    ∙ ap (reply_each a o rows) (either (row.0.0 == a.0))
    ∙ answers_nobody a o rows t (All-tail (λ (row : App × Option Process). row.1 ≡ None) row rows nobodys)
  where
    either : (b : Bool) → cond b t t ≡ t
    either true = refl
    either false = refl

pub says_started : (a : App) (t : TurnView) → t.out ≡ [] → AreNobodys t.state.start_req
    → Said a t (received (message.ApplicationStarted a None) t)
unfolding received has_started reply_to_requester
says_started a t none nobodys = ended t.state.is_ending
  where
    told : TurnView
    told = with_requests (without_rows a t.state.start_req) t

    fewer : AreNobodys (without_rows a t.state.start_req)
    fewer = All-filter _ (λ (row : App × Option Process). row.1 ≡ None) t.state.start_req nobodys

    by : (o : Option Starting) → Said a t (started_by a place_of.Here None o told)
    by None = record { words = subst (Words t.here a) (sym none) silent; ending = refl; requests = fewer }
    by (Some row) =
        let said : Said a t (control a (message.Run a None) (end_starting a told)) = says_runs a t (end_starting a told) none refl refl fewer in
        record { words = said.words; ending = said.ending; requests = said.requests }

    answered : reply_each a Done t.state.start_req t ≡ t
    answered = answers_nobody a Done t.state.start_req t nobodys

    over : TurnView → TurnView
    over u = started_by a place_of.Here None (keyfind a u.state.starting) (with_requests (without_rows a t.state.start_req) u)

    ended : (b : Bool) → Said a t (cond b t (over (reply_each a Done t.state.start_req t)))
    ended true = says_nothing a t none nobodys
    ended false = subst (λ (u : TurnView). Said a t (over u)) (sym answered) (by (keyfind a t.state.starting))
