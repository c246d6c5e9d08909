-- What the node's controller does at each message by which the script goes on.
use Rattle.std.proofs.Common.{◌≡◌, ◌++◌, ◌&&◌, Bool, true, false, not, cond, List, [], ◌∷◌, Option, Some, None, refl, sym, ap, subst}
use Rattle.std.specs.Prelude.{All}
use Rattle.std.proofs.lemmas.Bool.{eq-eqb}
use Rattle.std.proofs.lemmas.List.Elements.{All-nil, All-cons}
use Rattle.rh_model.specs.ClusterView.{ClusterView}
use Rattle.rh_model.specs.declared.node.App.{App}
use Rattle.rh_model.specs.declared.node.Node.{Node}
use Rattle.rh_model.specs.declared.settings.Dep.{Dep}
use Rattle.rh_model.specs.declared.settings.Restart.{Restart}
use Rattle.rh_otp_model.specs.declared.fault.Fault.{Fault}
use Rattle.rh_otp_model.specs.declared.fault.Outcome.{Outcome}
use Rattle.rh_otp_model.specs.declared.fault.Outcome.TheVariants.{Done, Failed}
use Rattle.rh_otp_model.specs.declared.fault.Fault.TheVariants.{AlreadyStarted, NeedsStarted}
use Rattle.rh_otp_model.specs.declared.message.Message.TheVariants as message
use Rattle.rh_otp_model.specs.declared.message.Reply.{Reply}
use Rattle.rh_otp_model.specs.declared.message.Reply.TheVariants as reply_of
use Rattle.rh_otp_model.specs.declared.output.Envelope.{Envelope}
use Rattle.rh_otp_model.specs.declared.output.Event.TheVariants as event
use Rattle.rh_otp_model.specs.declared.output.Output.{Output}
use Rattle.rh_otp_model.specs.declared.output.Output.TheVariants as output
use Rattle.rh_otp_model.specs.declared.process.Here.{Here}
use Rattle.rh_otp_model.specs.declared.process.Process.{Process}
use Rattle.rh_otp_model.specs.declared.process.Role.TheVariants as role
use Rattle.rh_otp_model.specs.declared.process.StartType.{StartType}
use Rattle.rh_otp_model.specs.declared.process.StartType.TheVariants.{Normal, Takeover}
use Rattle.rh_otp_model.specs.Own.{OwnView, controls}
use Rattle.rh_otp_model.specs.Processes.{process_at}
use Rattle.rh_otp_model.specs.Rows.{keyfind, has_row}
use Rattle.rh_otp_controller.specs.declared.state.Place.TheVariants as place_of
use Rattle.rh_otp_controller.specs.declared.state.Starting.{Starting}
use Rattle.rh_otp_controller.specs.Calls.{is_forbidden, start, start_unless}
use Rattle.rh_otp_controller.specs.Changes.{received}
use Rattle.rh_otp_controller.specs.Sending.{reply, send}
use Rattle.rh_otp_controller.specs.Starting.{lacks_running, lacks_started, spawned, spawn_starter, add_request, add_starting, reply_to_requester, end_starting, set_running, ends_node, outcome_of, started_by, has_started, is_permanent, replied, start_reply}
use Rattle.rh_otp_controller.specs.State.{ControllerView, TurnView}
use Rattle.rh_otp_crashes.proofs.Carrying.{letters}
use Rattle.rh_otp_starts.proofs.Requests.{its_reply}
use Rattle.rh_otp_starts.proofs.Turns.{IsSaid, sends, shows, Turn}
use Rattle.rh_otp_scripts.proofs.Words.{its_start, its_request, its_report, its_answer, own_news, HasAsked, Fits, asks, reports, answers, IsVoice, Next, over, goes, goes_telling}

-- ---- its turn

-- a controller before its turn, with this state
abbrev pub turn_with : ClusterView → OwnView → Here → ControllerView → TurnView
turn_with c own h x = record { cluster = c; own = own; here = h; state = x; out = [] }

-- What is said in the turn, and how the script goes on behind it.
pub record Heard (h : Here) (P : App → Type 0) (u : TurnView) : Type 0 where
  pub more : List Envelope
  pub turn : Turn h.node u more
  pub next : Next h P u.state more
  pub voices : All IsVoice more

-- it says nothing
silent : (h : Here) (P : App → Type 0) (u : TurnView) → u.out ≡ [] → Heard h P u
silent h P u none = record {
  more = [];
  turn = record { said = subst (All (IsSaid h.node)) (sym none) (All-nil (IsSaid h.node)); sent = ap letters none };
  next = over;
  voices = All-nil IsVoice;
}

-- it sends one message, by which the script goes on
says : (h : Here) (P : App → Type 0) (u : TurnView) (g : Envelope) → u.out ≡ output.Send g ∷ [] → Fits h P u.state g → IsVoice g
    → Heard h P u
says h P u g is fits voice = record {
  more = g ∷ [];
  turn = record {
    said = subst (All (IsSaid h.node)) (sym is) (All-cons (IsSaid h.node) (output.Send g) [] (sends g) (All-nil (IsSaid h.node)));
    sent = ap letters is;
  };
  next = goes g fits;
  voices = All-cons IsVoice g [] voice (All-nil IsVoice);
}

-- an observer sees a start before
shows_and_says : (h : Here) (P : App → Type 0) (u : TurnView) (a : App) (kind : StartType) (g : Envelope)
    → u.out ≡ output.Tell (event.Started a h.node kind) ∷ output.Send g ∷ [] → Fits h P u.state g → IsVoice g → Heard h P u
shows_and_says h P u a kind g is fits voice = record {
  more = g ∷ [];
  turn = record {
    said = subst (All (IsSaid h.node)) (sym is)
        (All-cons (IsSaid h.node) (output.Tell (event.Started a h.node kind)) (output.Send g ∷ []) (shows a kind)
        (All-cons (IsSaid h.node) (output.Send g) [] (sends g) (All-nil (IsSaid h.node))));
    sent = ap letters is;
  };
  next = goes g fits;
  voices = All-cons IsVoice g [] voice (All-nil IsVoice);
}

-- it answers, and its dist_ac is told
says_both : (h : Here) (P : App → Type 0) (u : TurnView) (o : Outcome) (a : App) (error : Option Dep)
    → u.out ≡ output.Send (its_answer h o) ∷ output.Send (own_news h a error) ∷ [] → u.state.start_req ≡ [] → Heard h P u
says_both h P u o a error is none = record {
  more = its_answer h o ∷ own_news h a error ∷ [];
  turn = record {
    said = subst (All (IsSaid h.node)) (sym is)
        (All-cons (IsSaid h.node) (output.Send (its_answer h o)) (output.Send (own_news h a error) ∷ []) (sends (its_answer h o))
        (All-cons (IsSaid h.node) (output.Send (own_news h a error)) [] (sends (own_news h a error)) (All-nil (IsSaid h.node))));
    sent = ap letters is;
  };
  next = goes_telling o a error none;
  voices = All-cons IsVoice (its_answer h o) (own_news h a error ∷ []) refl
      (All-cons IsVoice (own_news h a error) [] refl (All-nil IsVoice));
}

-- ---- a start

-- the starter reports, where the script alone has asked for the application
spawns : (P : App → Type 0) (a : App) (kind : StartType) (error : Option Dep) (t : TurnView) → t.out ≡ [] → HasAsked t.here a t.state
    → Heard t.here P (spawned a kind error t)
spawns P a kind None t none asked =
    shows_and_says t.here P (spawned a kind None t) a kind (its_report t.here a None)
    (ap (λ (out : List Output). (out ++ output.Tell (event.Started a t.here.node kind) ∷ []) ++ output.Send (its_report t.here a None) ∷ [])
    none)
    (reports a None asked) refl
spawns P a kind (Some d) t none asked =
    says t.here P (spawned a kind (Some d) t) (its_report t.here a (Some d))
    (ap (λ (out : List Output). out ++ output.Send (its_report t.here a (Some d)) ∷ []) none) (reports a (Some d) asked) refl

-- with these requests
abbrev requested_by : List (App × Option Process) → ControllerView → ControllerView
requested_by rows x = record x { start_req = rows }

-- ---- the script asks for a start

starts_so : (P : App → Type 0) (c : ClusterView) (own : OwnView) (h : Here) (x : ControllerView) (a : App) (restart : Restart) → P a
    → Heard h P (received (message.Start a restart (process_at h role.Boot)) (turn_with c own h (requested_by [] x)))
unfolding received start spawn_starter
starts_so P c own h x a restart booted = ended x.is_ending
  where
    p : Process
    p = process_at h role.Boot

    y : ControllerView
    y = requested_by [] x

    t : TurnView
    t = turn_with c own h y

    waiting : TurnView
    waiting = record t { state = record y { start_p_false = (a, restart) ∷ y.start_p_false } }

    asked : TurnView → TurnView
    asked u = add_request a (Some p) (add_starting a (Some restart) Normal u)

    begun : (error : Option Dep) → Heard h P (asked (spawned a Normal error t))
    begun None = shows_and_says h P (asked (spawned a Normal None t)) a Normal (its_report h a None) refl (reports a None refl) refl
    begun (Some d) = says h P (asked (spawned a Normal (Some d) t)) (its_report h a (Some d)) refl (reports a (Some d) refl) refl

    control_it : (b : Bool)
        → Heard h P (asked (cond b (cond b (send (process_at h role.DistAc) (message.StartRequest a) t) t)
        (spawned a Normal (lacks_running t a) t)))
    control_it true =
        says h P (asked (send (process_at h role.DistAc) (message.StartRequest a) t)) (its_request h a) refl
        (asks a booted refl) refl
    control_it false = begun (lacks_running t a)

    here : (b d : Bool)
        → Heard h P (cond b (reply p Done waiting) (asked (cond d (cond d (send (process_at h role.DistAc) (message.StartRequest a) t) t)
        (spawned a Normal (lacks_running t a) t))))
    here true d = says h P (reply p Done waiting) (its_answer h Done) refl (answers Done refl) refl
    here false d = control_it d

    lacks : (o : Option Dep) → Heard h P (start_unless a restart p o t)
    lacks (Some d) =
        says h P (reply p (Failed (NeedsStarted d)) t) (its_answer h (Failed (NeedsStarted d))) refl
        (answers (Failed (NeedsStarted d)) refl) refl
    lacks None =
        here (not (controls own a) && is_forbidden (keyfind a y.permissions)) (controls own a)

    idle : (b : Bool)
        → Heard h P (cond b (reply p (Failed (AlreadyStarted a)) t) (start_unless a restart p (lacks_started t a) t))
    idle true =
        says h P (reply p (Failed (AlreadyStarted a)) t) (its_answer h (Failed (AlreadyStarted a))) refl
        (answers (Failed (AlreadyStarted a)) refl) refl
    idle false = lacks (lacks_started t a)

    ended : (b : Bool) → Heard h P (cond b t (start a restart p t))
    ended true = silent h P t refl
    ended false = idle (has_row a y.running)

-- ---- its dist_ac, or the starter, tells it what comes of it

-- the script alone has asked for it
abbrev one_asked : Here → App → ControllerView → ControllerView
one_asked h a x = requested_by ((a, Some (process_at h role.Boot)) ∷ []) x

-- so the script is answered, and nobody waits any more
abbrev pub answered_so : Outcome → TurnView → TurnView
answered_so o t = record t { state = requested_by [] t.state; out = t.out ++ output.Send (its_answer t.here o) ∷ [] }

pub answers_it : (a : App) (o : Outcome) (c : ClusterView) (own : OwnView) (h : Here) (x : ControllerView)
    → reply_to_requester a o (turn_with c own h (one_asked h a x)) ≡ answered_so o (turn_with c own h (one_asked h a x))
unfolding reply_to_requester
answers_it a o c own h x =
    let p : Process = process_at h role.Boot in
    let t : TurnView = turn_with c own h (one_asked h a x) in
    ap (λ (b : Bool). record (cond b (reply p o t) t) {
      state = record (cond b (reply p o t) t).state { start_req = cond (not b) ((a, Some p) ∷ []) [] };
    }) (eq-eqb a.0 a.0 refl)

replies_so : (P : App → Type 0) (c : ClusterView) (own : OwnView) (h : Here) (x : ControllerView) (a : App) (r : Reply)
    → Heard h P (received (message.Reply a r) (turn_with c own h (one_asked h a x)))
unfolding received start_reply spawn_starter has_started
replies_so P c own h x a r = ended x.is_ending
  where
    t : TurnView
    t = turn_with c own h (one_asked h a x)

    elsewhere : (m : Node) (o : Option Starting) → Heard h P (started_by a (place_of.At m) None o (answered_so Done t))
    elsewhere m None = says h P (answered_so Done t) (its_answer h Done) refl (answers Done refl) refl
    elsewhere m (Some row) =
        says h P (set_running a (place_of.At m) row.restart (end_starting a (answered_so Done t))) (its_answer h Done) refl
        (answers Done refl) refl

    fails : (b : Bool) (fault : Fault) (u : TurnView) → u.out ≡ output.Send (its_answer h (Failed fault)) ∷ [] → u.state.start_req ≡ []
        → Heard h P (cond b (record u { state = record u.state { is_ending = true } }) (end_starting a u))
    fails true fault u is none =
        says h P (record u { state = record u.state { is_ending = true } }) (its_answer h (Failed fault)) is
        (answers (Failed fault) none) refl
    fails false fault u is none = says h P (end_starting a u) (its_answer h (Failed fault)) is (answers (Failed fault) none) refl

    by : (y : Reply) (row : Starting) → Heard h P (replied a y (Some row) t)
    by reply_of.StartIt row = spawns P a row.kind (lacks_running t a) t refl refl
    by (reply_of.Started m) row =
        subst (λ (u : TurnView). Heard h P (started_by a (place_of.At m) None (keyfind a u.state.starting) u))
        (sym (answers_it a Done c own h x))
        (elsewhere m (keyfind a x.starting))
    by reply_of.NotStarted row =
        subst (λ (u : TurnView). Heard h P (record (end_starting a u) {
          state = record (end_starting a u).state { started = (a, row.restart) ∷ (end_starting a u).state.started };
        })) (sym (answers_it a Done c own h x))
        (says h P (record (end_starting a (answered_so Done t)) {
          state = record (end_starting a (answered_so Done t)).state
              { started = (a, row.restart) ∷ (end_starting a (answered_so Done t)).state.started };
        }) (its_answer h Done) refl (answers Done refl) refl)
    by (reply_of.Takeover m) row =
        let u : TurnView = add_starting a row.restart (Takeover m) (end_starting a t) in
        spawns P a (Takeover m) (lacks_running u a) u refl refl
    by (reply_of.Error fault) row =
        subst (λ (u : TurnView). Heard h P (cond (is_permanent row.restart) (record u { state = record u.state { is_ending = true } })
        (end_starting a u))) (sym (answers_it a (Failed fault) c own h x))
        (fails (is_permanent row.restart) fault (answered_so (Failed fault) t) refl refl)

    found : (o : Option Starting) → Heard h P (replied a r o t)
    found None = silent h P t refl
    found (Some row) = by r row

    ended : (b : Bool) → Heard h P (cond b t (start_reply a r t))
    ended true = silent h P t refl
    ended false = found (keyfind a x.starting)

reports_so : (P : App → Type 0) (c : ClusterView) (own : OwnView) (h : Here) (x : ControllerView) (a : App) (error : Option Dep)
    → Heard h P (received (message.ApplicationStarted a error) (turn_with c own h (one_asked h a x)))
unfolding received has_started
reports_so P c own h x a error = ended x.is_ending
  where
    t : TurnView
    t = turn_with c own h (one_asked h a x)

    by : (e : Option Dep) (o : Option Starting) → Heard h P (started_by a place_of.Here e o (answered_so (outcome_of e) t))
    by e None = says h P (answered_so (outcome_of e) t) (its_answer h (outcome_of e)) refl (answers (outcome_of e) refl) refl
    by None (Some row) = at (controls own a)
      where
        u : TurnView
        u = end_starting a (answered_so Done t)

        at : (b : Bool)
            → Heard h P (set_running a place_of.Here row.restart (cond b (send (process_at h role.DistAc) (message.Run a None) u) u))
        at true =
            says_both h P (set_running a place_of.Here row.restart (send (process_at h role.DistAc) (message.Run a None) u)) Done a None
            refl refl
        at false = says h P (set_running a place_of.Here row.restart u) (its_answer h Done) refl (answers Done refl) refl
    by (Some d) (Some row) = at (controls own a)
      where
        u : TurnView
        u = end_starting a (answered_so (outcome_of (Some d)) t)

        last : TurnView → TurnView
        last told = record told { state = record told.state { is_ending = ends_node row.restart } }

        at : (b : Bool) → Heard h P (last (cond b (send (process_at h role.DistAc) (message.Run a (Some d)) u) u))
        at true =
            says_both h P (last (send (process_at h role.DistAc) (message.Run a (Some d)) u)) (outcome_of (Some d)) a (Some d) refl refl
        at false = says h P (last u) (its_answer h (outcome_of (Some d))) refl (answers (outcome_of (Some d)) refl) refl

    ended : (b : Bool) → Heard h P (cond b t (has_started a place_of.Here error t))
    ended true = silent h P t refl
    ended false =
        subst (λ (u : TurnView). Heard h P (started_by a place_of.Here error (keyfind a u.state.starting) u))
        (sym (answers_it a (outcome_of error) c own h x)) (by error (keyfind a x.starting))

-- ---- whatever it is told

-- the controller as it is
abbrev IsHeard : (App → Type 0) → ClusterView → OwnView → Here → ControllerView → Envelope → Type 0
IsHeard P c own h x g = Heard h P (received g.message (turn_with c own h x))

none_asked : (x : ControllerView) → x.start_req ≡ [] → requested_by [] x ≡ x
none_asked x is = λ i. record x { start_req = sym is i }

asked_it : (h : Here) (a : App) (x : ControllerView) → HasAsked h a x → one_asked h a x ≡ x
asked_it h a x is = λ i. record x { start_req = sym is i }

pub hears_start : (P : App → Type 0) (c : ClusterView) (own : OwnView) (h : Here) (x : ControllerView) (a : App) (restart : Restart) → P a
    → x.start_req ≡ [] → IsHeard P c own h x (its_start h a restart)
hears_start P c own h x a restart booted none =
    subst (λ (y : ControllerView). IsHeard P c own h y (its_start h a restart)) (none_asked x none) (starts_so P c own h x a restart booted)

pub hears_reply : (P : App → Type 0) (c : ClusterView) (own : OwnView) (h : Here) (x : ControllerView) (a : App) (r : Reply)
    → HasAsked h a x
    → IsHeard P c own h x (its_reply h a r)
hears_reply P c own h x a r asked =
    subst (λ (y : ControllerView). IsHeard P c own h y (its_reply h a r)) (asked_it h a x asked) (replies_so P c own h x a r)

pub hears_report : (P : App → Type 0) (c : ClusterView) (own : OwnView) (h : Here) (x : ControllerView) (a : App) (error : Option Dep)
    → HasAsked h a x
    → IsHeard P c own h x (its_report h a error)
hears_report P c own h x a error asked =
    subst (λ (y : ControllerView). IsHeard P c own h y (its_report h a error)) (asked_it h a x asked) (reports_so P c own h x a error)
