-- The node's controller is told to take an application over: it starts it, whatever comes of that, and tells dist_ac.
use Rattle.std.proofs.Common.{◌≡◌, ◌⊎◌, ◌||◌, ◌==◌, ℕ, Bool, true, false, cond, List, [], ◌∷◌, Option, Some, None, is_some, refl, sym, ap, subst, ◌∙◌, inl, inr}
use Rattle.std.specs.Prelude.{All}
use Rattle.std.proofs.lemmas.Bool.{cases_Bool}
use Rattle.std.proofs.lemmas.List.Elements.{All-nil, All-cons}
use Rattle.rh_model.specs.declared.node.App.{App}
use Rattle.rh_model.specs.declared.node.Node.{Node}
use Rattle.rh_model.specs.declared.settings.Dep.{Dep}
use Rattle.rh_model.specs.declared.settings.Restart.{Restart}
use Rattle.rh_otp_model.specs.declared.message.Change.{Change}
use Rattle.rh_otp_model.specs.declared.message.Change.TheVariants as change_of
use Rattle.rh_otp_model.specs.declared.message.Message.{Message}
use Rattle.rh_otp_model.specs.declared.message.Message.TheVariants as message
use Rattle.rh_otp_model.specs.declared.output.Envelope.{Envelope}
use Rattle.rh_otp_model.specs.declared.output.Event.TheVariants as event
use Rattle.rh_otp_model.specs.declared.output.Output.{Output}
use Rattle.rh_otp_model.specs.declared.output.Output.TheVariants as output
use Rattle.rh_otp_model.specs.declared.process.Here.{Here}
use Rattle.rh_otp_model.specs.declared.process.Process.{Process}
use Rattle.rh_otp_model.specs.declared.process.Role.TheVariants as role
use Rattle.rh_otp_model.specs.declared.process.StartType.{StartType}
use Rattle.rh_otp_model.specs.declared.process.StartType.TheVariants.{Takeover}
use Rattle.rh_otp_model.specs.Own.{controls}
use Rattle.rh_otp_model.specs.Processes.{process_at}
use Rattle.rh_otp_model.specs.Rows.{keyfind, has_row, without_rows}
use Rattle.rh_otp_controller.specs.declared.state.Place.{Place}
use Rattle.rh_otp_controller.specs.declared.state.Place.TheVariants as place_of
use Rattle.rh_otp_controller.specs.declared.state.Starting.{Starting}
use Rattle.rh_otp_controller.specs.Changes.{kept_restart, do_start, change_running, change_idle, changed, change, received}
use Rattle.rh_otp_controller.specs.Sending.{send}
use Rattle.rh_otp_controller.specs.Starting.{lacks_running, spawn_starter, spawned, add_starting, add_request, set_running, end_starting, ends_node, outcome_of, reply_each, with_requests, reply_to_requester, started_by, has_started}
use Rattle.rh_otp_controller.specs.State.{TurnView as ControllerTurn}
use Rattle.rh_otp_net.specs.Links.{are_linked}
use Rattle.rh_otp_system.specs.declared.calls.Call.{Call}
use Rattle.rh_otp_system.specs.Delivering.{arrived}
use Rattle.rh_otp_system.specs.State.{SystemView, is_alive_at}
use Rattle.rh_otp_orders.specs.Confluence.{IsOrderly}
use Rattle.rh_otp_crashes.proofs.Carrying.{letters}
use Rattle.rh_otp_crashes.proofs.Peace.{here_in, without, arrives_dead}
use Rattle.rh_otp_stops.proofs.Stop.{turn_at}
use Rattle.rh_otp_starts.proofs.Saying.{fresh, it_started, none_replied, found_first}
use Rattle.rh_otp_starts.proofs.Turns.{IsSaid, sends, shows, Turn, controller_of}
use Rattle.rh_otp_begins.proofs.Running.{own_news}
use Rattle.rh_otp_takeovers.proofs.Holding.{Holds, left_of, first_orderly, quiet_orderly, takes_turn, Behind}
use Rattle.rh_otp_takeovers.proofs.Taking.{its_change, IsTaking}

-- ---- its controller is told

-- dist_ac is told that it runs, or what it lacks
abbrev it_runs : Here → Call → Option Dep → Envelope
it_runs h c error = record { from = process_at h role.Controller; to = process_at h role.DistAc; message = message.Run c.app error }

-- behind the starter's report: dist_ac is told, where it controls the application
abbrev Reports : Call → Option Dep → ControllerTurn → Type 0
Reports c error t =
    Turn t.here.node (received (message.ApplicationStarted c.app error) (fresh t)) (it_runs t.here c error ∷ [])
    ⊎ Turn t.here.node (received (message.ApplicationStarted c.app error) (fresh t)) []

-- it does nothing; or tells dist_ac that it runs there; or starts it, whatever comes of that
data Says (c : Call) (t u : ControllerTurn) : Type 0 where
  silent : Turn t.here.node u [] → Says c t u
  runs : Turn t.here.node u (it_runs t.here c None ∷ []) → Says c t u
  starts : (error : Option Dep) → Turn t.here.node u (it_started t.here c error ∷ [])
      → Reports c error (record t { state = u.state }) → Says c t u

-- it has sent and shown nothing
none_said : (t : ControllerTurn) → Turn t.here.node (fresh t) []
none_said t = record { said = All-nil (IsSaid t.here.node); sent = refl }

-- it has sent this alone
one_said : (n : Node) (e : Envelope) → All (IsSaid n) (output.Send e ∷ [])
one_said n e = All-cons (IsSaid n) (output.Send e) [] (sends e) (All-nil (IsSaid n))

-- both ways come to the same
either : {A : Type 0} (b : Bool) (x : A) → cond b x x ≡ x
either true x = refl
either false x = refl

-- whatever the report says, dist_ac is told it where it controls the application
reports : (c : Call) (error : Option Dep) (row : Starting) (rows : List (App × Option Process)) (t : ControllerTurn)
    → t.state.is_ending ≡ false → t.state.start_req ≡ (c.app, None) ∷ rows → has_row c.app rows ≡ false
    → keyfind c.app t.state.starting ≡ Some row → Reports c error t
unfolding received has_started reply_to_requester
reports c error row rows t not_ending requests nobody found = by error (controls t.own c.app) refl
  where
    a : App
    a = c.app

    left : List (App × Option Process)
    left = without_rows a ((a, None) ∷ rows)

    told : ControllerTurn
    told = with_requests left (fresh t)

    -- nobody has to be told
    so : (e : Option Dep) → received (message.ApplicationStarted a e) (fresh t) ≡ started_by a place_of.Here e (Some row) told
    so e =
        ap (λ (b : Bool). cond b (fresh t) (has_started a place_of.Here e (fresh t))) not_ending
        ∙ ap (λ (l : List (App × Option Process)).
        started_over (with_requests (without_rows a l) (reply_each a (outcome_of e) l (fresh t)))) requests
        ∙ ap (λ (u : ControllerTurn). started_over (with_requests left (reply_each a (outcome_of e) rows u)))
        (either (a.0 == a.0) (fresh t))
        ∙ ap (λ (u : ControllerTurn). started_over (with_requests left u)) (none_replied a (outcome_of e) rows (fresh t) nobody)
        ∙ ap (λ (o : Option Starting). started_by a place_of.Here e o told) found
      where
        started_over : ControllerTurn → ControllerTurn
        started_over u = started_by a place_of.Here e (keyfind a u.state.starting) u

    last : ControllerTurn
    last = end_starting a told

    sent : Option Dep → ControllerTurn
    sent e = send (process_at t.here role.DistAc) (message.Run a e) last

    Said : Option Dep → ControllerTurn → Type 0
    Said e u = Turn t.here.node u (it_runs t.here c e ∷ []) ⊎ Turn t.here.node u []

    over : Option Dep → ControllerTurn → ControllerTurn
    over None u = set_running a place_of.Here row.restart u
    over (Some d) u = record u { state = record u.state { is_ending = ends_node row.restart } }

    as_over : (e : Option Dep) (b : Bool) → controls t.own a ≡ b
        → received (message.ApplicationStarted a e) (fresh t) ≡ over e (cond b (sent e) last)
    as_over None b is = so None ∙ ap (λ (x : Bool). over None (cond x (sent None) last)) is
    as_over (Some d) b is = so (Some d) ∙ ap (λ (x : Bool). over (Some d) (cond x (sent (Some d)) last)) is

    by : (e : Option Dep) (b : Bool) → controls t.own a ≡ b → Said e (received (message.ApplicationStarted a e) (fresh t))
    by None true is = inl (subst (λ (u : ControllerTurn). Turn t.here.node u (it_runs t.here c None ∷ [])) (sym (as_over None true is))
        (record { said = one_said t.here.node (it_runs t.here c None); sent = refl }))
    by None false is = inr (subst (λ (u : ControllerTurn). Turn t.here.node u []) (sym (as_over None false is))
        (record { said = All-nil (IsSaid t.here.node); sent = refl }))
    by (Some d) true is = inl (subst (λ (u : ControllerTurn). Turn t.here.node u (it_runs t.here c (Some d) ∷ []))
        (sym (as_over (Some d) true is)) (record { said = one_said t.here.node (it_runs t.here c (Some d)); sent = refl }))
    by (Some d) false is = inr (subst (λ (u : ControllerTurn). Turn t.here.node u []) (sym (as_over (Some d) false is))
        (record { said = All-nil (IsSaid t.here.node); sent = refl }))

-- it starts it, unless somebody has asked for that
starts_it : (c : Call) (restart : Restart) (m : Node) (t : ControllerTurn) → t.state.is_ending ≡ false
    → Says c t (do_start c.app (Some restart) (Takeover m) (fresh t))
unfolding do_start spawn_starter
starts_it c restart m t not_ending = asked (has_row a t.state.start_req) refl
  where
    a : App
    a = c.app

    kind : StartType
    kind = Takeover m

    n : Node
    n = t.here.node

    told : Option Dep → ControllerTurn
    told e = spawned a kind e (fresh t)

    row : Starting
    row = record { restart = kept_restart (Some restart) (keyfind a t.state.started); kind = kind }

    said : (e : Option Dep) (u : ControllerTurn) → u.out ≡ (told e).out → Turn n (add_request a None u) (it_started t.here c e ∷ [])
    said None u is =
        let seen : Output = output.Tell (event.Started a n kind) in
        let report : Envelope = it_started t.here c None in
        record {
          said = subst (All (IsSaid n)) (sym is) (All-cons (IsSaid n) seen (output.Send report ∷ []) (shows a kind) (one_said n report));
          sent = ap letters is;
        }
    said (Some d) u is = record { said = subst (All (IsSaid n)) (sym is) (one_said n (it_started t.here c (Some d))); sent = ap letters is }

    -- the rest is as it was
    kept : (e : Option Dep) → ((told e).state.is_ending ≡ t.state.is_ending) × ((told e).state.start_req ≡ t.state.start_req)
    kept None = (refl, refl)
    kept (Some d) = (refl, refl)

    begins : (e : Option Dep) (o : Option Starting) → keyfind a (told e).state.starting ≡ o → has_row a t.state.start_req ≡ false
        → Says c t (add_request a None (cond (is_some o) (told e) (add_starting a row.restart kind (told e))))
    begins e (Some first) is nobody =
        starts e (said e (told e) refl)
        (reports c e first (told e).state.start_req (record t { state = (add_request a None (told e)).state })
        ((kept e).0 ∙ not_ending) refl (ap (has_row a) (kept e).1 ∙ nobody) is)
    begins e None is nobody =
        let u : ControllerTurn = add_starting a row.restart kind (told e) in
        starts e (said e u refl)
        (reports c e row (told e).state.start_req (record t { state = (add_request a None u).state }) ((kept e).0 ∙ not_ending) refl
        (ap (has_row a) (kept e).1 ∙ nobody) (found_first a row (told e).state.starting))

    asked : (b : Bool) → has_row a t.state.start_req ≡ b
        → Says c t (cond b (fresh t) (let e : Option Dep = lacks_running (fresh t) a in
        add_request a None (cond (is_some (keyfind a (told e).state.starting)) (told e) (add_starting a row.restart kind (told e)))))
    asked true is = silent (none_said t)
    asked false is = begins (lacks_running (fresh t) a) (keyfind a (told (lacks_running (fresh t) a)).state.starting) refl is

-- what it does where it is told, by what it runs and has started
says : (c : Call) (restart : Restart) (m : Node) (t : ControllerTurn)
    → Says c t (received (message.Change c.app (change_of.Takeover m (Some restart))) (fresh t))
unfolding received change
says c restart m t = by t.state.is_ending refl
  where
    a : App
    a = c.app

    what : Change
    what = change_of.Takeover m (Some restart)

    here : (b : Bool) → Says c t (cond b (send (process_at t.here role.DistAc) (message.Run a None) (fresh t)) (fresh t))
    here true = runs (record { said = one_said t.here.node (it_runs t.here c None); sent = refl })
    here false = silent (none_said t)

    started : (place : Place) (b : Bool) → t.state.is_ending ≡ false
        → Says c t (cond b (change_running a what place (fresh t)) (change_idle a what (fresh t)))
    started place false not_ending = silent (none_said t)
    started place_of.Here true not_ending = here (controls t.own a)
    started (place_of.At k) true not_ending = starts_it c restart m t not_ending
    started place_of.Nowhere true not_ending = starts_it c restart m t not_ending

    at : (o : Option Place) → t.state.is_ending ≡ false → Says c t (changed a what o (fresh t))
    at None not_ending = silent (none_said t)
    at (Some place) not_ending = started place (has_row a t.state.started) not_ending

    by : (b : Bool) → t.state.is_ending ≡ b → Says c t (cond b (fresh t) (change a what (fresh t)))
    by true is = silent (none_said t)
    by false is = at (keyfind a t.state.running) is

-- ---- what comes of it

-- a controller's turn is nothing to it
taking_on : {lives : Node → ℕ} {c : Call} {u : ControllerTurn} {l : List Envelope} (s t : SystemView) → IsTaking c s
    → Behind lives c u l t s → IsTaking c t
taking_on {c = c} s t f on = record {
  takeovers = λ d has. f.takeovers d (sym on.dist ∙ has);
  sees = λ d has k among up.
      ap (λ links. c.node.0 == k.0 || are_linked c.node k links) on.links ∙ f.sees d (sym on.dist ∙ has) k among (sym (on.awake k) ∙ up);
}

-- what it is told is orderly, where what its dist_ac makes of the start is
pub change_orderly : {lives : Node → ℕ} {c : Call} (restart : Restart) (m : Node) (s : SystemView)
    → Holds lives c true (its_change lives c restart m ∷ []) s → IsTaking c s
    → ((error : Option Dep) (t : SystemView) → Holds lives c true (own_news lives c error ∷ []) t → IsTaking c t → IsOrderly t)
    → IsOrderly s
change_orderly {lives} {c} restart m s f taking order =
    first_orderly e s f.waits.messages (by (cases_Bool (is_alive_at s n)) (says c restart m (turn_at s n)))
  where
    n : Node
    n = c.node

    e : Envelope
    e = its_change lives c restart m

    h : Here
    h = (turn_at s n).here

    same : h.life ≡ lives n
    same = f.waits.same_lives n

    u : ControllerTurn
    u = received e.message (turn_at s n)

    q : SystemView
    q = arrived e.to e.message (without s [])

    turns : {more : List Envelope} → is_alive_at s n ≡ true → Turn n u more → Behind lives c u more q s
    turns alive turned = takes_turn (lives n) e.message s f refl alive turned

    -- dist_ac is told
    running : (error : Option Dep) (x p : SystemView) (w : ControllerTurn) → IsTaking c x → Behind lives c w (it_runs h c error ∷ []) p x
        → IsOrderly p
    running error x p w g on = order error p
        (subst (λ (k : ℕ). Holds lives c true (it_runs (record { node = n; life = k }) c error ∷ []) p) same on.still) (taking_on x p g on)

    reporting : (error : Option Dep) → Behind lives c u (it_started h c error ∷ []) q s
        → Reports c error (record (turn_at s n) { state = u.state }) → IsOrderly q
    reporting error on rep = first_orderly (it_started (here_in lives n) c error) q g.waits.messages (told rep)
      where
        g : Holds lives c true (it_started (here_in lives n) c error ∷ []) q
        g = subst (λ (k : ℕ). Holds lives c true (it_started (record { node = n; life = k }) c error ∷ []) q) same on.still

        x : Message
        x = message.ApplicationStarted c.app error

        p : SystemView
        p = arrived (controller_of n (lives n)) x (without q [])

        behind : {more : List Envelope} → Turn n (received x (record (turn_at s n) { state = u.state })) more
            → Behind lives c (received x (turn_at q n)) more p q
        behind {more} turned =
            takes_turn (lives n) x q g refl on.alive
            (subst (λ (y : ControllerTurn). Turn n (received x y) more) (sym on.turn) turned)

        told : Reports c error (record (turn_at s n) { state = u.state }) → IsOrderly p
        told (inl turned) = running error q p (received x (turn_at q n)) (taking_on s q taking on) (behind turned)
        told (inr turned) = quiet_orderly p (behind turned).still

    by : (is_alive_at s n ≡ true) ⊎ (is_alive_at s n ≡ false) → Says c (turn_at s n) u → IsOrderly q
    by (inr dead) any = subst IsOrderly (sym (arrives_dead e.to e.message (without s []) dead)) (quiet_orderly (without s []) (left_of s f))
    by (inl alive) (silent turned) = quiet_orderly q (turns alive turned).still
    by (inl alive) (runs turned) = running None s q u taking (turns alive turned)
    by (inl alive) (starts error turned rep) = reporting error (turns alive turned) rep
