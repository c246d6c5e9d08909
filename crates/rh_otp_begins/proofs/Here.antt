-- A call that starts an application, where nodes were at rest and it is to start at the node itself.
use Rattle.std.proofs.Common.{◌≡◌, ◌⊎◌, ◌||◌, ◌==◌, ℕ, Bool, true, false, cond, List, [], ◌∷◌, Option, Some, None, refl, sym, ap, subst, ◌∙◌, inl, inr}
use Rattle.std.specs.Prelude.{All}
use Rattle.std.proofs.lemmas.Bool.{cases_Bool, eq-eqb}
use Rattle.std.proofs.lemmas.List.Elements.{All-nil, All-cons}
use Rattle.rh_model.specs.ClusterView.{ClusterView}
use Rattle.rh_model.specs.declared.node.App.{App}
use Rattle.rh_model.specs.declared.node.Node.{Node}
use Rattle.rh_model.specs.declared.settings.Dep.{Dep}
use Rattle.rh_otp_model.specs.declared.message.Message.TheVariants as message
use Rattle.rh_otp_model.specs.declared.message.Reply.{Reply}
use Rattle.rh_otp_model.specs.declared.message.Reply.TheVariants as reply
use Rattle.rh_otp_model.specs.declared.output.Envelope.{Envelope}
use Rattle.rh_otp_model.specs.declared.output.Event.TheVariants as event
use Rattle.rh_otp_model.specs.declared.output.Output.{Output}
use Rattle.rh_otp_model.specs.declared.output.Output.TheVariants as output
use Rattle.rh_otp_model.specs.declared.process.Here.{Here}
use Rattle.rh_otp_model.specs.declared.process.Process.{Process}
use Rattle.rh_otp_model.specs.declared.process.Role.TheVariants as role
use Rattle.rh_otp_model.specs.declared.process.StartType.TheVariants.{Takeover}
use Rattle.rh_otp_model.specs.Own.{OwnView, controls}
use Rattle.rh_otp_model.specs.Processes.{process_at}
use Rattle.rh_otp_model.specs.Rows.{has_row, keydelete, without, without_rows}
use Rattle.rh_otp_controller.specs.declared.state.Place.TheVariants as place_of
use Rattle.rh_otp_controller.specs.declared.state.Starting.{Starting}
use Rattle.rh_otp_controller.specs.Changes.{received}
use Rattle.rh_otp_controller.specs.Sending.{send}
use Rattle.rh_otp_controller.specs.Starting.{lacks_running, spawn_starter, spawned, set_running, end_starting, ends_node, outcome_of, replied, start_reply, started_by}
use Rattle.rh_otp_controller.specs.State.{ControllerView}
use Rattle.rh_otp_controller.specs.State.{TurnView as ControllerTurn}
use Rattle.rh_otp_dist.specs.declared.attempt.AskedBy.TheVariants as asked
use Rattle.rh_otp_dist.specs.declared.state.Stand.TheVariants.{ForStart}
use Rattle.rh_otp_dist.specs.declared.state.Standing.{Standing}
use Rattle.rh_otp_dist.specs.declared.state.Standing.TheVariants as standing
use Rattle.rh_otp_dist.specs.declared.verdict.Verdict.{Verdict}
use Rattle.rh_otp_dist.specs.declared.verdict.Verdict.TheVariants as verdict
use Rattle.rh_otp_dist.specs.Attempts.{finish, reply_of, runs_elsewhere, tell_controller}
use Rattle.rh_otp_dist.specs.Choosing.{places_of, candidates_of, remote, runs_at, is_node, is_to_start, start_here, start_distributed, verdict_here, wait}
use Rattle.rh_otp_dist.specs.Sending.{monitor}
use Rattle.rh_otp_dist.specs.State.{DistView, TurnView, standing_of, is_among}
use Rattle.rh_otp_dist.specs.Views.{AttemptView}
use Rattle.rh_otp_net.specs.Links.{are_linked}
use Rattle.rh_otp_system.specs.declared.calls.Ask.TheVariants as ask
use Rattle.rh_otp_system.specs.declared.calls.Call.{Call}
use Rattle.rh_otp_system.specs.Calling.{is_known}
use Rattle.rh_otp_system.specs.Calls.{process_of}
use Rattle.rh_otp_system.specs.Delivering.{arrived}
use Rattle.rh_otp_system.specs.Doing.{called, call_of}
use Rattle.rh_otp_system.specs.State.{SystemView, node_at, own_at, is_alive_at}
use Rattle.rh_otp_orders.specs.Confluence.{IsOrderly}
use Rattle.rh_otp_crashes.proofs.Peace.{here_in, without as without_messages}
use Rattle.rh_otp_crashes.proofs.Starting.{is_candidate}
use Rattle.rh_otp_crashes.proofs.Turning.{turn}
use Rattle.rh_otp_locks.proofs.Locks.{none_at_rest}
use Rattle.rh_otp_stops.specs.Stops.{EndsAlike}
use Rattle.rh_otp_stops.proofs.Saying.{its_answer}
use Rattle.rh_otp_stops.proofs.Stop.{turn_at}
use Rattle.rh_otp_stops.proofs.Words.{answer_of}
use Rattle.rh_otp_starts.specs.Elsewhere.{asked_attempt}
use Rattle.rh_otp_starts.proofs.Alone.{Waits, first_orderly, lost}
use Rattle.rh_otp_starts.proofs.Asking.{asks_start}
use Rattle.rh_otp_starts.proofs.Deciding.{Kept, Replied, asked_orderly}
use Rattle.rh_otp_starts.proofs.Requests.{Decided, asking, its_reply, starts_first, told_so}
use Rattle.rh_otp_starts.proofs.Saying.{fresh, it_started, asked_last, answered_first, found_first, reports_so}
use Rattle.rh_otp_starts.proofs.Start.{over_before, asked_so, command_alike, starts_alike}
use Rattle.rh_otp_starts.proofs.Turns.{IsSaid, sends, shows, Turn, Behind, quiet_orderly, takes_turn}
use Rattle.rh_otp_begins.specs.Here.{IsChosen, StartsHereEndAlike}
use Rattle.rh_otp_begins.proofs.Running.{IsNews, runs, answers, Running, own_news}
use Rattle.rh_otp_begins.proofs.Meeting.{orderly}

-- ---- the dist_ac chooses its own node

-- what its controller is told: to start it, or to take it over from the node that is known to run it
abbrev pub its_verdict : Option Node → Verdict
its_verdict None = verdict.StartIt
its_verdict (Some m) = verdict.Takeover m

-- however it stands
tells_start : (o : Option Node) (st : Standing) → verdict_here st asked.Controller o ≡ its_verdict o
tells_start None standing.Undefined = refl
tells_start None standing.RunWaiting = refl
tells_start None standing.Local = refl
tells_start None standing.Takeover = refl
tells_start None (standing.Failover m) = refl
tells_start None (standing.Distributed m) = refl
tells_start (Some k) standing.Undefined = refl
tells_start (Some k) standing.RunWaiting = refl
tells_start (Some k) standing.Local = refl
tells_start (Some k) standing.Takeover = refl
tells_start (Some k) (standing.Failover m) = refl
tells_start (Some k) (standing.Distributed m) = refl

pub starts_here : (a : App) (t : TurnView) → IsChosen t.own t.here.node a t.state
    → start_distributed (asked_attempt t.state a) t ≡ told_so a (reply_of (its_verdict (remote t.state a))) standing.RunWaiting t
unfolding is_to_start start_here finish
starts_here a t r =
    let n : Node = t.here.node in
    let attempt : AttemptView = asked_attempt t.state a in
    let st : Standing = standing_of t.state a in
    starts_first a n t (is_candidate n (candidates_of t.own attempt) (places_of t.own a) r.first) r.first
    ∙ ap (λ (b : Bool). cond b (runs_elsewhere attempt n t) (is_to_start attempt n t)) r.not_yet
    ∙ ap (λ (b : Bool). cond b (start_here attempt t) (cond (is_node n (runs_at st)) (runs_elsewhere attempt n t)
    (wait (ForStart attempt n) (monitor n t))))
    (eq-eqb n.0 n.0 refl)
    ∙ ap (λ (v : Verdict). finish attempt standing.RunWaiting true (tell_controller asked.Controller a v t))
    (tells_start (remote t.state a) st)

-- it tells its controller to start it, or to take it over
data IsYes : Reply → Type 0 where
  starts_it : IsYes reply.StartIt
  takes_over : (m : Node) → IsYes (reply.Takeover m)

is_yes : (o : Option Node) → IsYes (reply_of (its_verdict o))
is_yes None = starts_it
is_yes (Some m) = takes_over m

decides : (own : OwnView) (n : Node) (a : App) (d : DistView) → IsChosen own n a d → Decided IsYes own n a d
decides own n a d r = record {
  answer = reply_of (its_verdict (remote d a));
  is_so = is_yes (remote d a);
  standing = standing.RunWaiting;
  starts = λ (c : ClusterView) (life w : ℕ).
      starts_here a (asking w (turn c own n life d)) (record { first = r.first; not_yet = r.not_yet });
}

-- ---- its controller starts it

-- what its turn comes to: the application is being started so, or lacks something
record Spawns (c : Call) (r : Reply) (row : Starting) (rows : List (App × Option Process)) (starting : List (App × Starting))
    (t : ControllerTurn)
    : Type 0 where
  begun : Starting
  others : List (App × Starting)
  is : received (message.Reply c.app r) (fresh (record t { state = asked_last c row rows starting t.state }))
      ≡ spawned c.app begun.kind (lacks_running t c.app) (fresh (record t { state = asked_last c begun rows others t.state }))

spawns : (c : Call) (r : Reply) (row : Starting) (rows : List (App × Option Process)) (starting : List (App × Starting))
    (t : ControllerTurn)
    → IsYes r → t.state.is_ending ≡ false → Spawns c r row rows starting t
unfolding received start_reply spawn_starter
spawns c _ row rows starting t starts_it not_ending =
    let a : App = c.app in
    let first : ControllerTurn = fresh (record t { state = asked_last c row rows starting t.state }) in
    record {
      begun = row;
      others = starting;
      is = ap (λ (b : Bool). cond b first (start_reply a reply.StartIt first)) not_ending
          ∙ ap (λ (found : Option Starting). replied a reply.StartIt found first) (found_first a row starting);
    }
spawns c _ row rows starting t (takes_over m) not_ending =
    let a : App = c.app in
    let first : ControllerTurn = fresh (record t { state = asked_last c row rows starting t.state }) in
    record {
      begun = record { restart = row.restart; kind = Takeover m };
      others = keydelete a ((a, row) ∷ starting);
      is = ap (λ (b : Bool). cond b first (start_reply a (reply.Takeover m) first)) not_ending
          ∙ ap (λ (found : Option Starting). replied a (reply.Takeover m) found first) (found_first a row starting);
    }

-- an observer sees that, if it lacks nothing, and the starter reports
spawned_turn : (c : Call) (row : Starting) (error : Option Dep) (t : ControllerTurn)
    → Turn t.here.node (spawned c.app row.kind error (fresh t)) (it_started t.here c error ∷ [])
spawned_turn c row None t =
    let n : Node = t.here.node in
    let seen : Output = output.Tell (event.Started c.app n row.kind) in
    let e : Envelope = it_started t.here c None in
    record {
      said = All-cons (IsSaid n) seen (output.Send e ∷ []) (shows c.app row.kind)
          (All-cons (IsSaid n) (output.Send e) [] (sends e) (All-nil (IsSaid n)));
      sent = refl;
    }
spawned_turn c row (Some d) t =
    let n : Node = t.here.node in
    let e : Envelope = it_started t.here c (Some d) in
    record { said = All-cons (IsSaid n) (output.Send e) [] (sends e) (All-nil (IsSaid n)); sent = refl }

-- behind it
abbrev begun_by : App → Option Dep → ControllerView → ControllerView
begun_by a None x = record x { ended = without a x.ended }
begun_by a (Some d) x = x

begun_so : (c : Call) (row begun : Starting) (error : Option Dep) (rows : List (App × Option Process)) (others : List (App × Starting))
    (t : ControllerTurn)
    → (spawned c.app row.kind error (fresh (record t { state = asked_last c begun rows others t.state }))).state
    ≡ asked_last c begun rows others (begun_by c.app error t.state)
begun_so c row begun None rows others t = refl
begun_so c row begun (Some d) rows others t = refl

-- as it was before, but for that
begun_ending : (a : App) (error : Option Dep) (x : ControllerView) → (begun_by a error x).is_ending ≡ x.is_ending
begun_ending a None x = refl
begun_ending a (Some d) x = refl

begun_requests : (a : App) (error : Option Dep) (x : ControllerView) → (begun_by a error x).start_req ≡ x.start_req
begun_requests a None x = refl
begun_requests a (Some d) x = refl

-- the dist_ac is told that it runs, or what it lacks
abbrev it_runs : Here → Call → Option Dep → Envelope
it_runs h c error = record { from = process_at h role.Controller; to = process_at h role.DistAc; message = message.Run c.app error }

-- the caller is answered, and then the dist_ac is told; where it lacks something the node may have to end
abbrev told_then : Call → Starting → Option Dep → ControllerTurn → ControllerTurn
told_then c row None t = set_running c.app place_of.Here row.restart t
told_then c row (Some d) t = record t { state = record t.state { is_ending = ends_node row.restart } }

abbrev told_both : Call → Starting → Option Dep → List (App × Option Process) → ControllerTurn → ControllerTurn
told_both c row error rows t = told_then c row error
    (send (process_at t.here role.DistAc) (message.Run c.app error) (end_starting c.app (answered_first c (outcome_of error) rows t)))

reports : (c : Call) (row : Starting) (error : Option Dep) (rows : List (App × Option Process)) (starting : List (App × Starting))
    (t : ControllerTurn) → controls t.own c.app ≡ true → t.state.is_ending ≡ false → has_row c.app rows ≡ false
    → received (message.ApplicationStarted c.app error) (fresh (record t { state = asked_last c row rows starting t.state }))
    ≡ told_both c row error (without_rows c.app ((c.app, Some (process_of c)) ∷ rows))
    (fresh (record t { state = asked_last c row rows starting t.state }))
reports c row error rows starting t controlled not_ending nobody = reports_so c row error rows starting t not_ending nobody ∙ by error
  where
    a : App
    a = c.app

    last : Option Dep → ControllerTurn
    last e = end_starting a (answered_first c (outcome_of e) (without_rows a ((a, Some (process_of c)) ∷ rows))
        (fresh (record t { state = asked_last c row rows starting t.state })))

    by : (e : Option Dep)
        → started_by a place_of.Here e (Some row) (answered_first c (outcome_of e) (without_rows a ((a, Some (process_of c)) ∷ rows))
        (fresh (record t { state = asked_last c row rows starting t.state })))
        ≡ told_both c row e (without_rows a ((a, Some (process_of c)) ∷ rows))
        (fresh (record t { state = asked_last c row rows starting t.state }))
    by None =
        ap (λ (b : Bool). told_then c row None
        (cond b (send (process_at t.here role.DistAc) (message.Run a None) (last None)) (last None))) controlled
    by (Some d) =
        ap (λ (b : Bool). told_then c row (Some d)
        (cond b (send (process_at t.here role.DistAc) (message.Run a (Some d)) (last (Some d))) (last (Some d)))) controlled

both_turn : (c : Call) (row : Starting) (error : Option Dep) (rows : List (App × Option Process)) (t : ControllerTurn)
    → Turn t.here.node (told_both c row error rows (fresh t)) (its_answer t.here c (outcome_of error) ∷ it_runs t.here c error ∷ [])
both_turn c row error rows t = by error
  where
    n : Node
    n = t.here.node

    both : (e : Option Dep) → All (IsSaid n) (output.Send (its_answer t.here c (outcome_of e)) ∷ output.Send (it_runs t.here c e) ∷ [])
    both e =
        All-cons (IsSaid n) (output.Send (its_answer t.here c (outcome_of e))) (output.Send (it_runs t.here c e) ∷ [])
        (sends (its_answer t.here c (outcome_of e)))
        (All-cons (IsSaid n) (output.Send (it_runs t.here c e)) [] (sends (it_runs t.here c e)) (All-nil (IsSaid n)))

    by : (e : Option Dep)
        → Turn n (told_both c row e rows (fresh t)) (its_answer t.here c (outcome_of e) ∷ it_runs t.here c e ∷ [])
    by None = record { said = both None; sent = refl }
    by (Some d) = record { said = both (Some d); sent = refl }

-- ---- what is on its way then

known_so : (error : Option Dep) → is_known (outcome_of error) ≡ false
known_so None = refl
known_so (Some d) = refl

is_running : {lives : Node → ℕ} {c : Call} {error : Option Dep} (s : SystemView)
    → Waits lives c true (answer_of lives c (outcome_of error) ∷ own_news lives c error ∷ []) s
    → ((d : DistView) → (node_at s c.node).dist ≡ Some d → d.t_reqs ≡ [])
    → ((d : DistView) → (node_at s c.node).dist ≡ Some d → (m : Node) → is_among m d.known ≡ true → is_alive_at s m ≡ true
    → (c.node.0 == m.0 || are_linked c.node m s.links) ≡ true)
    → Running lives c error s
is_running {lives} {c} {error} s f takeovers sees = record {
  still = subst (λ (l : List Envelope). Waits lives c true l s) (sym f.messages) f;
  kinds = subst (All (IsNews lives c error)) (sym f.messages)
      (All-cons (IsNews lives c error) (answer_of lives c (outcome_of error)) (own_news lives c error ∷ [])
      (answers (outcome_of error) (known_so error))
      (All-cons (IsNews lives c error) (own_news lives c error) [] runs (All-nil (IsNews lives c error))));
  takeovers = takeovers;
  sees = sees;
}

-- ---- the law

-- what is so of the node before the call
record CanStart (c : Call) (s : SystemView) : Type 0 where
  listed : controls (turn_at s c.node).own c.app ≡ true
  takeovers : (d : DistView) → (node_at s c.node).dist ≡ Some d → d.t_reqs ≡ []
  sees : (d : DistView) → (node_at s c.node).dist ≡ Some d → (m : Node) → is_among m d.known ≡ true → is_alive_at s m ≡ true
      → (c.node.0 == m.0 || are_linked c.node m s.links) ≡ true

told_yes : {lives : Node → ℕ} {c : Call} (r : Reply) (s t : SystemView) → IsYes r → CanStart c s → Replied lives c r s t → IsOrderly t
told_yes {lives} {c} r s t kind can f = first_orderly e t f.still (by (cases_Bool (is_alive_at t n)))
  where
    n : Node
    n = c.node

    e : Envelope
    e = its_reply (here_in lives n) c.app r

    x : ControllerView
    x = (node_at s n).controller

    h : Here
    h = (turn_at s n).here

    same : h.life ≡ lives n
    same = sym (ap (λ (z : ControllerTurn). z.here.life) f.turn) ∙ f.still.same_lives n

    u : ControllerTurn
    u = received e.message (turn_at t n)

    error : Option Dep
    error = lacks_running (turn_at s n) c.app

    y : ControllerView
    y = begun_by c.app error x

    spawn : Spawns c r f.row x.start_req x.starting (turn_at s n)
    spawn = spawns c r f.row x.start_req x.starting (turn_at s n) kind f.not_ending

    first : ControllerTurn
    first = record (turn_at s n) { state = asked_last c spawn.begun x.start_req spawn.others x }

    is_u : u ≡ spawned c.app spawn.begun.kind error first
    is_u = ap (received e.message) f.turn ∙ spawn.is

    q : SystemView
    q = arrived e.to e.message (without_messages t [])

    begun : Behind lives c u (it_started h c error ∷ []) q t → IsOrderly q
    begun on = first_orderly (it_started (here_in lives n) c error) q g over
      where
        g : Waits lives c true (it_started (here_in lives n) c error ∷ []) q
        g = subst (λ (k : ℕ). Waits lives c true (it_started (record { node = n; life = k }) c error ∷ []) q) same on.still

        waiting : ControllerTurn
        waiting = record (turn_at s n) { state = asked_last c spawn.begun x.start_req spawn.others y }

        turn_q : turn_at q n ≡ waiting
        turn_q =
            on.turn ∙ (λ i. record (f.turn i) { state = (is_u i).state })
            ∙ (λ i. record (turn_at s n) {
              state = begun_so c spawn.begun spawn.begun error x.start_req spawn.others (turn_at s n) i;
            })

        left : List (App × Option Process)
        left = without_rows c.app ((c.app, Some (process_of c)) ∷ x.start_req)

        v : ControllerTurn
        v = received (message.ApplicationStarted c.app error) (turn_at q n)

        is_v : v ≡ told_both c spawn.begun error left waiting
        is_v =
            ap (received (message.ApplicationStarted c.app error)) turn_q
            ∙ reports c spawn.begun error x.start_req spawn.others (record (turn_at s n) { state = y }) can.listed
            (begun_ending c.app error x ∙ f.not_ending) f.nobody

        w : SystemView
        w = arrived (it_started (here_in lives n) c error).to (message.ApplicationStarted c.app error) (without_messages q [])

        last : Behind lives c v (its_answer h c (outcome_of error) ∷ it_runs h c error ∷ []) w q
        last = takes_turn (lives n) (message.ApplicationStarted c.app error) q g refl on.alive
            (subst (λ (z : ControllerTurn). Turn n z (its_answer h c (outcome_of error) ∷ it_runs h c error ∷ [])) (sym is_v)
            (both_turn c spawn.begun error left waiting))

        still : Waits lives c true (answer_of lives c (outcome_of error) ∷ own_news lives c error ∷ []) w
        still = subst (λ (k : ℕ). Waits lives c true (its_answer (record { node = n; life = k }) c (outcome_of error)
            ∷ it_runs (record { node = n; life = k }) c error ∷ []) w) same last.still

        kept : (d : DistView) → (node_at w n).dist ≡ Some d → Kept (node_at s n).dist d
        kept d has = f.kept d (sym (last.dist ∙ on.dist) ∙ has)

        over : IsOrderly w
        over = orderly w (is_running w still
            (λ d has. let k : Kept (node_at s n).dist d = kept d has in k.takeovers ∙ can.takeovers k.before k.had)
            (λ d has m among alive.
            let k : Kept (node_at s n).dist d = kept d has in
            ap (λ links. n.0 == m.0 || are_linked n m links) (last.links ∙ on.links ∙ f.links)
            ∙ can.sees k.before k.had m (ap (is_among m) (sym k.known) ∙ among) (sym (last.awake m ∙ on.awake m ∙ f.awake m) ∙ alive)))

    by : (is_alive_at t n ≡ true) ⊎ (is_alive_at t n ≡ false) → IsOrderly q
    by (inl alive) =
        begun (takes_turn (lives n) e.message t f.still refl alive
        (subst (λ (z : ControllerTurn). Turn n z (it_started h c error ∷ [])) (sym is_u) (spawned_turn c spawn.begun error first)))
    by (inr dead) = quiet_orderly q (lost e.to e.message t f.still dead)

pub here_alike : StartsHereEndAlike
here_alike s n a restart reached rest soon starts = by (cases_Bool (controls (own_at s n) a))
  where
    c : Call
    c = call_of (ask.Start restart) n a s

    -- nobody has a lock where all are at rest
    none : s.locks ≡ []
    none = none_at_rest s reached rest

    by : (controls (own_at s n) a ≡ true) ⊎ (controls (own_at s n) a ≡ false) → EndsAlike (called (ask.Start restart) n a s)
    by (inl controlled) =
        command_alike (ask.Start restart) s n a refl reached rest (over_before s soon)
        (λ before f.
        asked_orderly IsYes (asked_so before c s) f none (λ d has is. decides (own_at s n) n a d (starts.chooses d has is))
        (asks_start c restart (turn_at s n) controlled)
        (λ r t kind replied. told_yes r (asked_so before c s) t kind
        (record { listed = controlled; takeovers = starts.sees_all.takeovers; sees = starts.sees_all.sees }) replied))
    by (inr local) = starts_alike s n a restart reached rest soon local
