-- Behind a permit the node's processes start the application, and its dist_ac tells the others and answers the caller.
use Rattle.std.proofs.Common.{◌≡◌, ◌⊎◌, ◌++◌, ℕ, Bool, true, false, not, cond, List, [], ◌∷◌, Option, Some, None, refl, sym, ap, subst, ◌∙◌, inl, inr}
use Rattle.std.specs.Prelude.{All}
use Rattle.std.proofs.lemmas.Bool.{cases_Bool}
use Rattle.std.proofs.lemmas.List.{append_assoc}
use Rattle.std.proofs.lemmas.List.Elements.{All-nil, All-cons, All-append}
use Rattle.rh_model.specs.declared.node.App.{App}
use Rattle.rh_model.specs.declared.node.Node.{Node}
use Rattle.rh_model.specs.declared.settings.Dep.{Dep}
use Rattle.rh_otp_model.specs.declared.message.Change.{Change}
use Rattle.rh_otp_model.specs.declared.message.Message.{Message}
use Rattle.rh_otp_model.specs.declared.message.Message.TheVariants as message
use Rattle.rh_otp_model.specs.declared.output.Envelope.{Envelope}
use Rattle.rh_otp_model.specs.declared.output.Output.{Output}
use Rattle.rh_otp_model.specs.declared.output.Output.TheVariants as output
use Rattle.rh_otp_model.specs.declared.process.Here.{Here}
use Rattle.rh_otp_model.specs.declared.process.Process.{Process}
use Rattle.rh_otp_model.specs.declared.process.Role.TheVariants as role
use Rattle.rh_otp_model.specs.Processes.{process_at}
use Rattle.rh_otp_model.specs.Rows.{without_rows}
use Rattle.rh_otp_controller.specs.Changes.{received}
use Rattle.rh_otp_controller.specs.State.{ControllerView}
use Rattle.rh_otp_controller.specs.State.{TurnView as ControllerTurn}
use Rattle.rh_otp_dist.specs.declared.state.Stand.TheVariants as stand
use Rattle.rh_otp_dist.specs.Sending.{answer, answer_each, del_t_reqs, outcome_of, with_takeovers}
use Rattle.rh_otp_dist.specs.State.{DistView, TurnView, with_standing}
use Rattle.rh_otp_dist.specs.Told.{run, set_standing, standing_behind}
use Rattle.rh_otp_dist.specs.Waiting.{takes}
use Rattle.rh_otp_node.specs.Live.{LiveView, is_alive}
use Rattle.rh_otp_system.specs.Calling.{is_known}
use Rattle.rh_otp_system.specs.Calls.{process_of}
use Rattle.rh_otp_system.specs.Delivering.{arrived}
use Rattle.rh_otp_system.specs.Outputs.{all_carried_out, carried_out}
use Rattle.rh_otp_system.specs.State.{SystemView, node_at, with_node, is_alive_at}
use Rattle.rh_otp_laws.proofs.Nodes.{same_of_all}
use Rattle.rh_otp_crashes.proofs.Peace.{without, arrives_dead}
use Rattle.rh_otp_crashes.proofs.Posting.{posts, mails, sends as sends_all, all_posted, all_mailed}
use Rattle.rh_otp_crashes.proofs.Turning.{own_in, turn, weighing}
use Rattle.rh_otp_stops.proofs.Stop.{turn_at}
use Rattle.rh_otp_starts.proofs.Saying.{same_app}
use Rattle.rh_otp_starts.proofs.Turns.{Turn}
use Rattle.rh_otp_moves.proofs.Still.{Course}
use Rattle.rh_otp_moves.proofs.Telling.{Begins, IsAbroad, hears, told_to}
use Rattle.rh_otp_moves.proofs.Telling as telling
use Rattle.rh_otp_moves.proofs.Abroad.{Going, going_left}
use Rattle.rh_otp_moves.proofs.Late.{IsLate, answers, abroad, its_answer}
use Rattle.rh_otp_moves.proofs.Chain.{home_of, it_changes, it_reports, it_runs, IsStart, starts, AskedAlone, IsLink, report, Waiting, Advanced, advanced_lost, advanced_over, advanced_next, Controlled, controls_home, Handled, handles_home}
use Rattle.rh_otp_moves.proofs.Chain as chain
use Rattle.rh_otp_moves.proofs.Saying.{Begun, nothing, runs, spawns, told_runs, told_started, changes, reports}

-- ---- the node goes on

-- the same of the node's own messages
abbrev its_life : Course → ℕ → Here
its_life k life = record { node = k.call.node; life = life }

told_runs_so : (k : Course) (s : SystemView) (error : Option Dep) → Going k s
    → told_runs k.call.app (turn_at s k.call.node) error ≡ it_runs k error
told_runs_so k s error f = ap (λ (life : ℕ). record {
  from = process_at (its_life k life) role.Controller;
  to = process_at (its_life k life) role.DistAc;
  message = message.Run k.call.app error;
}) (f.still.same_lives k.call.node)

told_started_so : (k : Course) (s : SystemView) (error : Option Dep) → Going k s
    → told_started k.call.app (turn_at s k.call.node) error ≡ it_reports k error
told_started_so k s error f = ap (λ (life : ℕ). record {
  from = process_at (its_life k life) (role.Starter k.call.app);
  to = process_at (its_life k life) role.Controller;
  message = message.ApplicationStarted k.call.app error;
}) (f.still.same_lives k.call.node)

-- its controller has said so much
goes_on : (k : Course) (s : SystemView) (rest : List Envelope) (x : Message) (l : List Envelope) → Going k s
    → Waiting k s → All (IsAbroad k) rest → Begins k → is_alive_at s k.call.node ≡ true
    → Turn k.call.node (received x (turn_at s k.call.node)) l → (l ≡ [])
    ⊎ ((e : Envelope) × (l ≡ e ∷ []) × IsLink k (received x (turn_at s k.call.node)).state e)
    → Advanced k s (arrived (process_at (home_of k) role.Controller) x (without s rest))
goes_on k s rest x l f waits kinds allowed alive turned so = by so
  where
    n : Node
    n = k.call.node

    q : SystemView
    q = without s rest

    t : SystemView
    t = arrived (process_at (home_of k) role.Controller) x q

    u : ControllerTurn
    u = received x (turn_at s n)

    c : Controlled k u q t
    c = controls_home k q x (going_left k s rest f) alive turned.said (inl allowed.1)

    by : (l ≡ []) ⊎ ((e : Envelope) × (l ≡ e ∷ []) × IsLink k u.state e) → Advanced k s t
    by (inl none) = advanced_over k s t rest [] f kinds c.did (c.sent ∙ turned.sent ∙ none) (All-nil (IsLate k))
    by (inr (e, one, link)) =
        advanced_next k s t rest e f kinds c.did (c.sent ∙ turned.sent ∙ one) waits c.dist
        (subst (λ (y : ControllerView). IsLink k y e) (sym c.controller) link)

pub start_comes : (k : Course) (s : SystemView) (rest : List Envelope) (what : Change) → Going k s → Waiting k s → All (IsAbroad k) rest
    → Begins k → IsStart what
    → Advanced k s (arrived (it_changes k what).to (message.Change k.call.app what) (without s rest))
start_comes k s rest what f waits kinds allowed is = by (cases_Bool (is_alive_at s k.call.node))
  where
    a : App
    a = k.call.app

    x : Message
    x = message.Change a what

    t : SystemView
    t = arrived (it_changes k what).to x (without s rest)

    u : ControllerTurn
    u = received x (turn_at s k.call.node)

    on : is_alive_at s k.call.node ≡ true → Begun a (turn_at s k.call.node) u → Advanced k s t
    on alive (nothing turned) = goes_on k s rest x [] f waits kinds allowed alive turned (inl refl)
    on alive (runs turned) =
        let e : Envelope = told_runs a (turn_at s k.call.node) None in
        goes_on k s rest x (e ∷ []) f waits kinds allowed alive turned
        (inr (e, refl, subst (IsLink k u.state) (sym (told_runs_so k s None f)) (chain.run allowed None)))
    on alive (spawns error turned asked) =
        let e : Envelope = told_started a (turn_at s k.call.node) error in
        goes_on k s rest x (e ∷ []) f waits kinds allowed alive turned
        (inr (e, refl, subst (IsLink k u.state) (sym (told_started_so k s error f)) (report allowed error asked)))

    by : (is_alive_at s k.call.node ≡ true) ⊎ (is_alive_at s k.call.node ≡ false) → Advanced k s t
    by (inl alive) = on alive (changes a what (turn_at s k.call.node) is waits.listed)
    by (inr dead) = advanced_lost k s t rest f kinds (arrives_dead (it_changes k what).to x (without s rest) dead)

pub report_comes : (k : Course) (s : SystemView) (rest : List Envelope) (error : Option Dep) → Going k s → Waiting k s
    → All (IsAbroad k) rest → Begins k → AskedAlone k.call.app (node_at s k.call.node).controller
    → Advanced k s (arrived (it_reports k error).to (message.ApplicationStarted k.call.app error) (without s rest))
report_comes k s rest error f waits kinds allowed asked = by (cases_Bool (is_alive_at s k.call.node))
  where
    a : App
    a = k.call.app

    x : Message
    x = message.ApplicationStarted a error

    t : SystemView
    t = arrived (it_reports k error).to x (without s rest)

    u : ControllerTurn
    u = received x (turn_at s k.call.node)

    e : Envelope
    e = told_runs a (turn_at s k.call.node) error

    on : is_alive_at s k.call.node ≡ true → Turn k.call.node u [] ⊎ Turn k.call.node u (e ∷ []) → Advanced k s t
    on alive (inl turned) = goes_on k s rest x [] f waits kinds allowed alive turned (inl refl)
    on alive (inr turned) =
        goes_on k s rest x (e ∷ []) f waits kinds allowed alive turned
        (inr (e, refl, subst (IsLink k u.state) (sym (told_runs_so k s error f)) (chain.run allowed error)))

    by : (is_alive_at s k.call.node ≡ true) ⊎ (is_alive_at s k.call.node ≡ false) → Advanced k s t
    by (inl alive) = on alive (reports a error (turn_at s k.call.node) asked waits.listed)
    by (inr dead) = advanced_lost k s t rest f kinds (arrives_dead (it_reports k error).to x (without s rest) dead)

-- ---- the dist_ac

-- the others are told, the caller is answered, and nobody waits any more
abbrev pub runs_over : App → Option Dep → Process → TurnView → TurnView
runs_over a error p t = record t {
  state = record (with_standing a (standing_behind error) t.state) { t_reqs = [] };
  out = (t.out ++ posts t.here.node (message.AppStarted t.here.node a error) t.state.known)
      ++ output.Send (record { from = process_at t.here role.DistAc; to = p; message = message.Answer (outcome_of error) }) ∷ [];
}

pub runs_so : (a : App) (error : Option Dep) (p : Process) (t : TurnView) → t.state.t_reqs ≡ (a, p) ∷ []
    → run a error t ≡ runs_over a error p t
unfolding run del_t_reqs
runs_so a error p t one =
    ap (λ (u : TurnView). set_standing a (standing_behind error)
    (with_takeovers (without_rows a u.state.t_reqs) (answer_each a (outcome_of error) u.state.t_reqs u)))
    (sends_all (message.AppStarted t.here.node a error) t.state.known t)
    ∙ ap (λ (rows : List (App × Process)). set_standing a (standing_behind error)
    (with_takeovers (without_rows a rows) (answer_each a (outcome_of error) rows told))) one
    ∙ ap (λ (b : Bool). set_standing a (standing_behind error)
    (with_takeovers (cond (not b) ((a, p) ∷ []) []) (cond b (answer p (outcome_of error) told) told))) (same_app a)
  where
    told : TurnView
    told = record t { out = t.out ++ posts t.here.node (message.AppStarted t.here.node a error) t.state.known }

-- one thing more is done
pub one_more : (n : Node) (outs : List Output) (o : Output) (s : SystemView)
    → all_carried_out n (outs ++ o ∷ []) s ≡ carried_out n o (all_carried_out n outs s)
one_more n [] o s = refl
one_more n (x ∷ outs) o s = one_more n outs o (carried_out n x s)

known_so : (error : Option Dep) → is_known (outcome_of error) ≡ false
known_so None = refl
known_so (Some d) = refl

pub run_comes : (k : Course) (s : SystemView) (rest : List Envelope) (error : Option Dep) → Going k s → Waiting k s
    → All (IsAbroad k) rest → Begins k
    → Advanced k s (arrived (it_runs k error).to (message.Run k.call.app error) (without s rest))
run_comes k s rest error f waits kinds allowed = by (cases_Bool (is_alive_at s n))
  where
    n : Node
    n = k.call.node

    a : App
    a = k.call.app

    p : Process
    p = process_of k.call

    d : DistView
    d = waits.dist

    q : SystemView
    q = without s rest

    next : SystemView
    next = arrived (it_runs k error).to (message.Run a error) q

    t : TurnView
    t = turn s.cluster (own_in s.files n) n (k.lives n) d

    over : TurnView
    over = runs_over a error p t

    new : LiveView
    new = record (node_at s n) { dist = Some over.state }

    written : SystemView
    written = with_node n new s

    y : Message
    y = message.AppStarted n a error

    e : Envelope
    e = its_answer k (outcome_of error)

    sent : List Envelope
    sent = mails k.lives written n y d.known

    posted : all_carried_out n (posts n y d.known) (without written rest) ≡ without written (rest ++ sent)
    posted =
        all_posted {lives = k.lives} n y d.known (without written rest)
        (λ j. same_of_all (λ (v : LiveView). v.life) s n j new refl ∙ f.still.same_lives j)
        (λ m among up. waits.sees m among (sym (same_of_all is_alive s n m new refl) ∙ up))

    by : (is_alive_at s n ≡ true) ⊎ (is_alive_at s n ≡ false) → Advanced k s next
    by (inl alive) =
        let h : Handled k (sent ++ e ∷ []) q next =
        handles_home k s rest (sent ++ e ∷ []) (message.Run a error) d over f alive waits.has waits.idle refl
        (λ w. runs_so a error p (weighing w t) (waits.takeovers ∙ ap (λ (b : Bool). cond b ((a, p) ∷ []) []) allowed.0))
        (one_more n (posts n y d.known) (output.Send e) (without written rest)
        ∙ ap (carried_out n (output.Send e)) posted ∙ (λ i. without written (append_assoc rest sent (e ∷ []) i)))
        (record {
          stand = inl refl;
          mail = All-nil (λ (x : Message). takes stand.Idle x ≡ false);
          permits = (f.still.dists n d alive waits.has).permits;
          parked = (f.still.dists n d alive waits.has).parked;
        }) in
        advanced_over k s next rest (sent ++ e ∷ []) f kinds h.did h.sent
        (All-append (IsLate k) sent (e ∷ [])
        (all_mailed k.lives (IsLate k) written n y d.known
        (λ m other. abroad (told_to k y m) (hears m y other (telling.starts allowed error))))
        (All-cons (IsLate k) e [] (answers (outcome_of error) (known_so error)) (All-nil (IsLate k))))
    by (inr dead) = advanced_lost k s next rest f kinds (arrives_dead (it_runs k error).to (message.Run a error) q dead)
