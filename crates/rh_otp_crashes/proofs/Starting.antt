-- What the processes of a node do that starts an application which was lost, and what those of another one do at the news of it.
use Rattle.std.proofs.Common.{◌≡◌, ◌⊎◌, ◌+◌, ◌++◌, ◌&&◌, ◌||◌, ℕ, Bool, true, false, not, cond, List, [], ◌∷◌, map, Option, Some, None, refl, sym, ap, subst, ◌∙◌, inl, inr}
use Rattle.std.specs.Prelude.{All}
use Rattle.std.proofs.lemmas.Bool.{eq-eqb}
use Rattle.std.proofs.lemmas.List.{append-nil}
use Rattle.std.proofs.lemmas.List.Elements.{All-nil, All-cons}
use Rattle.std.proofs.lemmas.Option.{none-some, same_Some}
use Rattle.rh_model.specs.ClusterView.{ClusterView}
use Rattle.rh_model.specs.declared.node.App.{App}
use Rattle.rh_model.specs.declared.node.Node.{Node}
use Rattle.rh_otp_model.specs.declared.message.Change.TheVariants as change_of
use Rattle.rh_otp_model.specs.declared.message.Message.{Message}
use Rattle.rh_otp_model.specs.declared.message.Message.TheVariants as message
use Rattle.rh_otp_model.specs.declared.output.Envelope.{Envelope}
use Rattle.rh_otp_model.specs.declared.output.Event.{Event}
use Rattle.rh_otp_model.specs.declared.output.Event.TheVariants as event
use Rattle.rh_otp_model.specs.declared.output.Output.{Output}
use Rattle.rh_otp_model.specs.declared.output.Output.TheVariants as output
use Rattle.rh_otp_model.specs.declared.process.Role.TheVariants as role
use Rattle.rh_otp_model.specs.declared.wait.OwnFile.{OwnFile}
use Rattle.rh_otp_model.specs.Own.{WrittenView, controls}
use Rattle.rh_otp_model.specs.Processes.{process_at}
use Rattle.rh_otp_model.specs.Rows.{keyfind, keydelete, has_row, without_rows}
use Rattle.rh_otp_controller.specs.declared.state.Place.{Place}
use Rattle.rh_otp_controller.specs.declared.state.Place.TheVariants as place_of
use Rattle.rh_otp_controller.specs.Changes.{changed, change, change_running, change_idle, received}
use Rattle.rh_otp_controller.specs.State.{ControllerView}
use Rattle.rh_otp_controller.specs.State.{TurnView as ControllerTurn}
use Rattle.rh_otp_dist.specs.declared.attempt.AskedBy.TheVariants as asked
use Rattle.rh_otp_dist.specs.declared.state.Stand.TheVariants as stand
use Rattle.rh_otp_dist.specs.declared.state.Stand.TheVariants.{ForStart}
use Rattle.rh_otp_dist.specs.declared.state.Standing.{Standing}
use Rattle.rh_otp_dist.specs.declared.state.Standing.TheVariants as standing
use Rattle.rh_otp_dist.specs.Attempts.{settled, finish, has_app, runs_elsewhere, tell_controller}
use Rattle.rh_otp_dist.specs.Choosing.{places_of, candidates_of, remote, runs_at, is_node, runs_there, at_node, find_from, find_start_node, is_to_start, start_here, start_distributed, start_unless_local, start_appl, outside, verdict_here, wait}
use Rattle.rh_otp_dist.specs.State.{DistView, TurnView, standing_of, with_standing, is_among}
use Rattle.rh_otp_dist.specs.Sending.{monitor}
use Rattle.rh_otp_dist.specs.Told.{restart, restart_by, app_started, add_remote, answer_permits, answer_waits, with_waits}
use Rattle.rh_otp_dist.specs.Views.{AttemptView}
use Rattle.rh_otp_dist.specs.Waiting.{takes}
use Rattle.rh_otp_node.specs.Live.{LiveView}
use Rattle.rh_otp_node.specs.Turns.{controller_turn, controlled_by}
use Rattle.rh_otp_system.specs.Delivering.{controlled}
use Rattle.rh_otp_system.specs.Outputs.{all_carried_out}
use Rattle.rh_otp_system.specs.Sending.{told}
use Rattle.rh_otp_system.specs.State.{SystemView, live_at, with_node}
use Rattle.rh_otp_system.specs.Working as working
use Rattle.rh_otp_crashes.specs.Crashes.{IsUnoccupied}
use Rattle.rh_otp_crashes.specs.Failovers.{first_of, first_alone, lost_attempt}
use Rattle.rh_otp_crashes.proofs.Carrying.{IsPlain, letters}
use Rattle.rh_otp_crashes.proofs.Turning.{Turned, Changed, own_in, node_is, turn, weighing, has_none, has_waiting, has_idle}

-- ---- it is this node that starts it

-- whoever is the first may run it
candidate_by : (m : Node) (candidates nodes : List Node) (b : Bool) (behind : Option Node)
    → (behind ≡ Some m → is_among m candidates ≡ true) → cond b None (first_alone candidates nodes behind) ≡ Some m
    → is_among m candidates ≡ true
candidate_by m candidates nodes true behind rest is = absurd (none-some m is)
candidate_by m candidates [] false behind rest is = rest is
candidate_by m candidates (n ∷ nodes) false behind rest is = at (is_among n candidates) refl is
  where
    at : (b : Bool) → is_among n candidates ≡ b → cond b (Some n) behind ≡ Some m → is_among m candidates ≡ true
    at true so is = ap (λ (k : Node). is_among k candidates) (sym (same_Some n m is)) ∙ so
    at false so is = rest is

pub is_candidate : (m : Node) (candidates : List Node) (places : List WrittenView) → first_of candidates places ≡ Some m
    → is_among m candidates ≡ true
is_candidate m candidates [] is = absurd (none-some m is)
is_candidate m candidates (w ∷ places) is =
    candidate_by m candidates w.nodes w.is_tuple (first_of candidates places) (λ there. is_candidate m candidates places there) is

-- the walk along the list ends there, where nobody is known to run it
walks_by : (attempt : AttemptView) (m : Node) (candidates nodes : List Node) (b : Bool) (behind : Option Node) (t other : TurnView)
    (rest : TurnView → TurnView) → (behind ≡ Some m → rest t ≡ is_to_start attempt m t)
    → ((n : Node) → runs_there t.state attempt.app n ≡ false) → cond b None (first_alone candidates nodes behind) ≡ Some m
    → cond b other (at_node rest attempt candidates nodes t) ≡ is_to_start attempt m t
walks_by attempt m candidates nodes true behind t other rest goes_on nowhere is = absurd (none-some m is)
walks_by attempt m candidates [] false behind t other rest goes_on nowhere is = goes_on is
walks_by attempt m candidates (n ∷ nodes) false behind t other rest goes_on nowhere is = at (is_among n candidates) is
  where
    at : (b : Bool) → cond b (Some n) behind ≡ Some m
        → cond (not b) (rest t) (cond (runs_there t.state attempt.app n) (runs_elsewhere attempt n t) (is_to_start attempt n t))
        ≡ is_to_start attempt m t
    at true is =
        ap (λ (b : Bool). cond b (runs_elsewhere attempt n t) (is_to_start attempt n t)) (nowhere n)
        ∙ ap (λ (x : Node). is_to_start attempt x t) (same_Some n m is)
    at false is = goes_on is

pub walks : (attempt : AttemptView) (m : Node) (candidates : List Node) (k : ℕ) (places : List WrittenView) (t : TurnView)
    → first_of candidates places ≡ Some m → runs_at (standing_of t.state attempt.app) ≡ None → remote t.state attempt.app ≡ None
    → find_from attempt candidates k places t ≡ is_to_start attempt m t
walks attempt m candidates k [] t is none unknown = absurd (none-some m is)
walks attempt m candidates k (w ∷ places) t is none unknown =
    walks_by attempt m candidates w.nodes w.is_tuple (first_of candidates places) t _ (find_from attempt candidates (k + 1) places)
    (λ there. walks attempt m candidates (k + 1) places t there none unknown)
    (λ n. λ i. is_node n (none i) || is_node n (unknown i)) is

-- its controller is told to start it in place of the one that was lost
abbrev pub started_over : App → Node → TurnView → TurnView
started_over a gone t = record t {
  state = record (settled a standing.RunWaiting t.state) { stand = stand.Idle };
  out = t.out ++ output.Send (record {
    from = process_at t.here role.DistAc;
    to = process_at t.here role.Controller;
    message = message.Change a (change_of.Failover gone);
  }) ∷ [];
}

starts_here : (a : App) (gone : Node) (t : TurnView) → standing_of t.state a ≡ standing.Failover gone
    → start_here (lost_attempt t.state a) t ≡ started_over a gone t
unfolding start_here finish
starts_here a gone t lost =
    ap (λ (st : Standing). finish (lost_attempt t.state a) standing.RunWaiting true
    (tell_controller asked.Nobody a (verdict_here st asked.Nobody (remote t.state a)) t)) lost

pub restarts : (a : App) (gone : Node) (t : TurnView) → standing_of t.state a ≡ standing.Failover gone
    → first_of (candidates_of t.own (lost_attempt t.state a)) (places_of t.own a) ≡ Some t.here.node → remote t.state a ≡ None
    → restart a t ≡ started_over a gone t
unfolding restart start_appl start_distributed find_start_node is_to_start
restarts a gone t lost first unknown =
    let attempt : AttemptView = lost_attempt t.state a in
    let candidates : List Node = candidates_of t.own attempt in
    ap (λ (st : Standing). restart_by a st t) lost
    ∙ ap (λ (st : Standing). start_unless_local attempt st t) lost
    ∙ ap (λ (b : Bool). cond b (find_start_node attempt candidates 0 t) (outside attempt candidates (remote t.state a) t))
    (is_candidate t.here.node candidates (places_of t.own a) first)
    ∙ walks attempt t.here.node candidates 0 (places_of t.own a) t first (ap runs_at lost) unknown
    ∙ ap (λ (b : Bool). cond b (start_here attempt t) (cond (is_node t.here.node (runs_at (standing_of t.state a))) (runs_elsewhere attempt t.here.node t) (wait (ForStart attempt t.here.node) (monitor t.here.node t))))
    (eq-eqb t.here.node.0 t.here.node.0 refl)
    ∙ starts_here a gone t lost

-- ---- another node hears of it

-- its controller is told where it runs
abbrev pub runs_there_now : App → Node → TurnView → Envelope
runs_there_now a m t = record {
  from = process_at t.here role.DistAc;
  to = process_at t.here role.Controller;
  message = message.Change a (change_of.Started m);
}

abbrev pub heard : App → Node → TurnView → TurnView
heard a m t = record t {
  state = record (with_standing a (standing.Distributed m) t.state) { tmp_weights = keydelete a t.state.tmp_weights; p_reqs = [] };
  out = t.out ++ output.Send (runs_there_now a m t) ∷ [];
}

abbrev pub hears : App → Node → TurnView → TurnView
hears a m t = cond (controls t.own a && has_app a t.state.started) (heard a m t) (add_remote a m t)

pub hears_so : (a : App) (m : Node) (t : TurnView) → t.state.p_reqs ≡ [] → app_started m a None t ≡ hears a m t
unfolding app_started answer_permits
hears_so a m t none =
    ap (λ (x : TurnView). cond (controls t.own a && has_app a t.state.started) x (add_remote a m t))
    (ap (λ rows. with_waits (without_rows a rows) (answer_waits a rows (record t {
      state = record (with_standing a (standing.Distributed m) t.state) { tmp_weights = keydelete a t.state.tmp_weights };
      out = t.out ++ output.Send (runs_there_now a m t) ∷ [];
    }))) none)

pub hears_whatever : (a : App) (m : Node) (w : ℕ) (t : TurnView) → hears a m (weighing w t) ≡ weighing w (hears a m t)
hears_whatever a m w t = by (controls t.own a && has_app a t.state.started)
  where
    by : (b : Bool) → cond b (weighing w (heard a m t)) (weighing w (add_remote a m t)) ≡ weighing w (cond b (heard a m t) (add_remote a m t))
    by true = refl
    by false = refl

pub hears_plainly : (K : Envelope → Type 0) (a : App) (m : Node) (t : TurnView) → t.out ≡ [] → K (runs_there_now a m t)
    → All IsPlain (hears a m t).out × All K (letters (hears a m t).out)
hears_plainly K a m t none kind = by (controls t.own a && has_app a t.state.started)
  where
    sent : All IsPlain (t.out ++ output.Send (runs_there_now a m t) ∷ []) × All K (letters (t.out ++ output.Send (runs_there_now a m t) ∷ []))
    sent = subst (λ out. All IsPlain (out ++ output.Send (runs_there_now a m t) ∷ []) × All K (letters (out ++ output.Send (runs_there_now a m t) ∷ [])))
        (sym none) (
          All-cons IsPlain (output.Send (runs_there_now a m t)) [] tt (All-nil IsPlain),
          All-cons K (runs_there_now a m t) [] kind (All-nil K),
        )

    silent : All IsPlain t.out × All K (letters t.out)
    silent = subst (λ out. All IsPlain out × All K (letters out)) (sym none) (All-nil IsPlain, All-nil K)

    by : (b : Bool) → All IsPlain (cond b (heard a m t) (add_remote a m t)).out × All K (letters (cond b (heard a m t) (add_remote a m t)).out)
    by true = sent
    by false = silent

pub hears_at_rest : (a : App) (m : Node) (t : TurnView) → t.state.stand ≡ stand.Idle → t.state.mail ≡ [] → t.state.p_reqs ≡ []
    → t.state.parked ≡ [] → IsUnoccupied (hears a m t).state
hears_at_rest a m t is none permits parked = by (controls t.own a && has_app a t.state.started)
  where
    so : (d : DistView) → d.stand ≡ stand.Idle → d.mail ≡ [] → d.p_reqs ≡ [] → d.parked ≡ [] → IsUnoccupied d
    so d is none permits parked = record {
      stand = inl is;
      mail = subst (λ (l : List Message). All (λ (x : Message). takes d.stand x ≡ false) l) (sym none)
          (All-nil (λ (x : Message). takes d.stand x ≡ false));
      permits = permits;
      parked = parked;
    }

    by : (b : Bool) → IsUnoccupied (cond b (heard a m t) (add_remote a m t)).state
    by true = so (heard a m t).state is none refl parked
    by false = so (add_remote a m t).state is none permits parked

-- what its dist_ac does
pub hears_of : (K : Envelope → Type 0) (c : ClusterView) (files : List OwnFile) (n : Node) (life : ℕ) (a : App) (m : Node) (o : Option DistView)
    → K (record {
      from = record { role = role.DistAc; node = n; life = life };
      to = record { role = role.Controller; node = n; life = life };
      message = message.Change a (change_of.Started m);
    })
    → ((d : DistView) → o ≡ Some d → IsUnoccupied d) → Turned K c files n life (message.AppStarted m a None) o
hears_of K c files n life a m None kind free = has_none K c files n life (message.AppStarted m a None)
hears_of K c files n life a m (Some d) kind free = by (free d refl).stand
  where
    t : TurnView
    t = turn c (own_in files n) n life d

    by : (d.stand ≡ stand.Idle) ⊎ (d.stand ≡ stand.ForGo) → Turned K c files n life (message.AppStarted m a None) (Some d)
    by (inl is) =
        let none : d.p_reqs ≡ [] = (free d refl).permits in
        has_idle K c files n life (message.AppStarted m a None) d (hears a m t) (free d refl) is refl
        (λ w. hears_so a m (weighing w t) none ∙ hears_whatever a m w t)
        (hears_plainly K a m t refl kind).0 (hears_plainly K a m t refl kind).1
        (hears_at_rest a m t refl refl none (free d refl).parked)
    by (inr is) = has_waiting K c files n life (message.AppStarted m a None) d (free d refl) is refl

-- what its controller does: an application that ran here, too, stops
abbrev pub stops_at : Node → App → Option Place → Bool → List Event
stops_at n a (Some place_of.Here) true = event.Stopped a n ∷ []
stops_at n a o b = []

abbrev pub moved : App → Node → ControllerView → ControllerView
moved a m c = record c { running = (a, place_of.At m) ∷ keydelete a c.running }

-- what it shows
abbrev tells : List Event → List Output
tells events = map output.Tell events

goes : (a : App) (m : Node) (o : Option Place) (t : ControllerTurn)
    → changed a (change_of.Started m) o t
    ≡ record t { state = moved a m t.state; out = t.out ++ tells (stops_at t.here.node a o (has_row a t.state.started)) }
goes a m None t = λ i. record t { state = moved a m t.state; out = sym (append-nil t.out) i }
goes a m (Some place_of.Here) t = by (has_row a t.state.started)
  where
    by : (b : Bool) → cond b (change_running a (change_of.Started m) place_of.Here t) (change_idle a (change_of.Started m) t)
        ≡ record t { state = moved a m t.state; out = t.out ++ tells (stops_at t.here.node a (Some place_of.Here) b) }
    by true = refl
    by false = λ i. record t { state = moved a m t.state; out = sym (append-nil t.out) i }
goes a m (Some (place_of.At k)) t = by (has_row a t.state.started)
  where
    by : (b : Bool) → cond b (change_running a (change_of.Started m) (place_of.At k) t) (change_idle a (change_of.Started m) t)
        ≡ record t { state = moved a m t.state; out = t.out ++ tells (stops_at t.here.node a (Some (place_of.At k)) b) }
    by true = λ i. record t { state = moved a m t.state; out = sym (append-nil t.out) i }
    by false = λ i. record t { state = moved a m t.state; out = sym (append-nil t.out) i }
goes a m (Some place_of.Nowhere) t = by (has_row a t.state.started)
  where
    by : (b : Bool) → cond b (change_running a (change_of.Started m) place_of.Nowhere t) (change_idle a (change_of.Started m) t)
        ≡ record t { state = moved a m t.state; out = t.out ++ tells (stops_at t.here.node a (Some place_of.Nowhere) b) }
    by true = λ i. record t { state = moved a m t.state; out = sym (append-nil t.out) i }
    by false = λ i. record t { state = moved a m t.state; out = sym (append-nil t.out) i }

shows : (n : Node) (a : App) (o : Option Place) (b : Bool) (s : SystemView)
    → all_carried_out n (tells (stops_at n a o b)) s ≡ record s { events = s.events ++ stops_at n a o b }
unfolding told
shows n a None b s = λ i. record s { events = sym (append-nil s.events) i }
shows n a (Some place_of.Here) true s = refl
shows n a (Some place_of.Here) false s = λ i. record s { events = sym (append-nil s.events) i }
shows n a (Some (place_of.At k)) b s = λ i. record s { events = sym (append-nil s.events) i }
shows n a (Some place_of.Nowhere) b s = λ i. record s { events = sym (append-nil s.events) i }

abbrev pub moved_by : App → Node → ControllerView → ControllerView
moved_by a m c = cond c.is_ending c (moved a m c)

abbrev pub seen_by : Node → App → ControllerView → List Event
seen_by n a c = cond c.is_ending [] (stops_at n a (keyfind a c.running) (has_row a c.started))

-- the turn of a controller, carried out
abbrev carried : Node → LiveView → ControllerTurn → SystemView → SystemView
carried n v t s = all_carried_out n t.out (with_node n (record v { controller = t.state }) s)

pub moves_so : (n : Node) (a : App) (m : Node) (s : SystemView) (v : LiveView) → live_at s n ≡ Some v
    → controlled n (message.Change a (change_of.Started m)) s
    ≡ record (with_node n (record v { controller = moved_by a m v.controller }) s) { events = s.events ++ seen_by n a v.controller }
unfolding controlled_by received change
moves_so n a m s v there =
    ap (λ (x : LiveView). working.behind n (controlled_by s.cluster (own_in s.files n) n (message.Change a (change_of.Started m)) x) s) (node_is s n v there)
    ∙ by v.controller.is_ending
  where
    t : ControllerTurn
    t = controller_turn s.cluster (own_in s.files n) n v

    events : List Event
    events = stops_at n a (keyfind a v.controller.running) (has_row a v.controller.started)

    by : (b : Bool) → carried n v (cond b t (changed a (change_of.Started m) (keyfind a v.controller.running) t)) s
        ≡ record (with_node n (record v { controller = cond b v.controller (moved a m v.controller) }) s) { events = s.events ++ cond b [] events }
    by true = λ i. record (with_node n v s) { events = sym (append-nil s.events) i }
    by false =
        ap (λ (u : ControllerTurn). carried n v u s) (goes a m (keyfind a v.controller.running) t)
        ∙ shows n a (keyfind a v.controller.running) (has_row a v.controller.started) (with_node n (record v { controller = moved a m v.controller }) s)

pub moves_elsewhere : (c : ClusterView) (files : List OwnFile) (n : Node) (a : App) (m : Node) → Changed c files n (message.Change a (change_of.Started m))
moves_elsewhere c files n a m = record {
  next = moved_by a m;
  seen = seen_by n a;
  comes = λ s v there in_cluster in_files. moves_so n a m s v there;
  ending = λ x. by x x.is_ending refl;
}
  where
    by : (x : ControllerView) (b : Bool) → x.is_ending ≡ b → (moved_by a m x).is_ending ≡ x.is_ending
    by x true is = ap (λ (b : Bool). (cond b x (moved a m x)).is_ending) is
    by x false is = ap (λ (b : Bool). (cond b x (moved a m x)).is_ending) is
