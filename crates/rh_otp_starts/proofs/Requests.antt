-- What a dist_ac does at a start request of its controller, where it can tell at once what comes of it: it has the lock of its node for a
-- moment, and answers the controller.
use Rattle.std.proofs.Common.{◌≡◌, ◌⊎◌, ◌+◌, ◌++◌, ◌==◌, ◌&&◌, ℕ, Bool, true, false, not, cond, List, [], ◌∷◌, Option, Some, None, refl, sym, ap, subst, ◌∙◌, inl, inr}
use Rattle.std.specs.Prelude.{All}
use Rattle.std.proofs.lemmas.Bool.{eq-eqb}
use Rattle.std.proofs.lemmas.Option.{none-some, same_Some}
use Rattle.std.proofs.lemmas.List.{append-nil}
use Rattle.std.proofs.lemmas.List.Elements.{All-nil}
use Rattle.rh_model.specs.ClusterView.{ClusterView}
use Rattle.rh_model.specs.declared.node.App.{App}
use Rattle.rh_model.specs.declared.node.Node.{Node}
use Rattle.rh_otp_model.specs.declared.message.Message.{Message}
use Rattle.rh_otp_model.specs.declared.message.Message.TheVariants as message
use Rattle.rh_otp_model.specs.declared.message.Reply.{Reply}
use Rattle.rh_otp_model.specs.declared.output.Envelope.{Envelope}
use Rattle.rh_otp_model.specs.declared.output.Output.{Output}
use Rattle.rh_otp_model.specs.declared.output.Output.TheVariants as output
use Rattle.rh_otp_model.specs.declared.output.Requester.TheVariants.{Alone}
use Rattle.rh_otp_model.specs.declared.process.Here.{Here}
use Rattle.rh_otp_model.specs.declared.process.Process.{Process}
use Rattle.rh_otp_model.specs.declared.process.Role.TheVariants as role
use Rattle.rh_otp_model.specs.Own.{OwnView, WrittenView}
use Rattle.rh_otp_model.specs.Processes.{process_at}
use Rattle.rh_otp_dist.specs.declared.state.Stand.TheVariants as stand
use Rattle.rh_otp_dist.specs.declared.state.Standing.{Standing}
use Rattle.rh_otp_dist.specs.declared.state.Standing.TheVariants as standing
use Rattle.rh_otp_dist.specs.Attempts.{settled, runs_elsewhere}
use Rattle.rh_otp_dist.specs.Choosing.{places_of, candidates_of, remote, runs_there, at_node, find_from, find_start_node, is_to_start, start_distributed, start_unless_local, start_appl, outside}
use Rattle.rh_otp_dist.specs.Outside.{with_message}
use Rattle.rh_otp_dist.specs.Received.{handle_next}
use Rattle.rh_otp_dist.specs.Received as mail
use Rattle.rh_otp_dist.specs.State.{DistView, TurnView, standing_of, is_among}
use Rattle.rh_otp_dist.specs.Views.{AttemptView}
use Rattle.rh_otp_dist.specs.Waiting.{takes}
use Rattle.rh_otp_net.specs.declared.locks.Held.{Held}
use Rattle.rh_otp_net.specs.Locks.{freed}
use Rattle.rh_otp_node.specs.Live.{LiveView}
use Rattle.rh_otp_node.specs.Remote as remotely
use Rattle.rh_otp_node.specs.Turns.{handled_by, weight_of}
use Rattle.rh_otp_system.specs.Outputs.{all_carried_out}
use Rattle.rh_otp_system.specs.State.{SystemView, live_at, node_at, with_node}
use Rattle.rh_otp_system.specs.Working as working
use Rattle.rh_otp_laws.proofs.Nodes.{node_written}
use Rattle.rh_otp_crashes.specs.Crashes.{IsUnoccupied}
use Rattle.rh_otp_crashes.specs.Failovers.{first_of, first_alone}
use Rattle.rh_otp_crashes.proofs.Turning.{own_in, turn, idle, is_idle, mailed_to, works_on, written_twice}
use Rattle.rh_otp_starts.specs.Elsewhere.{asked_attempt}

-- ---- where it finds it

-- what it does where a node is the first that may run it
abbrev pub at_first : AttemptView → Node → TurnView → TurnView
at_first attempt m t = cond (runs_there t.state attempt.app m) (runs_elsewhere attempt m t) (is_to_start attempt m t)

-- the walk along the list ends there
found_by : (attempt : AttemptView) (m : Node) (candidates nodes : List Node) (b : Bool) (behind : Option Node) (t other : TurnView)
    (rest : TurnView → TurnView) → (behind ≡ Some m → rest t ≡ at_first attempt m t)
    → cond b None (first_alone candidates nodes behind) ≡ Some m
    → cond b other (at_node rest attempt candidates nodes t) ≡ at_first attempt m t
found_by attempt m candidates nodes true behind t other rest goes_on is = absurd (none-some m is)
found_by attempt m candidates [] false behind t other rest goes_on is = goes_on is
found_by attempt m candidates (n ∷ nodes) false behind t other rest goes_on is = at (is_among n candidates) is
  where
    at : (b : Bool) → cond b (Some n) behind ≡ Some m → cond (not b) (rest t) (at_first attempt n t) ≡ at_first attempt m t
    at true is = ap (λ (x : Node). at_first attempt x t) (same_Some n m is)
    at false is = goes_on is

pub finds : (attempt : AttemptView) (m : Node) (candidates : List Node) (k : ℕ) (places : List WrittenView) (t : TurnView)
    → first_of candidates places ≡ Some m → find_from attempt candidates k places t ≡ at_first attempt m t
finds attempt m candidates k [] t is = absurd (none-some m is)
finds attempt m candidates k (w ∷ places) t is =
    found_by attempt m candidates w.nodes w.is_tuple (first_of candidates places) t _ (find_from attempt candidates (k + 1) places)
    (λ further. finds attempt m candidates (k + 1) places t further) is

-- where its own node may run it
pub starts_first : (a : App) (m : Node) (t : TurnView) → is_among t.here.node (candidates_of t.own (asked_attempt t.state a)) ≡ true
    → first_of (candidates_of t.own (asked_attempt t.state a)) (places_of t.own a) ≡ Some m
    → start_distributed (asked_attempt t.state a) t ≡ at_first (asked_attempt t.state a) m t
unfolding start_distributed find_start_node
starts_first a m t among first =
    let attempt : AttemptView = asked_attempt t.state a in
    let candidates : List Node = candidates_of t.own attempt in
    ap (λ (b : Bool). cond b (find_start_node attempt candidates 0 t) (outside attempt candidates (remote t.state a) t)) among
    ∙ finds attempt m candidates 0 (places_of t.own a) t first

-- where it may not
pub starts_outside : (a : App) (t : TurnView) → is_among t.here.node (candidates_of t.own (asked_attempt t.state a)) ≡ false
    → start_distributed (asked_attempt t.state a) t
    ≡ outside (asked_attempt t.state a) (candidates_of t.own (asked_attempt t.state a)) (remote t.state a) t
unfolding start_distributed
starts_outside a t not_among =
    let attempt : AttemptView = asked_attempt t.state a in
    let candidates : List Node = candidates_of t.own attempt in
    ap (λ (b : Bool). cond b (find_start_node attempt candidates 0 t) (outside attempt candidates (remote t.state a) t)) not_among

-- ---- what it does

-- it answers its controller so
abbrev pub its_reply : Here → App → Reply → Envelope
its_reply h a r = record { from = process_at h role.DistAc; to = process_at h role.Controller; message = message.Reply a r }

-- and its node's lock is free again
abbrev pub frees : Here → Output
frees h = output.Free (Alone (process_at h role.DistAc)) (process_at h role.DistAc)

-- the application stands so from now on
abbrev pub told_so : App → Reply → Standing → TurnView → TurnView
told_so a r standing t = record t {
  state = record (settled a standing t.state) { stand = stand.Idle };
  out = (t.out ++ output.Send (its_reply t.here a r) ∷ []) ++ frees t.here ∷ [];
}

-- it runs here, and nobody is told
abbrev pub told_nobody : TurnView → TurnView
told_nobody t = record t { state = record t.state { stand = stand.Idle }; out = t.out ++ frees t.here ∷ [] }

-- with the lock of its node, where the node has a weight
abbrev pub asking : ℕ → TurnView → TurnView
asking w t = record t { weight = w; has_lock = true }

-- It answers at once, by such a reply, whatever its node's weight and life are.
pub record Decided (P : Reply → Type 0) (own : OwnView) (n : Node) (a : App) (d : DistView) : Type 0 where
  pub answer : Reply
  pub is_so : P answer
  pub standing : Standing
  pub starts : (c : ClusterView) (life w : ℕ) → start_distributed (asked_attempt d a) (asking w (turn c own n life d))
      ≡ told_so a answer standing (asking w (turn c own n life d))

-- which messages it has sent, and how it stands, at such a request
pub record Requested (P : Reply → Type 0) (c : ClusterView) (own : OwnView) (n : Node) (life : ℕ) (a : App) (d : DistView) : Type 0 where
  pub over : TurnView
  pub closed : (w : ℕ) → mail.handled (message.StartRequest a) (asking w (turn c own n life d)) ≡ asking w over
  pub sent : ((r : Reply) × P r
      × (over.out ≡ output.Send (its_reply (record { node = n; life = life }) a r) ∷ frees (record { node = n; life = life }) ∷ []))
      ⊎ (over.out ≡ frees (record { node = n; life = life }) ∷ [])
  pub rest : IsUnoccupied over.state
  pub takeovers : over.state.t_reqs ≡ d.t_reqs
  pub known : over.state.known ≡ d.known

-- it handles whatever comes next
at_rest_so : (e d : DistView) → IsUnoccupied d → e.stand ≡ stand.Idle → e.mail ≡ [] → e.p_reqs ≡ d.p_reqs → e.parked ≡ d.parked
    → IsUnoccupied e
at_rest_so e d free is none permits parked = record {
  stand = inl is;
  mail = subst (λ (l : List Message). All (λ (x : Message). takes e.stand x ≡ false) l) (sym none)
      (All-nil (λ (x : Message). takes e.stand x ≡ false));
  permits = permits ∙ free.permits;
  parked = parked ∙ free.parked;
}

requests : (P : Reply → Type 0) (c : ClusterView) (own : OwnView) (n : Node) (life : ℕ) (a : App) (d : DistView) → IsUnoccupied d
    → Decided P own n a d → Requested P c own n life a d
unfolding start_appl
requests P c own n life a d free r = by (standing_of d a) refl
  where
    t : TurnView
    t = turn c own n life d

    decided : TurnView
    decided = told_so a r.answer r.standing t

    by_list : (st : Standing) → standing_of d a ≡ st
        → ((w : ℕ) → start_unless_local (asked_attempt d a) st (asking w t) ≡ start_distributed (asked_attempt d a) (asking w t))
        → Requested P c own n life a d
    by_list st is same = record {
      over = decided;
      closed = λ w.
          ap (λ (x : Standing). start_unless_local (asked_attempt d a) x (asking w t)) is
          ∙ same w ∙ r.starts c life w;
      sent = inl (r.answer, r.is_so, refl);
      rest = at_rest_so decided.state d free refl refl refl refl;
      takeovers = refl;
      known = refl;
    }

    by : (st : Standing) → standing_of d a ≡ st → Requested P c own n life a d
    by standing.Local is = record {
      over = told_nobody t;
      closed = λ w. ap (λ (x : Standing). start_unless_local (asked_attempt d a) x (asking w t)) is;
      sent = inr refl;
      rest = at_rest_so (told_nobody t).state d free refl refl refl refl;
      takeovers = refl;
      known = refl;
    }
    by standing.Undefined is = by_list standing.Undefined is (λ w. refl)
    by standing.RunWaiting is = by_list standing.RunWaiting is (λ w. refl)
    by standing.Takeover is = by_list standing.Takeover is (λ w. refl)
    by (standing.Failover m) is = by_list (standing.Failover m) is (λ w. refl)
    by (standing.Distributed m) is = by_list (standing.Distributed m) is (λ w. refl)

-- ---- carried out

abbrev with_idle : DistView → LiveView → LiveView
with_idle d v = record v { dist = Some (idle d) }

abbrev mailed_idle : Message → DistView → LiveView → LiveView
mailed_idle m d v = record v { dist = Some (with_message m (idle d)) }

handles : (c : ClusterView) (own : OwnView) (n : Node) (m : Message) (w : ℕ) (v : LiveView) (d : DistView)
    → handled_by c own n (record { weight = w; has_lock = true; burns = false }) (mailed_idle m d v)
    ≡ (record v { dist = Some (mail.handled m (asking w (turn c own n v.life d))).state }, (mail.handled m (asking w (turn c own n v.life d))).out)
unfolding handled_by handle_next
handles c own n m w v d = refl

-- it has the lock of its node
abbrev pub its_lock : Node → ℕ → List Held
its_lock n life =
    let p : Process = record { role = role.DistAc; node = n; life = life } in
    record { node = n; requester = Alone p; owner = p } ∷ []

works_locked : (n : Node) (a : App) (s : SystemView) (v : LiveView) (d : DistView) (over : TurnView)
    → live_at s n ≡ Some (with_idle d v) → s.locks ≡ []
    → ((w : ℕ) → mail.handled (message.StartRequest a) (asking w (turn s.cluster (own_in s.files n) n v.life d)) ≡ asking w over)
    → working.work n (mailed_to n (message.StartRequest a) (with_idle d v) s)
    ≡ all_carried_out n over.out (record (with_node n (record v { dist = Some over.state }) s) { locks = its_lock n v.life })
unfolding working.work working.handled
works_locked n a s v d over there none closed =
    let m : Message = message.StartRequest a in
    let w : LiveView = mailed_idle m d v in
    let q : SystemView = with_node n w s in
    let here : node_at q n ≡ w = node_written s n (with_idle d v) w there in
    let own : OwnView = own_in s.files n in
    let weight : ℕ = weight_of s.cluster n w in
    let locked : LiveView → SystemView = λ (x : LiveView). record q { locks = its_lock n x.life } in
    ap (λ (x : LiveView). working.work_for (remotely.mail_count x) n q) here
    ∙ ap (λ (x : LiveView). cond (remotely.has_next x) (working.handled_for n (working.need_at q n) (working.asked_for n (working.need_at q n) q) q) q) here
    ∙ ap (λ (x : LiveView). working.handled_for n (remotely.need_of x) (working.asked_for n (remotely.need_of x) q) q) here
    ∙ ap (λ (rows : List Held). working.behind_turn n (working.own_lock n (record q { locks = rows })) false (working.with_own_lock n (record q { locks = rows }))) none
    ∙ ap (λ (x : LiveView). working.behind n (handled_by s.cluster own n (record { weight = weight_of s.cluster n x; has_lock = true; burns = false }) x) (locked x)) here
    ∙ ap (λ (pair : LiveView × List Output). working.behind n pair (locked w)) (handles s.cluster own n m weight v d)
    ∙ ap (λ (u : TurnView). working.behind n (record v { dist = Some u.state }, u.out) (locked w)) (closed weight)
    ∙ ap (all_carried_out n over.out) (written_twice (record s { locks = its_lock n v.life }) n w (record v { dist = Some over.state }))

pub request_comes : (n : Node) (a : App) (s : SystemView) (v : LiveView) (d : DistView) (over : TurnView) → live_at s n ≡ Some v
    → v.dist ≡ Some d → IsUnoccupied d → d.stand ≡ stand.Idle → s.locks ≡ []
    → ((w : ℕ) → mail.handled (message.StartRequest a) (asking w (turn s.cluster (own_in s.files n) n v.life d)) ≡ asking w over)
    → working.mailed n (message.StartRequest a) s
    ≡ all_carried_out n over.out (record (with_node n (record v { dist = Some over.state }) s) { locks = its_lock n v.life })
request_comes n a s v d over there has free is none closed =
    let as_idle : v ≡ with_idle d v = (λ i. record v { dist = (has ∙ ap Some (is_idle d free is)) i }) in
    works_on n (message.StartRequest a) s v there
    ∙ ap (λ (x : LiveView). working.work n (mailed_to n (message.StartRequest a) x s)) as_idle
    ∙ works_locked n a s v d over (there ∙ ap Some as_idle) none closed

-- its own lock is free again
pub freed_own : (n : Node) (life : ℕ) → freed (Alone (record { role = role.DistAc; node = n; life = life }))
    (record { role = role.DistAc; node = n; life = life }) (its_lock n life) ≡ []
freed_own n life =
    ap (λ (b : Bool). cond (not ((b && life == life) && (b && life == life))) (its_lock n life) []) (eq-eqb n.0 n.0 refl)
    ∙ ap (λ (b : Bool). cond (not (b && b)) (its_lock n life) []) (eq-eqb life life refl)

-- how the node stands behind it, and what is on its way then
pub record RequestMet (P : Reply → Type 0) (n : Node) (a : App) (s : SystemView) (v : LiveView) (d : DistView) : Type 0 where
  pub next : DistView
  pub more : List Envelope
  pub said : ((r : Reply) × P r × (more ≡ its_reply (record { node = n; life = v.life }) a r ∷ [])) ⊎ (more ≡ [])
  pub comes : working.mailed n (message.StartRequest a) s
      ≡ record (with_node n (record v { dist = Some next }) s) { messages = s.messages ++ more }
  pub rest : IsUnoccupied next
  pub takeovers : next.t_reqs ≡ d.t_reqs
  pub known : next.known ≡ d.known

pub meets_request : (P : Reply → Type 0) (n : Node) (a : App) (s : SystemView) (v : LiveView) (d : DistView) → live_at s n ≡ Some v
    → v.dist ≡ Some d → IsUnoccupied d → d.stand ≡ stand.Idle → s.locks ≡ [] → Decided P (own_in s.files n) n a d
    → RequestMet P n a s v d
meets_request P n a s v d there has free is none decided = by r.sent
  where
    h : Here
    h = record { node = n; life = v.life }

    r : Requested P s.cluster (own_in s.files n) n v.life a d
    r = requests P s.cluster (own_in s.files n) n v.life a d free decided

    new : LiveView
    new = record v { dist = Some r.over.state }

    came : working.mailed n (message.StartRequest a) s
        ≡ all_carried_out n r.over.out (record (with_node n new s) { locks = its_lock n v.life })
    came = request_comes n a s v d r.over there has free is none r.closed

    unlocked : freed (Alone (process_at h role.DistAc)) (process_at h role.DistAc) (its_lock n v.life) ≡ s.locks
    unlocked = freed_own n v.life ∙ sym none

    by : ((x : Reply) × P x × (r.over.out ≡ output.Send (its_reply h a x) ∷ frees h ∷ [])) ⊎ (r.over.out ≡ frees h ∷ [])
        → RequestMet P n a s v d
    by (inl (x, is_so, outs)) = record {
      next = r.over.state;
      more = its_reply h a x ∷ [];
      said = inl (x, is_so, refl);
      comes = came
          ∙ ap (λ (l : List Output). all_carried_out n l (record (with_node n new s) { locks = its_lock n v.life })) outs
          ∙ (λ i. record (with_node n new s) { messages = s.messages ++ its_reply h a x ∷ []; locks = unlocked i });
      rest = r.rest;
      takeovers = r.takeovers;
      known = r.known;
    }
    by (inr outs) = record {
      next = r.over.state;
      more = [];
      said = inr refl;
      comes = came
          ∙ ap (λ (l : List Output). all_carried_out n l (record (with_node n new s) { locks = its_lock n v.life })) outs
          ∙ (λ i. record (with_node n new s) { messages = sym (append-nil s.messages) i; locks = unlocked i });
      rest = r.rest;
      takeovers = r.takeovers;
      known = r.known;
    }
