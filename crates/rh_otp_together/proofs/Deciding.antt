-- What a dist_ac does at a start request, at the news of a start, and where its own node has started the application.
use Rattle.std.proofs.Common.{◌≡◌, ◌≢◌, ◌⊎◌, ◌++◌, ◌==◌, ◌&&◌, ◌||◌, ℕ, Bool, true, false, not, cond, List, [], ◌∷◌, unwrap_or, slice_get, slice_set, Option, Some, None, refl, sym, ap, ◌∙◌, inl, inr}
use Rattle.std.specs.List.{remove}
use Rattle.std.proofs.lemmas.Bool.{eq-eqb, ne_eqb, false≢true}
use Rattle.rh_model.specs.ClusterView.{ClusterView}
use Rattle.rh_model.specs.declared.node.App.{App}
use Rattle.rh_model.specs.declared.node.Node.{Node}
use Rattle.rh_otp_model.specs.declared.message.Message.{Message}
use Rattle.rh_otp_model.specs.declared.message.Message.TheVariants as message
use Rattle.rh_otp_model.specs.declared.message.Reply.{Reply}
use Rattle.rh_otp_model.specs.declared.message.Reply.TheVariants as reply
use Rattle.rh_otp_model.specs.declared.output.Output.{Output}
use Rattle.rh_otp_model.specs.declared.output.Output.TheVariants as output
use Rattle.rh_otp_model.specs.declared.output.Requester.TheVariants.{Alone}
use Rattle.rh_otp_model.specs.declared.process.Process.{Process}
use Rattle.rh_otp_model.specs.declared.process.Role.TheVariants as role
use Rattle.rh_otp_model.specs.Own.{OwnView}
use Rattle.rh_otp_model.specs.Processes.{process_at}
use Rattle.rh_otp_model.specs.Rows.{keyfind, keydelete}
use Rattle.rh_otp_dist.specs.declared.state.Appl.{Appl}
use Rattle.rh_otp_dist.specs.declared.state.Stand.{Stand}
use Rattle.rh_otp_dist.specs.declared.state.Stand.TheVariants as stand
use Rattle.rh_otp_dist.specs.declared.state.Standing.{Standing}
use Rattle.rh_otp_dist.specs.declared.state.Standing.TheVariants as standing
use Rattle.rh_otp_dist.specs.Attempts.{has_app, reply_of, finish, runs_elsewhere}
use Rattle.rh_otp_dist.specs.Choosing.{places_of, runs_at, is_node, runs_there, is_to_start, start_here, start_distributed, start_unless_local, start_appl, outside, wait}
use Rattle.rh_otp_dist.specs.Received as mail
use Rattle.rh_otp_dist.specs.Sending.{monitor}
use Rattle.rh_otp_dist.specs.State.{DistView, TurnView, unknown_appl, is_among}
use Rattle.rh_otp_dist.specs.Views.{AttemptView}
use Rattle.rh_otp_dist.specs.Waiting.{takes}
use Rattle.rh_otp_net.specs.Locks.{is_free, taken}
use Rattle.rh_otp_node.specs.Live.{LiveView, here_of}
use Rattle.rh_otp_node.specs.Remote as remotely
use Rattle.rh_otp_node.specs.Turns.{handled_by, weight_of}
use Rattle.rh_otp_system.specs.Outputs.{all_carried_out}
use Rattle.rh_otp_system.specs.State.{SystemView, live_at, node_at, with_node, own_at}
use Rattle.rh_otp_system.specs.Working as working
use Rattle.rh_otp_laws.proofs.Nodes.{node_written}
use Rattle.rh_otp_crashes.specs.Failovers.{first_of}
use Rattle.rh_otp_crashes.proofs.Turning.{weighing, works_on, written_twice}
use Rattle.rh_otp_starts.specs.Elsewhere.{asked_attempt, candidates_at}
use Rattle.rh_otp_starts.proofs.Elsewhere.{starts_there}
use Rattle.rh_otp_starts.proofs.Requests.{asking, frees, its_lock, its_reply, starts_first, starts_outside, told_so}
use Rattle.rh_otp_begins.proofs.Here.{its_verdict, starts_here}
use Rattle.rh_otp_together.proofs.Handling.{dist_with, turn_from, note}

-- how it stands with one application more
abbrev pub with_appl : App → Standing → List Appl → List Appl
with_appl a st appls = slice_set appls a.0 (record (unwrap_or (slice_get appls a.0) unknown_appl) { standing = st })

abbrev pub standing_in : List Appl → App → Standing
standing_in appls a = (unwrap_or (slice_get appls a.0) unknown_appl).standing

-- the node may run it, and this is the first that may; or it may not, and this one may
abbrev pub Leaves : OwnView → Node → App → DistView → Node → Type 0
Leaves own n a d x =
    ((is_among n (candidates_at own a d) ≡ true) × (first_of (candidates_at own a d) (places_of own a) ≡ Some x))
    ⊎ ((is_among n (candidates_at own a d) ≡ false) × (is_among x (candidates_at own a d) ≡ true))

-- ---- a request

-- with the lock of its node it comes to this
pub request_so : (n : Node) (a : App) (s : SystemView) (v : LiveView) (e : DistView) (over : TurnView)
    → live_at s n ≡ Some (record v { dist = Some (record e { stand = stand.Idle; mail = [] }) })
    → is_free (Alone (record { role = role.DistAc; node = n; life = v.life })) (n ∷ []) s.locks ≡ true
    → ((w : ℕ) → mail.handled (message.StartRequest a)
    (asking w (turn_from s.cluster (own_at s n) n v.life (record e { stand = stand.Idle; mail = [] })))
    ≡ asking w over)
    → working.mailed n (message.StartRequest a) s
    ≡ all_carried_out n over.out (record (with_node n (record v { dist = Some over.state }) s) { locks = s.locks ++ its_lock n v.life })
unfolding working.work working.handled handled_by mail.handle_next
request_so n a s v e over there free closed =
    let m : Message = message.StartRequest a in
    let old : LiveView = record v { dist = Some (record e { stand = stand.Idle; mail = [] }) } in
    let w : LiveView = record v { dist = Some (record e { stand = stand.Idle; mail = m ∷ [] }) } in
    let q : SystemView = with_node n w s in
    let here : node_at q n ≡ w = node_written s n old w there in
    let own : OwnView = own_at s n in
    let p : Process = record { role = role.DistAc; node = n; life = v.life } in
    let locked : SystemView = record q { locks = s.locks ++ its_lock n v.life } in
    works_on n m s old there
    ∙ ap (λ (x : LiveView). working.work_for (remotely.mail_count x) n q) here
    ∙ ap (λ (x : LiveView). cond (remotely.has_next x)
    (working.handled_for n (working.need_at q n) (working.asked_for n (working.need_at q n) q) q) q) here
    ∙ ap (λ (x : LiveView). working.handled_for n (remotely.need_of x) (working.asked_for n (remotely.need_of x) q) q) here
    ∙ ap (λ (x : LiveView). working.behind_turn n (is_free (Alone (process_at (here_of n x) role.DistAc)) (n ∷ []) s.locks) false
    (record q { locks = taken (Alone (process_at (here_of n x) role.DistAc)) (process_at (here_of n x) role.DistAc) (n ∷ []) s.locks }))
    here
    ∙ ap (λ (b : Bool). working.behind_turn n b false (record q { locks = cond b (s.locks ++ its_lock n v.life) s.locks })) free
    ∙ ap (λ (x : LiveView). working.behind n
    (handled_by s.cluster own n (record { weight = weight_of s.cluster n x; has_lock = true; burns = false }) x) locked) here
    ∙ ap (λ (u : TurnView). working.behind n (record v { dist = Some u.state }, u.out) locked) (closed (weight_of s.cluster n w))
    ∙ ap (all_carried_out n over.out)
    (written_twice (record s { locks = s.locks ++ its_lock n v.life }) n w (record v { dist = Some over.state }))

module _ (c : ClusterView) (own : OwnView) (n : Node) (life : ℕ) (d : DistView) (rows : List (App × Node)) (asked : List App)
    (appls : List Appl) (a : App) (x : Node) where
  abbrev pub e : DistView
  e = dist_with d stand.Idle [] rows asked [] appls

  abbrev pub t : TurnView
  t = turn_from c own n life e

  abbrev attempt : AttemptView
  attempt = asked_attempt d a

  -- how it stands where it has answered
  abbrev pub answered : Reply → Standing → TurnView
  answered r st = record t {
    state = dist_with d stand.Idle [] (keydelete a rows) (a ∷ asked) [] (with_appl a st appls);
    out = output.Send (its_reply t.here a r) ∷ frees t.here ∷ [];
  }

  begins : standing_in appls a ≡ standing.Undefined → (w : ℕ)
      → mail.handled (message.StartRequest a) (asking w t) ≡ start_distributed attempt (asking w t)
  unfolding start_appl
  begins unknown w = ap (λ (st : Standing). start_unless_local attempt st (asking w t)) unknown

  once_asked : has_app a asked ≡ false → (r : Reply) (st : Standing) (w : ℕ) → told_so a r st (asking w t) ≡ asking w (answered r st)
  once_asked not_yet r st w =
      ap (λ (b : Bool). asking w (record t {
        state = dist_with d stand.Idle [] (keydelete a rows) (cond b asked (a ∷ asked)) [] (with_appl a st appls);
        out = output.Send (its_reply t.here a r) ∷ frees t.here ∷ [];
      })) not_yet

  -- its own node is to start it
  pub chooses_here : standing_in appls a ≡ standing.Undefined → has_app a asked ≡ false → keyfind a rows ≡ None
      → first_of (candidates_at own a d) (places_of own a) ≡ Some n → (w : ℕ)
      → mail.handled (message.StartRequest a) (asking w t) ≡ asking w (answered reply.StartIt standing.RunWaiting)
  chooses_here unknown not_yet none first w =
      begins unknown w
      ∙ starts_here a (asking w t) (record {
        first = first;
        not_yet = (λ i. is_node n (runs_at (unknown i)) || is_node n (none i));
      })
      ∙ ap (λ (o : Option Node). told_so a (reply_of (its_verdict o)) standing.RunWaiting (asking w t)) none
      ∙ once_asked not_yet reply.StartIt standing.RunWaiting w

  -- it is known to run at the other one
  pub finds_there : standing_in appls a ≡ standing.Undefined → has_app a asked ≡ false → keyfind a rows ≡ Some x → Leaves own n a d x
      → (w : ℕ) → mail.handled (message.StartRequest a) (asking w t) ≡ asking w (answered (reply.Started x) (standing.Distributed x))
  finds_there unknown not_yet known leaves w =
      begins unknown w ∙ starts_there a (asking w t) (record { at = x; found = by leaves })
      ∙ once_asked not_yet (reply.Started x) (standing.Distributed x) w
    where
      by : Leaves own n a d x
          → ((is_among n (candidates_at own a d) ≡ true) × (first_of (candidates_at own a d) (places_of own a) ≡ Some x)
          × (runs_there e a x ≡ true))
          ⊎ ((is_among n (candidates_at own a d) ≡ false) × (keyfind a rows ≡ Some x))
      by (inl (among, first)) =
          inl (among, first, (λ i. is_node x (runs_at (unknown i)) || is_node x (known i)) ∙ eq-eqb x.0 x.0 refl)
      by (inr (not_among, some)) = inr (not_among, known)

  -- it waits for the other one
  abbrev pub stands_in : Bool → Stand
  stands_in b = cond b (stand.ForStart attempt x) (stand.ForAnyStart attempt)

  abbrev pub watches : Bool → List Node
  watches b = cond b (x ∷ []) []

  abbrev pub waits_out : Bool → List Output
  waits_out b = cond b (output.Monitor x ∷ []) []

  pub waits_there : (b : Bool) → standing_in appls a ≡ standing.Undefined → keyfind a rows ≡ None → x.0 ≢ n.0
      → is_among n (candidates_at own a d) ≡ b → Leaves own n a d x → (w : ℕ)
      → mail.handled (message.StartRequest a) (asking w t)
      ≡ asking w (record t { state = dist_with d (stands_in b) [] rows asked [] appls; out = waits_out b })
  unfolding is_to_start
  waits_there b unknown none other among leaves w = begins unknown w ∙ by b leaves among
    where
      u : TurnView
      u = asking w t

      nobody : (l : List Node) → is_among x l ≡ true → outside attempt l None u ≡ wait (stand.ForAnyStart attempt) u
      nobody [] some = absurd (false≢true some)
      nobody (m ∷ l) some = refl

      by : (b : Bool) → Leaves own n a d x → is_among n (candidates_at own a d) ≡ b
          → start_distributed attempt u
          ≡ asking w (record t { state = dist_with d (stands_in b) [] rows asked [] appls; out = waits_out b })
      by true (inl (among, first)) is =
          starts_first a x u among first
          ∙ ap (λ (c : Bool). cond c (runs_elsewhere attempt x u) (is_to_start attempt x u))
          (λ i. is_node x (runs_at (unknown i)) || is_node x (none i))
          ∙ ap (λ (c : Bool). cond c (start_here attempt u) (cond (is_node x (runs_at (standing_in appls a))) (runs_elsewhere attempt x u)
          (wait (stand.ForStart attempt x) (monitor x u)))) (ne_eqb x.0 n.0 other)
          ∙ ap (λ (st : Standing). cond (is_node x (runs_at st)) (runs_elsewhere attempt x u)
          (wait (stand.ForStart attempt x) (monitor x u))) unknown
      by false (inl (among, first)) is = absurd (false≢true (sym is ∙ among))
      by true (inr (not_among, some)) is = absurd (false≢true (sym not_among ∙ is))
      by false (inr (not_among, some)) is =
          starts_outside a u not_among
          ∙ ap (λ (o : Option Node). outside attempt (candidates_at own a d) o u) none
          ∙ nobody (candidates_at own a d) some

  -- ---- the news for which it waited

  abbrev pub waiting : Bool → List Message → DistView
  waiting b letters = dist_with d (stands_in b) letters rows asked (watches b) appls

  -- it goes on as if it had been known before
  pub resumes : (at : App → Node) (b : Bool) (letters : List Message) → at a ≡ x → has_app a asked ≡ false → (w : ℕ)
      → mail.resumed (stands_in b) (note at a)
      (weighing w (turn_from c own n life (dist_with d stand.Idle letters rows asked (watches b) appls)))
      ≡ weighing w (record (turn_from c own n life
      (dist_with d stand.Idle letters (keydelete a rows) (a ∷ asked) [] (with_appl a (standing.Distributed x) appls))) {
        out = output.Send (its_reply t.here a (reply.Started x)) ∷ frees t.here ∷ [];
      })
  unfolding runs_elsewhere finish
  resumes at b letters there not_yet w = by b
    where
      over : List Node → List App → TurnView
      over nodes apps = weighing w
          (record (turn_from c own n life
          (dist_with d stand.Idle letters (keydelete a rows) apps nodes (with_appl a (standing.Distributed x) appls))) {
            out = output.Send (its_reply t.here a (reply.Started x)) ∷ frees t.here ∷ [];
          })

      by : (b : Bool)
          → mail.resumed (stands_in b) (note at a)
          (weighing w (turn_from c own n life (dist_with d stand.Idle letters rows asked (watches b) appls)))
          ≡ over [] (a ∷ asked)
      by true =
          ap (λ (l : List Node). runs_elsewhere attempt (at a)
          (weighing w (turn_from c own n life (dist_with d stand.Idle letters rows asked l appls))))
          (ap (λ (c : Bool). remove (x ∷ []) (cond (not c) 1 0)) (eq-eqb x.0 x.0 refl))
          ∙ ap (λ (y : Node). runs_elsewhere attempt y
          (weighing w (turn_from c own n life (dist_with d stand.Idle letters rows asked [] appls)))) there
          ∙ ap (λ (c : Bool). over [] (cond c asked (a ∷ asked))) not_yet
      by false =
          ap (λ (y : Node). runs_elsewhere attempt y
          (weighing w (turn_from c own n life (dist_with d stand.Idle letters rows asked [] appls)))) there
          ∙ ap (λ (c : Bool). over [] (cond c asked (a ∷ asked))) not_yet

  -- it takes the news of this application alone
  pub takes_it : (at : App → Node) (b : Bool) → at a ≡ x → takes (stands_in b) (note at a) ≡ true
  takes_it at true there = (λ i. eq-eqb a.0 a.0 refl i && (there i).0 == x.0) ∙ eq-eqb x.0 x.0 refl
  takes_it at false there = eq-eqb a.0 a.0 refl

  pub passes_over : (at : App → Node) (b : Bool) (o : App) → o.0 ≢ a.0 → takes (stands_in b) (note at o) ≡ false
  passes_over at true o other = ap (λ (c : Bool). c && (at o).0 == x.0) (ne_eqb o.0 a.0 other)
  passes_over at false o other = ne_eqb o.0 a.0 other
