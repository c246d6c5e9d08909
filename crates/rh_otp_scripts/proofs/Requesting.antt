-- What the node's dist_ac does at a start request of its controller, whatever comes of it: it answers at once, or it waits for another
-- node, and keeps the lock of its own.
use Rattle.std.proofs.Common.{◌≡◌, ◌≢◌, ◌⊎◌, ◌+◌, ◌++◌, ◌==◌, ◌||◌, ℕ, Bool, true, false, not, cond, List, [], ◌∷◌, Option, Some, None, refl, sym, ap, subst, ◌∙◌, inl, inr}
use Rattle.std.specs.Prelude.{All}
use Rattle.std.proofs.lemmas.Bool.{eqb-false, not-false, false≢true}
use Rattle.std.proofs.lemmas.List.{append-nil}
use Rattle.std.proofs.lemmas.List.Elements.{All-nil, All-head, All-tail}
use Rattle.std.proofs.lemmas.Option.{none-some, same_Some}
use Rattle.rh_model.specs.ClusterView.{ClusterView}
use Rattle.rh_model.specs.declared.node.App.{App}
use Rattle.rh_model.specs.declared.node.Node.{Node}
use Rattle.rh_model.specs.declared.settings.Dep.{Dep}
use Rattle.rh_otp_model.specs.declared.message.Message.{Message}
use Rattle.rh_otp_model.specs.declared.message.Message.TheVariants as message
use Rattle.rh_otp_model.specs.declared.message.Reply.{Reply}
use Rattle.rh_otp_model.specs.declared.message.Reply.TheVariants as reply
use Rattle.rh_otp_model.specs.declared.output.Envelope.{Envelope}
use Rattle.rh_otp_model.specs.declared.output.Output.{Output}
use Rattle.rh_otp_model.specs.declared.output.Output.TheVariants as output
use Rattle.rh_otp_model.specs.declared.process.Here.{Here}
use Rattle.rh_otp_model.specs.Own.{OwnView, WrittenView}
use Rattle.rh_otp_dist.specs.declared.attempt.AskedBy.TheVariants as asked
use Rattle.rh_otp_dist.specs.declared.state.Stand.{Stand}
use Rattle.rh_otp_dist.specs.declared.state.Stand.TheVariants as stand
use Rattle.rh_otp_dist.specs.declared.state.Standing.{Standing}
use Rattle.rh_otp_dist.specs.declared.state.Standing.TheVariants as standing
use Rattle.rh_otp_dist.specs.Attempts.{reply_of, finish, runs_elsewhere}
use Rattle.rh_otp_dist.specs.Choosing.{places_of, remote, runs_at, is_node, runs_there, verdict_here, at_node, find_from, find_start_node, is_to_start, start_here, start_distributed, start_unless_local, start_appl, outside}
use Rattle.rh_otp_dist.specs.Outside.{with_message, with_monitor}
use Rattle.rh_otp_dist.specs.Received as mail
use Rattle.rh_otp_dist.specs.State.{DistView, TurnView, standing_of, is_among}
use Rattle.rh_otp_dist.specs.Views.{AttemptView}
use Rattle.rh_otp_dist.specs.Waiting.{takes}
use Rattle.rh_otp_net.specs.declared.locks.Held.{Held}
use Rattle.rh_otp_net.specs.Links.{are_linked}
use Rattle.rh_otp_node.specs.Live.{LiveView}
use Rattle.rh_otp_system.specs.Outputs.{all_carried_out}
use Rattle.rh_otp_system.specs.State.{SystemView, live_at, node_at, with_node, is_alive_at}
use Rattle.rh_otp_system.specs.Working.{mailed, lock_of}
use Rattle.rh_otp_crashes.specs.Crashes.{IsUnoccupied}
use Rattle.rh_otp_crashes.proofs.Peace.{here_in}
use Rattle.rh_otp_crashes.proofs.Turning.{own_in, turn, none_on, waits_on, still_waits}
use Rattle.rh_otp_crashes.proofs.Waiting.{monitors_it}
use Rattle.rh_otp_starts.specs.Elsewhere.{asked_attempt, candidates_at}
use Rattle.rh_otp_starts.proofs.Requests.{its_reply, told_so, told_nobody, asking, its_lock, request_comes, freed_own}
use Rattle.rh_otp_scripts.specs.Scripts.{HasNoTuple, SeesRunners}

-- ---- how it stands then

-- It waits for another node, and takes nothing of what is in its mailbox, nor that an application runs here.
pub record IsHung (d : DistView) : Type 0 where
  pub lock : lock_of d.stand ≡ None
  pub parked : d.parked ≡ []
  pub mail : All (λ (m : Message). takes d.stand m ≡ false) d.mail
  pub refuses : (a : App) (error : Option Dep) → takes d.stand (message.Run a error) ≡ false

-- what it knows of others, and who waits at it for takeovers, is as before
pub record Keeps (o : Option DistView) (d : DistView) : Type 0 where
  pub before : DistView
  pub had : o ≡ Some before
  pub takeovers : d.t_reqs ≡ before.t_reqs
  pub known : d.known ≡ before.known
  pub may : d.may ≡ before.may

-- ---- what it decides

-- it waits so, and has asked for this
abbrev waits_so : Stand → List Output → TurnView → TurnView
waits_so w outs t = record t { state = record t.state { stand = w }; out = outs }

-- it answers; it runs here, and nobody is told; or it waits for another node, which it may monitor
data Shape (a : App) (d : DistView) (t : TurnView) : TurnView → Type 0 where
  tells : (r : Reply) (st : Standing) → Shape a d t (told_so a r st t)
  tells_nobody : Shape a d t (told_nobody t)
  waits : (w : Stand) → lock_of w ≡ None → ((b : App) (error : Option Dep) → takes w (message.Run b error) ≡ false)
      → Shape a d t (waits_so w [] t)
  monitors : (w : Stand) → lock_of w ≡ None → ((b : App) (error : Option Dep) → takes w (message.Run b error) ≡ false) → (m : Node)
      → m.0 ≢ t.here.node.0 → is_among m (candidates_at t.own a d) ≡ true → Shape a d t (waits_so w (output.Monitor m ∷ []) t)

-- whatever the weight of its node is
record Decision (a : App) (d : DistView) (t : TurnView) (does : ℕ → TurnView) : Type 0 where
  over : TurnView
  closed : (w : ℕ) → does w ≡ asking w over
  shape : Shape a d t over

chooses : {a : App} {d : DistView} {t : TurnView} (b : Bool) (does other : ℕ → TurnView) → (b ≡ true → Decision a d t does)
    → (b ≡ false → Decision a d t other) → Decision a d t (λ (w : ℕ). cond b (does w) (other w))
chooses true does other so otherwise = so refl
chooses false does other so otherwise = otherwise refl

decides : (a : App) (c : ClusterView) (own : OwnView) (n : Node) (life : ℕ) (d : DistView) → HasNoTuple own a
    → Decision a d (turn c own n life d) (λ (w : ℕ). mail.handled (message.StartRequest a) (asking w (turn c own n life d)))
unfolding start_appl start_distributed find_start_node is_to_start start_here finish runs_elsewhere
decides a c own n life d lists = by (standing_of d a)
  where
    t : TurnView
    t = turn c own n life d

    attempt : AttemptView
    attempt = asked_attempt d a

    candidates : List Node
    candidates = candidates_at own a d

    elsewhere : (m : Node) → Decision a d t (λ (w : ℕ). runs_elsewhere attempt m (asking w t))
    elsewhere m = record {
      over = told_so a (reply.Started m) (standing.Distributed m) t;
      closed = λ w. refl;
      shape = tells (reply.Started m) (standing.Distributed m);
    }

    for_any : Decision a d t (λ (w : ℕ). asking w (waits_so (stand.ForAnyStart attempt) [] t))
    for_any = record {
      over = waits_so (stand.ForAnyStart attempt) [] t;
      closed = λ w. refl;
      shape = waits (stand.ForAnyStart attempt) refl (λ b error. refl);
    }

    for_one : (m : Node) → m.0 ≢ n.0 → is_among m candidates ≡ true
        → Decision a d t (λ (w : ℕ). asking w (waits_so (stand.ForStart attempt m) (output.Monitor m ∷ []) t))
    for_one m other among = record {
      over = waits_so (stand.ForStart attempt m) (output.Monitor m ∷ []) t;
      closed = λ w. refl;
      shape = monitors (stand.ForStart attempt m) refl (λ b error. refl) m other among;
    }

    starts_here : Decision a d t (λ (w : ℕ). start_here attempt (asking w t))
    starts_here = record {
      over = told_so a (reply_of (verdict_here (standing_of d a) asked.Controller (remote d a))) standing.RunWaiting t;
      closed = λ w. refl;
      shape = tells (reply_of (verdict_here (standing_of d a) asked.Controller (remote d a))) standing.RunWaiting;
    }

    starts_at : (m : Node) → is_among m candidates ≡ true → Decision a d t (λ (w : ℕ). is_to_start attempt m (asking w t))
    starts_at m among =
        chooses (m.0 == n.0) _ _ (λ same. starts_here)
        (λ other. chooses (is_node m (runs_at (standing_of d a))) _ _ (λ runs. elsewhere m)
        (λ not_there. for_one m (eqb-false m.0 n.0 other) among))

    at_places : (nodes : List Node) (rest : TurnView → TurnView) → Decision a d t (λ (w : ℕ). rest (asking w t))
        → Decision a d t (λ (w : ℕ). at_node rest attempt candidates nodes (asking w t))
    at_places [] rest further = further
    at_places (m ∷ nodes) rest further =
        chooses (not (is_among m candidates)) _ _ (λ none. further)
        (λ among. chooses (runs_there d a m) _ _ (λ runs. elsewhere m)
        (λ not_there. starts_at m (not-false (is_among m candidates) among)))

    finds : (k : ℕ) (places : List WrittenView) → All (λ (w : WrittenView). w.is_tuple ≡ false) places
        → Decision a d t (λ (w : ℕ). find_from attempt candidates k places (asking w t))
    finds k [] all = for_any
    finds k (p ∷ places) all =
        chooses p.is_tuple _ _
        (λ is. absurd (false≢true (sym (All-head (λ (w : WrittenView). w.is_tuple ≡ false) p places all) ∙ is)))
        (λ alone. at_places p.nodes (find_from attempt candidates (k + 1) places)
        (finds (k + 1) places (All-tail (λ (w : WrittenView). w.is_tuple ≡ false) p places all)))

    nowhere : (l : List Node) → Decision a d t (λ (w : ℕ). outside attempt l None (asking w t))
    nowhere [] = record {
      over = told_so a reply.NotStarted standing.Undefined t;
      closed = λ w. refl;
      shape = tells reply.NotStarted standing.Undefined;
    }
    nowhere (m ∷ l) = for_any

    away : (o : Option Node) → Decision a d t (λ (w : ℕ). outside attempt candidates o (asking w t))
    away None = nowhere candidates
    away (Some m) = elsewhere m

    distributed : Decision a d t (λ (w : ℕ). start_distributed attempt (asking w t))
    distributed =
        chooses (is_among n candidates) _ _ (λ among. finds 0 (places_of own a) lists) (λ not_among. away (remote d a))

    by : (st : Standing) → Decision a d t (λ (w : ℕ). start_unless_local attempt st (asking w t))
    by standing.Local = record { over = told_nobody t; closed = λ w. refl; shape = tells_nobody }
    by standing.Undefined = distributed
    by standing.RunWaiting = distributed
    by standing.Takeover = distributed
    by (standing.Failover m) = distributed
    by (standing.Distributed m) = distributed

-- ---- carried out

-- it has answered, or it says nothing; or it waits for another node, with the lock of its own
pub data Onward (h : Here) (a : App) : Option DistView → List Envelope → List Held → Type 0 where
  replied : (r : Reply) (next : Option DistView) → ((d : DistView) → next ≡ Some d → IsUnoccupied d)
      → Onward h a next (its_reply h a r ∷ []) []
  quiet : (next : Option DistView) → ((d : DistView) → next ≡ Some d → IsUnoccupied d) → Onward h a next [] []
  hangs : (d : DistView) → IsHung d → Onward h a (Some d) [] (its_lock h.node h.life)

-- It takes the request: how it stands behind it and what it sends, whatever its controller has done meanwhile.
pub record Requested (lives : Node → ℕ) (n : Node) (a : App) (s : SystemView) : Type 0 where
  pub next : Option DistView
  pub more : List Envelope
  pub locks : List Held
  pub comes : (q : SystemView) (v : LiveView) → live_at q n ≡ Some v → v.dist ≡ (node_at s n).dist → v.life ≡ lives n
      → q.cluster ≡ s.cluster → q.files ≡ s.files → q.locks ≡ [] → q.links ≡ s.links
      → ((k : Node) → is_alive_at q k ≡ is_alive_at s k)
      → mailed n (message.StartRequest a) q
      ≡ record (with_node n (record v { dist = next }) q) { messages = q.messages ++ more; locks = locks }
  pub then_on : Onward (here_in lives n) a next more locks
  pub keeps : (d : DistView) → next ≡ Some d → Keeps (node_at s n).dist d

itself : {o : Option DistView} (d : DistView) → o ≡ Some d → (next : DistView) → next.t_reqs ≡ d.t_reqs → next.known ≡ d.known
    → next.may ≡ d.may → (e : DistView) → Some next ≡ Some e → Keeps o e
itself {o} d had next takeovers known may e is =
    subst (Keeps o) (same_Some next e is) (record { before = d; had = had; takeovers = takeovers; known = known; may = may })

requests_idle : (lives : Node → ℕ) (n : Node) (a : App) (s : SystemView) (d : DistView) → (node_at s n).dist ≡ Some d → IsUnoccupied d
    → d.stand ≡ stand.Idle → HasNoTuple (own_in s.files n) a
    → ((d : DistView) → (node_at s n).dist ≡ Some d → SeesRunners n a d s) → Requested lives n a s
requests_idle lives n a s d had free is lists sees = by decided.over decided.closed decided.shape
  where
    t : TurnView
    t = turn s.cluster (own_in s.files n) n (lives n) d

    decided : Decision a d t (λ (w : ℕ). mail.handled (message.StartRequest a) (asking w t))
    decided = decides a s.cluster (own_in s.files n) n (lives n) d lists

    came : (over : TurnView) → ((w : ℕ) → mail.handled (message.StartRequest a) (asking w t) ≡ asking w over)
        → (q : SystemView) (v : LiveView) → live_at q n ≡ Some v → v.dist ≡ (node_at s n).dist → v.life ≡ lives n
        → q.cluster ≡ s.cluster → q.files ≡ s.files → q.locks ≡ []
        → mailed n (message.StartRequest a) q
        ≡ all_carried_out n over.out (record (with_node n (record v { dist = Some over.state }) q) { locks = its_lock n (lives n) })
    came over closed q v there has life in_cluster in_files none =
        request_comes n a q v d over there (has ∙ had) free is none
        (λ w. (λ i. mail.handled (message.StartRequest a) (asking w (turn (in_cluster i) (own_in (in_files i) n) n (life i) d)))
        ∙ closed w)
        ∙ (λ i. all_carried_out n over.out (record (with_node n (record v { dist = Some over.state }) q) { locks = its_lock n (life i) }))

    at_rest : (next : DistView) → next.stand ≡ stand.Idle → next.mail ≡ [] → next.p_reqs ≡ [] → next.parked ≡ []
        → (e : DistView) → Some next ≡ Some e → IsUnoccupied e
    at_rest next idles none permits parked e same = subst IsUnoccupied (same_Some next e same) (record {
      stand = inl idles;
      mail = subst (λ (l : List Message). All (λ (m : Message). takes next.stand m ≡ false) l) (sym none)
          (All-nil (λ (m : Message). takes next.stand m ≡ false));
      permits = permits;
      parked = parked;
    })

    by : (over : TurnView) → ((w : ℕ) → mail.handled (message.StartRequest a) (asking w t) ≡ asking w over) → Shape a d t over
        → Requested lives n a s
    by _ closed (tells r st) =
        let over : TurnView = told_so a r st t in
        record {
          next = Some over.state;
          more = its_reply (here_in lives n) a r ∷ [];
          locks = [];
          comes = λ q v there has life in_cluster in_files none links awake.
              came over closed q v there has life in_cluster in_files none
              ∙ (λ i. record (with_node n (record v { dist = Some over.state }) q) {
                messages = q.messages ++ its_reply (here_in lives n) a r ∷ [];
                locks = freed_own n (lives n) i;
              });
          then_on = replied r (Some over.state) (at_rest over.state refl refl free.permits free.parked);
          keeps = itself d had over.state refl refl refl;
        }
    by _ closed tells_nobody =
        let over : TurnView = told_nobody t in
        record {
          next = Some over.state;
          more = [];
          locks = [];
          comes = λ q v there has life in_cluster in_files none links awake.
              came over closed q v there has life in_cluster in_files none
              ∙ (λ i. record (with_node n (record v { dist = Some over.state }) q) {
                messages = sym (append-nil q.messages) i;
                locks = freed_own n (lives n) i;
              });
          then_on = quiet (Some over.state) (at_rest over.state refl refl free.permits free.parked);
          keeps = itself d had over.state refl refl refl;
        }
    by _ closed (waits w no_lock refuses) =
        let over : TurnView = waits_so w [] t in
        record {
          next = Some over.state;
          more = [];
          locks = its_lock n (lives n);
          comes = λ q v there has life in_cluster in_files none links awake.
              came over closed q v there has life in_cluster in_files none
              ∙ (λ i. record (with_node n (record v { dist = Some over.state }) q) {
                messages = sym (append-nil q.messages) i;
                locks = its_lock n (lives n);
              });
          then_on = hangs over.state (record {
            lock = no_lock;
            parked = free.parked;
            mail = All-nil (λ (m : Message). takes w m ≡ false);
            refuses = refuses;
          });
          keeps = itself d had over.state refl refl refl;
        }
    by _ closed (monitors w no_lock refuses m other among) =
        let over : TurnView = waits_so w (output.Monitor m ∷ []) t in
        let next : DistView = with_monitor m over.state in
        let seen : (is_alive_at s m ≡ true) × ((n.0 == m.0 || are_linked n m s.links) ≡ true) = sees d had m other among in
        record {
          next = Some next;
          more = [];
          locks = its_lock n (lives n);
          comes = λ q v there has life in_cluster in_files none links awake.
              came over closed q v there has life in_cluster in_files none
              ∙ monitors_it n m (record q { locks = its_lock n (lives n) }) v over.state there (λ same. other (sym same))
              (awake m ∙ seen.0) (ap (λ l. n.0 == m.0 || are_linked n m l) links ∙ seen.1)
              ∙ (λ i. record (with_node n (record v { dist = Some next }) q) {
                messages = sym (append-nil q.messages) i;
                locks = its_lock n (lives n);
              });
          then_on = hangs next (record {
            lock = no_lock;
            parked = free.parked;
            mail = All-nil (λ (x : Message). takes w x ≡ false);
            refuses = refuses;
          });
          keeps = itself d had next refl refl refl;
        }

-- nothing comes of it where it has none, or takes nothing yet
requests_nothing : (lives : Node → ℕ) (n : Node) (a : App) (s : SystemView) (next : Option DistView)
    → ((q : SystemView) (v : LiveView) → live_at q n ≡ Some v → v.dist ≡ (node_at s n).dist
    → mailed n (message.StartRequest a) q ≡ with_node n (record v { dist = next }) q)
    → ((d : DistView) → next ≡ Some d → IsUnoccupied d) → ((d : DistView) → next ≡ Some d → Keeps (node_at s n).dist d)
    → Requested lives n a s
requests_nothing lives n a s next comes rest keeps = record {
  next = next;
  more = [];
  locks = [];
  comes = λ q v there has life in_cluster in_files none links awake.
      comes q v there has
      ∙ (λ i. record (with_node n (record v { dist = next }) q) { messages = sym (append-nil q.messages) i; locks = none i });
  then_on = quiet next rest;
  keeps = keeps;
}

pub requests : (lives : Node → ℕ) (n : Node) (a : App) (s : SystemView)
    → ((d : DistView) → (node_at s n).dist ≡ Some d → IsUnoccupied d) → HasNoTuple (own_in s.files n) a
    → ((d : DistView) → (node_at s n).dist ≡ Some d → SeesRunners n a d s)
    → Requested lives n a s
requests lives n a s free lists sees = by (node_at s n).dist refl
  where
    x : Message
    x = message.StartRequest a

    at : (d : DistView) → (node_at s n).dist ≡ Some d → (d.stand ≡ stand.Idle) ⊎ (d.stand ≡ stand.ForGo) → Requested lives n a s
    at d had (inl is) = requests_idle lives n a s d had (free d had) is lists sees
    at d had (inr is) =
        requests_nothing lives n a s (Some (with_message x d))
        (λ q v there has. waits_on n x q v d there (has ∙ had) (free d had) is refl)
        (λ e same. subst IsUnoccupied (same_Some (with_message x d) e same) (still_waits x d (free d had) is refl))
        (itself d had (with_message x d) refl refl refl)

    by : (o : Option DistView) → (node_at s n).dist ≡ o → Requested lives n a s
    by None had =
        requests_nothing lives n a s None (λ q v there has. none_on n x q v there (has ∙ had)) (λ d is. absurd (none-some d is))
        (λ d is. absurd (none-some d is))
    by (Some d) had = at d had (free d had).stand
