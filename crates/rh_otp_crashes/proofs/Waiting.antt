-- What a standby's dist_ac does, carried out: at its timer, and where it waits at the news of the first node.
use Rattle.std.proofs.Common.{◌≡◌, ◌≢◌, ◌⊎◌, ◌+◌, ◌==◌, ◌||◌, ℕ, Bool, true, false, not, cond, nat_lt, List, [], is_some, Option, Some, None, refl, sym, ap, subst, ◌∙◌, inl, inr}
use Rattle.std.proofs.lemmas.Bool.{and_from, eq-eqb, ne_eqb, false≢true}
use Rattle.rh_model.specs.ClusterView.{ClusterView}
use Rattle.rh_model.specs.declared.node.App.{App}
use Rattle.rh_model.specs.declared.node.Node.{Node}
use Rattle.rh_otp_model.specs.declared.message.Message.{Message}
use Rattle.rh_otp_model.specs.declared.message.Message.TheVariants as message
use Rattle.rh_otp_model.specs.declared.output.Output.{Output}
use Rattle.rh_otp_model.specs.declared.process.Role.TheVariants as role
use Rattle.rh_otp_model.specs.declared.wait.OwnFile.{OwnFile}
use Rattle.rh_otp_model.specs.Own.{OwnView}
use Rattle.rh_otp_dist.specs.declared.state.Stand.TheVariants.{Idle, ForStart}
use Rattle.rh_otp_dist.specs.declared.state.Standing.TheVariants as standing
use Rattle.rh_otp_dist.specs.Choosing.{places_of, candidates_of, remote, wait}
use Rattle.rh_otp_dist.specs.Outside.{with_message}
use Rattle.rh_otp_dist.specs.Outside as outside
use Rattle.rh_otp_dist.specs.Received.{handle_next}
use Rattle.rh_otp_dist.specs.Sending.{monitor}
use Rattle.rh_otp_dist.specs.State.{DistView, TurnView, standing_of, is_among}
use Rattle.rh_otp_dist.specs.Views.{AttemptView}
use Rattle.rh_otp_dist.specs.Waiting.{takes, started_there}
use Rattle.rh_otp_net.specs.Links.{are_linked, to_connect}
use Rattle.rh_otp_node.specs.Live.{LiveView, is_alive}
use Rattle.rh_otp_node.specs.Remote as remote_of
use Rattle.rh_otp_node.specs.Turns.{handled_by, handled_if, behind_turn, weight_of}
use Rattle.rh_otp_system.specs.Connecting as connecting
use Rattle.rh_otp_system.specs.Connecting.{connect, link, reach, with_slow_links}
use Rattle.rh_otp_system.specs.Outputs.{all_carried_out}
use Rattle.rh_otp_system.specs.Sending.{sent}
use Rattle.rh_otp_system.specs.State.{SystemView, live_at, node_at, with_node, is_alive_at, process_in}
use Rattle.rh_otp_system.specs.Working as working
use Rattle.rh_otp_laws.proofs.Nodes.{node_written, others_same}
use Rattle.rh_otp_crashes.specs.Crashes.{IsUnoccupied}
use Rattle.rh_otp_crashes.specs.Failovers.{first_of, lost_attempt}
use Rattle.rh_otp_crashes.proofs.Peace.{IsFree, AreCalm, is_free_at_ease}
use Rattle.rh_otp_crashes.proofs.Standing.{Stands, waits_for, restarts_waiting, hears_behind}
use Rattle.rh_otp_crashes.proofs.Starting.{heard}
use Rattle.rh_otp_crashes.proofs.Turning.{own_in, written_twice, turn, weighing, works_on, mailed_to, turned_by, idle_comes}

-- ---- at its timer

-- no connection is made to a node that is seen
pub stays : (n m : Node) (s : SystemView) → (n.0 == m.0 || are_linked n m s.links) ≡ true → reach n m s ≡ s
unfolding connect
stays n m s seen = by (n.0 == m.0) (are_linked n m s.links) seen
  where
    by : (p q : Bool) → (p || q) ≡ true → cond p s (cond q s (with_slow_links (to_connect n m s.links) (link n m s))) ≡ s
    by true q seen = refl
    by false true seen = refl
    by false false seen = absurd (false≢true seen)

-- it monitors a node that is alive and that it sees
pub monitors_it : (k n : Node) (s : SystemView) (v : LiveView) (d : DistView) → live_at s k ≡ Some v → k.0 ≢ n.0 → is_alive_at s n ≡ true
    → (k.0 == n.0 || are_linked k n s.links) ≡ true
    → connecting.monitor k n (with_node k (record v { dist = Some d }) s)
    ≡ with_node k (record v { dist = Some (outside.with_monitor n d) }) s
monitors_it k n s v d there other alive seen =
    let w : LiveView = record v { dist = Some d } in
    let q : SystemView = with_node k w s in
    let awake : is_alive_at q n ≡ true = ap is_alive (others_same s k n w (λ same. other (sym same))) ∙ alive in
    ap (λ (b : Bool). cond b (connecting.with_monitor k n (reach k n q))
    (sent (process_in q n role.DistAc) (process_in q k role.DistAc) (message.NodeDown n) q)) awake
    ∙ ap (connecting.with_monitor k n) (stays k n q seen)
    ∙ ap (λ (x : LiveView). with_node k (remote_of.monitored n x) q) (node_written s k v w there)
    ∙ written_twice s k w (record v { dist = Some (outside.with_monitor n d) })

-- At its timer it waits for the first node.
pub waits_on_first : (c : ClusterView) (files : List OwnFile) (k : Node) (life : ℕ) (a : App) (n gone : Node) (loss : ℕ) (d : DistView)
    → IsUnoccupied d → d.stand ≡ Idle → standing_of d a ≡ standing.Failover gone
    → is_among k (candidates_of (own_in files k) (lost_attempt d a)) ≡ true
    → first_of (candidates_of (own_in files k) (lost_attempt d a)) (places_of (own_in files k) a) ≡ Some n → remote d a ≡ None
    → k.0 ≢ n.0 → (s : SystemView) (v : LiveView) → live_at s k ≡ Some v → v.dist ≡ Some d → v.life ≡ life → s.cluster ≡ c
    → s.files ≡ files → is_alive_at s n ≡ true → (k.0 == n.0 || are_linked k n s.links) ≡ true
    → working.mailed k (message.RestartAppl a loss) s ≡ with_node k (record v { dist = Some (waits_for n a d) }) s
waits_on_first c files k life a n gone loss d free is lost among first unknown other s v there has same in_cluster in_files alive seen =
    let t : TurnView = turn c (own_in files k) k life d in
    let over : TurnView = wait (ForStart (lost_attempt t.state a) n) (monitor n t) in
    idle_comes c files k life (message.RestartAppl a loss) d over free is refl
    (λ w. restarts_waiting a n gone (weighing w t) lost among first unknown (ne_eqb n.0 k.0 (λ one. other (sym one)))) s v there has same
    in_cluster in_files
    ∙ monitors_it k n s v over.state there other alive seen

-- ---- at the news

-- the place of a message alone in its mailbox, if it takes it
abbrev place_if : Bool → Option ℕ
place_if b = cond (nat_lt (cond (not b) (1 + 0) 0) 1) (Some (cond (not b) (1 + 0) 0)) None

-- it waits for a start, with nothing in its mailbox
abbrev waiting : AttemptView → Node → DistView → DistView
waiting attempt n d = record d { stand = ForStart attempt n; mail = [] }

abbrev with_waiting : AttemptView → Node → DistView → LiveView → LiveView
with_waiting attempt n d v = record v { dist = Some (waiting attempt n d) }

abbrev mailed_waiting : Message → AttemptView → Node → DistView → LiveView → LiveView
mailed_waiting m attempt n d v = record v { dist = Some (with_message m (waiting attempt n d)) }

handles : (c : ClusterView) (own : OwnView) (k : Node) (m : Message) (w : ℕ) (v : LiveView) (attempt : AttemptView) (n : Node) (d : DistView)
    → takes (ForStart attempt n) m ≡ true
    → handled_by c own k (record { weight = w; has_lock = false; burns = false }) (mailed_waiting m attempt n d v)
    ≡ (
      record v { dist = Some (started_there attempt n m (weighing w (turn c own k v.life d))).state },
      (started_there attempt n m (weighing w (turn c own k v.life d))).out,
    )
unfolding handled_by handle_next
handles c own k m w v attempt n d takes_it =
    ap (λ (b : Bool). behind_turn v (handled_if (place_if b) (record {
      cluster = c;
      own = own;
      here = record { node = k; life = v.life };
      weight = w;
      has_lock = false;
      burns = false;
      state = with_message m (waiting attempt n d);
      out = [];
    }))) takes_it

works_waiting : (k : Node) (m : Message) (s : SystemView) (v : LiveView) (attempt : AttemptView) (n : Node) (d : DistView) (over : TurnView)
    → live_at s k ≡ Some (with_waiting attempt n d v) → takes (ForStart attempt n) m ≡ true
    → ((w : ℕ) → started_there attempt n m (weighing w (turn s.cluster (own_in s.files k) k v.life d)) ≡ weighing w over)
    → working.work k (mailed_to k m (with_waiting attempt n d v) s) ≡ turned_by k v over s
unfolding working.work working.handled
works_waiting k m s v attempt n d over there takes_it closed =
    let w : LiveView = mailed_waiting m attempt n d v in
    let q : SystemView = with_node k w s in
    let here : node_at q k ≡ w = node_written s k (with_waiting attempt n d v) w there in
    let own : OwnView = own_in s.files k in
    let weight : ℕ = weight_of s.cluster k w in
    let e : DistView = with_message m (waiting attempt n d) in
    ap (λ (x : LiveView). working.work_for (remote_of.mail_count x) k q) here
    ∙ ap (λ (x : LiveView). cond (remote_of.has_next x) (working.handled_for k (working.need_at q k) (working.asked_for k (working.need_at q k) q) q) q) here
    ∙ ap (λ (b : Bool). cond (is_some (place_if b)) (working.handled_for k (working.need_at q k) (working.asked_for k (working.need_at q k) q) q) q) takes_it
    ∙ ap (λ (x : LiveView). working.handled_for k (remote_of.need_of x) (working.asked_for k (remote_of.need_of x) q) q) here
    ∙ ap (λ (b : Bool). working.handled_for k (remote_of.need_if (place_if b) e) (working.asked_for k (remote_of.need_if (place_if b) e) q) q) takes_it
    ∙ ap (λ (x : LiveView). working.behind k
    (handled_by s.cluster own k (record { weight = weight_of s.cluster k x; has_lock = false; burns = false }) x) q) here
    ∙ ap (λ (pair : LiveView × List Output). working.behind k pair q) (handles s.cluster own k m weight v attempt n d takes_it)
    ∙ ap (λ (u : TurnView). working.behind k (record v { dist = Some u.state }, u.out) q) (closed weight)
    ∙ ap (all_carried_out k over.out) (written_twice s k w (record v { dist = Some over.state }))

-- Where it waits it goes on at the news, as if it had never waited.
pub hears_waiting : (c : ClusterView) (files : List OwnFile) (k : Node) (life : ℕ) (a : App) (n : Node) (d : DistView) → Stands n a d
    → (s : SystemView) (v : LiveView) → live_at s k ≡ Some v → v.dist ≡ Some (waits_for n a d) → v.life ≡ life → s.cluster ≡ c
    → s.files ≡ files
    → working.mailed k (message.AppStarted n a None) s ≡ turned_by k v (heard a n (turn c (own_in files k) k life d)) s
hears_waiting c files k life a n d stands s v there has same in_cluster in_files =
    let m : Message = message.AppStarted n a None in
    let attempt : AttemptView = lost_attempt d a in
    let e : DistView = waits_for n a d in
    let as_waiting : v ≡ with_waiting attempt n e v = (λ i. record v { dist = has i }) in
    works_on k m s v there
    ∙ ap (λ (x : LiveView). working.work k (mailed_to k m x s)) as_waiting
    ∙ works_waiting k m s v attempt n e (heard a n (turn c (own_in files k) k life d)) (there ∙ ap Some as_waiting)
    (and_from (a.0 == a.0) (n.0 == n.0) (eq-eqb a.0 a.0 refl) (eq-eqb n.0 n.0 refl))
    (λ w. (λ i. started_there attempt n m (weighing w (turn (in_cluster i) (own_in (in_files i) k) k (same i) e)))
    ∙ hears_behind c (own_in files k) k life w a n d stands)

-- ---- how dist_acs are

-- it waits for the start at the first node
pub record Waits (n : Node) (a : App) (d : DistView) : Type 0 where
  pub before : DistView
  pub stands : Stands n a before
  pub is : d ≡ waits_for n a before

-- A dist_ac does nothing, or is another node's and waits so.
abbrev pub Behaves : Node → App → Node → DistView → Type 0
Behaves n a k d = IsUnoccupied d ⊎ ((k.0 ≢ n.0) × Waits n a d)

-- that of the first node doesn't
pub first_is_free : (n : Node) (a : App) (d : DistView) → Behaves n a n d → IsUnoccupied d
first_is_free n a d (inl free) = free
first_is_free n a d (inr (other, waits)) = absurd (other refl)

is_free_there : (n : Node) (a : App) (k : Node) (d : DistView) → Behaves n a k d → IsFree d
is_free_there n a k d (inl free) = is_free_at_ease d free
is_free_there n a k d (inr (other, waits)) =
    subst IsFree (sym waits.is) (record { lock = refl; parked = waits.stands.parked })

pub all_behave : (n : Node) (a : App) → AreCalm (Behaves n a)
all_behave n a = record { ease = λ k d free. inl free; free = is_free_there n a }
