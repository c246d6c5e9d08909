-- What a dist_ac and a controller do at a message, whatever the other of the two has done meanwhile.
use Rattle.std.proofs.Common.{◌≡◌, ◌+◌, ◌++◌, ℕ, zero, suc, Bool, false, not, cond, length, List, [], ◌∷◌, slice_get, position, unwrap_or, is_some, Option, Some, None, refl, sym, ap, subst, ◌∙◌, arith}
use Rattle.std.specs.List.{position_or_len}
use Rattle.std.specs.Option.{option_map}
use Rattle.std.specs.Prelude.{All}
use Rattle.std.proofs.lemmas.Bool.{false≢true, le-ltb}
use Rattle.std.proofs.lemmas.List.{set-set}
use Rattle.std.proofs.lemmas.List.Elements.{All-nil, All-cons, All-head, All-tail, All-append}
use Rattle.std.proofs.lemmas.Option.{none-some, same_Some}
use Rattle.rh_model.specs.ClusterView.{ClusterView}
use Rattle.rh_model.specs.declared.node.Node.{Node}
use Rattle.rh_otp_model.specs.declared.message.Message.{Message}
use Rattle.rh_otp_model.specs.declared.output.Envelope.{Envelope}
use Rattle.rh_otp_model.specs.declared.output.Event.{Event}
use Rattle.rh_otp_model.specs.declared.output.Output.{Output}
use Rattle.rh_otp_model.specs.declared.wait.OwnFile.{OwnFile}
use Rattle.rh_otp_model.specs.Own.{OwnView}
use Rattle.rh_otp_controller.specs.State.{ControllerView}
use Rattle.rh_otp_dist.specs.declared.outside.Need.TheVariants as need
use Rattle.rh_otp_dist.specs.declared.outside.Need.{Need}
use Rattle.rh_otp_dist.specs.declared.state.Stand.TheVariants as stand
use Rattle.rh_otp_dist.specs.Outside.{with_message, idle_need}
use Rattle.rh_otp_dist.specs.Received.{handle_next}
use Rattle.rh_otp_dist.specs.Received as mail
use Rattle.rh_otp_dist.specs.State.{DistView, TurnView}
use Rattle.rh_otp_dist.specs.Waiting.{takes, is_go}
use Rattle.rh_otp_node.specs.Live.{LiveView, never_begun}
use Rattle.rh_otp_node.specs.Remote as remote
use Rattle.rh_otp_node.specs.Turns.{handled_by, weight_of}
use Rattle.rh_otp_system.specs.declared.cell.Cell.TheVariants as cell
use Rattle.rh_otp_system.specs.Delivering.{controlled}
use Rattle.rh_otp_system.specs.Outputs.{all_carried_out}
use Rattle.rh_otp_system.specs.State.{SystemView, live_at, node_at, with_node, no_own}
use Rattle.rh_otp_system.specs.Working as working
use Rattle.rh_otp_laws.proofs.Nodes.{node_written}
use Rattle.rh_otp_crashes.specs.Crashes.{IsUnoccupied}
use Rattle.rh_otp_crashes.proofs.Carrying.{IsPlain, letters}

-- what a node's own file says
abbrev pub own_in : List OwnFile → Node → OwnView
own_in files n = unwrap_or (option_map (λ (f : OwnFile). f.own) (slice_get files n.0)) no_own

pub node_is : (s : SystemView) (n : Node) (v : LiveView) → live_at s n ≡ Some v → node_at s n ≡ v
node_is s n v is = ap (λ (o : Option LiveView). unwrap_or o never_begun) is

-- what is written twice stands as it was written last
pub written_twice : (s : SystemView) (n : Node) (v w : LiveView) → with_node n w (with_node n v s) ≡ with_node n w s
written_twice s n v w =
    λ i. record s { nodes = record s.nodes { cells = set-set s.nodes.cells n.0 (cell.Node v) (cell.Node w) i } }

-- ---- the dist_ac

-- What it does there, with these states of the cluster, of files and of itself: how it stands behind it, and what it has done. The rest of
-- its node is nothing to it. All that it sends is of a kind.
pub record Turned (K : Envelope → Type 0) (c : ClusterView) (files : List OwnFile) (n : Node) (life : ℕ) (m : Message) (o : Option DistView)
    : Type 0 where
  pub next : Option DistView
  pub outs : List Output
  pub comes : (s : SystemView) (v : LiveView) → live_at s n ≡ Some v → v.dist ≡ o → v.life ≡ life → s.cluster ≡ c → s.files ≡ files
      → working.mailed n m s ≡ all_carried_out n outs (with_node n (record v { dist = next }) s)
  pub plain : All IsPlain outs
  pub kinds : All K (letters outs)
  pub rest : (d : DistView) → next ≡ Some d → IsUnoccupied d

-- behind its mail comes its work
abbrev pub mailed_to : Node → Message → LiveView → SystemView → SystemView
mailed_to n m v s = with_node n (remote.mailed m v) s

pub works_on : (n : Node) (m : Message) (s : SystemView) (v : LiveView) → live_at s n ≡ Some v
    → working.mailed n m s ≡ working.work n (mailed_to n m v s)
unfolding working.mailed
works_on n m s v is = ap (λ (w : LiveView). working.work n (mailed_to n m w s)) (node_is s n v is)

-- it has none
works_none : (n : Node) (m : Message) (s : SystemView) (v : LiveView) → live_at s n ≡ Some v → v.dist ≡ None
    → working.work n (mailed_to n m v s) ≡ with_node n (record v { dist = None }) s
unfolding working.work
works_none n m s v is none =
    ap (λ (w : LiveView). working.work_for (remote.mail_count w) n (mailed_to n m v s)) (node_written s n v (remote.mailed m v) is)
    ∙ ap (λ (o : Option DistView). working.work_for (remote.mail_count (remote.with_change (with_message m) o v)) n (mailed_to n m v s)) none
    ∙ ap (λ (o : Option DistView). working.work_for (remote.mail_in o) n (mailed_to n m v s)) none
    ∙ ap (λ (o : Option DistView). with_node n (remote.with_change (with_message m) o v) s) none
    ∙ (λ i. with_node n (record v { dist = none i }) s)

pub none_on : (n : Node) (m : Message) (s : SystemView) (v : LiveView) → live_at s n ≡ Some v → v.dist ≡ None
    → working.mailed n m s ≡ with_node n (record v { dist = None }) s
none_on n m s v there none = works_on n m s v there ∙ works_none n m s v there none

pub has_none : (K : Envelope → Type 0) (c : ClusterView) (files : List OwnFile) (n : Node) (life : ℕ) (m : Message)
    → Turned K c files n life m None
has_none K c files n life m = record {
  next = None;
  outs = [];
  comes = λ s v there none same in_cluster in_files. none_on n m s v there none;
  plain = All-nil IsPlain;
  kinds = All-nil K;
  rest = λ d is. absurd (none-some d is);
}

-- ---- it waits for others still

-- it takes none of these
abbrev pub NoneTaken : DistView → List Message → Type 0
NoneTaken d mail = All (λ (m : Message). takes d.stand m ≡ false) mail

passed_over : (p : Message → Bool) (mail : List Message) → All (λ (m : Message). p m ≡ false) mail → position_or_len p mail ≡ length mail
passed_over p [] none = refl
passed_over p (m ∷ mail) none =
    ap (λ (b : Bool). cond (not b) (1 + position_or_len p mail) 0) (All-head (λ (x : Message). p x ≡ false) m mail none)
    ∙ (let same : position_or_len p mail ≡ length mail = passed_over p mail (All-tail (λ (x : Message). p x ≡ false) m mail none) in
    omega (arith, same))

pub none_next : (p : Message → Bool) (mail : List Message) → All (λ (m : Message). p m ≡ false) mail → position p mail ≡ None
none_next p mail none =
    ap (λ (b : Bool). cond b (Some (position_or_len p mail)) None)
    (le-ltb (position_or_len p mail) (length mail) (let same : position_or_len p mail ≡ length mail = passed_over p mail none in omega (arith, same)))

pub idles : (k : ℕ) (n : Node) (s : SystemView) → working.has_next_at s n ≡ false → working.work_for k n s ≡ s
idles zero n s none = refl
idles (suc k) n s none = ap (λ (b : Bool). cond b (working.work_for k n (working.handled n s)) s) none

pub works_waiting : (n : Node) (m : Message) (s : SystemView) (v : LiveView) (d : DistView) → live_at s n ≡ Some v → v.dist ≡ Some d
    → NoneTaken d (d.mail ++ m ∷ [])
    → working.work n (mailed_to n m v s) ≡ with_node n (record v { dist = Some (with_message m d) }) s
unfolding working.work
works_waiting n m s v d there has none =
    let q : SystemView = mailed_to n m v s in
    let no_next : working.has_next_at q n ≡ false =
    ap remote.has_next (node_written s n v (remote.mailed m v) there)
    ∙ ap (λ (o : Option DistView). remote.has_next (remote.with_change (with_message m) o v)) has
    ∙ ap is_some (none_next (takes d.stand) (d.mail ++ m ∷ []) none) in
    idles (working.mail_count_at q n) n q no_next ∙ ap (λ (o : Option DistView). with_node n (remote.with_change (with_message m) o v) s) has

none_there : (m : Message) (d : DistView) → IsUnoccupied d → d.stand ≡ stand.ForGo → is_go m ≡ false → NoneTaken d (d.mail ++ m ∷ [])
none_there m d free is no_go =
    All-append (λ (x : Message). takes d.stand x ≡ false) d.mail (m ∷ []) free.mail
    (All-cons (λ (x : Message). takes d.stand x ≡ false) m [] (ap (λ w. takes w m) is ∙ no_go) (All-nil (λ (x : Message). takes d.stand x ≡ false)))

pub waits_on : (n : Node) (m : Message) (s : SystemView) (v : LiveView) (d : DistView) → live_at s n ≡ Some v → v.dist ≡ Some d
    → IsUnoccupied d → d.stand ≡ stand.ForGo → is_go m ≡ false
    → working.mailed n m s ≡ with_node n (record v { dist = Some (with_message m d) }) s
waits_on n m s v d there has free is no_go =
    works_on n m s v there ∙ works_waiting n m s v d there has (none_there m d free is no_go)

pub still_waits : (m : Message) (d : DistView) → IsUnoccupied d → d.stand ≡ stand.ForGo → is_go m ≡ false → IsUnoccupied (with_message m d)
still_waits m d free is no_go = record {
  stand = free.stand;
  mail = none_there m d free is no_go;
  permits = free.permits;
  parked = free.parked;
}

pub has_waiting : (K : Envelope → Type 0) (c : ClusterView) (files : List OwnFile) (n : Node) (life : ℕ) (m : Message) (d : DistView)
    → IsUnoccupied d → d.stand ≡ stand.ForGo → is_go m ≡ false → Turned K c files n life m (Some d)
has_waiting K c files n life m d free is no_go = record {
  next = Some (with_message m d);
  outs = [];
  comes = λ s v there has same in_cluster in_files. waits_on n m s v d there has free is no_go;
  plain = All-nil IsPlain;
  kinds = All-nil K;
  rest = λ e is_next. subst IsUnoccupied (same_Some (with_message m d) e is_next) (still_waits m d free is no_go);
}

-- ---- it takes whatever comes

abbrev pub idle : DistView → DistView
idle d = record d { stand = stand.Idle; mail = [] }

-- its turn, where its node has no weight
abbrev pub turn : ClusterView → OwnView → Node → ℕ → DistView → TurnView
turn c own n life d = record {
  cluster = c;
  own = own;
  here = record { node = n; life = life };
  weight = 0;
  has_lock = false;
  burns = false;
  state = idle d;
  out = [];
}

-- where it has one
abbrev pub weighing : ℕ → TurnView → TurnView
weighing w t = record t { weight = w }

abbrev with_idle : DistView → LiveView → LiveView
with_idle d v = record v { dist = Some (idle d) }

abbrev mailed_idle : Message → DistView → LiveView → LiveView
mailed_idle m d v = record v { dist = Some (with_message m (idle d)) }

-- what such a turn makes of the system
abbrev pub turned_by : Node → LiveView → TurnView → SystemView → SystemView
turned_by n v t s = all_carried_out n t.out (with_node n (record v { dist = Some t.state }) s)

handles : (c : ClusterView) (own : OwnView) (n : Node) (m : Message) (w : ℕ) (v : LiveView) (d : DistView)
    → handled_by c own n (record { weight = w; has_lock = false; burns = false }) (mailed_idle m d v)
    ≡ (record v { dist = Some (mail.handled m (weighing w (turn c own n v.life d))).state }, (mail.handled m (weighing w (turn c own n v.life d))).out)
unfolding handled_by handle_next
handles c own n m w v d = refl

pub works_idle : (n : Node) (m : Message) (s : SystemView) (v : LiveView) (d : DistView) (over : TurnView)
    → live_at s n ≡ Some (with_idle d v) → idle_need m (with_message m (idle d)) ≡ need.Nothing
    → ((w : ℕ) → mail.handled m (weighing w (turn s.cluster (own_in s.files n) n v.life d)) ≡ weighing w over)
    → working.work n (mailed_to n m (with_idle d v) s) ≡ turned_by n v over s
unfolding working.work working.handled
works_idle n m s v d over there no_need closed =
    let w : LiveView = mailed_idle m d v in
    let q : SystemView = with_node n w s in
    let here : node_at q n ≡ w = node_written s n (with_idle d v) w there in
    let own : OwnView = own_in s.files n in
    let weight : ℕ = weight_of s.cluster n w in
    ap (λ (x : LiveView). working.work_for (remote.mail_count x) n q) here
    ∙ ap (λ (x : LiveView). cond (remote.has_next x) (working.handled_for n (working.need_at q n) (working.asked_for n (working.need_at q n) q) q) q) here
    ∙ ap (λ (x : LiveView). working.handled_for n (remote.need_of x) (working.asked_for n (remote.need_of x) q) q) here
    ∙ ap (λ (x : Need). working.handled_for n x (working.asked_for n x q) q) no_need
    ∙ ap (λ (x : LiveView). working.behind n
    (handled_by s.cluster own n (record { weight = weight_of s.cluster n x; has_lock = false; burns = false }) x) q) here
    ∙ ap (λ (pair : LiveView × List Output). working.behind n pair q) (handles s.cluster own n m weight v d)
    ∙ ap (λ (u : TurnView). working.behind n (record v { dist = Some u.state }, u.out) q) (closed weight)
    ∙ ap (all_carried_out n over.out) (written_twice s n w (record v { dist = Some over.state }))

none_in_idle : (mail : List Message) → All (λ (m : Message). takes stand.Idle m ≡ false) mail → mail ≡ []
none_in_idle [] none = refl
none_in_idle (m ∷ mail) none = absurd (false≢true (sym (All-head (λ (x : Message). takes stand.Idle x ≡ false) m mail none)))

pub is_idle : (d : DistView) → IsUnoccupied d → d.stand ≡ stand.Idle → d ≡ idle d
is_idle d free is =
    let none : d.mail ≡ [] =
    none_in_idle d.mail (subst (λ w. All (λ (m : Message). takes w m ≡ false) d.mail) is free.mail) in
    λ i. record d { stand = is i; mail = none i }

-- What it comes to, where the message asks for nothing and comes to `over` whatever the weight is.
pub idle_comes : (c : ClusterView) (files : List OwnFile) (n : Node) (life : ℕ) (m : Message) (d : DistView) (over : TurnView)
    → IsUnoccupied d → d.stand ≡ stand.Idle → idle_need m (with_message m (idle d)) ≡ need.Nothing
    → ((w : ℕ) → mail.handled m (weighing w (turn c (own_in files n) n life d)) ≡ weighing w over)
    → (s : SystemView) (v : LiveView) → live_at s n ≡ Some v → v.dist ≡ Some d → v.life ≡ life → s.cluster ≡ c → s.files ≡ files
    → working.mailed n m s ≡ turned_by n v over s
idle_comes c files n life m d over free is no_need closed s v there has same in_cluster in_files =
    let as_idle : v ≡ with_idle d v = (λ i. record v { dist = (has ∙ ap Some (is_idle d free is)) i }) in
    works_on n m s v there
    ∙ ap (λ (x : LiveView). working.work n (mailed_to n m x s)) as_idle
    ∙ works_idle n m s v d over (there ∙ ap Some as_idle) no_need
    (λ w. (λ i. mail.handled m (weighing w (turn (in_cluster i) (own_in (in_files i) n) n (same i) d))) ∙ closed w)

pub has_idle : (K : Envelope → Type 0) (c : ClusterView) (files : List OwnFile) (n : Node) (life : ℕ) (m : Message) (d : DistView)
    (over : TurnView) → IsUnoccupied d → d.stand ≡ stand.Idle → idle_need m (with_message m (idle d)) ≡ need.Nothing
    → ((w : ℕ) → mail.handled m (weighing w (turn c (own_in files n) n life d)) ≡ weighing w over)
    → All IsPlain over.out → All K (letters over.out) → IsUnoccupied over.state → Turned K c files n life m (Some d)
has_idle K c files n life m d over free is no_need closed plain kinds rest = record {
  next = Some over.state;
  outs = over.out;
  comes = idle_comes c files n life m d over free is no_need closed;
  plain = plain;
  kinds = kinds;
  rest = λ e is_next. subst IsUnoccupied (same_Some over.state e is_next) rest;
}

-- ---- the controller

-- What it does at a message, and what an observer sees of it. It sends nothing, and the rest of its node is nothing to it.
pub record Changed (c : ClusterView) (files : List OwnFile) (n : Node) (m : Message) : Type 0 where
  pub next : ControllerView → ControllerView
  pub seen : ControllerView → List Event
  pub comes : (s : SystemView) (v : LiveView) → live_at s n ≡ Some v → s.cluster ≡ c → s.files ≡ files
      → controlled n m s
      ≡ record (with_node n (record v { controller = next v.controller }) s) { events = s.events ++ seen v.controller }
  pub ending : (x : ControllerView) → (next x).is_ending ≡ x.is_ending
