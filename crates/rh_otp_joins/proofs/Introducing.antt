-- A dist_ac that has introduced itself takes what the others tell of themselves, one after the other, whatever the order in which it came.
use Rattle.std.proofs.Common.{◌≡◌, ◌≢◌, ◌++◌, ◌==◌, ℕ, Bool, true, false, not, cond, List, [], ◌∷◌, slice_get, slice_set, Option, Some, refl, sym, ap, ◌∙◌}
use Rattle.std.specs.List.{remove}
use Rattle.std.proofs.lemmas.Bool.{eq-eqb, or_right}
use Rattle.rh_model.specs.ClusterView.{ClusterView}
use Rattle.rh_model.specs.declared.node.App.{App}
use Rattle.rh_model.specs.declared.node.Node.{Node}
use Rattle.rh_otp_model.specs.declared.message.Message.{Message}
use Rattle.rh_otp_model.specs.declared.message.Message.TheVariants as message
use Rattle.rh_otp_model.specs.declared.output.Output.{Output}
use Rattle.rh_otp_model.specs.declared.output.Output.TheVariants as output
use Rattle.rh_otp_model.specs.declared.output.Requester.TheVariants.{Sync}
use Rattle.rh_otp_model.specs.declared.process.Here.{Here}
use Rattle.rh_otp_model.specs.declared.process.Role.TheVariants as role
use Rattle.rh_otp_model.specs.Own.{OwnView}
use Rattle.rh_otp_model.specs.Processes.{process_at}
use Rattle.rh_otp_dist.specs.declared.outside.Need.{Need}
use Rattle.rh_otp_dist.specs.declared.outside.Need.TheVariants as need
use Rattle.rh_otp_dist.specs.declared.state.Stand.TheVariants as stand
use Rattle.rh_otp_dist.specs.declared.turn.Asked.{Asked}
use Rattle.rh_otp_dist.specs.Outside as outside
use Rattle.rh_otp_dist.specs.Received.{next_mail, handle_next, resumed_if, taken_out}
use Rattle.rh_otp_dist.specs.State.{DistView, TurnView, without_first}
use Rattle.rh_otp_dist.specs.Waiting.{rows_at}
use Rattle.rh_otp_net.specs.declared.locks.Held.{Held}
use Rattle.rh_otp_net.specs.Links.{are_linked}
use Rattle.rh_otp_net.specs.Locks.{freed}
use Rattle.rh_otp_node.specs.Live.{LiveView, here_of, is_alive}
use Rattle.rh_otp_node.specs.Remote as remote
use Rattle.rh_otp_node.specs.Turns.{handled_by, handled_if, behind_turn, dist_turn, weight_of}
use Rattle.rh_otp_system.specs.Outputs.{all_carried_out}
use Rattle.rh_otp_system.specs.State.{SystemView, live_at, node_at, with_node, own_at, is_alive_at}
use Rattle.rh_otp_system.specs.Working as working
use Rattle.rh_otp_laws.proofs.Nodes.{node_written, there_written, others_same}
use Rattle.rh_otp_crashes.proofs.Turning.{written_twice}
use Rattle.rh_otp_crashes.proofs.Waiting.{monitors_it}

-- what others tell of themselves: which applications each may run, and which it runs
pub record Told : Type 0 where
  pub allow : Node → List Bool
  pub flags : Node → List Bool

-- what a node tells of itself
abbrev pub word : Told → Node → Message
word o m = message.NewNode m (o.allow m) (o.flags m)

-- what the node has learnt so far: whom it knows, what runs where, and which node may run what
pub record Learnt : Type 0 where
  pub known : List Node
  pub runs : List (App × Node)
  pub may : List (List Bool)

abbrev pub learn : Told → Node → Learnt → Learnt
learn o m l = record {
  known = m ∷ l.known;
  runs = l.runs ++ rows_at m 0 (o.flags m);
  may = slice_set l.may m.0 (o.allow m);
}

-- what it has learnt when all of these have told of themselves
abbrev pub learn_all : Told → List Node → Learnt → Learnt
learn_all o [] l = l
learn_all o (m ∷ nodes) l = learn_all o nodes (learn o m l)

-- the dist_ac, which waits for these nodes, before it monitors the first of them
abbrev pub unwatched : DistView → Learnt → List Node → List Message → DistView
unwatched d l [] mail = record d {
  stand = stand.Idle;
  mail = mail;
  is_synchronised = true;
  known = l.known;
  remote_started = l.runs;
  monitored = [];
  may = l.may;
}
unwatched d l (x ∷ xs) mail = record d {
  stand = stand.ForIntroduction (record { nodes = x ∷ xs; known = l.known; remote_started = l.runs });
  mail = mail;
  monitored = [];
  may = l.may;
}

-- the same, where it does
abbrev pub waiting : DistView → Learnt → List Node → List Message → DistView
waiting d l [] mail = unwatched d l [] mail
waiting d l (x ∷ xs) mail = record (unwatched d l (x ∷ xs) mail) { monitored = x ∷ [] }

-- the lock of all that synchronise, while it waits
abbrev pub locks_while : List Held → List Node → List Held
locks_while held [] = []
locks_while held (x ∷ xs) = held

abbrev pub live_waiting : LiveView → DistView → Learnt → List Node → List Message → LiveView
live_waiting v d l rest mail = record v { dist = Some (waiting d l rest mail) }

-- the system around it
abbrev pub introducing : Node → LiveView → DistView → List Held → Learnt → List Node → List Message → SystemView → SystemView
introducing n v d held l rest mail s = with_node n (live_waiting v d l rest mail) (record s { locks = locks_while held rest })

-- ---- one more has told of itself

-- what it asks of the system then
abbrev pub then_asks : Here → List Node → List Output
then_asks h [] = output.Free Sync (process_at h role.DistAc) ∷ []
then_asks h (y ∷ ys) = output.Monitor y ∷ []

removed : (x : Node) → without_first x (x ∷ []) ≡ []
removed x = ap (λ (b : Bool). remove (x ∷ []) (cond (not b) 1 0)) (eq-eqb x.0 x.0 refl)

pub turns : (o : Told) (c : ClusterView) (own : OwnView) (n : Node) (asked : Asked) (v : LiveView) (d : DistView) (l : Learnt) (x : Node)
    (xs : List Node) (mail : List Message) (p : ℕ) → slice_get mail p ≡ Some (word o x)
    → handle_next p (dist_turn c own n asked v (waiting d l (x ∷ xs) mail))
    ≡ record (dist_turn c own n asked v (unwatched d (learn o x l) xs (remove mail p))) { out = then_asks (here_of n v) xs }
unfolding handle_next
turns o c own n asked v d l x xs mail p there =
    let t : TurnView = dist_turn c own n asked v (waiting d l (x ∷ xs) mail) in
    ap (λ (m : Option Message). resumed_if t.state.stand m (taken_out p t)) there ∙ by xs
  where
    by : (xs : List Node) → resumed_if (waiting d l (x ∷ xs) mail).stand (Some (word o x))
        (taken_out p (dist_turn c own n asked v (waiting d l (x ∷ xs) mail)))
        ≡ record (dist_turn c own n asked v (unwatched d (learn o x l) xs (remove mail p))) { out = then_asks (here_of n v) xs }
    by [] = λ i. record (dist_turn c own n asked v (record (unwatched d (learn o x l) [] (remove mail p)) { monitored = removed x i })) {
      out = then_asks (here_of n v) [];
    }
    by (y ∷ ys) =
        λ i. record (dist_turn c own n asked v (record (unwatched d (learn o x l) (y ∷ ys) (remove mail p)) { monitored = removed x i })) {
          out = then_asks (here_of n v) (y ∷ ys);
        }

-- the next one is there: alive, another node, and connected
abbrev pub IsNear : Node → SystemView → Node → Type 0
IsNear n s m = (m.0 ≢ n.0) × (is_alive_at s m ≡ true) × (are_linked n m s.links ≡ true)

abbrev pub near_next : Node → SystemView → List Node → Type 0
near_next n s [] = Unit {0}
near_next n s (y ∷ ys) = IsNear n s y

pub carries : (n : Node) (v : LiveView) (d : DistView) (held : List Held) (l : Learnt) (xs : List Node) (mail : List Message) (s : SystemView)
    (w : LiveView) → live_at s n ≡ Some w → near_next n s xs → freed Sync (process_at (here_of n v) role.DistAc) held ≡ []
    → all_carried_out n (then_asks (here_of n v) xs) (with_node n (record v { dist = Some (unwatched d l xs mail) }) (record s { locks = held }))
    ≡ introducing n v d held l xs mail s
carries n v d held l [] mail s w there near free =
    λ i. with_node n (record v { dist = Some (unwatched d l [] mail) }) (record s { locks = free i })
carries n v d held l (y ∷ ys) mail s w there near free =
    monitors_so (w) (unwatched d l (y ∷ ys) mail) there
  where
    q : SystemView
    q = record s { locks = held }

    monitors_so : (u : LiveView) (e : DistView) → live_at s n ≡ Some u
        → all_carried_out n (output.Monitor y ∷ []) (with_node n (record v { dist = Some e }) q)
        ≡ with_node n (record v { dist = Some (outside.with_monitor y e) }) q
    monitors_so u e there_u =
        ap (all_carried_out n (output.Monitor y ∷ [])) (sym (written_twice q n v (record v { dist = Some e })))
        ∙ monitors_it n y (with_node n v q) v e (there_written q n u v there_u) (λ same. near.0 (sym same))
        (ap is_alive (others_same q n y v near.0) ∙ near.1)
        (or_right (n.0 == y.0) (are_linked n y s.links) near.2)
        ∙ written_twice q n v (record v { dist = Some (outside.with_monitor y e) })

pub takes_word : (o : Told) (n : Node) (v : LiveView) (d : DistView) (held : List Held) (l : Learnt) (x : Node) (xs : List Node) (mail : List Message) (p : ℕ)
    (s : SystemView) (w : LiveView) → live_at s n ≡ Some w → near_next n s xs
    → freed Sync (process_at (here_of n v) role.DistAc) held ≡ []
    → next_mail (waiting d l (x ∷ xs) mail) ≡ Some p → slice_get mail p ≡ Some (word o x)
    → working.handled n (introducing n v d held l (x ∷ xs) mail s) ≡ introducing n v d held (learn o x l) xs (remove mail p) s
unfolding working.handled handled_by
takes_word o n v d held l x xs mail p s w there near free next is =
    let q : SystemView = record s { locks = held } in
    let e : DistView = waiting d l (x ∷ xs) mail in
    let u : LiveView = record v { dist = Some e } in
    let b : SystemView = with_node n u q in
    let here : node_at b n ≡ u = node_written q n w u there in
    let none_asked : remote.need_of u ≡ need.Nothing =
    ap (λ (o : Option ℕ). remote.need_if o e) next ∙ ap (λ (m : Option Message). outside.need_if m e) is in
    let told : ℕ → Asked = λ weight. record { weight = weight; has_lock = false; burns = false } in
    ap (λ (y : LiveView). working.handled_for n (remote.need_of y) (working.asked_for n (remote.need_of y) b) b) here
    ∙ ap (λ (y : Need). working.handled_for n y (working.asked_for n y b) b) none_asked
    ∙ ap (λ (y : LiveView). working.behind n (handled_by s.cluster (own_at s n) n (told (weight_of s.cluster n y)) y) b) here
    ∙ ap (λ (o : Option ℕ). working.behind n (behind_turn u (handled_if o (dist_turn s.cluster (own_at s n) n (told (weight_of s.cluster n u)) u e))) b) next
    ∙ ap (λ (t : TurnView). working.behind n (behind_turn u t) b)
    (turns o s.cluster (own_at s n) n (told (weight_of s.cluster n u)) u d l x xs mail p is)
    ∙ ap (all_carried_out n (then_asks (here_of n v) xs)) (written_twice q n u (record v { dist = Some (unwatched d (learn o x l) xs (remove mail p)) }))
    ∙ carries n v d held (learn o x l) xs (remove mail p) s w there near free
