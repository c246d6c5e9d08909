-- What is on its way to other nodes comes there, leaves alone what nodes share, and makes no difference to the call's node.
use Rattle.std.proofs.Common.{◌≡◌, ◌≢◌, ◌⊎◌, ◌++◌, ◌&&◌, true, false, List, [], Option, refl, sym, ap, subst, ◌∙◌, inl, inr}
use Rattle.std.specs.Prelude.{All}
use Rattle.std.proofs.lemmas.Bool.{cases_Bool, cases_eq, false≢true}
use Rattle.std.proofs.lemmas.List.{append-nil}
use Rattle.std.proofs.lemmas.List.Elements.{All-nil}
use Rattle.rh_model.specs.declared.node.Node.{Node}
use Rattle.rh_otp_model.specs.declared.message.Message.{Message}
use Rattle.rh_otp_model.specs.declared.output.Envelope.{Envelope}
use Rattle.rh_otp_model.specs.declared.process.Role.TheVariants as role
use Rattle.rh_otp_model.specs.declared.wait.OwnFile.{OwnFile}
use Rattle.rh_otp_model.specs.Processes.{process_at}
use Rattle.rh_otp_dist.specs.State.{DistView}
use Rattle.rh_otp_net.specs.Queue.{is_of_pair}
use Rattle.rh_otp_node.specs.Live.{LiveView}
use Rattle.rh_otp_system.specs.Delivering.{arrived, controlled}
use Rattle.rh_otp_system.specs.State.{SystemView, node_at, with_node, is_alive_at}
use Rattle.rh_otp_system.specs.Working.{mailed}
use Rattle.rh_otp_laws.proofs.Order.{pair_itself}
use Rattle.rh_otp_orders.specs.Confluence.{Meet}
use Rattle.rh_otp_orders.specs.Orders.{Arrives, AreIndependent, IsAtHome, LeavesAlone, is_call}
use Rattle.rh_otp_orders.proofs.Commuting.{messages_commute}
use Rattle.rh_otp_orders.proofs.Taking.{Taken}
use Rattle.rh_otp_crashes.proofs.Carrying.{letters, alarms}
use Rattle.rh_otp_crashes.proofs.Crossing.{crosses, meet_back, not_back, same_node}
use Rattle.rh_otp_crashes.proofs.Peace.{here_in, without, arrives_alive, arrives_dead, turned_so, delivers}
use Rattle.rh_otp_crashes.proofs.Starting.{moves_elsewhere}
use Rattle.rh_otp_crashes.proofs.Turning.{Turned, Changed, own_in}
use Rattle.rh_otp_stops.proofs.Stopping.{there_is}
use Rattle.rh_otp_moves.proofs.Still.{Course, Still, Did, still_left, still_on, awake, is_new, is_same, did_leaves, lost_leaves}
use Rattle.rh_otp_moves.proofs.Telling.{IsTold, IsAbroad, hears, moves, told_to, learned, TameIn, Heard, heard}

-- ---- a node does something for itself

-- behind it its dist_ac is so, and so much has been sent
pub record DidSo (k : Course) (m : Node) (s t : SystemView) (next : Option DistView) (more : List Envelope) : Type 0 where
  pub did : Did k m s t
  pub dist : did.new.dist ≡ next
  pub sent : did.more ≡ more

dist_does : (k : Course) (m : Node) (x : Message) (s : SystemView) → Still k s → is_alive_at s m ≡ true
    → (d : Turned (IsAbroad k) s.cluster s.files m (k.lives m) x (node_at s m).dist)
    → DidSo k m s (mailed m x s) d.next (letters d.outs)
dist_does k m x s f alive d =
    let old : LiveView = node_at s m in
    record {
      did = record {
        new = record old { dist = d.next };
        there = there_is s m alive;
        more = letters d.outs;
        set = alarms s.clock s.step (process_at (here_in k.lives m) role.DistAc) d.outs;
        seen = [];
        is = turned_so m x s s old old.dist d (there_is s m alive) refl (f.same_lives m) refl refl
            ∙ (λ i. record (with_node m (record old { dist = d.next }) s) {
              messages = s.messages ++ letters d.outs;
              timers = s.timers ++ alarms s.clock s.step (process_at (here_in k.lives m) role.DistAc) d.outs;
              events = sym (append-nil s.events) i;
            });
        life = refl;
        phase = refl;
        ending = inr (refl, refl);
        rest = d.rest;
      };
      dist = refl;
      sent = refl;
    }

pub controller_does : (k : Course) (m : Node) (x : Message) (s : SystemView) → Still k s → is_alive_at s m ≡ true
    → Changed s.cluster s.files m x → DidSo k m s (controlled m x s) (node_at s m).dist []
controller_does k m x s f alive ch =
    let old : LiveView = node_at s m in
    let new : LiveView = record old { controller = ch.next old.controller } in
    record {
      did = record {
        new = new;
        there = there_is s m alive;
        more = [];
        set = [];
        seen = ch.seen old.controller;
        is = ch.comes s old (there_is s m alive) refl refl
            ∙ (λ i. record (with_node m new s) {
              messages = sym (append-nil s.messages) i;
              timers = sym (append-nil s.timers) i;
              events = s.events ++ ch.seen old.controller;
            });
        life = refl;
        phase = refl;
        ending = inr (ch.ending old.controller, refl);
        rest = λ d has. f.dists m d alive has;
      };
      dist = refl;
      sent = refl;
    }

-- ---- what all share that is on its way

-- all else is at rest, and nobody starts it at the news of a forbid
pub record Going (k : Course) (s : SystemView) : Type 0 where
  pub still : Still k s
  pub tame : (m : Node) → m.0 ≢ k.call.node.0 → is_alive_at s m ≡ true → TameIn k (own_in s.files m) m (node_at s m).dist

pub going_left : (k : Course) (s : SystemView) (left : List Envelope) → Going k s → Going k (without s left)
going_left k s left f = record { still = still_left k s left f.still; tame = f.tame }

pub going_on : (k : Course) (m : Node) (s t : SystemView) → Going k s → (a : Did k m s t)
    → (m.0 ≢ k.call.node.0 → TameIn k (own_in s.files m) m a.new.dist) → Going k t
going_on k m s t f a tame = record {
  still = still_on k m s t f.still a;
  tame = λ j other alive.
      subst (λ (files : List OwnFile). TameIn k (own_in files j) j (node_at t j).dist) (sym (ap (λ (x : SystemView). x.files) a.is))
      (by j other (sym (awake k m j s t a) ∙ alive) (cases_eq j.0 m.0));
}
  where
    at_it : (j : Node) → m ≡ j → j.0 ≢ k.call.node.0 → TameIn k (own_in s.files j) j (node_at t j).dist
    at_it j one = subst (λ (x : Node). x.0 ≢ k.call.node.0 → TameIn k (own_in s.files x) x (node_at t x).dist) one
        (λ other. subst (λ (v : LiveView). TameIn k (own_in s.files m) m v.dist) (sym (is_new k m s t a)) (tame other))

    by : (j : Node) → j.0 ≢ k.call.node.0 → is_alive_at s j ≡ true → (j.0 ≡ m.0) ⊎ (j.0 ≢ m.0)
        → TameIn k (own_in s.files j) j (node_at t j).dist
    by j other alive (inl same) = at_it j (same_node m j (sym same)) other
    by j other alive (inr apart) =
        subst (λ (v : LiveView). TameIn k (own_in s.files j) j v.dist) (sym (is_same k m j s t a apart)) (f.tame j other alive)

-- ---- a message abroad comes

-- so much is left, with what is sent on; the call's node is as it was, and so is what nodes share
pub record Stepped (k : Course) (s t : SystemView) (left : List Envelope) : Type 0 where
  pub going : Going k t
  pub more : List Envelope
  pub sent : t.messages ≡ left ++ more
  pub kinds : All (IsAbroad k) more
  pub home : node_at t k.call.node ≡ node_at s k.call.node
  pub leaves : (n : Node) → LeavesAlone n s t
  pub files : t.files ≡ s.files
  pub cluster : t.cluster ≡ s.cluster

stepped_lost : (k : Course) (s t : SystemView) (left : List Envelope) → Going k s → t ≡ without s left → Stepped k s t left
stepped_lost k s t left f same = record {
  going = subst (Going k) (sym same) (going_left k s left f);
  more = [];
  sent = ap (λ (x : SystemView). x.messages) same ∙ sym (append-nil left);
  kinds = All-nil (IsAbroad k);
  home = ap (λ (x : SystemView). node_at x k.call.node) same;
  leaves = λ n. lost_leaves n s t left same;
  files = ap (λ (x : SystemView). x.files) same;
  cluster = ap (λ (x : SystemView). x.cluster) same;
}

stepped_did : (k : Course) (m : Node) (s t : SystemView) (left : List Envelope) (next : Option DistView) (more : List Envelope)
    → m.0 ≢ k.call.node.0 → Going k s → DidSo k m (without s left) t next more → TameIn k (own_in s.files m) m next
    → All (IsAbroad k) more → Stepped k s t left
stepped_did k m s t left next more other f so tame kinds = record {
  going = going_on k m (without s left) t (going_left k s left f) so.did
      (λ _. subst (TameIn k (own_in s.files m) m) (sym so.dist) tame);
  more = more;
  sent = ap (λ (x : SystemView). x.messages) so.did.is ∙ ap (λ (l : List Envelope). left ++ l) so.sent;
  kinds = kinds;
  home = is_same k m k.call.node (without s left) t so.did (λ one. other (sym one));
  leaves = λ n. did_leaves k n m s t left so.did;
  files = ap (λ (x : SystemView). x.files) so.did.is;
  cluster = ap (λ (x : SystemView). x.cluster) so.did.is;
}

-- what another node's dist_ac is told
pub heard_at : (k : Course) (s : SystemView) → Going k s → (m : Node) (x : Message) → m.0 ≢ k.call.node.0 → IsTold k m x
    → is_alive_at s m ≡ true → Heard k s.cluster s.files m x (node_at s m).dist
heard_at k s f m x other told alive =
    heard k s.cluster s.files m x (node_at s m).dist other told (λ d has. f.still.dists m d alive has) (f.tame m other alive)

pub comes_abroad : (k : Course) (s : SystemView) (e : Envelope) (left : List Envelope) → Going k s → IsAbroad k e
    → Stepped k s (arrived e.to e.message (without s left)) left
comes_abroad k s _ left f (hears m x other told) = by (cases_Bool (is_alive_at s m))
  where
    e : Envelope
    e = told_to k x m

    q : SystemView
    q = without s left

    by : (is_alive_at s m ≡ true) ⊎ (is_alive_at s m ≡ false) → Stepped k s (arrived e.to e.message q) left
    by (inl alive) =
        let h : Heard k s.cluster s.files m x (node_at s m).dist = heard_at k s f m x other told alive in
        rw (arrives_alive e.to e.message q alive (f.still.same_lives m))
        (stepped_did k m s (mailed m x q) left h.turned.next (letters h.turned.outs) other f
        (dist_does k m x q (still_left k s left f.still) alive h.turned) h.tame h.turned.kinds)
    by (inr dead) = stepped_lost k s _ left f (arrives_dead e.to e.message q dead)
comes_abroad k s _ left f (moves m other allowed) = by (cases_Bool (is_alive_at s m))
  where
    e : Envelope
    e = learned k m

    q : SystemView
    q = without s left

    by : (is_alive_at s m ≡ true) ⊎ (is_alive_at s m ≡ false) → Stepped k s (arrived e.to e.message q) left
    by (inl alive) =
        rw (arrives_alive e.to e.message q alive (f.still.same_lives m))
        (stepped_did k m s (controlled m e.message q) left (node_at s m).dist [] other f
        (controller_does k m e.message q (still_left k s left f.still) alive (moves_elsewhere q.cluster q.files m k.call.app k.call.node))
        (f.tame m other alive) (All-nil (IsAbroad k)))
    by (inr dead) = stepped_lost k s _ left f (arrives_dead e.to e.message q dead)

-- ---- two of them

-- none is for a call, and none for the call's node
pub abroad_no_call : (k : Course) (e : Envelope) → IsAbroad k e → is_call e.to.role ≡ false
abroad_no_call k _ (hears m x other told) = refl
abroad_no_call k _ (moves m other allowed) = refl

pub abroad_other : (k : Course) (e : Envelope) → IsAbroad k e → e.to.node.0 ≢ k.call.node.0
abroad_other k _ (hears m x other told) = other
abroad_other k _ (moves m other allowed) = other

pub at_home_still : (s : SystemView) (e : Envelope) → is_call e.to.role ≡ false → IsAtHome e s
at_home_still s e none place call there is = absurd (false≢true (sym none ∙ ap is_call is))

-- at two nodes
pub apart_meet : (s t u : SystemView) (e f : Envelope) → Arrives e s t → Arrives f s u → ((n : Node) → LeavesAlone n s t)
    → ((n : Node) → LeavesAlone n s u) → IsAtHome e s → IsAtHome f s → (is_call e.to.role && is_call f.to.role) ≡ false
    → e.to.node.0 ≢ f.to.node.0 → Meet t u
apart_meet s t u e f to_t to_u leaves_t leaves_u home_e home_f two apart =
    let independent : AreIndependent s t u e f = record {
      one = to_t;
      other = to_u;
      two_nodes = apart;
      leaves_other = leaves_t f.to.node;
      leaves_one = leaves_u e.to.node;
      one_home = home_e;
      other_home = home_f;
      one_call = two;
    } in
    let both = messages_commute s t u e f independent in
    inr (both.0, both.1, delivers f t both.0 both.2, delivers e u both.1 both.3, both.4)

-- its dist_ac hears of it, and its controller learns of it
cross_there : (k : Course) (s : SystemView) → Going k s → (m j : Node) (x : Message) (left_e left_f : List Envelope)
    → m.0 ≢ k.call.node.0 → IsTold k m x → Taken (told_to k x m) s.messages left_e → Taken (learned k j) s.messages left_f
    → is_of_pair (told_to k x m) (learned k j) ≡ false → m ≡ j
    → Meet (arrived (told_to k x m).to (told_to k x m).message (without s left_e))
    (arrived (learned k j).to (learned k j).message (without s left_f))
cross_there k s f m j x left_e left_f other told taken_e taken_f apart one =
    subst (λ (y : Node). Taken (learned k y) s.messages left_f
    → is_of_pair (told_to k x m) (learned k y) ≡ false
    → Meet (arrived (told_to k x m).to (told_to k x m).message (without s left_e))
    (arrived (learned k y).to (learned k y).message (without s left_f))) one
    (λ taken apart. crosses s m (told_to k x m).from (learned k m).from (told_to k x m).message (learned k m).message
    left_e left_f f.still.same_lives (λ alive. (heard_at k s f m x other told alive).turned)
    (moves_elsewhere s.cluster s.files m k.call.app k.call.node) taken_e taken apart)
    taken_f apart

-- at one node
pub abroad_meet : (k : Course) (s : SystemView) (e f : Envelope) (left_e left_f : List Envelope) → Going k s → IsAbroad k e
    → IsAbroad k f → Taken e s.messages left_e → Taken f s.messages left_f → is_of_pair e f ≡ false → e.to.node.0 ≡ f.to.node.0
    → Meet (arrived e.to e.message (without s left_e)) (arrived f.to f.message (without s left_f))
abroad_meet k s _ _ left_e left_f g (hears m x other told) (hears j y other' told') taken_e taken_f apart one =
    absurd (false≢true (sym apart ∙ ap (λ (i : Node). is_of_pair (told_to k x m) (told_to k y i)) (sym (same_node m j one))
    ∙ pair_itself (told_to k x m)))
abroad_meet k s _ _ left_e left_f g (hears m x other told) (moves j other' allowed) taken_e taken_f apart one =
    cross_there k s g m j x left_e left_f other told taken_e taken_f apart (same_node m j one)
abroad_meet k s _ _ left_e left_f g (moves m other allowed) (hears j y other' told) taken_e taken_f apart one =
    meet_back _ _ (cross_there k s g j m y left_f left_e other' told taken_f taken_e (not_back (learned k m) (told_to k y j) apart)
    (same_node j m (sym one)))
abroad_meet k s _ _ left_e left_f g (moves m other allowed) (moves j other' allowed') taken_e taken_f apart one =
    absurd (false≢true (sym apart ∙ ap (λ (i : Node). is_of_pair (learned k m) (learned k i)) (sym (same_node m j one))
    ∙ pair_itself (learned k m)))
