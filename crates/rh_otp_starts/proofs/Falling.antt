-- What there is on its way behind the end of a node whose call was answered, or never will be: any two of these messages meet again.
use Rattle.std.proofs.Common.{◌≡◌, ◌≢◌, ◌⊎◌, ◌++◌, ◌&&◌, ℕ, Bool, true, false, List, [], ◌∷◌, Some, refl, sym, ap, subst, ◌∙◌, inl, inr}
use Rattle.std.proofs.lemmas.Bool.{cases_Bool, cases_eq, false≢true}
use Rattle.std.proofs.lemmas.List.{append-nil}
use Rattle.std.proofs.lemmas.List.Elements.{All-nil}
use Rattle.rh_model.specs.declared.node.App.{App}
use Rattle.rh_model.specs.declared.node.Node.{Node}
use Rattle.rh_otp_model.specs.declared.message.Message.{Message}
use Rattle.rh_otp_model.specs.declared.message.Message.TheVariants as message
use Rattle.rh_otp_model.specs.declared.output.Envelope.{Envelope}
use Rattle.rh_otp_model.specs.declared.output.Event.{Event}
use Rattle.rh_otp_model.specs.declared.process.Process.{Process}
use Rattle.rh_otp_model.specs.declared.process.Role.TheVariants as role
use Rattle.rh_otp_model.specs.declared.wait.OwnFile.{OwnFile}
use Rattle.rh_otp_model.specs.Processes.{process_at}
use Rattle.rh_otp_dist.specs.State.{DistView}
use Rattle.rh_otp_net.specs.Queue.{is_of_pair}
use Rattle.rh_otp_node.specs.Live.{LiveView}
use Rattle.rh_otp_system.specs.declared.calls.Call.{Call}
use Rattle.rh_otp_system.specs.declared.calls.Stage.{Stage}
use Rattle.rh_otp_system.specs.Delivering.{arrived, controlled}
use Rattle.rh_otp_system.specs.Moves.{Delivers, Reaches, here, behind_one}
use Rattle.rh_otp_system.specs.State.{SystemView, node_at, with_node, is_alive_at}
use Rattle.rh_otp_system.specs.Working.{mailed}
use Rattle.rh_otp_laws.proofs.Order.{pair_itself}
use Rattle.rh_otp_orders.specs.Confluence.{Meet, IsOrderly}
use Rattle.rh_otp_orders.specs.Orders.{AreAlike, AreIndependent, IsAtHome, LeavesAlone, is_call}
use Rattle.rh_otp_orders.proofs.Commuting.{messages_commute}
use Rattle.rh_otp_orders.proofs.Confluence.{alike_itself}
use Rattle.rh_otp_orders.proofs.Taking.{Taken}
use Rattle.rh_otp_crashes.specs.Crashes.{IsUnoccupied}
use Rattle.rh_otp_crashes.proofs.Carrying.{letters, alarms}
use Rattle.rh_otp_crashes.proofs.Crossing.{crosses, meet_back, not_back, same_node}
use Rattle.rh_otp_crashes.proofs.Deeds.{turns, changes, AreLater}
use Rattle.rh_otp_crashes.proofs.Downing.{no_more}
use Rattle.rh_otp_crashes.proofs.Falling.{IsFallout, tells, clears, end_told}
use Rattle.rh_otp_crashes.proofs.Peace.{AtPeace, AtEase, Acted, here_in, without, arrives_alive, arrives_dead, turned_so, peace_left, delivers, one_first, taken_all}
use Rattle.rh_otp_crashes.proofs.Turning.{Turned, Changed, own_in}
use Rattle.rh_otp_stops.proofs.Answering.{at_stage, CannotGoOn, cannot_call}
use Rattle.rh_otp_stops.proofs.Still.{Come, uncalled, only_come, peace_acted, acted_leaves}
use Rattle.rh_otp_stops.proofs.Stopping.{there_is}

-- All messages tell of the end, or tell a controller that an application runs nowhere. There is the one call, which can't go on by itself,
-- and no loss is over at once.
pub record Falls (lives : Node → ℕ) (gone : Process) (c : Call) (s : SystemView) : Type 0 where
  pub peace : AtPeace AtEase (IsFallout lives gone) lives (uncalled s)
  pub stage : Stage
  pub calls : s.calls ≡ at_stage c stage ∷ []
  pub waits : CannotGoOn stage
  pub later : (n : Node) → AreLater (own_in s.files n)

no_call : {lives : Node → ℕ} {gone : Process} (e : Envelope) → IsFallout lives gone e → is_call e.to.role ≡ false
no_call _ (tells n) = refl
no_call _ (clears n a) = refl

falls_left : {lives : Node → ℕ} {gone : Process} {c : Call} (s : SystemView) (e : Envelope) (left : List Envelope) → Falls lives gone c s
    → Taken e s.messages left → Falls lives gone c (without s left)
falls_left {lives} {gone} s e left f taken = record {
  peace = peace_left (uncalled s) left f.peace (taken_all (IsFallout lives gone) e s.messages left taken f.peace.messages).1;
  stage = f.stage;
  calls = f.calls;
  waits = f.waits;
  later = f.later;
}

come_of : {lives : Node → ℕ} {gone : Process} {c : Call} (s t : SystemView) → Falls lives gone c s → Delivers s t → Come s t
come_of {c = c} s t f one = only_come s t f.peace (cannot_call c f.stage s f.waits f.calls) one

-- ---- what each message comes to

down_at : {lives : Node → ℕ} {gone : Process} {c : Call} (n : Node) (s : SystemView) → Falls lives gone c s → is_alive_at s n ≡ true
    → Turned (IsFallout lives gone) s.cluster s.files n (lives n) (message.NodeDown gone.node) (node_at s n).dist
down_at {lives} {gone} n s f alive =
    turns (IsFallout lives gone) s.cluster s.files n (lives n) gone.node (node_at s n).dist (λ a. clears n a)
    (λ d has. f.peace.dists n d alive has) (f.later n)

dist_acts : {K : Envelope → Type 0} {lives : Node → ℕ} (n : Node) (x : Message) (s : SystemView) → ((k : Node) → (node_at s k).life ≡ lives k)
    → is_alive_at s n ≡ true → Turned K s.cluster s.files n (lives n) x (node_at s n).dist → Acted AtEase K n s (mailed n x s)
dist_acts {K} {lives} n x s same_lives alive d =
    let old : LiveView = node_at s n in
    let set = alarms s.clock s.step (process_at (here_in lives n) role.DistAc) d.outs in
    record {
      old = old;
      new = record old { dist = d.next };
      there = there_is s n alive;
      more = letters d.outs;
      set = set;
      seen = [];
      is = turned_so n x s s old old.dist d (there_is s n alive) refl (same_lives n) refl refl
          ∙ (λ i. record (with_node n (record old { dist = d.next }) s) {
            messages = s.messages ++ letters d.outs;
            timers = s.timers ++ set;
            events = sym (append-nil s.events) i;
          });
      life = refl;
      phase = refl;
      stopped = refl;
      ending = refl;
      rest = d.rest;
      kinds = d.kinds;
    }

controller_acts : {K : Envelope → Type 0} (n : Node) (m : Message) (s : SystemView)
    → ((d : DistView) → (node_at s n).dist ≡ Some d → IsUnoccupied d) → is_alive_at s n ≡ true → Changed s.cluster s.files n m
    → Acted AtEase K n s (controlled n m s)
controller_acts {K} n m s free alive c =
    let old : LiveView = node_at s n in
    let new : LiveView = record old { controller = c.next old.controller } in
    let seen : List Event = c.seen old.controller in
    record {
      old = old;
      new = new;
      there = there_is s n alive;
      more = [];
      set = [];
      seen = seen;
      is = c.comes s old (there_is s n alive) refl refl
          ∙ (λ i. record (with_node n new s) {
            messages = sym (append-nil s.messages) i;
            timers = sym (append-nil s.timers) i;
            events = s.events ++ seen;
          });
      life = refl;
      phase = refl;
      stopped = refl;
      ending = c.ending old.controller;
      rest = free;
      kinds = All-nil K;
    }

-- it has come, and leaves alone what nodes share
record CameOn (lives : Node → ℕ) (gone : Process) (c : Call) (s t : SystemView) : Type 0 where
  still : Falls lives gone c t
  leaves : (n : Node) → LeavesAlone n s t

is_lost : {lives : Node → ℕ} {gone : Process} {c : Call} (s t : SystemView) (left : List Envelope) → Falls lives gone c (without s left)
    → t ≡ without s left → CameOn lives gone c s t
is_lost {lives} {gone} {c} s t left f same = record {
  still = subst (Falls lives gone c) (sym same) f;
  leaves = λ n. subst (LeavesAlone n s) (sym same) (record { links = refl; locks = refl; alive = λ k. refl; answers = λ k app. inl refl });
}

has_acted : {lives : Node → ℕ} {gone : Process} {c : Call} (m : Node) (s t : SystemView) (left : List Envelope)
    → Falls lives gone c (without s left) → Acted AtEase (IsFallout lives gone) m (without s left) t → CameOn lives gone c s t
has_acted {lives} {gone} {c} m s t left f acted = record {
  still = record {
    peace = peace_acted m (without s left) t f.peace acted;
    stage = f.stage;
    calls = ap (λ (x : SystemView). x.calls) acted.is ∙ f.calls;
    waits = f.waits;
    later = λ n. subst (λ (files : List OwnFile). AreLater (own_in files n)) (sym (ap (λ (x : SystemView). x.files) acted.is)) (f.later n);
  };
  leaves = λ n. acted_leaves n m s t left acted;
}

came_on : {lives : Node → ℕ} {gone : Process} {c : Call} (s : SystemView) (e : Envelope) (left : List Envelope)
    → Falls lives gone c (without s left) → IsFallout lives gone e → CameOn lives gone c s (arrived e.to e.message (without s left))
came_on {lives} {gone} {c} s _ left f (tells n) = by (cases_Bool (is_alive_at s n))
  where
    e : Envelope
    e = end_told lives gone n

    q : SystemView
    q = without s left

    by : (is_alive_at s n ≡ true) ⊎ (is_alive_at s n ≡ false) → CameOn lives gone c s (arrived e.to e.message q)
    by (inl alive) =
        rw (arrives_alive e.to e.message q alive (f.peace.same_lives n))
        (has_acted n s _ left f (dist_acts n e.message q f.peace.same_lives alive (down_at n q f alive)))
    by (inr dead) = is_lost s _ left f (arrives_dead e.to e.message q dead)
came_on {lives} {gone} {c} s _ left f (clears n a) = by (cases_Bool (is_alive_at s n))
  where
    e : Envelope
    e = no_more (here_in lives n) a

    q : SystemView
    q = without s left

    by : (is_alive_at s n ≡ true) ⊎ (is_alive_at s n ≡ false) → CameOn lives gone c s (arrived e.to e.message q)
    by (inl alive) =
        rw (arrives_alive e.to e.message q alive (f.peace.same_lives n))
        (has_acted n s _ left f (controller_acts n e.message q (λ d has. f.peace.dists n d alive has) alive (changes q.cluster q.files n a)))
    by (inr dead) = is_lost s _ left f (arrives_dead e.to e.message q dead)

goes_on : {lives : Node → ℕ} {gone : Process} {c : Call} (s t : SystemView) → Falls lives gone c s → Delivers s t → Falls lives gone c t
goes_on {lives} {gone} {c} s t f one =
    let come : Come s t = come_of s t f one in
    let kind : IsFallout lives gone come.message =
    (taken_all (IsFallout lives gone) come.message s.messages come.left come.taken f.peace.messages).0 in
    subst (Falls lives gone c) (sym come.is)
    (came_on s come.message come.left (falls_left s come.message come.left f come.taken) kind).still

-- ---- at one node

-- its dist_ac and its controller
cross_here : {lives : Node → ℕ} {gone : Process} {c : Call} (s : SystemView) → Falls lives gone c s → (n m : Node) (a : App)
    (left_e left_f : List Envelope)
    → Taken (end_told lives gone n) s.messages left_e → Taken (no_more (here_in lives m) a) s.messages left_f
    → is_of_pair (end_told lives gone n) (no_more (here_in lives m) a) ≡ false → n ≡ m
    → Meet (arrived (end_told lives gone n).to (end_told lives gone n).message (without s left_e))
    (arrived (no_more (here_in lives m) a).to (no_more (here_in lives m) a).message (without s left_f))
cross_here {lives} {gone} s f n m a left_e left_f taken_e taken_f apart one =
    subst (λ (k : Node). Taken (no_more (here_in lives k) a) s.messages left_f
    → is_of_pair (end_told lives gone n) (no_more (here_in lives k) a) ≡ false
    → Meet (arrived (end_told lives gone n).to (end_told lives gone n).message (without s left_e))
    (arrived (no_more (here_in lives k) a).to (no_more (here_in lives k) a).message (without s left_f))) one
    (λ taken apart. crosses s n gone (no_more (here_in lives n) a).from (message.NodeDown gone.node) (no_more (here_in lives n) a).message left_e left_f
    f.peace.same_lives (λ alive. down_at n s f alive) (changes s.cluster s.files n a) taken_e taken apart)
    taken_f apart

meet_here : {lives : Node → ℕ} {gone : Process} {c : Call} (s : SystemView) (e g : Envelope) (left_e left_g : List Envelope)
    → Falls lives gone c s → IsFallout lives gone e → IsFallout lives gone g → Taken e s.messages left_e → Taken g s.messages left_g
    → is_of_pair e g ≡ false → e.to.node.0 ≡ g.to.node.0
    → Meet (arrived e.to e.message (without s left_e)) (arrived g.to g.message (without s left_g))
meet_here {lives} {gone} s _ _ left_e left_f f (tells n) (tells m) taken_e taken_f apart one =
    absurd (false≢true (sym apart ∙ ap (λ (k : Node). is_of_pair (end_told lives gone n) (end_told lives gone k)) (sym (same_node n m one))
    ∙ pair_itself (end_told lives gone n)))
meet_here {lives} {gone} s _ _ left_e left_f f (clears n a) (clears m b) taken_e taken_f apart one =
    absurd (false≢true (sym apart
    ∙ ap (λ (k : Node). is_of_pair (no_more (here_in lives n) a) (no_more (here_in lives k) b)) (sym (same_node n m one))
    ∙ pair_itself (no_more (here_in lives n) a)))
meet_here {lives} {gone} s _ _ left_e left_f f (tells n) (clears m a) taken_e taken_f apart one =
    cross_here s f n m a left_e left_f taken_e taken_f apart (same_node n m one)
meet_here {lives} {gone} s _ _ left_e left_f f (clears n a) (tells m) taken_e taken_f apart one =
    meet_back _ _ (cross_here s f m n a left_f left_e taken_f taken_e (not_back (no_more (here_in lives n) a) (end_told lives gone m) apart)
    (same_node m n (sym one)))

-- ---- any two meet

at_home : {lives : Node → ℕ} {gone : Process} (s : SystemView) (e : Envelope) → IsFallout lives gone e → IsAtHome e s
at_home s e kind place call there is = absurd (false≢true (sym (no_call e kind) ∙ ap is_call is))

meets : {lives : Node → ℕ} {gone : Process} {c : Call} (s t u : SystemView) → Falls lives gone c s → Delivers s t → Delivers s u → Meet t u
meets {lives} {gone} {c} s t u f to_t to_u = by (cases_Bool (is_of_pair d.message e.message))
  where
    d : Come s t
    d = come_of s t f to_t

    e : Come s u
    e = come_of s u f to_u

    kind_d : IsFallout lives gone d.message
    kind_d = (taken_all (IsFallout lives gone) d.message s.messages d.left d.taken f.peace.messages).0

    kind_e : IsFallout lives gone e.message
    kind_e = (taken_all (IsFallout lives gone) e.message s.messages e.left e.taken f.peace.messages).0

    came_d : CameOn lives gone c s t
    came_d =
        subst (CameOn lives gone c s) (sym d.is) (came_on s d.message d.left (falls_left s d.message d.left f d.taken) kind_d)

    came_e : CameOn lives gone c s u
    came_e =
        subst (CameOn lives gone c s) (sym e.is) (came_on s e.message e.left (falls_left s e.message e.left f e.taken) kind_e)

    same : (d.message ≡ e.message) × (d.left ≡ e.left) → t ≡ u
    same is = d.is ∙ (λ i. arrived (is.0 i).to (is.0 i).message (without s (is.1 i))) ∙ sym e.is

    apart_meet : d.message.to.node.0 ≢ e.message.to.node.0 → Meet t u
    apart_meet apart =
        let independent : AreIndependent s t u d.message e.message = record {
          one = d.arrives;
          other = e.arrives;
          two_nodes = apart;
          leaves_other = came_d.leaves e.message.to.node;
          leaves_one = came_e.leaves d.message.to.node;
          one_home = at_home s d.message kind_d;
          other_home = at_home s e.message kind_e;
          one_call = ap (λ (b : Bool). b && is_call e.message.to.role) (no_call d.message kind_d);
        } in
        let both = messages_commute s t u d.message e.message independent in
        inr (both.0, both.1, delivers e.message t both.0 both.2, delivers d.message u both.1 both.3, both.4)

    by : (is_of_pair d.message e.message ≡ true) ⊎ (is_of_pair d.message e.message ≡ false) → Meet t u
    by (inl pair) =
        inl (subst (AreAlike t) (same (one_first d.message e.message s.messages d.left e.left pair d.taken e.taken)) (alike_itself t))
    by (inr apart) =
        elim (cases_eq d.message.to.node.0 e.message.to.node.0) [
          | inl one ↦ subst (λ (x : SystemView). Meet x u) (sym d.is)
              (subst (λ (x : SystemView). Meet (arrived d.message.to d.message.message (without s d.left)) x) (sym e.is)
              (meet_here s d.message e.message d.left e.left f kind_d kind_e d.taken e.taken apart one))
          | inr other ↦ apart_meet other
        ]

-- ---- every order

all_on : {lives : Node → ℕ} {gone : Process} {c : Call} (s p : SystemView) → Reaches s p → Falls lives gone c s → Falls lives gone c p
all_on _ _ (here s) f = f
all_on _ _ (behind_one s q p one rest) f = all_on q p rest (goes_on s q f one)

pub orderly : {lives : Node → ℕ} {gone : Process} {c : Call} (s : SystemView) → Falls lives gone c s → IsOrderly s
orderly s start p t u reaches to_t to_u = meets p t u (all_on s p reaches start) to_t to_u
