-- A dist_ac and the controller of its own node each change their own state, so which of two messages for them comes first makes no
-- difference.
use Rattle.std.proofs.Common.{◌≡◌, ◌⊎◌, ◌++◌, ℕ, true, false, List, Some, refl, sym, ap, subst, ◌∙◌, inl, inr}
use Rattle.std.proofs.lemmas.Bool.{cases_Bool, false_from_ne_true, false≢true}
use Rattle.rh_model.specs.declared.node.Node.{Node}
use Rattle.rh_otp_model.specs.declared.message.Message.{Message}
use Rattle.rh_otp_model.specs.declared.output.Envelope.{Envelope}
use Rattle.rh_otp_model.specs.declared.process.Process.{Process}
use Rattle.rh_otp_model.specs.declared.process.Role.TheVariants as role
use Rattle.rh_otp_model.specs.Processes.{process_at}
use Rattle.rh_otp_net.specs.Queue.{is_of_pair}
use Rattle.rh_otp_node.specs.Live.{LiveView, is_alive}
use Rattle.rh_otp_system.specs.Delivering.{arrived}
use Rattle.rh_otp_system.specs.State.{SystemView, live_at, node_at, with_node, is_alive_at}
use Rattle.rh_otp_laws.proofs.Nodes.{alive_is_there, node_written, there_written, alive_written}
use Rattle.rh_otp_laws.proofs.Order.{pair_itself, same_pair}
use Rattle.rh_otp_orders.specs.Confluence.{Meet}
use Rattle.rh_otp_orders.specs.Orders.{Arrives, AreAlike}
use Rattle.rh_otp_orders.proofs.Confluence.{alike_itself}
use Rattle.rh_otp_orders.proofs.Reaching.{alike_back}
use Rattle.rh_otp_orders.proofs.Taking.{Taken, taken_arrives, taken_of_more, both_taken}
use Rattle.rh_otp_crashes.proofs.Carrying.{letters, alarms, done}
use Rattle.rh_otp_crashes.proofs.Peace.{here_in, without, arrives_alive, arrives_dead, turned_so, delivers}
use Rattle.rh_otp_crashes.proofs.Turning.{Turned, Changed, node_is, written_twice}

-- both messages come to the same, whichever comes first
abbrev pub Cross : SystemView → SystemView → Envelope → Envelope → Type 0
Cross t u e f = (v : SystemView) × (w : SystemView) × Arrives f t v × Arrives e u w × (v ≡ w)

pub cross_meet : (t u : SystemView) (e f : Envelope) → Cross t u e f → Meet t u
cross_meet t u e f (v, w, to_v, to_w, same) =
    inr (v, w, delivers f t v to_v, delivers e u w to_w, subst (AreAlike v) same (alike_itself v))

pub meet_back : (t u : SystemView) → Meet t u → Meet u t
meet_back t u (inl same) = inl (alike_back t u same)
meet_back t u (inr (v, w, to_v, to_w, same)) = inr (w, v, to_w, to_v, alike_back v w same)

pub same_node : (n m : Node) → n.0 ≡ m.0 → n ≡ m
same_node n m is = λ i. record { 0 = is i }

-- what isn't of one pair isn't, either way round
pub not_back : (e f : Envelope) → is_of_pair e f ≡ false → is_of_pair f e ≡ false
not_back e f apart = false_from_ne_true (is_of_pair f e) (λ is. false≢true (sym apart ∙ same_pair f e f is ∙ pair_itself f))

-- a message for the dist_ac of a node, and one for its controller
abbrev pub for_dist : (Node → ℕ) → Node → Process → Message → Envelope
for_dist lives n from m = record { from = from; to = process_at (here_in lives n) role.DistAc; message = m }

abbrev pub for_controller : (Node → ℕ) → Node → Process → Message → Envelope
for_controller lives n from m = record { from = from; to = process_at (here_in lives n) role.Controller; message = m }

-- to a node that isn't alive
pub cross_dead : (s t u : SystemView) (e f : Envelope) (left_e left_f left : List Envelope) → f.to.node ≡ e.to.node
    → is_alive_at s e.to.node ≡ false → t ≡ arrived e.to e.message (without s left_e) → u ≡ arrived f.to f.message (without s left_f)
    → Taken f left_e left → Taken e left_f left → Cross t u e f
cross_dead s t u e f left_e left_f left one_node dead is_t is_u taken_f taken_e =
    let dead_too : is_alive_at s f.to.node ≡ false = ap (is_alive_at s) one_node ∙ dead in
    let v : SystemView = arrived f.to f.message (without s left) in
    let w : SystemView = arrived e.to e.message (without s left) in
    let t_so : t ≡ without s left_e = is_t ∙ arrives_dead e.to e.message (without s left_e) dead in
    let u_so : u ≡ without s left_f = is_u ∙ arrives_dead f.to f.message (without s left_f) dead_too in (
      v,
      w,
      subst (λ (x : SystemView). Arrives f x v) (sym t_so) (taken_arrives (without s left_e) f left taken_f),
      subst (λ (x : SystemView). Arrives e x w) (sym u_so) (taken_arrives (without s left_f) e left taken_e),
      arrives_dead f.to f.message (without s left) dead_too ∙ sym (arrives_dead e.to e.message (without s left) dead),
    )

-- to one that is
cross_alive : {K : Envelope → Type 0} {lives : Node → ℕ} (s : SystemView) (n : Node) (from from' : Process) (m m' : Message)
    (left_e left_f left : List Envelope) → ((k : Node) → (node_at s k).life ≡ lives k) → is_alive_at s n ≡ true
    → Turned K s.cluster s.files n (lives n) m (node_at s n).dist → Changed s.cluster s.files n m'
    → Taken (for_controller lives n from' m') left_e left → Taken (for_dist lives n from m) left_f left
    → Cross (arrived (process_at (here_in lives n) role.DistAc) m (without s left_e))
    (arrived (process_at (here_in lives n) role.Controller) m' (without s left_f)) (for_dist lives n from m) (for_controller lives n from' m')
cross_alive {K} {lives} s n from from' m m' left_e left_f left same_lives alive d c taken_f taken_e =
    let e : Envelope = for_dist lives n from m in
    let g : Envelope = for_controller lives n from' m' in
    let s_e : SystemView = without s left_e in
    let s_f : SystemView = without s left_f in
    let at : (v : LiveView) × (live_at s n ≡ Some v) = alive_is_there s n alive in
    let old : LiveView = at.0 in
    let here : node_at s n ≡ old = node_is s n old at.1 in
    let same : old.life ≡ lives n = sym (ap (λ (v : LiveView). v.life) here) ∙ same_lives n in
    let has : old.dist ≡ (node_at s n).dist = sym (ap (λ (v : LiveView). v.dist) here) in
    let old_alive : is_alive old ≡ true = sym (ap is_alive here) ∙ alive in
    let to : Process = process_at (here_in lives n) role.DistAc in
    let downed : LiveView = record old { dist = d.next } in
    let changed : LiveView = record old { controller = c.next old.controller } in
    let last : LiveView = record old { dist = d.next; controller = c.next old.controller } in
    let t : SystemView = done to d.outs (with_node n downed s_e) in
    let u : SystemView = record (with_node n changed s_f) { events = s.events ++ c.seen old.controller } in
    let t_left : SystemView = without t (left ++ letters d.outs) in
    let u_left : SystemView = without u left in
    let v : SystemView = arrived g.to g.message t_left in
    let w : SystemView = arrived e.to e.message u_left in
    let is_t : arrived e.to e.message s_e ≡ t =
    arrives_alive e.to e.message s_e alive (same_lives n) ∙ turned_so n m s s_e old (node_at s n).dist d at.1 has same refl refl in
    let is_u : arrived g.to g.message s_f ≡ u =
    arrives_alive g.to g.message s_f alive (same_lives n) ∙ c.comes s_f old at.1 refl refl in
    let is_v : v ≡ record (with_node n last t_left) { events = s.events ++ c.seen old.controller } =
    arrives_alive g.to g.message t_left (alive_written s_e n downed alive old_alive)
    (ap (λ (x : LiveView). x.life) (node_written s_e n old downed at.1) ∙ same)
    ∙ c.comes t_left downed (there_written s_e n old downed at.1) refl refl in
    let is_w : w ≡ done to d.outs (with_node n last u_left) =
    arrives_alive e.to e.message u_left (alive_written s_f n changed alive old_alive)
    (ap (λ (x : LiveView). x.life) (node_written s_f n old changed at.1) ∙ same)
    ∙ turned_so n m s u_left changed (node_at s n).dist d (there_written s_f n old changed at.1) has same refl refl in
    let over : SystemView → SystemView =
    λ (x : SystemView). record x {
      messages = left ++ letters d.outs;
      timers = s.timers ++ alarms s.clock s.step to d.outs;
      events = s.events ++ c.seen old.controller;
    } in (
      v,
      w,
      subst (λ (x : SystemView). Arrives g x v) (sym is_t)
          (taken_arrives t g (left ++ letters d.outs) (taken_of_more g left_e left (letters d.outs) taken_f)),
      subst (λ (x : SystemView). Arrives e x w) (sym is_u) (taken_arrives u e left taken_e),
      is_v ∙ ap over (written_twice s_e n downed last) ∙ sym (is_w ∙ ap over (written_twice s_f n changed last)),
    )

-- whether it is alive or not
pub crosses : {K : Envelope → Type 0} {lives : Node → ℕ} (s : SystemView) (n : Node) (from from' : Process) (m m' : Message)
    (left_e left_f : List Envelope) → ((k : Node) → (node_at s k).life ≡ lives k)
    → (is_alive_at s n ≡ true → Turned K s.cluster s.files n (lives n) m (node_at s n).dist) → Changed s.cluster s.files n m'
    → Taken (for_dist lives n from m) s.messages left_e → Taken (for_controller lives n from' m') s.messages left_f
    → is_of_pair (for_dist lives n from m) (for_controller lives n from' m') ≡ false
    → Meet (arrived (process_at (here_in lives n) role.DistAc) m (without s left_e))
    (arrived (process_at (here_in lives n) role.Controller) m' (without s left_f))
crosses {K} {lives} s n from from' m m' left_e left_f same_lives d c taken_e taken_f apart = by (cases_Bool (is_alive_at s n))
  where
    e : Envelope
    e = for_dist lives n from m

    g : Envelope
    g = for_controller lives n from' m'

    both : (left : List Envelope) × Taken g left_e left × Taken e left_f left
    both = both_taken e g s.messages left_e left_f apart taken_e taken_f

    by : (is_alive_at s n ≡ true) ⊎ (is_alive_at s n ≡ false)
        → Meet (arrived e.to m (without s left_e)) (arrived g.to m' (without s left_f))
    by (inl alive) =
        cross_meet _ _ e g (cross_alive s n from from' m m' left_e left_f both.0 same_lives alive (d alive) c both.1 both.2)
    by (inr dead) = cross_meet _ _ e g (cross_dead s _ _ e g left_e left_f both.0 refl dead refl refl both.1 both.2)
