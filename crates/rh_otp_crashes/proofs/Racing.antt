-- A timer's message and the news race for the dist_ac of a node that isn't the first: whichever comes first, it is the same behind both.
use Rattle.std.proofs.Common.{◌≡◌, ◌⊎◌, ◌++◌, ℕ, true, false, List, [], Option, Some, refl, sym, ap, subst, ◌∙◌, inl, inr}
use Rattle.std.proofs.lemmas.Bool.{cases_Bool}
use Rattle.rh_model.specs.declared.node.Node.{Node}
use Rattle.rh_otp_model.specs.declared.message.Message.{Message}
use Rattle.rh_otp_model.specs.declared.output.Envelope.{Envelope}
use Rattle.rh_otp_model.specs.declared.process.Process.{Process}
use Rattle.rh_otp_model.specs.declared.process.Role.TheVariants as role
use Rattle.rh_otp_model.specs.Processes.{process_at}
use Rattle.rh_otp_dist.specs.State.{DistView}
use Rattle.rh_otp_net.specs.Queue.{is_of_pair}
use Rattle.rh_otp_node.specs.Live.{LiveView, is_alive}
use Rattle.rh_otp_system.specs.Delivering.{arrived}
use Rattle.rh_otp_system.specs.State.{SystemView, live_at, node_at, with_node, is_alive_at}
use Rattle.rh_otp_system.specs.Working.{mailed}
use Rattle.rh_otp_laws.proofs.Nodes.{alive_is_there, node_written, there_written, alive_written}
use Rattle.rh_otp_orders.specs.Confluence.{Meet}
use Rattle.rh_otp_orders.specs.Orders.{Arrives}
use Rattle.rh_otp_orders.proofs.Taking.{Taken, taken_arrives, taken_of_more, both_taken}
use Rattle.rh_otp_crashes.proofs.Carrying.{letters, alarms, done, carries}
use Rattle.rh_otp_crashes.proofs.Crossing.{Cross, cross_meet, cross_dead, for_dist}
use Rattle.rh_otp_crashes.proofs.Hearing.{Comes}
use Rattle.rh_otp_crashes.proofs.Peace.{here_in, without, arrives_alive, turned_so}
use Rattle.rh_otp_crashes.proofs.Turning.{Turned, node_is, written_twice}

-- At the timer's message the dist_ac only changes itself, at the news it comes to the same before and behind that, and behind the news the
-- timer changes nothing.
pub record Race (K : Envelope → Type 0) (lives : Node → ℕ) (k : Node) (timer heard : Message) (s : SystemView) : Type 0 where
  pub turned : Turned K s.cluster s.files k (lives k) heard (node_at s k).dist
  pub waits : Option DistView
  pub fires : (l : List Envelope) (v : LiveView) → live_at s k ≡ Some v → v.dist ≡ (node_at s k).dist → v.life ≡ lives k
      → mailed k timer (without s l) ≡ with_node k (record v { dist = waits }) (without s l)
  pub behind : Comes s.cluster s.files k (lives k) heard waits turned.outs turned.next
  pub stale : Comes s.cluster s.files k (lives k) timer turned.next [] turned.next

race_alive : {K : Envelope → Type 0} {lives : Node → ℕ} (s : SystemView) (k : Node) (from from' : Process) (m m' : Message)
    (left_e left_f left : List Envelope) → ((j : Node) → (node_at s j).life ≡ lives j) → is_alive_at s k ≡ true → Race K lives k m m' s
    → Taken (for_dist lives k from' m') left_e left → Taken (for_dist lives k from m) left_f left
    → Cross (arrived (process_at (here_in lives k) role.DistAc) m (without s left_e))
    (arrived (process_at (here_in lives k) role.DistAc) m' (without s left_f)) (for_dist lives k from m) (for_dist lives k from' m')
race_alive {K} {lives} s k from from' m m' left_e left_f left same_lives alive race taken_f taken_e =
    let e : Envelope = for_dist lives k from m in
    let g : Envelope = for_dist lives k from' m' in
    let s_e : SystemView = without s left_e in
    let s_f : SystemView = without s left_f in
    let d = race.turned in
    let at : (v : LiveView) × (live_at s k ≡ Some v) = alive_is_there s k alive in
    let old : LiveView = at.0 in
    let here : node_at s k ≡ old = node_is s k old at.1 in
    let same : old.life ≡ lives k = sym (ap (λ (v : LiveView). v.life) here) ∙ same_lives k in
    let has : old.dist ≡ (node_at s k).dist = sym (ap (λ (v : LiveView). v.dist) here) in
    let old_alive : is_alive old ≡ true = sym (ap is_alive here) ∙ alive in
    let to : Process = process_at (here_in lives k) role.DistAc in
    let woken : LiveView = record old { dist = race.waits } in
    let last : LiveView = record old { dist = d.next } in
    let t : SystemView = with_node k woken s_e in
    let u : SystemView = done to d.outs (with_node k last s_f) in
    let t_left : SystemView = without t left in
    let u_left : SystemView = without u (left ++ letters d.outs) in
    let v : SystemView = arrived to m' t_left in
    let w : SystemView = arrived to m u_left in
    let is_t : arrived to m s_e ≡ t =
    arrives_alive to m s_e alive (same_lives k) ∙ race.fires left_e old at.1 has same in
    let is_u : arrived to m' s_f ≡ u =
    arrives_alive to m' s_f alive (same_lives k) ∙ turned_so k m' s s_f old (node_at s k).dist d at.1 has same refl refl in
    let is_v : v ≡ done to d.outs (with_node k last t_left) =
    arrives_alive to m' t_left (alive_written s_e k woken alive old_alive)
    (ap (λ (x : LiveView). x.life) (node_written s_e k old woken at.1) ∙ same)
    ∙ race.behind t_left woken (there_written s_e k old woken at.1) refl same refl refl
    ∙ carries k to d.outs (with_node k last t_left)
    (λ i. process_at (record { node = k; life = (ap (λ (x : LiveView). x.life) (node_written t_left k woken last (there_written s_e k old woken at.1)) ∙ same) i }) role.DistAc)
    d.plain in
    let is_w : w ≡ with_node k last u_left =
    arrives_alive to m u_left (alive_written s_f k last alive old_alive)
    (ap (λ (x : LiveView). x.life) (node_written s_f k old last at.1) ∙ same)
    ∙ race.stale u_left last (there_written s_f k old last at.1) refl same refl refl in
    let over : SystemView → SystemView =
    λ (x : SystemView). record x {
      messages = left ++ letters d.outs;
      timers = s.timers ++ alarms s.clock s.step to d.outs;
    } in (
      v,
      w,
      subst (λ (x : SystemView). Arrives g x v) (sym is_t) (taken_arrives t g left taken_f),
      subst (λ (x : SystemView). Arrives e x w) (sym is_u)
          (taken_arrives u e (left ++ letters d.outs) (taken_of_more e left_f left (letters d.outs) taken_e)),
      is_v ∙ ap over (written_twice s_e k woken last) ∙ sym (is_w ∙ ap over (written_twice s_f k last last)),
    )

-- whether it is alive or not
pub races : {K : Envelope → Type 0} {lives : Node → ℕ} (s : SystemView) (k : Node) (from from' : Process) (m m' : Message)
    (left_e left_f : List Envelope) → ((j : Node) → (node_at s j).life ≡ lives j) → (is_alive_at s k ≡ true → Race K lives k m m' s)
    → Taken (for_dist lives k from m) s.messages left_e → Taken (for_dist lives k from' m') s.messages left_f
    → is_of_pair (for_dist lives k from m) (for_dist lives k from' m') ≡ false
    → Meet (arrived (process_at (here_in lives k) role.DistAc) m (without s left_e))
    (arrived (process_at (here_in lives k) role.DistAc) m' (without s left_f))
races {K} {lives} s k from from' m m' left_e left_f same_lives race taken_e taken_f apart = by (cases_Bool (is_alive_at s k))
  where
    e : Envelope
    e = for_dist lives k from m

    g : Envelope
    g = for_dist lives k from' m'

    both : (left : List Envelope) × Taken g left_e left × Taken e left_f left
    both = both_taken e g s.messages left_e left_f apart taken_e taken_f

    by : (is_alive_at s k ≡ true) ⊎ (is_alive_at s k ≡ false)
        → Meet (arrived e.to m (without s left_e)) (arrived g.to m' (without s left_f))
    by (inl alive) =
        cross_meet _ _ e g (race_alive s k from from' m m' left_e left_f both.0 same_lives alive (race alive) both.1 both.2)
    by (inr dead) = cross_meet _ _ e g (cross_dead s _ _ e g left_e left_f both.0 refl dead refl refl both.1 both.2)
