-- Where another node has started the application, or has failed to, any two messages meet again: the answer changes the call and its lock,
-- which nobody reads that is told, and an observer may see it before or behind what a controller shows.
use Rattle.std.proofs.Common.{◌≡◌, ◌≢◌, ◌⊎◌, ◌++◌, ℕ, true, false, List, [], ◌∷◌, Option, Some, None, refl, sym, ap, subst, ◌∙◌, inl, inr}
use Rattle.std.proofs.lemmas.Bool.{cases_Bool, cases_eq, false≢true}
use Rattle.rh_model.specs.declared.node.Node.{Node}
use Rattle.rh_model.specs.declared.settings.Dep.{Dep}
use Rattle.rh_otp_model.specs.declared.fault.Outcome.{Outcome}
use Rattle.rh_otp_model.specs.declared.message.Message.{Message}
use Rattle.rh_otp_model.specs.declared.message.Message.TheVariants as message
use Rattle.rh_otp_model.specs.declared.output.Envelope.{Envelope}
use Rattle.rh_otp_model.specs.declared.output.Event.{Event}
use Rattle.rh_otp_model.specs.declared.output.Event.TheVariants as event
use Rattle.rh_otp_model.specs.declared.process.Process.{Process}
use Rattle.rh_otp_model.specs.declared.process.Role.TheVariants as role
use Rattle.rh_otp_model.specs.Processes.{process_at}
use Rattle.rh_otp_model.specs.Rows.{keyfind, has_row}
use Rattle.rh_otp_dist.specs.State.{DistView}
use Rattle.rh_otp_net.specs.Queue.{is_of_pair}
use Rattle.rh_otp_node.specs.Live.{LiveView, is_alive}
use Rattle.rh_otp_system.specs.declared.calls.Call.{Call}
use Rattle.rh_otp_system.specs.Calling.{is_known}
use Rattle.rh_otp_system.specs.Delivering.{arrived}
use Rattle.rh_otp_system.specs.Moves.{Delivers}
use Rattle.rh_otp_system.specs.State.{SystemView, live_at, node_at, with_node, is_alive_at}
use Rattle.rh_otp_laws.proofs.Nodes.{same_of_all}
use Rattle.rh_otp_laws.proofs.Order.{pair_itself}
use Rattle.rh_otp_orders.specs.Confluence.{Meet}
use Rattle.rh_otp_orders.specs.Orders.{Arrives, AreAlike, SameOfEach, node_told}
use Rattle.rh_otp_orders.proofs.Taking.{Taken, both_taken, taken_arrives, taken_of_more}
use Rattle.rh_otp_crashes.proofs.Carrying.{done, letters}
use Rattle.rh_otp_crashes.proofs.Crossing.{Cross, cross_dead, cross_meet, crosses, for_dist, meet_back, not_back, same_node}
use Rattle.rh_otp_crashes.proofs.Peace.{here_in, without, arrives_alive, arrives_dead, delivers, turned_so}
use Rattle.rh_otp_crashes.proofs.Turning.{Changed, Turned}
use Rattle.rh_otp_stops.proofs.Answering.{answered_free}
use Rattle.rh_otp_stops.proofs.Stopping.{there_is}
use Rattle.rh_otp_permits.proofs.Noting.{answer_of, answered_then}
use Rattle.rh_otp_moves.proofs.Abroad.{at_home_still, apart_meet}
use Rattle.rh_otp_moves.proofs.Late.{kinds_meet}
use Rattle.rh_otp_moves.proofs.Holding.{Stands, holding_left}
use Rattle.rh_otp_moves.proofs.Others.{IsOther, none_cross, note_and_start}
use Rattle.rh_otp_moves.proofs.Passing.{IsHeard, starts, notes, note, IsPassed, hears, moves, answers, learned, Passing, changes_at, swapped, heard_at, heard_on, learned_on, frees_call}

-- ---- the answer, and what a node is told

answer_lost : {lives : Node → ℕ} {c : Call} {m : Node} {told : List Node} {error : Option Dep} (s : SystemView) (o : Outcome) (g : Envelope)
    (left_e left_f left : List Envelope)
    → Passing lives c m told error s → is_known o ≡ false → is_alive_at s g.to.node ≡ false
    → Taken g left_e left → Taken (answer_of lives c o) left_f left
    → Cross (arrived (answer_of lives c o).to (answer_of lives c o).message (without s left_e))
    (arrived g.to g.message (without s left_f)) (answer_of lives c o) g
answer_lost {lives} {c} s o g left_e left_f left f known dead taken_f taken_e =
    let e : Envelope = answer_of lives c o in
    let t : SystemView = answered_then c o (without s left_e) in
    let t_left : SystemView = without t left in (
      arrived g.to g.message t_left,
      arrived e.to e.message (without s left),
      subst (λ (y : SystemView). Arrives g y (arrived g.to g.message t_left))
          (sym (frees_call (without s left_e) o (holding_left s left_e f.hold) f.alive known)) (taken_arrives t g left taken_f),
      subst (λ (y : SystemView). Arrives e y (arrived e.to e.message (without s left)))
          (sym (arrives_dead g.to g.message (without s left_f) dead)) (taken_arrives (without s left_f) e left taken_e),
      arrives_dead g.to g.message t_left dead ∙ sym (frees_call (without s left) o (holding_left s left f.hold) f.alive known),
    )

answer_heard : {lives : Node → ℕ} {c : Call} {m : Node} {told : List Node} {error : Option Dep} (s : SystemView) (o : Outcome) (j : Node)
    (from : Process) (x : Message) (left_e left_f left : List Envelope) → Passing lives c m told error s
    → Turned (IsPassed lives c m told error) s.cluster s.files j (lives j) x (node_at s j).dist → is_known o ≡ false
    → is_alive_at s j ≡ true → Taken (for_dist lives j from x) left_e left → Taken (answer_of lives c o) left_f left
    → Cross (arrived (answer_of lives c o).to (answer_of lives c o).message (without s left_e))
    (arrived (process_at (here_in lives j) role.DistAc) x (without s left_f)) (answer_of lives c o) (for_dist lives j from x)
answer_heard {lives} {c} s o j from x left_e left_f left f d known alive taken_f taken_e =
    let e : Envelope = answer_of lives c o in
    let g : Envelope = for_dist lives j from x in
    let to : Process = process_at (here_in lives j) role.DistAc in
    let old : LiveView = node_at s j in
    let there : live_at s j ≡ Some old = there_is s j alive in
    let new : LiveView = record old { dist = d.next } in
    let life : (node_at s c.node).life ≡ c.life = f.hold.same_lives c.node ∙ sym f.hold.life in
    let t : SystemView = answered_then c o (without s left_e) in
    let u : SystemView = done to d.outs (with_node j new (without s left_f)) in
    let t_left : SystemView = without t left in
    let u_left : SystemView = without u (left ++ letters d.outs) in
    let v : SystemView = arrived to x t_left in
    let w : SystemView = arrived e.to e.message u_left in
    let is_t : arrived e.to e.message (without s left_e) ≡ t =
    frees_call (without s left_e) o (holding_left s left_e f.hold) f.alive known in
    let is_u : arrived to x (without s left_f) ≡ u =
    arrives_alive to x (without s left_f) alive (f.hold.same_lives j)
    ∙ turned_so j x s (without s left_f) old old.dist d there refl (f.hold.same_lives j) refl refl in
    let is_v : v ≡ done to d.outs (with_node j new t_left) =
    arrives_alive to x t_left alive (f.hold.same_lives j)
    ∙ turned_so j x s t_left old old.dist d there refl (f.hold.same_lives j) refl refl in
    let is_w : w ≡ answered_then c o u_left =
    answered_free c f.hold.stage o u_left f.hold.calls known (same_of_all is_alive s j c.node new refl ∙ f.alive)
    (same_of_all (λ (y : LiveView). y.life) s j c.node new refl ∙ life) in (
      v,
      w,
      subst (λ (y : SystemView). Arrives g y v) (sym is_t) (taken_arrives t g left taken_f),
      subst (λ (y : SystemView). Arrives e y w) (sym is_u)
          (taken_arrives u e (left ++ letters d.outs) (taken_of_more e left_f left (letters d.outs) taken_e)),
      is_v ∙ sym is_w,
    )

pub alike_events : (s : SystemView) (xs ys : List Event) → SameOfEach node_told xs ys
    → AreAlike (record s { events = xs }) (record s { events = ys })
alike_events s xs ys same = record {
  cluster = refl;
  files = refl;
  nodes = refl;
  clock = refl;
  step = refl;
  last_call = refl;
  alive = refl;
  links = refl;
  locks = refl;
  calls = refl;
  asleep = refl;
  told = refl;
  answers = λ pair. refl;
  is_ticking = refl;
  ends_soon = refl;
  messages = λ pair. refl;
  timers = λ o. refl;
  slow = λ o. refl;
  events = same;
}

answer_learned : {lives : Node → ℕ} {c : Call} {m : Node} {told : List Node} {error : Option Dep} (s : SystemView) (o : Outcome) (j : Node)
    (left_e left_f left : List Envelope)
    → Passing lives c m told error s → is_known o ≡ false → is_alive_at s j ≡ true
    → Taken (learned lives c m j) left_e left → Taken (answer_of lives c o) left_f left
    → Meet (arrived (answer_of lives c o).to (answer_of lives c o).message (without s left_e))
    (arrived (learned lives c m j).to (learned lives c m j).message (without s left_f))
unfolding changes_at
answer_learned {lives} {c} {m} {told} {error} s o j left_e left_f left f known alive taken_f taken_e =
    let e : Envelope = answer_of lives c o in
    let g : Envelope = learned lives c m j in
    let ch : Changed s.cluster s.files j g.message = changes_at s.cluster s.files j c.app m in
    let old : LiveView = node_at s j in
    let there : live_at s j ≡ Some old = there_is s j alive in
    let new : LiveView = record old { controller = ch.next old.controller } in
    let seen : List Event = ch.seen old.controller in
    let life : (node_at s c.node).life ≡ c.life = f.hold.same_lives c.node ∙ sym f.hold.life in
    let y : Event = event.Answered c.number in
    let t : SystemView = answered_then c o (without s left_e) in
    let u : SystemView = record (with_node j new (without s left_f)) { events = s.events ++ seen } in
    let t_left : SystemView = without t left in
    let u_left : SystemView = without u left in
    let v : SystemView = arrived g.to g.message t_left in
    let w : SystemView = arrived e.to e.message u_left in
    let is_t : arrived e.to e.message (without s left_e) ≡ t =
    frees_call (without s left_e) o (holding_left s left_e f.hold) f.alive known in
    let is_u : arrived g.to g.message (without s left_f) ≡ u =
    arrives_alive g.to g.message (without s left_f) alive (f.hold.same_lives j) ∙ ch.comes (without s left_f) old there refl refl in
    let over : SystemView = with_node j new t_left in
    let is_v : v ≡ record over { events = (s.events ++ y ∷ []) ++ seen } =
    arrives_alive g.to g.message t_left alive (f.hold.same_lives j) ∙ ch.comes t_left old there refl refl in
    let is_w : w ≡ record over { events = (s.events ++ seen) ++ y ∷ [] } =
    answered_free c f.hold.stage o u_left f.hold.calls known (same_of_all is_alive s j c.node new refl ∙ f.alive)
    (same_of_all (λ (x : LiveView). x.life) s j c.node new refl ∙ life) in
    let same : AreAlike v w =
    subst (λ (x : SystemView). AreAlike x w) (sym is_v)
    (subst (AreAlike (record over { events = (s.events ++ y ∷ []) ++ seen })) (sym is_w)
    (alike_events over ((s.events ++ y ∷ []) ++ seen) ((s.events ++ seen) ++ y ∷ [])
    (λ owner. sym (swapped j c.app c.number (keyfind c.app old.controller.running) (has_row c.app old.controller.started)
    old.controller.is_ending s.events owner)))) in
    inr (
      v,
      w,
      delivers g (arrived e.to e.message (without s left_e)) v
          (subst (λ (x : SystemView). Arrives g x v) (sym is_t) (taken_arrives t g left taken_f)),
      delivers e (arrived g.to g.message (without s left_f)) w
          (subst (λ (x : SystemView). Arrives e x w) (sym is_u) (taken_arrives u e left taken_e)),
      same,
    )

-- ---- any two meet

answer_meets : {lives : Node → ℕ} {c : Call} {m : Node} {told : List Node} {error : Option Dep} (s : SystemView) (o : Outcome)
    (g : Envelope)
    (left_e left_f : List Envelope)
    → Passing lives c m told error s → is_known o ≡ false → IsPassed lives c m told error g
    → Taken (answer_of lives c o) s.messages left_e → Taken g s.messages left_f → is_of_pair (answer_of lives c o) g ≡ false
    → Meet (arrived (answer_of lives c o).to (answer_of lives c o).message (without s left_e)) (arrived g.to g.message (without s left_f))
answer_meets {lives} {c} {m} {told} {error} s o _ left_e left_f f known (hears j from x said) taken_e taken_f apart =
    let e : Envelope = answer_of lives c o in
    let g : Envelope = for_dist lives j from x in
    let both = both_taken e g s.messages left_e left_f apart taken_e taken_f in
    elim (cases_Bool (is_alive_at s j)) [
      | inl alive ↦ cross_meet _ _ e g
          (answer_heard s o j from x left_e left_f both.0 f (heard_at s j from x f said alive).turned known alive both.1 both.2)
      | inr dead ↦ cross_meet _ _ e g (answer_lost s o g left_e left_f both.0 f known dead both.1 both.2)
    ]
answer_meets {lives} {c} {m} {told} {error} s o _ left_e left_f f known (moves j other) taken_e taken_f apart =
    let e : Envelope = answer_of lives c o in
    let g : Envelope = learned lives c m j in
    let both = both_taken e g s.messages left_e left_f apart taken_e taken_f in
    elim (cases_Bool (is_alive_at s j)) [
      | inl alive ↦ answer_learned s o j left_e left_f both.0 f known alive both.1 both.2
      | inr dead ↦ cross_meet _ _ e g (answer_lost s o g left_e left_f both.0 f known dead both.1 both.2)
    ]
answer_meets {lives} {c} {m} {told} {error} s o _ left_e left_f f known (answers p also) taken_e taken_f apart =
    absurd (false≢true (sym apart ∙ pair_itself (answer_of lives c o)))

-- a dist_ac is told something, and a controller learns of the start
heard_meets : {lives : Node → ℕ} {c : Call} {m : Node} {told : List Node} {error : Option Dep} (s : SystemView) (j i : Node)
    (from : Process) (x : Message) (left_e left_f : List Envelope) → Passing lives c m told error s
    → IsHeard lives c m told error j from x → Taken (for_dist lives j from x) s.messages left_e
    → Taken (learned lives c m i) s.messages left_f → is_of_pair (for_dist lives j from x) (learned lives c m i) ≡ false
    → Meet (arrived (process_at (here_in lives j) role.DistAc) x (without s left_e))
    (arrived (learned lives c m i).to (learned lives c m i).message (without s left_f))
heard_meets {lives} {c} {m} {told} {error} s j i from x left_e left_f f said taken_e taken_f apart = by (cases_eq j.0 i.0)
  where
    e : Envelope
    e = for_dist lives j from x

    by : (j.0 ≡ i.0) ⊎ (j.0 ≢ i.0)
        → Meet (arrived e.to e.message (without s left_e))
        (arrived (learned lives c m i).to (learned lives c m i).message (without s left_f))
    by (inl one) =
        subst (λ (y : Node). Taken (learned lives c m y) s.messages left_f → is_of_pair e (learned lives c m y) ≡ false
        → Meet (arrived e.to e.message (without s left_e))
        (arrived (learned lives c m y).to (learned lives c m y).message (without s left_f))) (same_node j i one)
        (λ taken apart. crosses s j from (learned lives c m j).from x (learned lives c m j).message left_e left_f
        f.hold.same_lives (λ alive. (heard_at s j from x f said alive).turned) (changes_at s.cluster s.files j c.app m) taken_e taken apart)
        taken_f apart
    by (inr two) =
        apart_meet s _ _ e (learned lives c m i) (taken_arrives s e left_e taken_e) (taken_arrives s (learned lives c m i) left_f taken_f)
        (heard_on s j from x left_e f said taken_e).leaves (learned_on s i left_f f taken_f).leaves (at_home_still s e refl)
        (at_home_still s (learned lives c m i) refl) refl two

-- one dist_ac is told of the permission by the one, and of the start by the other
note_meets : {lives : Node → ℕ} {c : Call} {m : Node} {told : List Node} {error : Option Dep} (s : SystemView) (j : Node)
    (left_e left_f : List Envelope) → Passing lives c m told error s → IsOther c m told j
    → Taken (for_dist lives j (process_at (here_in lives c.node) role.DistAc) (note c)) s.messages left_e
    → Taken (for_dist lives j (process_at (here_in lives m) role.DistAc) (message.AppStarted m c.app error)) s.messages left_f
    → is_of_pair (for_dist lives j (process_at (here_in lives c.node) role.DistAc) (note c))
    (for_dist lives j (process_at (here_in lives m) role.DistAc) (message.AppStarted m c.app error)) ≡ false
    → Meet (arrived (process_at (here_in lives j) role.DistAc) (note c) (without s left_e))
    (arrived (process_at (here_in lives j) role.DistAc) (message.AppStarted m c.app error) (without s left_f))
note_meets {lives} {c} {m} {told} {error} s j left_e left_f f other taken_e taken_f apart = by (cases_Bool (is_alive_at s j))
  where
    K : Envelope → Type 0
    K = IsPassed lives c m told error

    to : Process
    to = process_at (here_in lives j) role.DistAc

    y : Message
    y = message.AppStarted m c.app error

    e : Envelope
    e = for_dist lives j (process_at (here_in lives c.node) role.DistAc) (note c)

    g : Envelope
    g = for_dist lives j (process_at (here_in lives m) role.DistAc) y

    both : (left : List Envelope) × Taken g left_e left × Taken e left_f left
    both = both_taken e g s.messages left_e left_f apart taken_e taken_f

    stands : (d : DistView) → is_alive_at s j ≡ true → (node_at s j).dist ≡ Some d → Stands c j d
        → Cross (arrived to (note c) (without s left_e)) (arrived to y (without s left_f)) e g
    stands d alive has (inl free) =
        note_and_start K s j e.from g.from c.node m c.app error d left_e left_f both.0 f.hold.same_lives alive other.1 has free
        (f.hold.tame j d other alive has) (moves j other.0) both.1 both.2
    stands d alive has (inr held) = absurd (other.1 held.0)

    at : (o : Option DistView) → is_alive_at s j ≡ true → (node_at s j).dist ≡ o
        → Cross (arrived to (note c) (without s left_e)) (arrived to y (without s left_f)) e g
    at None alive has =
        none_cross K s j e.from g.from (note c) y left_e left_f both.0 f.hold.same_lives alive has both.1 both.2
    at (Some d) alive has = stands d alive has (f.hold.dists j d alive has)

    by : (is_alive_at s j ≡ true) ⊎ (is_alive_at s j ≡ false)
        → Meet (arrived to (note c) (without s left_e)) (arrived to y (without s left_f))
    by (inl alive) = cross_meet _ _ e g (at (node_at s j).dist alive refl)
    by (inr dead) = cross_meet _ _ e g (cross_dead s _ _ e g left_e left_f both.0 refl dead refl refl both.1 both.2)

-- two dist_acs are told something, or one is
two_heard : {lives : Node → ℕ} {c : Call} {m : Node} {told : List Node} {error : Option Dep} (s : SystemView) (j i : Node)
    (from from' : Process) (x y : Message) (left_e left_f : List Envelope) → Passing lives c m told error s
    → IsHeard lives c m told error j from x → IsHeard lives c m told error i from' y → Taken (for_dist lives j from x) s.messages left_e
    → Taken (for_dist lives i from' y) s.messages left_f → is_of_pair (for_dist lives j from x) (for_dist lives i from' y) ≡ false
    → Meet (arrived (process_at (here_in lives j) role.DistAc) x (without s left_e))
    (arrived (process_at (here_in lives i) role.DistAc) y (without s left_f))
two_heard {lives} {c} {m} {told} {error} s j i from from' x y left_e left_f f said said' taken_e taken_f apart = by (cases_eq j.0 i.0)
  where
    e : Envelope
    e = for_dist lives j from x

    at_one : (p p' : Process) (z z' : Message) → IsHeard lives c m told error j p z → IsHeard lives c m told error j p' z'
        → Taken (for_dist lives j p z) s.messages left_e → Taken (for_dist lives j p' z') s.messages left_f
        → is_of_pair (for_dist lives j p z) (for_dist lives j p' z') ≡ false
        → Meet (arrived (process_at (here_in lives j) role.DistAc) z (without s left_e))
        (arrived (process_at (here_in lives j) role.DistAc) z' (without s left_f))
    at_one p _ z _ (starts other) (starts other') taken_e taken_f apart =
        absurd (false≢true (sym apart ∙ pair_itself (for_dist lives j p z)))
    at_one p _ z _ (notes other) (notes other') taken_e taken_f apart =
        absurd (false≢true (sym apart ∙ pair_itself (for_dist lives j p z)))
    at_one _ _ _ _ (notes other) (starts other') taken_e taken_f apart = note_meets s j left_e left_f f other taken_e taken_f apart
    at_one p p' z z' (starts other) (notes other') taken_e taken_f apart =
        meet_back _ _ (note_meets s j left_f left_e f other' taken_f taken_e
        (not_back (for_dist lives j p z) (for_dist lives j p' z') apart))

    by : (j.0 ≡ i.0) ⊎ (j.0 ≢ i.0)
        → Meet (arrived e.to e.message (without s left_e)) (arrived (process_at (here_in lives i) role.DistAc) y (without s left_f))
    by (inl one) =
        subst (λ (k : Node). IsHeard lives c m told error k from' y → Taken (for_dist lives k from' y) s.messages left_f
        → is_of_pair e (for_dist lives k from' y) ≡ false
        → Meet (arrived e.to e.message (without s left_e)) (arrived (process_at (here_in lives k) role.DistAc) y (without s left_f)))
        (same_node j i one) (λ said' taken apart. at_one from from' x y said said' taken_e taken apart) said' taken_f apart
    by (inr two) =
        let g : Envelope = for_dist lives i from' y in
        apart_meet s _ _ e g (taken_arrives s e left_e taken_e) (taken_arrives s g left_f taken_f)
        (heard_on s j from x left_e f said taken_e).leaves (heard_on s i from' y left_f f said' taken_f).leaves (at_home_still s e refl)
        (at_home_still s g refl) refl two

both_meet : {lives : Node → ℕ} {c : Call} {m : Node} {told : List Node} {error : Option Dep} (s : SystemView) (e g : Envelope)
    (left_e left_f : List Envelope) → Passing lives c m told error s → IsPassed lives c m told error e → IsPassed lives c m told error g
    → Taken e s.messages left_e → Taken g s.messages left_f → is_of_pair e g ≡ false
    → Meet (arrived e.to e.message (without s left_e)) (arrived g.to g.message (without s left_f))
both_meet s _ g left_e left_f f (answers o known) kind taken_e taken_f apart =
    answer_meets s o g left_e left_f f known kind taken_e taken_f apart
both_meet {lives} {c} s _ _ left_e left_f f (hears j from x said) (answers o known) taken_e taken_f apart =
    meet_back _ _ (answer_meets s o (for_dist lives j from x) left_f left_e f known (hears j from x said) taken_f taken_e
    (not_back (for_dist lives j from x) (answer_of lives c o) apart))
both_meet {lives} {c} {m} s _ _ left_e left_f f (moves j other) (answers o known) taken_e taken_f apart =
    meet_back _ _ (answer_meets s o (learned lives c m j) left_f left_e f known (moves j other) taken_f taken_e
    (not_back (learned lives c m j) (answer_of lives c o) apart))
both_meet s _ _ left_e left_f f (hears j from x said) (moves i other) taken_e taken_f apart =
    heard_meets s j i from x left_e left_f f said taken_e taken_f apart
both_meet {lives} {c} {m} s _ _ left_e left_f f (moves i other) (hears j from x said) taken_e taken_f apart =
    meet_back _ _ (heard_meets s j i from x left_f left_e f said taken_f taken_e
    (not_back (learned lives c m i) (for_dist lives j from x) apart))
both_meet s _ _ left_e left_f f (hears j from x said) (hears i from' y said') taken_e taken_f apart =
    two_heard s j i from from' x y left_e left_f f said said' taken_e taken_f apart
both_meet {lives} {c} {m} s _ _ left_e left_f f (moves j other) (moves i other') taken_e taken_f apart =
    elim (cases_eq j.0 i.0) [
      | inl one ↦ absurd (false≢true (sym apart
          ∙ ap (λ (y : Node). is_of_pair (learned lives c m j) (learned lives c m y)) (sym (same_node j i one))
          ∙ pair_itself (learned lives c m j)))
      | inr two ↦ apart_meet s _ _ (learned lives c m j) (learned lives c m i) (taken_arrives s (learned lives c m j) left_e taken_e)
          (taken_arrives s (learned lives c m i) left_f taken_f) (learned_on s j left_e f taken_e).leaves
          (learned_on s i left_f f taken_f).leaves (at_home_still s (learned lives c m j) refl)
          (at_home_still s (learned lives c m i) refl) refl two
    ]

-- ---- every order

pub passing_meets : {lives : Node → ℕ} {c : Call} {m : Node} {told : List Node} {error : Option Dep} (s t u : SystemView)
    → Passing lives c m told error s
    → (s.messages ≡ [] → ⊥)
    → Delivers s t → Delivers s u → Meet t u
passing_meets {lives} {c} {m} {told} {error} s t u f some to_t to_u =
    kinds_meet (IsPassed lives c m told error) s t u f.kinds some
    (λ e g left_e left_g kind_e kind_g taken_e taken_g apart.
    both_meet s e g left_e left_g f kind_e kind_g taken_e taken_g apart) to_t to_u
