-- Behind a permit of what runs elsewhere: the node's controller is told where, while the caller is answered and others note the permission.
use Rattle.std.proofs.Common.{◌++◌, ◌≡◌, ◌⊎◌, true, false, List, [], ◌∷◌, Some, refl, sym, ap, subst, ◌∙◌, inl, inr}
use Rattle.std.specs.Prelude.{All}
use Rattle.std.proofs.lemmas.Bool.{cases_Bool, false≢true}
use Rattle.std.proofs.lemmas.List.{append-nil}
use Rattle.std.proofs.lemmas.List.Elements.{All-append, All-weaker}
use Rattle.rh_model.specs.declared.node.Node.{Node}
use Rattle.rh_otp_model.specs.declared.fault.Outcome.{Outcome}
use Rattle.rh_otp_model.specs.declared.message.Change.TheVariants as change_of
use Rattle.rh_otp_model.specs.declared.message.Message.TheVariants as message
use Rattle.rh_otp_model.specs.declared.output.Envelope.{Envelope}
use Rattle.rh_otp_model.specs.Rows.{keyfind, has_row}
use Rattle.rh_otp_net.specs.Queue.{is_of_pair}
use Rattle.rh_otp_node.specs.Live.{LiveView, is_alive}
use Rattle.rh_otp_system.specs.declared.calls.Call.{Call}
use Rattle.rh_otp_system.specs.Calling.{is_known}
use Rattle.rh_otp_system.specs.Delivering.{arrived, controlled}
use Rattle.rh_otp_system.specs.Moves.{Delivers}
use Rattle.rh_otp_system.specs.State.{SystemView, live_at, node_at, with_node, is_alive_at}
use Rattle.rh_otp_laws.proofs.Order.{pair_itself}
use Rattle.rh_otp_orders.specs.Confluence.{Meet, IsOrderly}
use Rattle.rh_otp_orders.specs.Orders.{Arrives, LeavesAlone}
use Rattle.rh_otp_orders.proofs.Taking.{Taken, both_taken, taken_arrives}
use Rattle.rh_otp_crashes.proofs.Crossing.{cross_dead, cross_meet, meet_back, not_back}
use Rattle.rh_otp_crashes.proofs.Peace.{without, arrives_alive, arrives_dead, taken_all}
use Rattle.rh_otp_stops.proofs.Answering.{answered_free}
use Rattle.rh_otp_stops.proofs.Still.{Come}
use Rattle.rh_otp_stops.proofs.Stopping.{there_is}
use Rattle.rh_otp_starts.proofs.Parting.{message_comes, by_messages}
use Rattle.rh_otp_permits.proofs.Noting.{answered_then}
use Rattle.rh_otp_model.specs.Rows.{has_row, keyfind}
use Rattle.rh_otp_orders.specs.Orders.{AreAlike}
use Rattle.rh_otp_crashes.proofs.Peace.{delivers}
use Rattle.rh_otp_laws.proofs.Nodes.{same_of_all}
use Rattle.rh_otp_crashes.proofs.Turning.{Changed}
use Rattle.rh_otp_model.specs.declared.output.Event.TheVariants as event
use Rattle.rh_otp_model.specs.declared.output.Event.{Event}
use Rattle.rh_otp_moves.proofs.Still.{Course, did_leaves, lost_leaves, none_orderly}
use Rattle.rh_otp_moves.proofs.Telling.{IsAbroad}
use Rattle.rh_otp_moves.proofs.Abroad.{Going, going_left, Stepped, comes_abroad, abroad_no_call, abroad_other, at_home_still, apart_meet, DidSo, controller_does}
use Rattle.rh_otp_moves.proofs.Late.{IsLate, answers, abroad, its_answer, going_answered, answer_frees, both_meet, kinds_meet}
use Rattle.rh_otp_moves.proofs.Chain.{it_changes, going_home}
use Rattle.rh_otp_moves.proofs.Passing.{changes_at, swapped}
use Rattle.rh_otp_moves.proofs.Crossing.{alike_events}

-- ---- the messages

-- all messages are such
pub data IsAway (k : Course) : Envelope → Type 0 where
  late : (e : Envelope) → IsLate k e → IsAway k e
  own_news : (j : Node) → IsAway k (it_changes k (change_of.Started j))

-- that is all
pub record Away (k : Course) (s : SystemView) : Type 0 where
  pub going : Going k s
  pub kinds : All (IsAway k) s.messages

-- ---- the controller is told

-- it has come, and leaves alone what nodes share
record OwnCame (k : Course) (s t : SystemView) : Type 0 where
  away : Away k t
  leaves : (n : Node) → LeavesAlone n s t

own_comes : (k : Course) (s : SystemView) (j : Node) (left : List Envelope) → Away k s
    → Taken (it_changes k (change_of.Started j)) s.messages left
    → OwnCame k s (arrived (it_changes k (change_of.Started j)).to (message.Change k.call.app (change_of.Started j)) (without s left))
own_comes k s j left f taken = by (cases_Bool (is_alive_at s n))
  where
    n : Node
    n = k.call.node

    e : Envelope
    e = it_changes k (change_of.Started j)

    q : SystemView
    q = without s left

    g : Going k q
    g = going_left k s left f.going

    rest : All (IsAway k) left
    rest = (taken_all (IsAway k) e s.messages left taken f.kinds).1

    by : (is_alive_at s n ≡ true) ⊎ (is_alive_at s n ≡ false) → OwnCame k s (arrived e.to e.message q)
    by (inl alive) =
        let so : DidSo k n q (controlled n e.message q) (node_at q n).dist [] =
        controller_does k n e.message q g.still alive (changes_at q.cluster q.files n k.call.app j) in
        rw (arrives_alive e.to e.message q alive (f.going.still.same_lives n))
        (record {
          away = record {
            going = going_home k s (controlled n e.message q) left f.going so.did;
            kinds = subst (All (IsAway k))
                (sym (ap (λ (x : SystemView). x.messages) so.did.is ∙ ap (λ (l : List Envelope). left ++ l) so.sent
                ∙ append-nil left)) rest;
          };
          leaves = λ m. did_leaves k m n s (controlled n e.message q) left so.did;
        })
    by (inr dead) =
        let is : arrived e.to e.message q ≡ q = arrives_dead e.to e.message q dead in
        record {
          away = subst (Away k) (sym is) (record { going = g; kinds = rest });
          leaves = λ m. lost_leaves m s _ left is;
        }

away_comes : (k : Course) (s : SystemView) (e : Envelope) (left : List Envelope) → Away k s → Taken e s.messages left → IsAway k e
    → Away k (arrived e.to e.message (without s left))
away_comes k s _ left f taken (own_news j) = (own_comes k s j left f taken).away
away_comes k s _ left f taken (late _ (answers o known)) = by (cases_Bool (is_alive_at s k.call.node))
  where
    e : Envelope
    e = its_answer k o

    q : SystemView
    q = without s left

    g : Going k q
    g = going_left k s left f.going

    rest : All (IsAway k) left
    rest = (taken_all (IsAway k) e s.messages left taken f.kinds).1

    by : (is_alive_at s k.call.node ≡ true) ⊎ (is_alive_at s k.call.node ≡ false) → Away k (arrived e.to e.message q)
    by (inl alive) = subst (Away k) (sym (answer_frees k o q g known alive)) (record { going = going_answered k o q g; kinds = rest })
    by (inr dead) = subst (Away k) (sym (arrives_dead e.to e.message q dead)) (record { going = g; kinds = rest })
away_comes k s _ left f taken (late _ (abroad e kind)) =
    let t : SystemView = arrived e.to e.message (without s left) in
    let step : Stepped k s t left = comes_abroad k s e left f.going kind in
    record {
      going = step.going;
      kinds = subst (All (IsAway k)) (sym step.sent)
          (All-append (IsAway k) left step.more (taken_all (IsAway k) e s.messages left taken f.kinds).1
          (All-weaker (IsAbroad k) (IsAway k) (λ x so. late x (abroad x so)) step.more step.kinds));
    }

away_goes_on : (k : Course) (s t : SystemView) → Away k s → (s.messages ≡ [] → ⊥) → Delivers s t → Away k t
away_goes_on k s t f some one =
    let come : Come s t = message_comes s t some one in
    let kind : IsAway k come.message = (taken_all (IsAway k) come.message s.messages come.left come.taken f.kinds).0 in
    subst (Away k) (sym come.is) (away_comes k s come.message come.left f come.taken kind)

-- ---- any two meet

-- The controller learns of it, and the caller is answered: an observer may see that in either order.
own_alike : (k : Course) (s : SystemView) (j : Node) (o : Outcome) (left_e left_f left : List Envelope) → Away k s → is_known o ≡ false
    → is_alive_at s k.call.node ≡ true → Taken (it_changes k (change_of.Started j)) left_e left → Taken (its_answer k o) left_f left
    → Meet (arrived (its_answer k o).to (its_answer k o).message (without s left_e))
    (arrived (it_changes k (change_of.Started j)).to (it_changes k (change_of.Started j)).message (without s left_f))
unfolding changes_at
own_alike k s j o left_e left_f left f known alive taken_f taken_e =
    let n : Node = k.call.node in
    let c : Call = k.call in
    let e : Envelope = its_answer k o in
    let g : Envelope = it_changes k (change_of.Started j) in
    let ch : Changed s.cluster s.files n g.message = changes_at s.cluster s.files n c.app j in
    let old : LiveView = node_at s n in
    let there : live_at s n ≡ Some old = there_is s n alive in
    let new : LiveView = record old { controller = ch.next old.controller } in
    let seen : List Event = ch.seen old.controller in
    let life : (node_at s n).life ≡ c.life = f.going.still.same_lives n ∙ sym f.going.still.life in
    let y : Event = event.Answered c.number in
    let t : SystemView = answered_then c o (without s left_e) in
    let u : SystemView = record (with_node n new (without s left_f)) { events = s.events ++ seen } in
    let t_left : SystemView = without t left in
    let u_left : SystemView = without u left in
    let v : SystemView = arrived g.to g.message t_left in
    let w : SystemView = arrived e.to e.message u_left in
    let is_t : arrived e.to e.message (without s left_e) ≡ t =
    answer_frees k o (without s left_e) (going_left k s left_e f.going) known alive in
    let is_u : arrived g.to g.message (without s left_f) ≡ u =
    arrives_alive g.to g.message (without s left_f) alive (f.going.still.same_lives n) ∙ ch.comes (without s left_f) old there refl refl in
    let over : SystemView = with_node n new t_left in
    let is_v : v ≡ record over { events = (s.events ++ y ∷ []) ++ seen } =
    arrives_alive g.to g.message t_left alive (f.going.still.same_lives n) ∙ ch.comes t_left old there refl refl in
    let is_w : w ≡ record over { events = (s.events ++ seen) ++ y ∷ [] } =
    answered_free c f.going.still.stage o u_left f.going.still.calls known (same_of_all is_alive s n n new refl ∙ alive)
    (same_of_all (λ (x : LiveView). x.life) s n n new refl ∙ life) in
    let same : AreAlike v w =
    subst (λ (x : SystemView). AreAlike x w) (sym is_v)
    (subst (AreAlike (record over { events = (s.events ++ y ∷ []) ++ seen })) (sym is_w)
    (alike_events over ((s.events ++ y ∷ []) ++ seen) ((s.events ++ seen) ++ y ∷ [])
    (λ owner. sym (swapped n c.app c.number (keyfind c.app old.controller.running) (has_row c.app old.controller.started)
    old.controller.is_ending s.events owner)))) in
    inr (
      v,
      w,
      delivers g (arrived e.to e.message (without s left_e)) v
          (subst (λ (x : SystemView). Arrives g x v) (sym is_t) (taken_arrives t g left taken_f)),
      delivers e (arrived g.to g.message (without s left_f)) w
          (subst (λ (x : SystemView). Arrives e x w) (sym is_u) (taken_arrives u e left taken_e)),
      same,
    )

own_meets : (k : Course) (s : SystemView) (j : Node) (g : Envelope) (left_e left_f : List Envelope) → Away k s → IsLate k g
    → Taken (it_changes k (change_of.Started j)) s.messages left_e → Taken g s.messages left_f
    → is_of_pair (it_changes k (change_of.Started j)) g ≡ false
    → Meet (arrived (it_changes k (change_of.Started j)).to (it_changes k (change_of.Started j)).message (without s left_e))
    (arrived g.to g.message (without s left_f))
own_meets k s j _ left_e left_f f (answers o known) taken_e taken_f apart = by (cases_Bool (is_alive_at s k.call.node))
  where
    e : Envelope
    e = it_changes k (change_of.Started j)

    g : Envelope
    g = its_answer k o

    both : (left : List Envelope) × Taken g left_e left × Taken e left_f left
    both = both_taken e g s.messages left_e left_f apart taken_e taken_f

    by : (is_alive_at s k.call.node ≡ true) ⊎ (is_alive_at s k.call.node ≡ false)
        → Meet (arrived e.to e.message (without s left_e)) (arrived g.to g.message (without s left_f))
    by (inl alive) = meet_back _ _ (own_alike k s j o left_f left_e both.0 f known alive both.2 both.1)
    by (inr dead) = cross_meet _ _ e g (cross_dead s _ _ e g left_e left_f both.0 refl dead refl refl both.1 both.2)
own_meets k s j _ left_e left_f f (abroad g kind) taken_e taken_f apart =
    let e : Envelope = it_changes k (change_of.Started j) in
    apart_meet s _ _ e g (taken_arrives s e left_e taken_e) (taken_arrives s g left_f taken_f)
    (own_comes k s j left_e f taken_e).leaves (comes_abroad k s g left_f f.going kind).leaves
    (at_home_still s e refl) (at_home_still s g (abroad_no_call k g kind)) refl (λ one. abroad_other k g kind (sym one))

away_both : (k : Course) (s : SystemView) (e g : Envelope) (left_e left_g : List Envelope) → Away k s → IsAway k e → IsAway k g
    → Taken e s.messages left_e → Taken g s.messages left_g → is_of_pair e g ≡ false
    → Meet (arrived e.to e.message (without s left_e)) (arrived g.to g.message (without s left_g))
away_both k s _ _ left_e left_g f (late e kind) (late g kind') taken_e taken_g apart =
    both_meet k s e g left_e left_g f.going kind kind' taken_e taken_g apart
away_both k s _ _ left_e left_g f (own_news j) (late g kind) taken_e taken_g apart =
    own_meets k s j g left_e left_g f kind taken_e taken_g apart
away_both k s _ _ left_e left_g f (late e kind) (own_news j) taken_e taken_g apart =
    meet_back _ _ (own_meets k s j e left_g left_e f kind taken_g taken_e (not_back e (it_changes k (change_of.Started j)) apart))
away_both k s _ _ left_e left_g f (own_news j) (own_news i) taken_e taken_g apart =
    absurd (false≢true (sym apart ∙ pair_itself (it_changes k (change_of.Started j))))

-- ---- every order

away_meets : (k : Course) (s t u : SystemView) → Away k s → (s.messages ≡ [] → ⊥) → Delivers s t → Delivers s u → Meet t u
away_meets k s t u f some to_t to_u =
    kinds_meet (IsAway k) s t u f.kinds some
    (λ e g left_e left_g kind_e kind_g taken_e taken_g apart.
    away_both k s e g left_e left_g f kind_e kind_g taken_e taken_g apart) to_t to_u

pub away_orderly : (k : Course) (s : SystemView) → Away k s → IsOrderly s
away_orderly k s f =
    by_messages (Away k) (λ s f none. none_orderly k s f.going.still none) (away_goes_on k) (away_meets k) s f
