-- Behind the dist_ac's turn all orders end alike: any two messages meet again.
use Rattle.std.proofs.Common.{◌≡◌, ◌≢◌, ◌⊎◌, ◌&&◌, Bool, false, List, [], ◌∷◌, refl, sym, ap, subst, ◌∙◌, inl, inr}
use Rattle.std.specs.Prelude.{All}
use Rattle.std.proofs.lemmas.List.Elements.{All-cons, All-head, All-tail, All-weaker}
use Rattle.rh_model.specs.declared.node.Node.{Node}
use Rattle.rh_otp_model.specs.declared.output.Envelope.{Envelope}
use Rattle.rh_otp_net.specs.Queue.{is_of_pair}
use Rattle.rh_otp_system.specs.Delivering.{arrived}
use Rattle.rh_otp_system.specs.Moves.{Delivers}
use Rattle.rh_otp_system.specs.State.{SystemView, node_at}
use Rattle.rh_otp_laws.proofs.Order.{pair_itself}
use Rattle.rh_otp_orders.specs.Confluence.{Meet, IsOrderly}
use Rattle.rh_otp_orders.specs.Orders.{is_call}
use Rattle.rh_otp_orders.proofs.Taking.{Taken, taken_arrives}
use Rattle.rh_otp_crashes.proofs.Peace.{without, one_first, taken_all}
use Rattle.rh_otp_stops.proofs.Meeting.{not_apart}
use Rattle.rh_otp_stops.proofs.Still.{Come}
use Rattle.rh_otp_starts.proofs.Parting.{message_comes, by_messages}
use Rattle.rh_otp_moves.proofs.Still.{Course, none_orderly}
use Rattle.rh_otp_moves.proofs.Telling.{IsAbroad}
use Rattle.rh_otp_moves.proofs.Abroad.{abroad_no_call, abroad_other, at_home_still, apart_meet}
use Rattle.rh_otp_moves.proofs.Late.{abroad_both_meet, kinds_meet, over_goes_on, over_meets}
use Rattle.rh_otp_moves.proofs.Chain.{IsLink, stop, stopped, start, report, run, link_home, link_no_call, Chained, Moving, chained, at_end, Advanced, abroad_first}
use Rattle.rh_otp_moves.proofs.Halting.{stop_comes, stopped_comes}
use Rattle.rh_otp_moves.proofs.Beginning.{start_comes, report_comes, run_comes}

-- ---- what there is on its way

pub all_from : (P : Envelope → Type 0) (e : Envelope) (l left : List Envelope) → Taken e l left → P e → All P left → All P l
all_from P e [] left taken so all = absurd taken
all_from P e (m ∷ l) left (inl here) so all = All-cons P m l (subst P (sym here.0) so) (subst (All P) here.1 all)
all_from P e (m ∷ l) left (inr later) so all =
    let rest : All P (m ∷ later.1) = subst (All P) later.2 all in
    All-cons P m l (All-head P m later.1 rest) (all_from P e l later.1 later.3 so (All-tail P m later.1 rest))

-- the node's own one, or one to another node
abbrev OfChain : (k : Course) (s : SystemView) → Chained k s → Envelope → Type 0
OfChain k s f e = (e ≡ f.message) ⊎ IsAbroad k e

of_chain : (k : Course) (s : SystemView) (f : Chained k s) → All (OfChain k s f) s.messages
of_chain k s f =
    all_from (OfChain k s f) f.message s.messages f.rest f.taken (inl refl)
    (All-weaker (IsAbroad k) (OfChain k s f) (λ e kind. inr kind) f.rest f.kinds)

-- ---- it comes

link_first : (k : Course) (s : SystemView) (left : List Envelope) → (f : Chained k s) → Taken f.message s.messages left
    → Advanced k s (arrived f.message.to f.message.message (without s left))
link_first k s left f taken =
    subst (λ (l : List Envelope). Advanced k s (arrived f.message.to f.message.message (without s l)))
    (sym (one_first f.message f.message s.messages left f.rest (pair_itself f.message) taken f.taken).1)
    (by f.message f.link)
  where
    by : (e : Envelope) → IsLink k (node_at s k.call.node).controller e → Advanced k s (arrived e.to e.message (without s f.rest))
    by _ (stop forbidden) = stop_comes k s f.rest f.going f.waiting f.kinds forbidden
    by _ (stopped forbidden) = stopped_comes k s f.rest f.going f.waiting f.kinds forbidden
    by _ (start allowed what is) = start_comes k s f.rest what f.going f.waiting f.kinds allowed is
    by _ (report allowed error asked) = report_comes k s f.rest error f.going f.waiting f.kinds allowed asked
    by _ (run allowed error) = run_comes k s f.rest error f.going f.waiting f.kinds allowed

chain_comes : (k : Course) (s : SystemView) (e : Envelope) (left : List Envelope) → (f : Chained k s) → OfChain k s f e
    → Taken e s.messages left → Advanced k s (arrived e.to e.message (without s left))
chain_comes k s e left f (inl same) taken =
    subst (λ (x : Envelope). Taken x s.messages left → Advanced k s (arrived x.to x.message (without s left))) (sym same)
    (link_first k s left f) taken
chain_comes k s e left f (inr kind) taken = abroad_first k s e left f kind taken

moving_goes_on : (k : Course) (s t : SystemView) → Moving k s → (s.messages ≡ [] → ⊥) → Delivers s t → Moving k t
moving_goes_on k s t (chained f) some one =
    let come : Come s t = message_comes s t some one in
    let kind : OfChain k s f come.message =
    (taken_all (OfChain k s f) come.message s.messages come.left come.taken (of_chain k s f)).0 in
    subst (Moving k) (sym come.is) (chain_comes k s come.message come.left f kind come.taken).moving
moving_goes_on k s t (at_end f) some one = at_end (over_goes_on k s t f some one)

-- ---- any two meet

no_call : (k : Course) (s : SystemView) (e : Envelope) → (f : Chained k s) → OfChain k s f e → is_call e.to.role ≡ false
no_call k s e f (inl same) =
    ap (λ (x : Envelope). is_call x.to.role) same ∙ link_no_call k (node_at s k.call.node).controller f.message f.link
no_call k s e f (inr kind) = abroad_no_call k e kind

two_nodes : (k : Course) (s : SystemView) (e g : Envelope) → (f : Chained k s) → e ≡ f.message → IsAbroad k g
    → e.to.node.0 ≢ g.to.node.0
two_nodes k s e g f same kind one =
    abroad_other k g kind (sym one ∙ ap (λ (x : Envelope). x.to.node.0) same
    ∙ ap (λ (n : Node). n.0) (link_home k (node_at s k.call.node).controller f.message f.link))

chain_meet : (k : Course) (s : SystemView) (e g : Envelope) (left_e left_g : List Envelope) → (f : Chained k s) → OfChain k s f e
    → OfChain k s f g → Taken e s.messages left_e → Taken g s.messages left_g → e.to.node.0 ≢ g.to.node.0
    → Meet (arrived e.to e.message (without s left_e)) (arrived g.to g.message (without s left_g))
chain_meet k s e g left_e left_g f kind_e kind_g taken_e taken_g apart =
    apart_meet s _ _ e g (taken_arrives s e left_e taken_e) (taken_arrives s g left_g taken_g)
    (chain_comes k s e left_e f kind_e taken_e).leaves (chain_comes k s g left_g f kind_g taken_g).leaves
    (at_home_still s e (no_call k s e f kind_e)) (at_home_still s g (no_call k s g f kind_g))
    (ap (λ (b : Bool). b && is_call g.to.role) (no_call k s e f kind_e)) apart

chain_both : (k : Course) (s : SystemView) (e g : Envelope) (left_e left_g : List Envelope) → (f : Chained k s) → OfChain k s f e
    → OfChain k s f g → Taken e s.messages left_e → Taken g s.messages left_g → is_of_pair e g ≡ false
    → Meet (arrived e.to e.message (without s left_e)) (arrived g.to g.message (without s left_g))
chain_both k s e g left_e left_g f (inl same) (inl same') taken_e taken_g apart = not_apart _ e g (same ∙ sym same') apart
chain_both k s e g left_e left_g f (inl same) (inr kind) taken_e taken_g apart =
    chain_meet k s e g left_e left_g f (inl same) (inr kind) taken_e taken_g (two_nodes k s e g f same kind)
chain_both k s e g left_e left_g f (inr kind) (inl same) taken_e taken_g apart =
    chain_meet k s e g left_e left_g f (inr kind) (inl same) taken_e taken_g (λ one. two_nodes k s g e f same kind (sym one))
chain_both k s e g left_e left_g f (inr kind) (inr kind') taken_e taken_g apart =
    abroad_both_meet k s e g left_e left_g f.going kind kind' taken_e taken_g apart

moving_meets : (k : Course) (s t u : SystemView) → Moving k s → (s.messages ≡ [] → ⊥) → Delivers s t → Delivers s u → Meet t u
moving_meets k s t u (chained f) some to_t to_u =
    kinds_meet (OfChain k s f) s t u (of_chain k s f) some
    (λ e g left_e left_g kind_e kind_g taken_e taken_g apart.
    chain_both k s e g left_e left_g f kind_e kind_g taken_e taken_g apart) to_t to_u
moving_meets k s t u (at_end f) some to_t to_u = over_meets k s t u f some to_t to_u

-- ---- every order

moving_quiet : (k : Course) (s : SystemView) → Moving k s → s.messages ≡ [] → IsOrderly s
moving_quiet k s (chained f) none = absurd (subst (λ (l : List Envelope). Taken f.message l f.rest) none f.taken)
moving_quiet k s (at_end f) none = none_orderly k s f.going.still none

pub moving_orderly : (k : Course) (s : SystemView) → Moving k s → IsOrderly s
moving_orderly k s f = by_messages (Moving k) (moving_quiet k) (moving_goes_on k) (moving_meets k) s f
