-- Whatever comes of the one of two systems that are alike, something alike comes of the other.
use Rattle.std.proofs.Common.{refl, sym, subst, ◌∙◌}
use Rattle.rh_otp_model.specs.declared.output.Envelope.{Envelope}
use Rattle.rh_otp_system.specs.declared.moves.Move.TheVariants as move
use Rattle.rh_otp_system.specs.Moves.{made, IsAmong, Delivers, Reaches, here, behind_one, IsSettled}
use Rattle.rh_otp_system.specs.State.{SystemView, is_alive_at}
use Rattle.rh_otp_laws.specs.Acting.{Acts, moves, acts, later, IsReached}
use Rattle.rh_otp_orders.specs.Orders.{Arrives, AreAlike, AlikeReachAlike, WhicheverComesFirst}
use Rattle.rh_otp_orders.proofs.Commuting.{messages_commute}
use Rattle.rh_otp_orders.proofs.Moving.{within, IsAliveListed, same_read, go_alike, reached_order, move_alike}

pub alike_back : (s t : SystemView) → AreAlike s t → AreAlike t s
alike_back s t g = record {
  cluster = sym g.cluster;
  files = sym g.files;
  nodes = sym g.nodes;
  clock = sym g.clock;
  step = sym g.step;
  last_call = sym g.last_call;
  alive = sym g.alive;
  links = sym g.links;
  locks = sym g.locks;
  calls = sym g.calls;
  asleep = sym g.asleep;
  told = sym g.told;
  answers = λ pair. sym (g.answers pair);
  is_ticking = sym g.is_ticking;
  ends_soon = sym g.ends_soon;
  messages = λ pair. sym (g.messages pair);
  timers = λ o. sym (g.timers o);
  slow = λ o. sym (g.slow o);
  events = λ o. sym (g.events o);
}

pub order_too : (s t : SystemView) → AreAlike s t → IsAliveListed s → IsAliveListed t
order_too s t g order n among = sym (same_read (λ (u : SystemView). is_alive_at u n) s t g) ∙ order n
    (subst (IsAmong n) (sym g.alive) among)

pub settled_too : (s t : SystemView) → AreAlike s t → IsAliveListed s → IsSettled s → IsSettled t
settled_too s t g order settled next possible =
    let on : (u : SystemView) × Delivers s u × AreAlike (made next t) u =
    go_alike t s (made next t) (alike_back s t g) (order_too s t g order) (next, possible, refl) in
    settled on.1.0 on.1.1

pub reach_alike : AlikeReachAlike
reach_alike _ s' _ g reached (here s) = (s', here s', g, settled_too s s' g (reached_order s reached))
reach_alike _ s' _ g reached (behind_one s u t first rest) =
    let one : (u' : SystemView) × Delivers s' u' × AreAlike u u' = move_alike s s' u g reached first in
    let later_so : IsReached u = later s u reached (acts s u (subst (Acts s) (sym first.2) (moves s first.0 first.1))) in
    let more : (t' : SystemView) × Reaches one.0 t' × AreAlike t t' ×
    (IsSettled t → IsSettled t') = reach_alike u one.0 t one.2 later_so rest in
    (more.0, behind_one s' one.0 more.0 one.1 more.1, more.2, more.3)

-- what a message leads to is reached
arrived_reached : (s t : SystemView) (e : Envelope) → IsReached s → Arrives e s t → IsReached t
arrived_reached s t e reached (place, is, made_so) =
    later s t reached (acts s t (subst (Acts s) (sym made_so) (moves s (move.Deliver place) (within s place e is))))

pub whichever_first : WhicheverComesFirst
whichever_first s t u e f reached is =
    let both : (v : SystemView) × (w : SystemView) × Arrives f t v × Arrives e u w × AreAlike v w = messages_commute s t u e f is in
    let so : IsReached both.0 = arrived_reached t both.0 f (arrived_reached s t e reached is.one) both.2 in
    (both.0, both.1, both.2, both.3, λ x comes. reach_alike both.0 both.1 x both.4 so comes)
