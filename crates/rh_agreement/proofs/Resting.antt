-- Where no message is on its way, and no lock, no call and no node goes on, nothing moves.
use Rattle.std.proofs.Common.{◌≡◌, ℕ, suc, Bool, true, false, cond, List, [], ◌∷◌, find, Option, Some, None, refl, ap, ◌∙◌}
use Rattle.std.specs.Option.{option_map}
use Rattle.rh_model.specs.declared.node.Node.{Node}
use Rattle.rh_otp_model.specs.declared.output.Envelope.{Envelope}
use Rattle.rh_otp_net.specs.declared.order.Order.{Order}
use Rattle.rh_otp_net.specs.Order.{next_order}
use Rattle.rh_otp_system.specs.declared.calls.Call.{Call}
use Rattle.rh_otp_system.specs.declared.moves.Move.TheVariants as move
use Rattle.rh_otp_system.specs.declared.slow.Slow.{Slow}
use Rattle.rh_otp_system.specs.Moves.{IsAmong, can_go_on_at, is_to_end, first_call_from, next_node, next_end, call_or_end, lock_or_more, quiet_move, slow_or_more, message_or_more, next_move, moved_by, moved, is_quiet_by, is_quiet_behind}
use Rattle.rh_otp_system.specs.State.{SystemView}

pub none_found : (p : Node → Bool) (nodes : List Node) → ((n : Node) → IsAmong n nodes → p n ≡ false) → find p nodes ≡ None
none_found p [] none = refl
none_found p (n ∷ nodes) none =
    ap (λ (b : Bool). cond b (Some n) (find p nodes)) (none n (0, refl))
    ∙ none_found p nodes (λ m among. none m (suc among.0, among.1))

pub none_goes_on : (s : SystemView) → s.calls ≡ [] → ((n : Node) → IsAmong n s.alive → can_go_on_at n s ≡ false)
    → ((n : Node) → IsAmong n s.alive → is_to_end n s ≡ false) → quiet_move s ≡ None
none_goes_on s calls locks ends =
    let node : next_node s ≡ None = none_found (λ n. can_go_on_at n s) s.alive locks in
    let end : next_end s ≡ None = none_found (λ n. is_to_end n s) s.alive ends in
    ap (λ (n : Option Node). lock_or_more n s) node
    ∙ ap (λ (waiting : List Call). call_or_end (first_call_from 0 waiting s) s) calls
    ∙ ap (option_map move.End) end

pub none_moves : (o : Order) (s : SystemView) → s.messages ≡ [] → s.slow ≡ [] → quiet_move s ≡ None → next_move o s ≡ None
none_moves o s messages slow none =
    ap (λ (ms : List Envelope). message_or_more o ms s) messages ∙ ap (λ (what : List Slow). slow_or_more o what s) slow ∙ none

pub moved_not : (k : ℕ) (o : Order) (s : SystemView) → next_move o s ≡ None → moved (suc k) o s ≡ s
moved_not k o s none = ap (λ next. moved_by (moved k (next_order o)) next s) none

pub quiet_so : (k : ℕ) (o : Order) (s : SystemView) → next_move o s ≡ None → is_quiet_behind (suc k) o s ≡ true
quiet_so k o s none = ap (λ next. is_quiet_by (is_quiet_behind k (next_order o)) next s) none
