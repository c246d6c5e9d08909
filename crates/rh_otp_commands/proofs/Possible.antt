-- What moves next in an order is possible.
use Rattle.std.proofs.Common.{◌≡◌, ◌+◌, ◌<◌, ℕ, suc, Bool, true, false, cond, List, [], ◌∷◌, length, find, slice_get, Option, Some, None, refl, sym, ap, subst, ◌∙◌, arith}
use Rattle.std.specs.Option.{option_map}
use Rattle.std.proofs.lemmas.Option.{none-some, same_Some}
use Rattle.rh_model.specs.declared.node.Node.{Node}
use Rattle.rh_otp_model.specs.declared.output.Envelope.{Envelope}
use Rattle.rh_otp_net.specs.declared.order.Order.{Order}
use Rattle.rh_otp_net.specs.declared.order.Order.TheVariants.{FirstComes, LastComes, Drawn}
use Rattle.rh_otp_net.specs.Order.{place_in}
use Rattle.rh_otp_system.specs.declared.calls.Call.{Call}
use Rattle.rh_otp_system.specs.declared.moves.Move.{Move}
use Rattle.rh_otp_system.specs.declared.moves.Move.TheVariants as move
use Rattle.rh_otp_system.specs.declared.slow.Slow.{Slow}
use Rattle.rh_otp_system.specs.State.{SystemView}
use Rattle.rh_otp_system.specs.Moves.{can_go_on_at, can_call, is_to_end, first_call_from, first_call, next_node, next_end, call_or_end, lock_or_more, slow_or_more, message_or_more, next_move, IsQuiet, IsAmong, IsCallable, IsPossible}

-- the first node for which a test holds is one of them
found_by : (p : Node → Bool) (m : Node) (nodes : List Node) (n : Node) (b : Bool) → p m ≡ b → cond b (Some m) (find p nodes) ≡ Some n
    → (find p nodes ≡ Some n → IsAmong n nodes × (p n ≡ true)) → IsAmong n (m ∷ nodes) × (p n ≡ true)
found_by p m nodes n true is found rest = ((0, found), ap p (sym (same_Some m n found)) ∙ is)
found_by p m nodes n false is found rest =
    let more : IsAmong n nodes × (p n ≡ true) = rest found in
    ((suc more.0.0, more.0.1), more.1)

found_among : (p : Node → Bool) (nodes : List Node) (n : Node) → find p nodes ≡ Some n → IsAmong n nodes × (p n ≡ true)
found_among p [] n found = absurd (none-some n found)
found_among p (m ∷ nodes) n found = found_by p m nodes n (p m) refl found (found_among p nodes n)

-- the first call that can
abbrev IsFound : ℕ → List Call → ℕ → SystemView → Type 0
IsFound from calls place s = (k : ℕ) × (from + k ≡ place) × IsCallable (slice_get calls k) s

call_by : (s : SystemView) (call : Call) (calls : List Call) (from place : ℕ) (b : Bool) → can_call call s ≡ b
    → cond b (Some from) (first_call_from (suc from) calls s) ≡ Some place
    → (first_call_from (suc from) calls s ≡ Some place → IsFound (suc from) calls place s) → IsFound from (call ∷ calls) place s
call_by s call calls from place true is found rest =
    let same : from ≡ place = same_Some from place found in
    let at : from + 0 ≡ place = omega arith in
    (0, at, (call, refl, is))
call_by s call calls from place false is found rest =
    let more : IsFound (suc from) calls place s = rest found in
    let at : from + suc more.0 ≡ place = omega (arith, more.1) in
    (suc more.0, at, more.2)

call_among : (s : SystemView) (calls : List Call) (from place : ℕ) → first_call_from from calls s ≡ Some place → IsFound from calls place s
call_among s [] from place found = absurd (none-some place found)
call_among s (call ∷ calls) from place found =
    call_by s call calls from place (can_call call s) refl found (call_among s calls (suc from) place)

moved_to : (s : SystemView) (m n : Move) → Some m ≡ Some n → IsPossible s m → IsPossible s n
moved_to s m n same possible = subst (IsPossible s) (same_Some m n same) possible

possible_end : (s : SystemView) (found : Option Node) (m : Move) → IsQuiet s → next_end s ≡ found → option_map move.End found ≡ Some m
    → IsPossible s m
possible_end s None m quiet is next = absurd (none-some m next)
possible_end s (Some n) m quiet is next =
    let at : IsAmong n s.alive × (is_to_end n s ≡ true) = found_among (λ n. is_to_end n s) s.alive n is in
    moved_to s (move.End n) m next (quiet, at.0, at.1)

possible_call : (s : SystemView) (found : Option ℕ) (m : Move) → IsQuiet s → first_call s ≡ found → call_or_end found s ≡ Some m
    → IsPossible s m
possible_call s None m quiet is next = possible_end s (next_end s) m quiet refl next
possible_call s (Some place) m quiet is next =
    let at : IsFound 0 s.calls place s = call_among s s.calls 0 place is in
    let same : at.0 ≡ place = omega (arith, at.1) in
    moved_to s (move.Call place) m next (quiet, subst (λ (k : ℕ). IsCallable (slice_get s.calls k) s) same at.2)

possible_lock : (s : SystemView) (found : Option Node) (m : Move) → IsQuiet s → next_node s ≡ found → lock_or_more found s ≡ Some m
    → IsPossible s m
possible_lock s None m quiet is next = possible_call s (first_call s) m quiet refl next
possible_lock s (Some n) m quiet is next =
    let at : IsAmong n s.alive × (can_go_on_at n s ≡ true) = found_among (λ n. can_go_on_at n s) s.alive n is in
    moved_to s (move.Lock n) m next (quiet, at.0, at.1)

-- the place that an order takes is one of these
place_within : (order : Order) (count : ℕ) → 0 < count → place_in order count < count
place_within FirstComes count some = some
place_within LastComes count some = omega arith
place_within (Drawn number) count some = omega (arith, some)

possible_slow : (o : Order) (s : SystemView) (slow : List Slow) (m : Move) → s.messages ≡ [] → s.slow ≡ slow
    → slow_or_more o slow s ≡ Some m
    → IsPossible s m
possible_slow o s [] m none is next = possible_lock s (next_node s) m (none, is) refl next
possible_slow o s (what ∷ slow) m none is next =
    let some : 0 < length (what ∷ slow) = omega arith in
    let within : place_in o (length (what ∷ slow)) < length s.slow =
    subst (λ (l : List Slow). place_in o (length (what ∷ slow)) < length l) (sym is) (place_within o (length (what ∷ slow)) some) in
    moved_to s (move.Slow (place_in o (length (what ∷ slow)))) m next (none, within)

possible_by : (o : Order) (s : SystemView) (messages : List Envelope) (m : Move) → s.messages ≡ messages
    → message_or_more o messages s ≡ Some m
    → IsPossible s m
possible_by o s [] m is next = possible_slow o s s.slow m is refl next
possible_by o s (e ∷ messages) m is next =
    let some : 0 < length (e ∷ messages) = omega arith in
    let within : place_in o (length (e ∷ messages)) < length s.messages =
    subst (λ (l : List Envelope). place_in o (length (e ∷ messages)) < length l) (sym is) (place_within o (length (e ∷ messages)) some) in
    moved_to s (move.Deliver (place_in o (length (e ∷ messages)))) m next within

pub possible : (o : Order) (s : SystemView) (m : Move) → next_move o s ≡ Some m → IsPossible s m
possible o s m next = possible_by o s s.messages m refl next
