-- What `settle` does are moves that the rules allow.
use Rattle.std.proofs.Common.{◌≡◌, ◌+◌, ◌-◌, ◌<◌, ℕ, zero, suc, Bool, true, false, cond, List, [], ◌∷◌, length, find, slice_get, Option, Some, None, refl, sym, ap, subst, ◌∙◌, arith}
use Rattle.std.specs.Option.{option_map}
use Rattle.std.proofs.lemmas.Bool.{false≢true}
use Rattle.std.proofs.lemmas.Option.{none-some, same_Some}
use Rattle.rh_model.specs.declared.node.Node.{Node}
use Rattle.rh_otp_model.specs.declared.output.Envelope.{Envelope}
use Rattle.rh_otp_net.specs.declared.order.Order.{Order}
use Rattle.rh_otp_net.specs.declared.order.Order.TheVariants.{FirstComes, LastComes, Drawn}
use Rattle.rh_otp_net.specs.Order.{drawn, place_in, next_order}
use Rattle.rh_otp_system.specs.declared.calls.Call.{Call}
use Rattle.rh_otp_system.specs.declared.moves.Move.{Move}
use Rattle.rh_otp_system.specs.declared.moves.Move.TheVariants as move
use Rattle.rh_otp_system.specs.declared.slow.Slow.{Slow}
use Rattle.rh_otp_system.specs.State.{SystemView}
use Rattle.rh_otp_system.specs.Moves.{can_go_on_at, can_call, is_to_end, first_call_from, first_call, next_node, next_end, call_or_end, lock_or_more, quiet_move, slow_or_more, message_or_more, next_move, made, moved_by, moved, is_quiet_by, is_quiet_behind, IsQuiet, IsAmong, IsCallable, IsPossible, Reaches, here, behind_one, IsSettled}
use Rattle.rh_otp_system.specs.Laws.{SettlesByMoves}

-- ---- the first that does

-- the first node for which a test holds is one of them
found_by : (p : Node → Bool) (m : Node) (nodes : List Node) (n : Node) (b : Bool) → p m ≡ b → cond b (Some m) (find p nodes) ≡ Some n
    → (find p nodes ≡ Some n → IsAmong n nodes × (p n ≡ true)) → IsAmong n (m ∷ nodes) × (p n ≡ true)
found_by p m nodes n true is found rest = ((0, found), ap p (sym (same_Some m n found)) ∙ is)
found_by p m nodes n false is found rest =
    let more : IsAmong n nodes × (p n ≡ true) = rest found in
    ((suc more.0.0, more.0.1), more.1)

found_among : (p : Node → Bool) (nodes : List Node) (n : Node) → find p nodes ≡ Some n → IsAmong n nodes × (p n ≡ true)
found_among p [] n found = absurd (none-some n found)
found_among p (m ∷ nodes) n found = found_by p m nodes n (p m) refl found (found_among p nodes n)

-- where none is found it holds for none of them
none_behind : {A : Type 0} (b : Bool) (x : A) (rest : Option A) → cond b (Some x) rest ≡ None → rest ≡ None
none_behind true x rest none = absurd (none-some x (sym none))
none_behind false x rest none = none

none_here : {A : Type 0} (b : Bool) (x : A) (rest : Option A) → cond b (Some x) rest ≡ None → b ≡ true → ⊥
none_here true x rest none is = none-some x (sym none)
none_here false x rest none is = false≢true is

none_among : (p : Node → Bool) (nodes : List Node) (n : Node) (place : ℕ) → find p nodes ≡ None → slice_get nodes place ≡ Some n → p n ≡ true → ⊥
none_among p [] n place none at is = none-some n at
none_among p (m ∷ nodes) n zero none at is = none_here (p m) m (find p nodes) none (ap p (same_Some m n at) ∙ is)
none_among p (m ∷ nodes) n (suc place) none at is = none_among p nodes n place (none_behind (p m) m (find p nodes) none) at is

-- the first call that can
abbrev IsFound : ℕ → List Call → ℕ → SystemView → Type 0
IsFound from calls place s = (k : ℕ) × (from + k ≡ place) × IsCallable (slice_get calls k) s

call_by : (s : SystemView) (call : Call) (calls : List Call) (from place : ℕ) (b : Bool) → can_call call s ≡ b
    → cond b (Some from) (first_call_from (suc from) calls s) ≡ Some place
    → (first_call_from (suc from) calls s ≡ Some place → IsFound (suc from) calls place s) → IsFound from (call ∷ calls) place s
call_by s call calls from place true is found rest =
    let same : from ≡ place = same_Some from place found in
    let at : from + 0 ≡ place = omega arith in
    (0, at, (call, refl, is))
call_by s call calls from place false is found rest =
    let more : IsFound (suc from) calls place s = rest found in
    let at : from + suc more.0 ≡ place = omega (arith, more.1) in
    (suc more.0, at, more.2)

call_among : (s : SystemView) (calls : List Call) (from place : ℕ) → first_call_from from calls s ≡ Some place → IsFound from calls place s
call_among s [] from place found = absurd (none-some place found)
call_among s (call ∷ calls) from place found = call_by s call calls from place (can_call call s) refl found (call_among s calls (suc from) place)

no_call : (s : SystemView) (calls : List Call) (from place : ℕ) (call : Call) → first_call_from from calls s ≡ None
    → slice_get calls place ≡ Some call → can_call call s ≡ true → ⊥
no_call s [] from place call none at is = none-some call at
no_call s (c ∷ calls) from zero call none at is =
    none_here (can_call c s) from (first_call_from (suc from) calls s) none (ap (λ (d : Call). can_call d s) (same_Some c call at) ∙ is)
no_call s (c ∷ calls) from (suc place) call none at is =
    no_call s calls (suc from) place call (none_behind (can_call c s) from (first_call_from (suc from) calls s) none) at is

-- ---- what moves next is possible

moved_to : (s : SystemView) (m n : Move) → Some m ≡ Some n → IsPossible s m → IsPossible s n
moved_to s m n same possible = subst (IsPossible s) (same_Some m n same) possible

possible_end : (s : SystemView) (found : Option Node) (m : Move) → IsQuiet s → next_end s ≡ found → option_map move.End found ≡ Some m → IsPossible s m
possible_end s None m quiet is next = absurd (none-some m next)
possible_end s (Some n) m quiet is next =
    let at : IsAmong n s.alive × (is_to_end n s ≡ true) = found_among (λ n. is_to_end n s) s.alive n is in
    moved_to s (move.End n) m next (quiet, at.0, at.1)

possible_call : (s : SystemView) (found : Option ℕ) (m : Move) → IsQuiet s → first_call s ≡ found → call_or_end found s ≡ Some m → IsPossible s m
possible_call s None m quiet is next = possible_end s (next_end s) m quiet refl next
possible_call s (Some place) m quiet is next =
    let at : IsFound 0 s.calls place s = call_among s s.calls 0 place is in
    let same : at.0 ≡ place = omega (arith, at.1) in
    moved_to s (move.Call place) m next (quiet, subst (λ (k : ℕ). IsCallable (slice_get s.calls k) s) same at.2)

possible_lock : (s : SystemView) (found : Option Node) (m : Move) → IsQuiet s → next_node s ≡ found → lock_or_more found s ≡ Some m → IsPossible s m
possible_lock s None m quiet is next = possible_call s (first_call s) m quiet refl next
possible_lock s (Some n) m quiet is next =
    let at : IsAmong n s.alive × (can_go_on_at n s ≡ true) = found_among (λ n. can_go_on_at n s) s.alive n is in
    moved_to s (move.Lock n) m next (quiet, at.0, at.1)

-- the place that an order takes is one of these
place_within : (order : Order) (count : ℕ) → 0 < count → place_in order count < count
place_within FirstComes count some = some
place_within LastComes count some = omega arith
place_within (Drawn number) count some = omega (arith, some)

possible_slow : (o : Order) (s : SystemView) (slow : List Slow) (m : Move) → s.messages ≡ [] → s.slow ≡ slow → slow_or_more o slow s ≡ Some m
    → IsPossible s m
possible_slow o s [] m none is next = possible_lock s (next_node s) m (none, is) refl next
possible_slow o s (what ∷ slow) m none is next =
    let some : 0 < length (what ∷ slow) = omega arith in
    let within : place_in o (length (what ∷ slow)) < length s.slow =
    subst (λ (l : List Slow). place_in o (length (what ∷ slow)) < length l) (sym is) (place_within o (length (what ∷ slow)) some) in
    moved_to s (move.Slow (place_in o (length (what ∷ slow)))) m next (none, within)

possible_by : (o : Order) (s : SystemView) (messages : List Envelope) (m : Move) → s.messages ≡ messages → message_or_more o messages s ≡ Some m
    → IsPossible s m
possible_by o s [] m is next = possible_slow o s s.slow m is refl next
possible_by o s (e ∷ messages) m is next =
    let some : 0 < length (e ∷ messages) = omega arith in
    let within : place_in o (length (e ∷ messages)) < length s.messages =
    subst (λ (l : List Envelope). place_in o (length (e ∷ messages)) < length l) (sym is) (place_within o (length (e ∷ messages)) some) in
    moved_to s (move.Deliver (place_in o (length (e ∷ messages)))) m next within

possible : (o : Order) (s : SystemView) (m : Move) → next_move o s ≡ Some m → IsPossible s m
possible o s m next = possible_by o s s.messages m refl next

-- ---- where nothing moves next nothing is possible

no_end : (s : SystemView) (found : Option Node) → option_map move.End found ≡ None → found ≡ None
no_end s None none = refl
no_end s (Some n) none = absurd (none-some (move.End n) (sym none))

no_call_or_end : (s : SystemView) (found : Option ℕ) → call_or_end found s ≡ None → (found ≡ None) × (next_end s ≡ None)
no_call_or_end s None none = (refl, no_end s (next_end s) none)
no_call_or_end s (Some place) none = absurd (none-some (move.Call place) (sym none))

no_lock : (s : SystemView) (found : Option Node) → lock_or_more found s ≡ None
    → (found ≡ None) × (first_call s ≡ None) × (next_end s ≡ None)
no_lock s None none =
    let more : (first_call s ≡ None) × (next_end s ≡ None) = no_call_or_end s (first_call s) none in
    (refl, more.0, more.1)
no_lock s (Some n) none = absurd (none-some (move.Lock n) (sym none))

no_slow : (o : Order) (s : SystemView) (slow : List Slow) → slow_or_more o slow s ≡ None → (slow ≡ []) × (quiet_move s ≡ None)
no_slow o s [] none = (refl, none)
no_slow o s (what ∷ slow) none = absurd (none-some (move.Slow (place_in o (length (what ∷ slow)))) (sym none))

no_message : (o : Order) (s : SystemView) (messages : List Envelope) → message_or_more o messages s ≡ None
    → (messages ≡ []) × (slow_or_more o s.slow s ≡ None)
no_message o s [] none = (refl, none)
no_message o s (e ∷ messages) none = absurd (none-some (move.Deliver (place_in o (length (e ∷ messages)))) (sym none))

none_within : {A : Type 0} (place : ℕ) (xs : List A) → xs ≡ [] → place < length xs → ⊥
none_within place xs none within = absurd (omega (arith, ap length none))

settled_by : (s : SystemView) → s.messages ≡ [] → s.slow ≡ []
    → (next_node s ≡ None) × (first_call s ≡ None) × (next_end s ≡ None) → IsSettled s
settled_by s a b c (move.Deliver place) possible = none_within place s.messages a possible
settled_by s a b c (move.Slow place) possible = none_within place s.slow b possible.1
settled_by s a b c (move.Lock n) possible = none_among (λ n. can_go_on_at n s) s.alive n possible.1.0 c.0 possible.1.1 possible.2
settled_by s a b c (move.Call place) possible = no_call s s.calls 0 place possible.1.0 c.1 possible.1.1 possible.1.2
settled_by s a b c (move.End n) possible = none_among (λ n. is_to_end n s) s.alive n possible.1.0 c.2 possible.1.1 possible.2

nothing_moves : (o : Order) (s : SystemView) → next_move o s ≡ None → IsSettled s
nothing_moves o s none =
    let a : (s.messages ≡ []) × (slow_or_more o s.slow s ≡ None) = no_message o s s.messages none in
    let b : (s.slow ≡ []) × (quiet_move s ≡ None) = no_slow o s s.slow a.1 in
    settled_by s a.0 b.0 (no_lock s (next_node s) b.1)

-- ---- move by move

reaches_by : (most : ℕ) (o : Order) (s : SystemView) (next : Option Move) → next_move o s ≡ next
    → ((t : SystemView) → Reaches t (moved most (next_order o) t)) → Reaches s (moved_by (moved most (next_order o)) next s)
reaches_by most o s None is more = here s
reaches_by most o s (Some m) is more =
    behind_one s (made m s) (moved most (next_order o) (made m s)) (m, possible o s m is, refl) (more (made m s))

reaches : (most : ℕ) (o : Order) (s : SystemView) → Reaches s (moved most o s)
reaches zero o s = here s
reaches (suc most) o s = reaches_by most o s (next_move o s) refl (reaches most (next_order o))

quiet_by : (most : ℕ) (o : Order) (s : SystemView) (next : Option Move) → next_move o s ≡ next
    → ((t : SystemView) → is_quiet_behind most (next_order o) t ≡ true → IsSettled (moved most (next_order o) t))
    → is_quiet_by (is_quiet_behind most (next_order o)) next s ≡ true → IsSettled (moved_by (moved most (next_order o)) next s)
quiet_by most o s None is more quiet = nothing_moves o s is
quiet_by most o s (Some m) is more quiet = more (made m s) quiet

is_settled : (most : ℕ) (o : Order) (s : SystemView) → is_quiet_behind most o s ≡ true → IsSettled (moved most o s)
is_settled zero o s quiet = absurd (false≢true quiet)
is_settled (suc most) o s quiet = quiet_by most o s (next_move o s) refl (is_settled most (next_order o)) quiet

pub settles : SettlesByMoves
settles most o s = (reaches most o (record s { answers = [] }), is_settled most o (record s { answers = [] }))
