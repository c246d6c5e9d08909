-- Where a local application can start.
use Rattle.std.proofs.Common.{◌≡◌, ◌<◌, ◌≤◌, ◌+◌, ◌-◌, ℕ, Bool, true, false, cond, ◌&&◌, ◌||◌, List, [], ◌∷◌, refl, sym, ap, ◌∙◌, arith, is_some, Option, None, Some, slice_get, unwrap_or}
use Rattle.std.specs.List.{list_any}
use Rattle.std.proofs.lemmas.List.Folds.{list_any_at}
use Rattle.std.proofs.lemmas.Option.{slice_get_within, get_or_from_slice_get}
use Rattle.rh_model.specs.declared.node.Node.{Node}
use Rattle.rh_model.specs.declared.node.App.{App}
use Rattle.rh_model.specs.ClusterView.{app_numbered}
use Rattle.rh_state.specs.Numbers.{same_app}
use Rattle.rh_state.specs.Lists.{has_app}
use Rattle.rh_state.specs.Shape.{IsShaped, IsAppOf}
use Rattle.rh_state.specs.StateView.{StateView, waiting_at, waits_at, runs_at, is_allowed, standing_of}
use Rattle.rh_base.specs.Lists.{or_else, first_given, head}
use Rattle.rh_base.proofs.Lists.{cases}
use Rattle.rh_rules.specs.Placing.{deps_run}
use Rattle.rh_rules.specs.Course.{is_local}
use Rattle.rh_rules.specs.declared.notice.Move.TheVariants.{Local}
use Rattle.rh_rules.specs.declared.notice.Pair.{Pair}
use Rattle.rh_rules.specs.Moves.{can_start, local_move, local_moves, placements, takeovers}
use Rattle.rh_state.specs.Numbers.{nodes_of, apps_of}
use Rattle.rh_place.specs.Sets.{has}
use Rattle.rh_rules.specs.declared.pick.Pick.{Pick}
use Rattle.rh_rules.specs.Placing.{picked}
use Rattle.rh_rules.specs.Settling.{next_moves}
use Rattle.rh_settle.specs.Calls.{can_call}
use Rattle.rh_model.specs.Marks.{AppMarks, is_marked}
use Rattle.rh_state.specs.declared.status.Standing.{Standing}
use Rattle.rh_state.specs.declared.status.Standing.TheVariants.{Quiet}
use Rattle.rh_settle.specs.Boards.{is_wanted, ReadyView, AreLocals, IsReadyOf}
use Rattle.rh_settle.proofs.Boards.{given_nowhere, no_head, unwanted_stays}
use Rattle.rh_settle.proofs.Callers.{uncalled_stays}
use Rattle.rh_base.proofs.Truths.{both, same_number, same_refl, or_left, or_right}
use Rattle.rh_trace.proofs.Entries.{is_false}
use Rattle.rh_trace.proofs.Shapes.{started_within}
use Rattle.rh_settle.proofs.Searches.{up_to, either_none, none_of_none, none_behind}

-- an application that can start gives its move, and another gives none
pub move_of : (s : StateView) (n : Node) (a : App) → can_start s n a ≡ true → local_move s n a ≡ Local n a ∷ []
move_of s n a h = ap (λ b. cond b (Local n a ∷ []) []) h

pub no_move_of : (s : StateView) (n : Node) (a : App) → can_start s n a ≡ false → local_move s n a ≡ []
no_move_of s n a h = ap (λ b. cond b (Local n a ∷ []) []) h

-- where an application of a list can start, a move is given
one_of : (s : StateView) (n : Node) (a : App) (apps : List App) → has_app apps a ≡ true → can_start s n a ≡ true
    → is_some (head (first_given (local_move s n) apps)) ≡ true
one_of s n a [] here start = both false here refl
one_of s n a (b ∷ apps) here start = cases (can_start s n b)
    (λ t. ap (λ p. is_some (head (or_else (cond p (Local n b ∷ []) []) (first_given (local_move s n) apps)))) t)
    (λ f. ap (λ p. is_some (head (or_else (cond p (Local n b ∷ []) []) (first_given (local_move s n) apps)))) f
    ∙ one_of s n a apps (later (same_app a b) (has_app apps a)
    (is_false (same_app a b) (λ e. both (can_start s n b) (ap (λ i. can_start s n (app_numbered i)) (sym (same_number a.0 b.0 e)) ∙ start) f)) here) start)
  where
    later : (p q : Bool) → p ≡ false → p || q ≡ true → q ≡ true
    later true q f h = both true refl f
    later false q f h = h

-- where none of a list can, none is given
none_of : (s : StateView) (n : Node) (apps : List App) → ((a : App) → has_app apps a ≡ true → can_start s n a ≡ false)
    → is_some (head (first_given (local_move s n) apps)) ≡ false
none_of s n [] none = refl
none_of s n (b ∷ apps) none =
    ap (λ p. is_some (head (or_else (cond p (Local n b ∷ []) []) (first_given (local_move s n) apps)))) (none b (or_left (same_app b b) (has_app apps b) (same_refl b.0)))
    ∙ none_of s n apps (λ a here. none a (or_right (same_app a b) (has_app apps a) here))

pub each_of : (p q : Bool) → p && q ≡ true → (p ≡ true) × (q ≡ true)
each_of true q h = (refl, h)
each_of false q h = both false h refl

-- where one waits at a node and can start there, there is a local move
pub one_starts : (s : StateView) (n : Node) (a : App) → waits_at s n a && can_start s n a ≡ true → is_some (head (local_moves s n)) ≡ true
unfolding local_moves
one_starts s n a h = let t = each_of (waits_at s n a) (can_start s n a) h in one_of s n a (waiting_at s n) t.0 t.1

-- one that isn't local can't start
pub no_start : (s : StateView) (n : Node) (a : App) → is_local s.cluster a ≡ false → can_start s n a ≡ false
unfolding can_start
no_start s n a f = ap (λ p. p && (is_allowed s n a && deps_run s n a)) f

-- where none of the marked ones does, there is none
pub none_starts : (s : StateView) (n : Node) (marks : AppMarks) → IsShaped s → AreLocals s.cluster marks
    → ((a : App) → IsAppOf s.cluster a → is_marked marks a ≡ true → waits_at s n a && can_start s n a ≡ false) → is_some (head (local_moves s n)) ≡ false
unfolding local_moves
none_starts s n marks shape are none = none_of s n (waiting_at s n)
    (λ a here. let of = started_within s n a shape (or_right (runs_at s n a) (waits_at s n a) here) in
    cases (is_local s.cluster a)
    (λ y. ap (λ p. p && can_start s n a) (sym here) ∙ none a of (are a of ∙ y))
    (λ f. no_start s n a f))

pub none_local : (s : StateView) (n : Node) → IsShaped s → ((a : App) → IsAppOf s.cluster a → is_local s.cluster a ≡ false) → is_some (head (local_moves s n)) ≡ false
unfolding local_moves
none_local s n shape none = none_of s n (waiting_at s n)
    (λ a here. no_start s n a (none a (started_within s n a shape (or_right (runs_at s n a) (waits_at s n a) here))))

-- ---- marks that move up
-- the applications from a number on have their marks, which are still to move up by so many; so they do after one step
pub pushed : (p : App → Bool) (old new : AppMarks) (count i : ℕ) → 0 < i → i ≤ count → count ≤ (i - 1) + 64
    → ((a : App) → a.0 ≡ 0 → is_marked new a ≡ p (app_numbered (i - 1)))
    → ((a b : App) → b.0 ≡ a.0 + 1 → b.0 < 64 → is_marked new b ≡ is_marked old a)
    → ((a b : App) → a.0 < count → a.0 ≡ b.0 + i → is_marked old b ≡ p a)
    → (a b : App) → a.0 < count → a.0 ≡ b.0 + (i - 1) → is_marked new b ≡ p a
pushed p old new count i some few limit first others so_far a b of at = up_to b.0 0
    (λ later. others (app_numbered (b.0 - 1)) b (back b.0 later) (low a.0 b.0 of at) ∙ so_far a (app_numbered (b.0 - 1)) of (there a.0 b.0 later at))
    (λ zeroth. first b (none b.0 zeroth) ∙ ap (λ j. p (app_numbered j)) (here a.0 b.0 zeroth at))
  where
    back : (j : ℕ) → 0 < j → j ≡ (j - 1) + 1
    back j later = omega (arith, later)

    low : (k j : ℕ) → k < count → k ≡ j + (i - 1) → j < 64
    low k j of at = omega (arith, of, at, limit)

    there : (k j : ℕ) → 0 < j → k ≡ j + (i - 1) → k ≡ (j - 1) + i
    there k j later at = omega (arith, later, at, some)

    none : (j : ℕ) → j ≤ 0 → j ≡ 0
    none j le = omega (arith, le)

    here : (k j : ℕ) → j ≤ 0 → k ≡ j + (i - 1) → i - 1 ≡ k
    here k j le at = omega (arith, le, at)

-- ---- where nothing moves of itself
-- no local application starts, none is to run, and no fresh pair can call one away
pub nothing_moves : (s : StateView) (fresh : List Pair) (r : ReadyView) (pick : Pick) → IsShaped s → IsReadyOf s r
    → ((n : Node) → has r.starts n ≡ false) → ((a : App) → is_marked r.wanted a ≡ false) → list_any (can_call s) fresh ≡ false
    → None ≡ picked pick (next_moves s fresh)
unfolding next_moves
nothing_moves s fresh r pick shape ready starts wanted none =
    either_none pick (first_given (local_moves s) (nodes_of s.cluster)) _ None
    (none_of_none pick ∙ ap (picked pick) (sym (given_nowhere s.cluster (local_moves s) (λ n. no_head (local_moves s n) (sym (ready.starts n) ∙ starts n)))))
    (either_none pick (first_given (placements s) (apps_of s.cluster)) _ None
    (none_behind pick s.cluster (placements s) (λ a of. unwanted_stays s a (sym (ready.wanted a of) ∙ wanted a)))
    (none_behind pick s.cluster (takeovers s fresh) (λ a of. uncalled_stays s fresh a none)))

-- where none of all standings is that of an application which is to run, no application is to run
pub none_wanted : (s : StateView) → list_any is_wanted s.standings ≡ false → (a : App) → is_wanted (standing_of s a) ≡ false
none_wanted s none a = by (slice_get s.standings a.0) refl
  where
    by : (o : Option Standing) → slice_get s.standings a.0 ≡ o → is_wanted (standing_of s a) ≡ false
    by None at = ap (λ (q : Option Standing). is_wanted (unwrap_or q Quiet)) at
    by (Some x) at = ap (λ (q : Option Standing). is_wanted (unwrap_or q Quiet)) at
        ∙ is_false (is_wanted x) (λ t. both (list_any is_wanted s.standings)
        (list_any_at is_wanted s.standings a.0 x (slice_get_within s.standings a.0 x at) (ap is_wanted (get_or_from_slice_get s.standings a.0 x x at) ∙ t)) none)
