-- What a board says of the next moves, and what a move leaves of it.
use Rattle.std.proofs.Common.{◌≡◌, ◌≢◌, ℕ, ◌<◌, ◌≤◌, zero, suc, Bool, true, false, cond, ◌&&◌, ◌||◌, List, [], ◌∷◌, is_some, refl, sym, ap, ◌∙◌}
use Rattle.std.proofs.Common.{length, get_or, unwrap_or, slice_get, slice_set, arith, nat_lt, subst, map, filter_map}
use Rattle.std.specs.List.{list_all}
use Rattle.std.proofs.lemmas.Option.{slice_get_past}
use Rattle.rh_model.specs.declared.node.Node.{Node}
use Rattle.rh_model.specs.declared.node.App.{App}
use Rattle.rh_model.specs.declared.settings.Dep.{Dep}
use Rattle.rh_model.specs.declared.settings.Dep.TheVariants.{Listed, Platform}
use Rattle.rh_model.specs.ClusterView.{ClusterView, node_count, numbered, app_numbered, deps_of, group_of, is_platform}
use Rattle.rh_model.specs.Needs.{listed, needed_apps}
use Rattle.rh_state.specs.declared.status.Kind.{Kind}
use Rattle.rh_state.specs.declared.status.Standing.{Standing}
use Rattle.rh_state.specs.declared.status.Standing.TheVariants.{Quiet, Wanted, Running, Lost}
use Rattle.rh_state.specs.Numbers.{nodes_of, same_node, same_app}
use Rattle.rh_state.specs.Tables.{row}
use Rattle.rh_state.specs.Lists.{has_app, without_app}
use Rattle.rh_state.specs.Shape.{IsShaped, IsNodeOf, IsAppOf}
use Rattle.rh_state.specs.StateView.{StateView, mode_of, is_up, is_allowed, standing_of}
use Rattle.rh_base.specs.Lists.{or_else, first_given, head}
use Rattle.rh_base.proofs.Lists.{cases}
use Rattle.rh_rules.specs.declared.pick.Pick.TheVariants.{First}
use Rattle.rh_rules.specs.Placing.{dep_runs, deps_run, is_operational, best}
use Rattle.rh_place.specs.Sets.{NodeBits, has}
use Rattle.rh_place.proofs.Picks.{picked_none}
use Rattle.rh_place.proofs.Nowhere.{none_chosen}
use Rattle.rh_rules.specs.declared.notice.Move.{Move}
use Rattle.rh_rules.specs.declared.notice.Move.TheVariants.{Local, Placement, Takeover}
use Rattle.rh_rules.specs.declared.notice.Pair.{Pair}
use Rattle.rh_model.specs.Marks.{AppMarks, is_marked, touches}
use Rattle.rh_settle.specs.Boards.{AppSets, BoardView, is_among, is_wanted, touches_local, matters, is_asked, mover}
use Rattle.rh_settle.specs.Boards.{AreLocals, IsExactAt, IsBoardOf}
use Rattle.rh_rules.specs.Course.{is_fresh, is_local}
use Rattle.rh_rules.specs.Moves.{can_start, local_move, local_moves, comes_before, calls_away, placements, placements_from, takeovers, takeovers_from, moved_state}
use Rattle.rh_base.proofs.Truths.{both, same_number, same_refl, or_left, or_right}
use Rattle.rh_trace.proofs.Entries.{taken, put, has as entry, taken_apart, put_apart, is_below, is_above, is_false, other_number}
use Rattle.rh_trace.proofs.NextMoves.{operational_within}
use Rattle.rh_trace.proofs.Points.{not_before}
use Rattle.rh_trace.proofs.Places.{at_set, at_set_there}
use Rattle.rh_settle.proofs.Unchanged.{cluster_same}
use Rattle.rh_trace.proofs.Numbered.{length_nodes, node_there}
use Rattle.rh_trace.proofs.Shapes.{listed as listed_all}
use Rattle.rh_settle.proofs.Touches.{given_taken, given_put, given_alike, none_touched}

-- ---- the first that gives anything
pub no_head : {A : Type 0} (xs : List A) → is_some (head xs) ≡ false → xs ≡ []
no_head [] h = refl
no_head (x ∷ xs) h = cc

head_first : {A : Type 0} (xs ys : List A) → is_some (head xs) ≡ true → or_else xs ys ≡ xs
head_first [] ys h = cc
head_first (x ∷ xs) ys h = refl

given_at : {A B : Type 0} (f : A → List B) (xs : List A) (i : ℕ) (d : A) → i < length xs → ((j : ℕ) → j < i → f (get_or xs j d) ≡ [])
    → is_some (head (f (get_or xs i d))) ≡ true → first_given f xs ≡ f (get_or xs i d)
given_at f [] i d lt before some = absurd (omega arith)
given_at f (x ∷ xs) zero d lt before some = head_first (f x) (first_given f xs) some
given_at f (x ∷ xs) (suc i) d lt before some =
    ap (λ ys. or_else ys (first_given f xs)) (before 0 (omega arith))
    ∙ given_at f xs i d (omega arith) (λ j less. before (suc j) (omega arith)) some

given_none : {A B : Type 0} (f : A → List B) (xs : List A) → ((x : A) → f x ≡ []) → first_given f xs ≡ []
given_none f [] h = refl
given_none f (x ∷ xs) h = ap (λ ys. or_else ys (first_given f xs)) (h x) ∙ given_none f xs h

pub given_node : {B : Type 0} (c : ClusterView) (f : Node → List B) (n : Node) → n.0 < node_count c → ((k : Node) → k.0 < n.0 → f k ≡ [])
    → is_some (head (f n)) ≡ true → first_given f (nodes_of c) ≡ f n
given_node c f n lt before some =
    let d : Node = numbered 0 in
    let e = length_nodes c in
    let here = node_there c n.0 d lt in
    given_at f (nodes_of c) n.0 d (omega arith)
    (λ j less. ap f (node_there c j d (omega arith)) ∙ before (numbered j) less)
    (ap (λ k. is_some (head (f k))) here ∙ some)
    ∙ ap f here

pub given_nowhere : {B : Type 0} (c : ClusterView) (f : Node → List B) → ((n : Node) → f n ≡ []) → first_given f (nodes_of c) ≡ []
given_nowhere c f h = given_none f (nodes_of c) h

-- ---- local moves are the cluster's nodes' only
pub local_beyond : (s : StateView) (n : Node) → IsShaped s → node_count s.cluster ≤ n.0 → local_moves s n ≡ []
unfolding local_moves
local_beyond s n shape past =
    ap (λ o. first_given (local_move s n) (unwrap_or o [])) (slice_get_past s.waiting n.0 (let e = shape.waiting in omega arith))

pub local_within : (s : StateView) (n : Node) → IsShaped s → is_some (head (local_moves s n)) ≡ true → n.0 < node_count s.cluster
local_within s n shape h = cases (nat_lt n.0 (node_count s.cluster))
    (λ t. is_below n.0 (node_count s.cluster) t)
    (λ f. both (is_some (head (local_moves s n))) h
    (ap (λ xs. is_some (head xs)) (local_beyond s n shape (is_above n.0 (node_count s.cluster) f))))

-- ---- what other lists don't touch
-- a state with other lists, start kinds and standings
abbrev relisted : StateView → List (List App) → List (List App) → List (List Kind) → List Standing → StateView
relisted s r w ks st = record s { running = r; waiting = w; kinds = ks; standings = st }

-- where it matters now, it mattered before
mattered : (p q f : Bool) → (p ≡ true → q ≡ true) → p || f ≡ true → q || f ≡ true
mattered true true f h e = refl
mattered true false f h e = both false (h refl) refl
mattered false true f h e = refl
mattered false false f h e = e

-- and where it is asked now, it was asked before
asked : (p q g f : Bool) → (p ≡ true → q ≡ true) → (p && g) || f ≡ true → (q && g) || f ≡ true
asked true true g f h e = e
asked true false g f h e = both false (h refl) refl
asked false true true f h e = refl
asked false true false f h e = e
asked false false g f h e = e

-- where it is asked, it matters
pub asked_matters : (p g f : Bool) → (p && g) || f ≡ true → p || f ≡ true
asked_matters true g f e = refl
asked_matters false g f e = e

-- where an application stands as before, and all that it needs runs as before, it can run as before
module _ (s : StateView) (r w : List (List App)) (ks : List (List Kind)) (st : List Standing) (n : Node) where
  abbrev Runs : App → Type 0
  Runs a = entry r n.0 a ≡ entry s.running n.0 a

  deps_kept : (deps : List Dep) → ((b : App) → has_app (filter_map listed deps) b ≡ true → Runs b)
      → list_all (dep_runs (relisted s r w ks st) n) deps ≡ list_all (dep_runs s n) deps
  deps_kept [] h = refl
  deps_kept (Listed b ∷ deps) h = λ i. h b (or_left (same_app b b) _ (same_refl b.0)) i && deps_kept deps (λ c k. h c (or_right (same_app c b) _ k)) i
  deps_kept (Platform p ∷ deps) h = ap (λ rest. is_platform s.cluster n p && rest) (deps_kept deps h)

  needs_kept : (a : App) → ((b : App) → has_app (needed_apps s.cluster a) b ≡ true → Runs b) → deps_run (relisted s r w ks st) n a ≡ deps_run s n a
  unfolding deps_run needed_apps
  needs_kept a needs = deps_kept (deps_of s.cluster a) needs

  operational_kept : (a : App) → Runs a → entry w n.0 a ≡ entry s.waiting n.0 a → ((b : App) → has_app (needed_apps s.cluster a) b ≡ true → Runs b)
      → is_operational (relisted s r w ks st) a n ≡ is_operational s a n
  unfolding is_operational deps_run needed_apps
  operational_kept a runs waits needs =
      λ i. is_up (mode_of s n) && ((runs i || waits i) && (is_allowed s n a && deps_kept (deps_of s.cluster a) needs i))

-- a node with the same lists
module _ (s : StateView) (r w : List (List App)) (ks : List (List Kind)) (st : List Standing) (n : Node)
    (running : row r n.0 ≡ row s.running n.0) (waiting : row w n.0 ≡ row s.waiting n.0) where
  all_run : (b : App) → Runs s r w ks st n b
  all_run b = ap (λ xs. has_app xs b) running

  deps_same : (a : App) → deps_run (relisted s r w ks st) n a ≡ deps_run s n a
  unfolding deps_run
  deps_same a = deps_kept s r w ks st n (deps_of s.cluster a) (λ b h. all_run b)

  operational_same : (a : App) → is_operational (relisted s r w ks st) a n ≡ is_operational s a n
  operational_same a = operational_kept s r w ks st n a (all_run a) (ap (λ xs. has_app xs a) waiting) (λ b h. all_run b)

  locals_same : local_moves (relisted s r w ks st) n ≡ local_moves s n
  unfolding local_moves can_start
  locals_same = λ i. first_given (λ a. cond (is_local s.cluster a && (is_allowed s n a && deps_same a i)) (Local n a ∷ []) []) (waiting i)

  exact_same : (b : BoardView) → ((a : App) → is_wanted (standing_of (relisted s r w ks st) a) ≡ true → is_wanted (standing_of s a) ≡ true)
      → IsExactAt s b n → IsExactAt (relisted s r w ks st) b n
  exact_same b wanted h = record {
    starts = h.starts ∙ ap (λ xs. is_some (head xs)) (sym locals_same);
    moving = λ a of m. h.moving a of (mattered (is_wanted (standing_of (relisted s r w ks st) a)) (is_wanted (standing_of s a)) (is_among b.fresh a n) (wanted a) m);
    able = λ a of m. h.able a of (asked (is_wanted (standing_of (relisted s r w ks st) a)) (is_wanted (standing_of s a)) (is_some (group_of s.cluster a n))
        (is_among b.fresh a n) (wanted a) m)
        ∙ sym (operational_same a);
  }

-- ---- a move
taken_there : (table : List (List App)) (n k : ℕ) (a : App) → k ≢ n → row (taken table n a) k ≡ row table k
taken_there table n k a other = at_set_there table n k (without_app (row table n) a) [] other

put_there : (table : List (List App)) (n k : ℕ) (a : App) → k ≢ n → row (put table n a) k ≡ row table k
put_there table n k a other = at_set_there table n k _ [] other

put_taken : (table : List (List App)) (n k : ℕ) (a : App) → k ≢ n → row (put (taken table n a) n a) k ≡ row table k
put_taken table n k a other = put_there (taken table n a) n k a other ∙ taken_there table n k a other

-- and what other applications have of a list
put_taken_apart : (table : List (List App)) (n k : ℕ) (a b : App) → same_app b a ≡ false → entry (put (taken table n a) n a) k b ≡ entry table k b
put_taken_apart table n k a b d = put_apart (taken table n a) n k a b d ∙ taken_apart table n k a b d

-- an application that is to run stood so before
still_wanted : (s : StateView) (a : App) (n : Node) (b : App) → is_wanted (unwrap_or (slice_get (slice_set s.standings a.0 (Running n)) b.0) Quiet) ≡ true
    → is_wanted (standing_of s b) ≡ true
still_wanted s a n b h = at_set s.standings a.0 b.0 (Running n) Quiet
    (λ e. sym (ap is_wanted e) ∙ h)
    (λ e v. both (is_wanted (Running n)) (sym (ap is_wanted v) ∙ h) refl)

-- a node is another than those whose lists the move changes
abbrev pub Apart : Move → Node → Type 0
Apart (Local n a) k = k.0 ≢ n.0
Apart (Placement a from n) k = k.0 ≢ n.0
Apart (Takeover a m n) k = (k.0 ≢ n.0) × (k.0 ≢ m.0)

exact_moved : (s : StateView) (m : Move) (b : BoardView) (k : Node) → Apart m k → IsExactAt s b k → IsExactAt (moved_state s m) b k
exact_moved s (Local n a) b k other h =
    exact_same s _ _ _ _ k (put_taken s.running n.0 k.0 a other) (taken_there s.waiting n.0 k.0 a other) b (λ c w. w) h
exact_moved s (Placement a from n) b k other h =
    exact_same s _ _ _ _ k (put_taken s.running n.0 k.0 a other) (taken_there s.waiting n.0 k.0 a other) b (λ c w. still_wanted s a n c w) h
exact_moved s (Takeover a m n) b k other h =
    exact_same s _ _ _ _ k
    (taken_there (put (taken s.running n.0 a) n.0 a) m.0 k.0 a other.1 ∙ put_taken s.running n.0 k.0 a other.0)
    (put_taken (taken s.waiting n.0 a) m.0 k.0 a other.1 ∙ taken_there s.waiting n.0 k.0 a other.0)
    b (λ c w. still_wanted s a n c w) h

neither : (p q : Bool) → p || q ≡ false → (p ≡ false) × (q ≡ false)
neither true q h = both true refl h
neither false q h = (refl, h)

-- one that it doesn't touch is another, and so is each that this one needs
untouched : (c : ClusterView) (x a : App) → touches c x a ≡ false
    → (same_app a x ≡ false) × ((b : App) → has_app (needed_apps c a) b ≡ true → same_app b x ≡ false)
untouched c x a h =
    let none = neither (same_app a x) (has_app (needed_apps c a) x) h in (
      none.0,
      λ b needed. is_false (same_app b x)
          (λ e. both (has_app (needed_apps c a) x) (sym (ap (λ (i : ℕ). has_app (needed_apps c a) (app_numbered i)) (same_number b.0 x.0 e)) ∙ needed) none.1),
    )

-- what that one needs runs as before, at the nodes that the move changes too
needs_moved : (s : StateView) (m : Move) (a : App) (k : Node) → touches s.cluster (mover m) a ≡ false → deps_run (moved_state s m) k a ≡ deps_run s k a
needs_moved s (Local n x) a k h =
    let u = untouched s.cluster x a h in
    needs_kept s _ _ _ _ k a (λ b needed. put_taken_apart s.running n.0 k.0 x b (u.1 b needed))
needs_moved s (Placement x from n) a k h =
    let u = untouched s.cluster x a h in
    needs_kept s _ _ _ _ k a (λ b needed. put_taken_apart s.running n.0 k.0 x b (u.1 b needed))
needs_moved s (Takeover x m n) a k h =
    let u = untouched s.cluster x a h in
    needs_kept s _ _ _ _ k a (λ b needed.
    taken_apart (put (taken s.running n.0 x) n.0 x) m.0 k.0 x b (u.1 b needed) ∙ put_taken_apart s.running n.0 k.0 x b (u.1 b needed))

-- where that one can run stays, at the nodes that the move changes too
operational_moved : (s : StateView) (m : Move) (a : App) (k : Node) → touches s.cluster (mover m) a ≡ false
    → is_operational (moved_state s m) a k ≡ is_operational s a k
operational_moved s (Local n x) a k h =
    let u = untouched s.cluster x a h in
    operational_kept s _ _ _ _ k a (put_taken_apart s.running n.0 k.0 x a u.0) (taken_apart s.waiting n.0 k.0 x a u.0)
    (λ b needed. put_taken_apart s.running n.0 k.0 x b (u.1 b needed))
operational_moved s (Placement x from n) a k h =
    let u = untouched s.cluster x a h in
    operational_kept s _ _ _ _ k a (put_taken_apart s.running n.0 k.0 x a u.0) (taken_apart s.waiting n.0 k.0 x a u.0)
    (λ b needed. put_taken_apart s.running n.0 k.0 x b (u.1 b needed))
operational_moved s (Takeover x m n) a k h =
    let u = untouched s.cluster x a h in
    operational_kept s _ _ _ _ k a (runs a u.0) (waits a u.0) (λ b needed. runs b (u.1 b needed))
  where
    runs : (b : App) → same_app b x ≡ false → entry (taken (put (taken s.running n.0 x) n.0 x) m.0 x) k.0 b ≡ entry s.running k.0 b
    runs b d = taken_apart (put (taken s.running n.0 x) n.0 x) m.0 k.0 x b d ∙ put_taken_apart s.running n.0 k.0 x b d

    waits : (b : App) → same_app b x ≡ false → entry (put (taken (taken s.waiting n.0 x) m.0 x) m.0 x) k.0 b ≡ entry s.waiting k.0 b
    waits b d = put_taken_apart (taken s.waiting n.0 x) m.0 k.0 x b d ∙ taken_apart s.waiting n.0 k.0 x b d

-- ---- a move that touches no local application
-- each local application starts where it could start before
starts_kept : (s : StateView) (r w : List (List App)) (ks : List (List Kind)) (st : List Standing) (k : Node) (x : App)
    → ((a : App) → touches s.cluster x a ≡ false → deps_run (relisted s r w ks st) k a ≡ deps_run s k a)
    → touches_local s.cluster x ≡ false → (a : App) → IsAppOf s.cluster a → local_move (relisted s r w ks st) k a ≡ local_move s k a
unfolding can_start
starts_kept s r w ks st k x needs none a of =
    let t = relisted s r w ks st in
    cases (is_local s.cluster a)
    (λ y. λ i. cond (is_local s.cluster a && (is_allowed s k a && needs a (none_touched s.cluster x a none of y) i)) (Local k a ∷ []) [])
    (λ f. ap (λ b. cond (b && (is_allowed s k a && deps_run t k a)) (Local k a ∷ []) []) f
    ∙ sym (ap (λ b. cond (b && (is_allowed s k a && deps_run s k a)) (Local k a ∷ []) []) f))

starts_moved : (s : StateView) (m : Move) (k : Node) → touches_local s.cluster (mover m) ≡ false → (a : App) → IsAppOf s.cluster a
    → local_move (moved_state s m) k a ≡ local_move s k a
starts_moved s (Local n x) k = starts_kept s _ _ _ _ k x (λ a u. needs_moved s (Local n x) a k u)
starts_moved s (Placement x from n) k = starts_kept s _ _ _ _ k x (λ a u. needs_moved s (Placement x from n) a k u)
starts_moved s (Takeover x m n) k = starts_kept s _ _ _ _ k x (λ a u. needs_moved s (Takeover x m n) a k u)

-- and the one that moves isn't one
none_of_mover : (s : StateView) (x : App) (k : Node) → touches_local s.cluster x ≡ false → IsAppOf s.cluster x → local_move s k x ≡ []
unfolding can_start
none_of_mover s x k none of = ap (λ b. cond (b && (is_allowed s k x && deps_run s k x)) (Local k x ∷ []) [])
    (is_false (is_local s.cluster x) (λ y. both (touches s.cluster x x)
    (or_left (same_app x x) (has_app (needed_apps s.cluster x) x) (same_refl x.0)) (none_touched s.cluster x x none of y)))

-- so the local moves are those of before, at the nodes that the move changes too
locals_moved : (s : StateView) (m : Move) (k : Node) → IsShaped (moved_state s m) → IsAppOf s.cluster (mover m) → touches_local s.cluster (mover m) ≡ false
    → local_moves (moved_state s m) k ≡ local_moves s k
unfolding local_moves
locals_moved s (Local n x) k shape of none =
    given_alike (local_move (moved_state s (Local n x)) k) (local_move s k) (IsAppOf s.cluster) (starts_moved s (Local n x) k none) _
    (listed_all (IsAppOf s.cluster) (taken s.waiting n.0 x) k.0 shape.waiting_apps)
    ∙ given_taken (local_move s k) x (none_of_mover s x k none of) s.waiting n.0 k.0
locals_moved s (Placement x from n) k shape of none =
    given_alike (local_move (moved_state s (Placement x from n)) k) (local_move s k) (IsAppOf s.cluster) (starts_moved s (Placement x from n) k none) _
    (listed_all (IsAppOf s.cluster) (taken s.waiting n.0 x) k.0 shape.waiting_apps)
    ∙ given_taken (local_move s k) x (none_of_mover s x k none of) s.waiting n.0 k.0
locals_moved s (Takeover x m n) k shape of none =
    let gone = taken (taken s.waiting n.0 x) m.0 x in
    let nothing = none_of_mover s x k none of in
    given_alike (local_move (moved_state s (Takeover x m n)) k) (local_move s k) (IsAppOf s.cluster) (starts_moved s (Takeover x m n) k none) _
    (listed_all (IsAppOf s.cluster) (put gone m.0 x) k.0 shape.waiting_apps)
    ∙ given_put (local_move s k) x nothing gone m.0 k.0
    ∙ given_taken (local_move s k) x nothing (taken s.waiting n.0 x) m.0 k.0
    ∙ given_taken (local_move s k) x nothing s.waiting n.0 k.0

-- ---- what a board keeps
-- so it stays exact for what the move doesn't touch
record IsKeptAt (t : StateView) (x : App) (b : BoardView) (k : Node) : Type 0 where
  pub starts : touches_local t.cluster x ≡ false → has b.starts k ≡ is_some (head (local_moves t k))
  pub moving : (a : App) → IsAppOf t.cluster a → matters t b.fresh a k ≡ true → is_marked b.moving a ≡ true
  pub able : (a : App) → IsAppOf t.cluster a → touches t.cluster x a ≡ false → is_asked t b.fresh a k ≡ true → is_among b.able a k ≡ is_operational t a k

kept_moved : (s : StateView) (m : Move) (b : BoardView) (k : Node) → IsShaped (moved_state s m) → IsAppOf (moved_state s m).cluster (mover m) → IsExactAt s b k
    → IsKeptAt (moved_state s m) (mover m) b k
kept_moved s (Local n x) b k shape of h = record {
  starts = λ u. h.starts ∙ ap (λ xs. is_some (head xs)) (sym (locals_moved s (Local n x) k shape of u));
  moving = λ a of_a m. h.moving a of_a m;
  able = λ a of_a u m. h.able a of_a m ∙ sym (operational_moved s (Local n x) a k u);
}
kept_moved s (Placement x from n) b k shape of h = record {
  starts = λ u. h.starts ∙ ap (λ xs. is_some (head xs)) (sym (locals_moved s (Placement x from n) k shape of u));
  moving = λ a of_a m. h.moving a of_a (mattered _ (is_wanted (standing_of s a)) (is_among b.fresh a k) (still_wanted s x n a) m);
  able = λ a of_a u m. h.able a of_a (asked _ (is_wanted (standing_of s a)) (is_some (group_of s.cluster a k)) (is_among b.fresh a k) (still_wanted s x n a) m)
      ∙ sym (operational_moved s (Placement x from n) a k u);
}
kept_moved s (Takeover x l n) b k shape of h = record {
  starts = λ u. h.starts ∙ ap (λ xs. is_some (head xs)) (sym (locals_moved s (Takeover x l n) k shape of u));
  moving = λ a of_a m. h.moving a of_a (mattered _ (is_wanted (standing_of s a)) (is_among b.fresh a k) (still_wanted s x n a) m);
  able = λ a of_a u m. h.able a of_a (asked _ (is_wanted (standing_of s a)) (is_some (group_of s.cluster a k)) (is_among b.fresh a k) (still_wanted s x n a) m)
      ∙ sym (operational_moved s (Takeover x l n) a k u);
}

-- ---- a look at a node
-- what a look at a node behind a move of an application leaves, and what it finds
pub record Looked (t : StateView) (x : App) (b c : BoardView) (n : Node) : Type 0 where
  pub marks : c.local ≡ b.local
  pub moving : c.moving ≡ b.moving
  pub fresh : c.fresh ≡ b.fresh
  pub local : touches_local t.cluster x ≡ true → has c.starts n ≡ is_some (head (local_moves t n))
  pub apart : touches_local t.cluster x ≡ false → c.starts ≡ b.starts
  pub starts : (k : Node) → same_node k n ≡ false → has c.starts k ≡ has b.starts k
  pub here : (a : App) → IsAppOf t.cluster a → is_marked c.moving a ≡ true → touches t.cluster x a ≡ true → matters t c.fresh a n ≡ true → is_among c.able a n ≡ is_operational t a n
  pub able : (a : App) (k : Node) → touches t.cluster x a && same_node k n ≡ false → is_among c.able a k ≡ is_among b.able a k

module _ (t : StateView) (x : App) (b c : BoardView) (n k : Node) (look : Looked t x b c n) where
  mattered_too : (a : App) → matters t c.fresh a k ≡ true → matters t b.fresh a k ≡ true
  mattered_too a m = sym (ap (λ (fresh : AppSets). matters t fresh a k) look.fresh) ∙ m

  asked_too : (a : App) → is_asked t c.fresh a k ≡ true → is_asked t b.fresh a k ≡ true
  asked_too a m = sym (ap (λ (fresh : AppSets). is_asked t fresh a k) look.fresh) ∙ m

  marked_too : (a : App) → is_marked b.moving a ≡ true → is_marked c.moving a ≡ true
  marked_too a m = ap (λ (marks : AppMarks). is_marked marks a) look.moving ∙ m

  look_kept : IsKeptAt t x b k → IsKeptAt t x c k
  look_kept kept = record {
    starts = λ u. ap (λ (nodes : NodeBits). has nodes k) (look.apart u) ∙ kept.starts u;
    moving = λ a of m. marked_too a (kept.moving a of (mattered_too a m));
    able = λ a of u m. look.able a k (ap (λ p. p && same_node k n) u) ∙ kept.able a of u (asked_too a m);
  }

  looked_at : IsKeptAt t x b k → (k.0 ≢ n.0 → IsExactAt t b k) → IsExactAt t c k
  looked_at kept apart = cases (same_node k n)
      (λ y. subst (λ (i : ℕ). IsKeptAt t x c (numbered i) → IsExactAt t c (numbered i)) (sym (same_number k.0 n.0 y)) here (look_kept kept))
      (λ f. let h = apart (other_number k.0 n.0 f) in record {
        starts = look.starts k f ∙ h.starts;
        moving = λ a of m. marked_too a (h.moving a of (mattered_too a m));
        able = λ a of m. look.able a k (ap (λ p. touches t.cluster x a && p) f ∙ and_false (touches t.cluster x a)) ∙ h.able a of (asked_too a m);
      })
    where
      here : IsKeptAt t x c n → IsExactAt t c n
      here kept = record {
        starts = cases (touches_local t.cluster x) (λ y. look.local y) (λ u. kept.starts u);
        moving = kept.moving;
        able = λ a of m. let mattering = asked_matters (is_wanted (standing_of t a)) (is_some (group_of t.cluster a n)) (is_among c.fresh a n) m in
            cases (touches t.cluster x a) (λ y. look.here a of (kept.moving a of mattering) y mattering) (λ u. kept.able a of u m);
      }

      and_false : (p : Bool) → p && false ≡ false
      and_false true = refl
      and_false false = refl

module _ (s t : StateView) (m : Move) (pairs : List Pair) (is : t ≡ moved_state s m) (shape : IsShaped t) (of : IsAppOf t.cluster (mover m)) where
  still_at : (b : BoardView) (k : Node) → Apart m k → IsExactAt s b k → IsExactAt t b k
  still_at b k apart h = subst (λ (u : StateView). IsExactAt u b k) (sym is) (exact_moved s m b k apart h)

  kept_at : (b : BoardView) (k : Node) → IsExactAt s b k → IsKeptAt t (mover m) b k
  kept_at b k h = subst (λ (u : StateView). IsShaped u → IsAppOf u.cluster (mover m) → IsKeptAt u (mover m) b k) (sym is)
      (λ shaped here. kept_moved s m b k shaped here h) shape of

  same_cluster : t.cluster ≡ s.cluster
  same_cluster = ap (λ (u : StateView). u.cluster) is ∙ cluster_same s m

  still_local : (b c : BoardView) → c.local ≡ b.local → IsBoardOf s pairs b → AreLocals t.cluster c.local
  still_local b c marks h = subst (λ (ms : AppMarks). AreLocals t.cluster ms) (sym marks)
      (subst (λ (v : ClusterView). AreLocals v b.local) (sym same_cluster) h.local)

  still_fresh : (b c : BoardView) → c.fresh ≡ b.fresh → IsBoardOf s pairs b → (a : App) (n : Node) → IsAppOf t.cluster a → IsNodeOf t.cluster n
      → is_among c.fresh a n ≡ is_fresh pairs n a
  still_fresh b c fresh h a n of_a of_n =
      ap (λ (f : AppSets). is_among f a n) fresh
      ∙ h.fresh a n (subst (λ (v : ClusterView). IsAppOf v a) same_cluster of_a) (subst (λ (v : ClusterView). IsNodeOf v n) same_cluster of_n)

  pub followed : (b c : BoardView) (n : Node) → ((k : Node) → k.0 ≢ n.0 → Apart m k) → Looked t (mover m) b c n → IsBoardOf s pairs b → IsBoardOf t pairs c
  followed b c n apart look h = record {
    local = still_local b c look.marks h;
    fresh = still_fresh b c look.fresh h;
    exact = λ k. looked_at t (mover m) b c n k look (kept_at b k (h.exact k)) (λ d. still_at b k (apart k d) (h.exact k));
  }

  pub followed_twice : (b c d : BoardView) (n l : Node) → ((k : Node) → k.0 ≢ n.0 → k.0 ≢ l.0 → Apart m k) → Looked t (mover m) b c n → Looked t (mover m) c d l
      → IsBoardOf s pairs b → IsBoardOf t pairs d
  followed_twice b c d n l apart look again h = record {
    local = still_local b d (again.marks ∙ look.marks) h;
    fresh = still_fresh b d (again.fresh ∙ look.fresh) h;
    exact = λ k.
        let kept = kept_at b k (h.exact k) in
        looked_at t (mover m) c d l k again (look_kept t (mover m) b c n k look kept)
        (λ e. looked_at t (mover m) b c n k look kept (λ f. still_at b k (apart k f e) (h.exact k)));
  }

-- ---- what calls away
-- a node has a fresh pair and the application can run there
pub callers_are : (s : StateView) (pairs : List Pair) (b : BoardView) → IsBoardOf s pairs b → (a : App) → IsAppOf s.cluster a → (n : Node) → IsNodeOf s.cluster n
    → (is_among b.fresh a n && is_among b.able a n) ≡ (is_fresh pairs n a && is_operational s a n)
callers_are s pairs b h a of_a n of_n = by (is_among b.fresh a n) (h.fresh a n of_a of_n)
    (λ f. (h.exact n).able a of_a (or_right (is_wanted (standing_of s a) && is_some (group_of s.cluster a n)) _ f))
  where
    by : (f : Bool) → f ≡ is_fresh pairs n a → (f ≡ true → is_among b.able a n ≡ is_operational s a n)
        → (f && is_among b.able a n) ≡ (is_fresh pairs n a && is_operational s a n)
    by true e able = able refl ∙ ap (λ p. p && is_operational s a n) e
    by false e able = ap (λ p. p && is_operational s a n) e

-- no node calls an application away that isn't one of the cluster's
pub none_beyond : (s : StateView) (pairs : List Pair) (a : App) (m n : Node) → IsShaped s → node_count s.cluster ≤ n.0 → calls_away s pairs a m n ≡ false
unfolding calls_away
none_beyond s pairs a m n shape past = cases (is_operational s a n)
    (λ t. let w = operational_within s a n shape.modes t in absurd (omega arith))
    (λ f. ap (λ b. comes_before (group_of s.cluster a n) (group_of s.cluster a m) && (is_fresh pairs n a && b)) f ∙ and_false _ _)
  where
    and_false : (p q : Bool) → p && (q && false) ≡ false
    and_false true true = refl
    and_false true false = refl
    and_false false q = refl

-- nor does the node at which it runs: where no other can and has a fresh pair, none calls it away
pub none_calls : (s : StateView) (pairs : List Pair) (a : App) (m : Node) → IsShaped s
    → ((n : Node) → n.0 ≢ m.0 → IsNodeOf s.cluster n → (is_fresh pairs n a && is_operational s a n) ≡ false) → (n : Node) → calls_away s pairs a m n ≡ false
unfolding calls_away
none_calls s pairs a m shape none n = cases (nat_lt n.0 (node_count s.cluster))
    (λ t. cases (same_node n m)
    (λ y. ap (λ (i : ℕ). calls_away s pairs a m (numbered i)) (same_number n.0 m.0 y)
    ∙ ap (λ b. b && (is_fresh pairs m a && is_operational s a m)) (not_before (group_of s.cluster a m)))
    (λ d. ap (λ b. comes_before (group_of s.cluster a n) (group_of s.cluster a m) && b)
    (none n (other_number n.0 m.0 d) (is_below n.0 (node_count s.cluster) t)) ∙ and_no _))
    (λ f. none_beyond s pairs a m n shape (is_above n.0 (node_count s.cluster) f))
  where
    and_no : (p : Bool) → p && false ≡ false
    and_no true = refl
    and_no false = refl

-- and then it isn't taken over
pub not_taken : (s : StateView) (pairs : List Pair) (a : App) (m : Node) → ((n : Node) → calls_away s pairs a m n ≡ false)
    → takeovers_from s pairs a (Running m) ≡ []
not_taken s pairs a m none = ap (map (Takeover a m)) ((picked_none First (best s a (calls_away s pairs a m))).0
    ((none_chosen s a First (calls_away s pairs a m)).1 (λ n t. both (calls_away s pairs a m n) t (none n))))

-- where no node can and has a fresh pair, nothing is taken over
pub no_callers : (s : StateView) (pairs : List Pair) (a : App) → IsShaped s
    → ((n : Node) → IsNodeOf s.cluster n → (is_fresh pairs n a && is_operational s a n) ≡ false) → takeovers s pairs a ≡ []
unfolding takeovers
no_callers s pairs a shape none = by (standing_of s a)
  where
    by : (st : Standing) → takeovers_from s pairs a st ≡ []
    by Quiet = refl
    by (Wanted _) = refl
    by (Lost _) = refl
    by (Running m) = not_taken s pairs a m (none_calls s pairs a m shape (λ n d of_n. none n of_n))

-- ---- what isn't marked doesn't move
-- where it matters for no node, an application isn't to run and has no fresh pair
unmarked : (s : StateView) (b : BoardView) (a : App) (n : Node) → IsAppOf s.cluster a → IsExactAt s b n → is_marked b.moving a ≡ false
    → matters s b.fresh a n ≡ false
unmarked s b a n of exact off = is_false (matters s b.fresh a n) (λ m. both (is_marked b.moving a) (exact.moving a of m) off)

-- so it isn't placed
pub unwanted_stays : (s : StateView) (a : App) → is_wanted (standing_of s a) ≡ false → placements s a ≡ []
unfolding placements
unwanted_stays s a off = by (standing_of s a) off
  where
    by : (st : Standing) → is_wanted st ≡ false → placements_from s a st ≡ []
    by Quiet h = refl
    by (Wanted from) h = both (is_wanted (Wanted from)) refl h
    by (Lost _) h = refl
    by (Running _) h = refl

pub unmarked_stays : (s : StateView) (b : BoardView) (a : App) → IsAppOf s.cluster a → ((n : Node) → IsExactAt s b n) → is_marked b.moving a ≡ false
    → placements s a ≡ []
unmarked_stays s b a of exact off = unwanted_stays s a (neither _ _ (unmarked s b a (numbered 0) of (exact (numbered 0)) off)).0

-- and isn't taken over
pub unmarked_kept : (s : StateView) (pairs : List Pair) (b : BoardView) (a : App) → IsShaped s → IsAppOf s.cluster a → IsBoardOf s pairs b
    → is_marked b.moving a ≡ false → takeovers s pairs a ≡ []
unmarked_kept s pairs b a shape of h off = no_callers s pairs a shape
    (λ n of_n. ap (λ p. p && is_operational s a n) (sym (h.fresh a n of of_n) ∙ (neither _ _ (unmarked s b a n of (h.exact n) off)).1))
