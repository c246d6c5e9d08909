-- At each node the applications that aren't distributed start, in the order of its boot list.
use Rattle.std.proofs.Common.{◌≡◌, ◌≢◌, ◌<◌, ◌+◌, ◌++◌, ◌||◌, ◌&&◌, ℕ, zero, suc, Bool, true, false, not, List, [], ◌∷◌, map, length, nat_eq, is_some, Some, None, subst, refl, sym, ap, ◌∙◌, inl, inr, arith, append_assoc, append-nil}
use Rattle.std.specs.List.{filter, list_all, flat_map, range_with_len}
use Rattle.std.specs.Prelude.{All, AllPairs}
use Rattle.std.proofs.lemmas.Bool.{and_from, cases_eq, true≢false, false≢true}
use Rattle.std.proofs.lemmas.List.Elements.{All-tail, All-weaker}
use Rattle.rh_model.specs.ClusterView.{ClusterView, node_count, numbered, app_numbered, boot_of, deps_of, is_permitted, is_platform}
use Rattle.rh_model.specs.declared.node.App.{App}
use Rattle.rh_model.specs.declared.node.Node.{Node}
use Rattle.rh_model.specs.declared.settings.Dep.{Dep}
use Rattle.rh_model.specs.declared.settings.Dep.TheVariants.{Listed, Platform}
use Rattle.rh_model.specs.declared.settings.Restart.{Restart}
use Rattle.rh_state.specs.declared.status.Kind.TheVariants as kind
use Rattle.rh_state.specs.declared.status.Mode.TheVariants as mode
use Rattle.rh_state.specs.Lists.{has_app, without_app}
use Rattle.rh_state.specs.Numbers.{nodes_of, apps_of, same_app}
use Rattle.rh_state.specs.Shape.{IsNodeOf}
use Rattle.rh_state.specs.StateView.{StateView, mode_of, is_allowed, runs_at, waits_at, waiting_at, standing_of}
use Rattle.rh_state.specs.Tables.{row}
use Rattle.rh_base.specs.Lists.{first_given, or_else, head}
use Rattle.rh_base.proofs.Lists.{cases}
use Rattle.rh_base.proofs.Truths.{same_number, same_refl, or_right, both}
use Rattle.rh_rules.specs.declared.notice.Move.{Move}
use Rattle.rh_rules.specs.declared.notice.Move.TheVariants.{Local}
use Rattle.rh_rules.specs.declared.notice.Notice.{Notice}
use Rattle.rh_rules.specs.declared.notice.Notice.TheVariants as notice
use Rattle.rh_rules.specs.declared.pick.Pick.{Pick}
use Rattle.rh_rules.specs.declared.pick.Pick.TheVariants.{First, Last}
use Rattle.rh_rules.specs.Course.{Course, is_local, fresh_of}
use Rattle.rh_rules.specs.Moves.{can_start, local_move, local_moves, placements, takeovers, moved}
use Rattle.rh_rules.specs.Placing.{dep_runs, deps_run, picked}
use Rattle.rh_rules.specs.Settling.{next_moves, nexts, all_moved}
use Rattle.rh_step_laws.specs.Laws.{boots}
use Rattle.rh_trace.specs.Validity.{IsSound}
use Rattle.rh_trace.proofs.Entries.{is_false, not_same}
use Rattle.rh_trace.proofs.Every.{filter_no, filter_yes}
use Rattle.rh_trace.proofs.Falls.{Progresses}
use Rattle.rh_trace.proofs.Places.{at_set_here, at_set_there, append_has}
use Rattle.rh_trace.proofs.Shapes.{started_within}
use Rattle.rh_settle.proofs.Boards.{given_node}
use Rattle.rh_settle.proofs.Fuel.{unrolled}
use Rattle.rh_settle.proofs.Soundly.{sound_moved}
use Rattle.rh_settle.proofs.Starts.{move_of, no_move_of, no_start}
use Rattle.rh_start_laws.specs.Starts.{IsBefore, InOrder}
use Rattle.rh_start_laws.proofs.Lists.{come, without_middle, has_middle, none_given, given_middle, all_true}
use Rattle.rh_start_laws.proofs.Marks.{apps_in, has_row, wanted_if}
use Rattle.rh_start_laws.proofs.Rising.{is_called}

-- ---- a course comes on by moves

-- Settling goes on from here, and this was told meanwhile.
pub record Comes (pick : Pick) (o p : Course) (more : List Notice) : Type 0 where
  pub settles : all_moved pick o ≡ all_moved pick p
  pub tells : p.notices ≡ o.notices ++ more
  pub marks : p.marked ≡ o.marked

pub comes_itself : (pick : Pick) (o : Course) → Comes pick o o []
comes_itself pick o = record { settles = refl; tells = sym (append-nil o.notices); marks = refl }

pub comes_on : (pick : Pick) (o p q : Course) (more others : List Notice) → Comes pick o p more → Comes pick p q others
    → Comes pick o q (more ++ others)
comes_on pick o p q more others one two = record {
  settles = one.settles ∙ two.settles;
  tells = two.tells ∙ ap (λ (ns : List Notice). ns ++ others) one.tells ∙ append_assoc o.notices more others;
  marks = two.marks ∙ one.marks;
}

pub only_one : (pick : Pick) (m : Move) → picked pick (m ∷ []) ≡ Some m
only_one First m = refl
only_one Last m = refl

-- the distributed applications of a boot list
abbrev pub far_of : ClusterView → List (App × Restart) → List App
far_of c rows = apps_in (filter (λ (row : App × Restart). not (is_local c row.0)) rows)

-- what is told of a boot list
abbrev pub starts_told : ClusterView → Node → List (App × Restart) → List Notice
starts_told c n rows = map (λ (row : App × Restart). notice.Started row.0 n kind.Normal None)
    (filter (λ (row : App × Restart). is_local c row.0) rows)

abbrev AreFar : ClusterView → List App → Type 0
AreFar c apps = (a : App) → has_app apps a ≡ true → is_local c a ≡ false

module _ (c : ClusterView) (pick : Pick) where
  -- The nodes before this one have done with it; of its list those in `seen` have been gone through, of which some wait on; the nodes
  -- behind have not begun.
  pub record AtNode (k : ℕ) (seen waiting : List App) (rows : List (App × Restart)) (o : Course) : Type 0 where
    pub cluster : o.state.cluster ≡ c
    pub sound : IsSound o.state
    pub up : (m : Node) → m.0 < node_count c → mode_of o.state m ≡ mode.Up
    pub standings : (a : App) → standing_of o.state a ≡ wanted_if (is_called c (nodes_of c) a)
    pub allowed : (m : Node) (a : App) → m.0 < node_count c → is_allowed o.state m a ≡ is_permitted c m a
    pub waits_before : (m : Node) → m.0 < k → waiting_at o.state m ≡ far_of c (boot_of c m)
    pub waits_here : k < node_count c → waiting_at o.state (numbered k) ≡ waiting ++ apps_in rows
    pub waits_later : (m : Node) → k < m.0 → m.0 < node_count c → waiting_at o.state m ≡ apps_in (boot_of c m)
    pub runs_before : (m : Node) (a : App) → m.0 < k → runs_at o.state m a ≡ (boots c m a && is_local c a)
    pub runs_here : (a : App) → k < node_count c → runs_at o.state (numbered k) a ≡ (has_app seen a && is_local c a)
    pub runs_later : (m : Node) (a : App) → k < m.0 → m.0 < node_count c → runs_at o.state m a ≡ false

  far_are : (rows : List (App × Restart)) → AreFar c (far_of c rows)
  far_are [] a here = absurd (false≢true here)
  far_are (r ∷ rows) a here = cases (is_local c r.0)
      (λ t. far_are rows a (sym (ap (λ (rs : List (App × Restart)). has_app (apps_in rs) a)
      (filter_no (λ (x : App × Restart). not (is_local c x.0)) r rows (ap not t))) ∙ here))
      (λ f. cases (same_app a r.0)
      (λ is. ap (λ (i : ℕ). is_local c (app_numbered i)) (same_number a.0 r.0.0 is) ∙ f)
      (λ apart. far_are rows a (sym (ap (λ (b : Bool). b || has_app (far_of c rows) a) apart)
      ∙ sym (ap (λ (rs : List (App × Restart)). has_app (apps_in rs) a)
      (filter_yes (λ (x : App × Restart). not (is_local c x.0)) r rows (ap not f))) ∙ here)))

  -- ---- one of them starts

  module _ (k : ℕ) (seen waiting : List App) (r : App × Restart) (rows : List (App × Restart)) (o : Course) (inside : k < node_count c)
      (h : AtNode k seen waiting (r ∷ rows) o) where
    abbrev n : Node
    n = numbered k

    abbrev s : StateView
    s = o.state

    abbrev a : App
    a = r.0

    module _ (local : is_local c a ≡ true) (permitted : is_permitted c n a ≡ true) (deps : All (IsBefore c n seen) (deps_of c a))
        (far : AreFar c waiting) (once : has_app (apps_in rows) a ≡ false) where
      in_cluster : IsNodeOf s.cluster n
      in_cluster = subst (λ (d : ClusterView). k < node_count d) (sym h.cluster) inside

      one_runs : (d : Dep) → IsBefore c n seen d → dep_runs s n d ≡ true
      one_runs (Listed b) is = h.runs_here b inside ∙ and_from (has_app seen b) (is_local c b) is.0 is.1
      one_runs (Platform p) is = ap (λ (d : ClusterView). is_platform d n p) h.cluster ∙ is

      all_run : deps_run s n a ≡ true
      unfolding deps_run
      all_run = ap (λ (d : ClusterView). list_all (dep_runs s n) (deps_of d a)) h.cluster
          ∙ all_true (dep_runs s n) (deps_of c a)
          (All-weaker (IsBefore c n seen) (λ (d : Dep). dep_runs s n d ≡ true) (λ d is. one_runs d is) (deps_of c a) deps)

      local_there : is_local s.cluster a ≡ true
      local_there = ap (λ (d : ClusterView). is_local d a) h.cluster ∙ local

      can : can_start s n a ≡ true
      unfolding can_start
      can = and_from (is_local s.cluster a) (is_allowed s n a && deps_run s n a) local_there
          (and_from (is_allowed s n a) (deps_run s n a) (h.allowed n a inside ∙ permitted) all_run)

      far_there : (x : App) → is_local c x ≡ false → is_local s.cluster x ≡ false
      far_there x is = ap (λ (d : ClusterView). is_local d x) h.cluster ∙ is

      here : local_moves s n ≡ Local n a ∷ []
      unfolding local_moves
      here = ap (first_given (local_move s n)) (h.waits_here inside)
          ∙ given_middle (local_move s n) waiting (apps_in rows) a (Local n a)
          (λ x there. no_move_of s n x (no_start s n x (far_there x (far x there)))) (move_of s n a can)

      before : (m : Node) → m.0 < k → local_moves s m ≡ []
      unfolding local_moves
      before m lt = ap (first_given (local_move s m)) (h.waits_before m lt)
          ∙ none_given (local_move s m) (far_of c (boot_of c m))
          (λ x there. no_move_of s m x (no_start s m x (far_there x (far_are (boot_of c m) x there))))

      next_is : nexts o ≡ Local n a ∷ []
      unfolding next_moves
      next_is =
          ap (λ (ms : List Move). or_else ms
          (or_else (first_given (placements s) (apps_of s.cluster)) (first_given (takeovers s (fresh_of o))
          (apps_of s.cluster))))
          (given_node s.cluster (local_moves s) n in_cluster before (ap (λ (ms : List Move). is_some (head ms)) here) ∙ here)

      waits_now : waits_at s n a ≡ true
      waits_now = ap (λ (apps : List App). has_app apps a) (h.waits_here inside) ∙ has_middle waiting (apps_in rows) a

      progress : Progresses s (Local n a)
      progress = (
        in_cluster,
        started_within s n a h.sound.shaped
            (or_right (runs_at s n a) (waits_at s n a) waits_now),
        local_there,
        waits_now,
      )

      in_running : k < length s.running
      in_running = let long : length s.running ≡ node_count s.cluster = h.sound.shaped.running in
          let lt : k < node_count s.cluster = in_cluster in omega (arith, long, lt)

      in_waiting : k < length s.waiting
      in_waiting = let long : length s.waiting ≡ node_count s.cluster = h.sound.shaped.waiting in
          let lt : k < node_count s.cluster = in_cluster in omega (arith, long, lt)

      apart_from : has_app waiting a ≡ false
      apart_from = is_false (has_app waiting a) (λ t. both (is_local c a) local (far a t))

      abbrev p : Course
      p = moved o (Local n a)

      starts : Comes pick o p (notice.Started a n kind.Normal None ∷ [])
      starts = record {
        settles = unrolled pick o (Local n a) h.sound.shaped (ap (picked pick) next_is ∙ only_one pick (Local n a));
        tells = refl;
        marks = refl;
      }

      waits_apart : (m : Node) → m.0 ≢ k → waiting_at p.state m ≡ waiting_at s m
      waits_apart m other = at_set_there s.waiting k m.0 (without_app (row s.waiting k) a) [] other

      runs_so : (m : Node) (b : App) → runs_at p.state m b ≡ (runs_at s m b || (nat_eq m.0 k && same_app b a))
      runs_so m b = come s.running k a in_running m.0 b

      runs_apart : (m : Node) (b : App) → m.0 ≢ k → runs_at p.state m b ≡ runs_at s m b
      runs_apart m b other = runs_so m b ∙ by (runs_at s m b) (nat_eq m.0 k) (same_app b a) (not_same m.0 k other)
        where
          by : (x y z : Bool) → y ≡ false → (x || (y && z)) ≡ x
          by true y z is = refl
          by false true z is = absurd (true≢false is)
          by false false z is = refl

      runs_more : (b : App) → runs_at p.state n b ≡ (has_app (a ∷ seen) b && is_local c b)
      runs_more b =
          runs_so n b ∙ ap (λ (x : Bool). x || (nat_eq k k && same_app b a)) (h.runs_here b inside)
          ∙ by (has_app seen b) (is_local c b) (nat_eq k k) (same_app b a) (same_refl k)
          (λ is. ap (λ (i : ℕ). is_local c (app_numbered i)) (same_number b.0 a.0 is) ∙ local)
        where
          by : (x l e q : Bool) → e ≡ true → (q ≡ true → l ≡ true) → ((x && l) || (e && q)) ≡ ((q || x) && l)
          by x l false q is then = absurd (false≢true is)
          by x true true true is then = or_true x
            where
              or_true : (y : Bool) → ((y && true) || true) ≡ true
              or_true true = refl
              or_true false = refl
          by x false true true is then = absurd (false≢true (then refl))
          by true true true false is then = refl
          by false true true false is then = refl
          by true false true false is then = refl
          by false false true false is then = refl

      started : AtNode k (a ∷ seen) waiting rows p
      started = record {
        cluster = h.cluster;
        sound = sound_moved s (Local n a) progress h.sound;
        up = h.up;
        standings = h.standings;
        allowed = h.allowed;
        waits_before = λ m lt. waits_apart m (λ is. let e : m.0 ≡ k = is in absurd (omega (arith, e, lt))) ∙ h.waits_before m lt;
        waits_here = λ lt. at_set_here s.waiting k (without_app (row s.waiting k) a) [] in_waiting
            ∙ ap (λ (apps : List App). without_app apps a) (h.waits_here inside)
            ∙ without_middle waiting (apps_in rows) a apart_from once;
        waits_later = λ m gt lt. waits_apart m (λ is. let e : m.0 ≡ k = is in absurd (omega (arith, e, gt))) ∙ h.waits_later m gt lt;
        runs_before = λ m b lt. runs_apart m b (λ is. let e : m.0 ≡ k = is in absurd (omega (arith, e, lt))) ∙ h.runs_before m b lt;
        runs_here = λ b lt. runs_more b;
        runs_later = λ m b gt lt. runs_apart m b (λ is. let e : m.0 ≡ k = is in absurd (omega (arith, e, gt))) ∙ h.runs_later m b gt lt;
      }

    -- ---- or it is distributed, and waits on

    passed : is_local c a ≡ false → AtNode k (a ∷ seen) (waiting ++ a ∷ []) rows o
    passed far = record {
      cluster = h.cluster;
      sound = h.sound;
      up = h.up;
      standings = h.standings;
      allowed = h.allowed;
      waits_before = h.waits_before;
      waits_here = λ lt. h.waits_here lt ∙ sym (append_assoc waiting (a ∷ []) (apps_in rows));
      waits_later = h.waits_later;
      runs_before = h.runs_before;
      runs_here = λ b lt. h.runs_here b lt
          ∙ by (has_app seen b) (is_local c b) (same_app b a)
          (λ is. ap (λ (i : ℕ). is_local c (app_numbered i)) (same_number b.0 a.0 is) ∙ far);
      runs_later = h.runs_later;
    }
      where
        by : (x l q : Bool) → (q ≡ true → l ≡ false) → (x && l) ≡ ((q || x) && l)
        by x l false then = refl
        by x true true then = absurd (true≢false (then refl))
        by true false true then = refl
        by false false true then = refl

  -- ---- so with all of the list

  abbrev gone_through : List (App × Restart) → List App → List App
  gone_through [] seen = seen
  gone_through (r ∷ rows) seen = gone_through rows (r.0 ∷ seen)

  -- no application of the rest is the first one
  none_again : (r : App × Restart) (rows : List (App × Restart)) → All (λ (later : App × Restart). r.0.0 ≢ later.0.0) rows
      → has_app (apps_in rows) r.0 ≡ false
  none_again r [] apart = refl
  none_again r (x ∷ rows) apart =
      ap (λ (b : Bool). b || has_app (apps_in rows) r.0) (not_same r.0.0 x.0.0 (apart 0 x (omega arith)))
      ∙ none_again r rows (All-tail (λ (later : App × Restart). r.0.0 ≢ later.0.0) x rows apart)

  far_push : (apps : List App) (a : App) → AreFar c apps → is_local c a ≡ false → AreFar c (apps ++ a ∷ [])
  far_push apps a far is x there = cases (same_app x a)
      (λ t. ap (λ (i : ℕ). is_local c (app_numbered i)) (same_number x.0 a.0 t) ∙ is)
      (λ f. far x (append_has apps a x f there))

  record Ends (k : ℕ) (seen waiting : List App) (rows : List (App × Restart)) (o : Course) : Type 0 where
    pub behind : Course
    pub comes : Comes pick o behind (starts_told c (numbered k) rows)
    pub then : AtNode k (gone_through rows seen) (waiting ++ far_of c rows) [] behind

  all_start : (k : ℕ) (rows : List (App × Restart)) (seen waiting : List App) (o : Course) → k < node_count c
      → AtNode k seen waiting rows o
      → InOrder c (numbered k) seen rows → AreFar c waiting → AllPairs (λ (e later : App × Restart). e.0.0 ≢ later.0.0) rows
      → Ends k seen waiting rows o
  all_start k [] seen waiting o inside h order far once = record {
    behind = o;
    comes = comes_itself pick o;
    then = subst (λ (apps : List App). AtNode k seen apps [] o) (sym (append-nil waiting)) h;
  }
  all_start k (r ∷ rows) seen waiting o inside h order far once = cases (is_local c r.0)
      (λ t.
      let again : has_app (apps_in rows) r.0 ≡ false = none_again r rows (λ j d l. once 0 (suc j) d (omega arith) (omega arith)) in
      let is : AtNode k (r.0 ∷ seen) waiting rows (moved o (Local (numbered k) r.0)) =
      started k seen waiting r rows o inside h t (order.1 t) order.0 far again in
      let rest : Ends k (r.0 ∷ seen) waiting rows (moved o (Local (numbered k) r.0)) =
      all_start k rows (r.0 ∷ seen) waiting (moved o (Local (numbered k) r.0)) inside is order.2 far later in record {
        behind = rest.behind;
        comes = subst (λ (rs : List (App × Restart)). Comes pick o rest.behind (map (told_of k) rs))
            (sym (filter_yes (λ (x : App × Restart). is_local c x.0) r rows t))
            (comes_on pick o (moved o (Local (numbered k) r.0)) rest.behind (notice.Started r.0 (numbered k) kind.Normal None ∷ [])
            (starts_told c (numbered k) rows)
            (starts k seen waiting r rows o inside h t (order.1 t) order.0 far again) rest.comes);
        then = subst (λ (rs : List (App × Restart)). AtNode k (gone_through rows (r.0 ∷ seen)) (waiting ++ apps_in rs) [] rest.behind)
            (sym (filter_no (λ (x : App × Restart). not (is_local c x.0)) r rows (ap not t))) rest.then;
      })
      (λ f.
      let rest : Ends k (r.0 ∷ seen) (waiting ++ r.0 ∷ []) rows o =
      all_start k rows (r.0 ∷ seen) (waiting ++ r.0 ∷ []) o inside (passed k seen waiting r rows o inside h f) order.2
      (far_push waiting r.0 far f) later in record {
        behind = rest.behind;
        comes = subst (λ (rs : List (App × Restart)). Comes pick o rest.behind (map (told_of k) rs))
            (sym (filter_no (λ (x : App × Restart). is_local c x.0) r rows f)) rest.comes;
        then = subst (λ (apps : List App). AtNode k (gone_through rows (r.0 ∷ seen)) apps [] rest.behind)
            (append_assoc waiting (r.0 ∷ []) (far_of c rows)
            ∙ ap (λ (rs : List (App × Restart)). waiting ++ apps_in rs)
            (sym (filter_yes (λ (x : App × Restart). not (is_local c x.0)) r rows (ap not f))))
            rest.then;
      })
    where
      later : AllPairs (λ (e later : App × Restart). e.0.0 ≢ later.0.0) rows
      later = λ i j d l m. once (suc i) (suc j) d (omega arith) (omega arith)

      told_of : ℕ → App × Restart → Notice
      told_of j row = notice.Started row.0 (numbered j) kind.Normal None

  -- ---- and at all nodes

  through_has : (rows : List (App × Restart)) (seen : List App) (a : App)
      → has_app (gone_through rows seen) a ≡ (has_app seen a || has_row rows a)
  through_has [] seen a = by (has_app seen a)
    where
      by : (b : Bool) → b ≡ (b || false)
      by true = refl
      by false = refl
  through_has (r ∷ rows) seen a = through_has rows (r.0 ∷ seen) a ∙ by (same_app a r.0) (has_app seen a) (has_row rows a)
    where
      by : (x y z : Bool) → ((x || y) || z) ≡ (y || (x || z))
      by true true z = refl
      by true false z = refl
      by false y z = refl

  next_node : (k : ℕ) (o : Course) → k < node_count c
      → AtNode k (gone_through (boot_of c (numbered k)) []) ([] ++ far_of c (boot_of c (numbered k))) [] o
      → AtNode (k + 1) [] [] (boot_of c (numbered (k + 1))) o
  next_node k o inside h = record {
    cluster = h.cluster;
    sound = h.sound;
    up = h.up;
    standings = h.standings;
    allowed = h.allowed;
    waits_before = λ m lt. elim (cases_eq m.0 k) [
      | inl is ↦ subst (λ (j : Node). waiting_at o.state j ≡ far_of c (boot_of c j)) (sym (ap numbered is))
          (h.waits_here inside ∙ append-nil (far_of c (boot_of c (numbered k))))
      | inr other ↦ h.waits_before m (omega (arith, lt, other))
    ];
    waits_here = λ lt. h.waits_later (numbered (k + 1)) (omega arith) lt;
    waits_later = λ m gt lt. h.waits_later m (omega (arith, gt)) lt;
    runs_before = λ m a lt. elim (cases_eq m.0 k) [
      | inl is ↦ subst (λ (j : Node). runs_at o.state j a ≡ (boots c j a && is_local c a)) (sym (ap numbered is))
          (h.runs_here a inside ∙ ap (λ (b : Bool). b && is_local c a) (through_has (boot_of c (numbered k)) [] a))
      | inr other ↦ h.runs_before m a (omega (arith, lt, other))
    ];
    runs_here = λ a lt. h.runs_later (numbered (k + 1)) a (omega arith) lt;
    runs_later = λ m a gt lt. h.runs_later m a (omega (arith, gt)) lt;
  }

  pub record EndAll (k j : ℕ) (o : Course) : Type 0 where
    pub behind : Course
    pub comes : Comes pick o behind (flat_map (λ (m : Node). starts_told c m (boot_of c m)) (map numbered (range_with_len k j)))
    pub then : AtNode (node_count c) [] [] (boot_of c (numbered (node_count c))) behind

  pub nodes_start : ((m : Node) → m.0 < node_count c → InOrder c m [] (boot_of c m)) → (j k : ℕ) (o : Course) → k + j ≡ node_count c
      → AtNode k [] [] (boot_of c (numbered k)) o → EndAll k j o
  nodes_start order zero k o is h = record {
    behind = o;
    comes = comes_itself pick o;
    then = subst (λ (i : ℕ). AtNode i [] [] (boot_of c (numbered i)) o) (plus k ∙ is) h;
  }
    where
      plus : (k : ℕ) → k ≡ k + 0
      plus k = omega arith
  nodes_start order (suc j) k o is h =
      let inside : k < node_count c = omega (arith, is) in
      let one : Ends k [] [] (boot_of c (numbered k)) o =
      all_start k (boot_of c (numbered k)) [] [] o inside h (order (numbered k) inside) (λ a there. absurd (false≢true there))
      (subst (λ (d : ClusterView). AllPairs (λ (e later : App × Restart). e.0.0 ≢ later.0.0) (boot_of d (numbered k))) h.cluster
      (h.sound.within.boot_once (numbered k))) in
      let rest : EndAll (k + 1) j one.behind = nodes_start order j (k + 1) one.behind (omega (arith, is))
      (next_node k one.behind inside one.then) in record {
        behind = rest.behind;
        comes = comes_on pick o one.behind rest.behind _ _ one.comes rest.comes;
        then = rest.then;
      }
