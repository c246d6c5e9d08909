-- The last node of a cluster begins, for which all others wait: what comes of it.
use Rattle.std.proofs.Common.{◌≡◌, ◌≢◌, ◌<◌, ◌≤◌, ◌+◌, ◌++◌, ◌||◌, ◌&&◌, ℕ, Bool, true, false, cond, not, List, [], ◌∷◌, map, length, nat_eq, nat_lt, slice_get, slice_set, slice_index, get_or, unwrap_or, is_some, find, Some, None, Option, subst, refl, sym, ap, ◌∙◌, inl, inr, arith, append_assoc}
use Rattle.std.specs.List.{flat_map}
use Rattle.std.specs.Option.{option_map, option_and_then}
use Rattle.std.specs.Prelude.{All}
use Rattle.std.proofs.lemmas.Bool.{cases_eq, cases_lt, true≢false, false≢true}
use Rattle.std.proofs.lemmas.Bool.Decides.{nat_tests}
use Rattle.std.proofs.lemmas.List.{get_or-map, get_or-set_same, get_or-set_other}
use Rattle.std.proofs.lemmas.List.Elements.{All-head, All-tail}
use Rattle.std.proofs.lemmas.List.Folds.{list_any_at}
use Rattle.std.proofs.lemmas.Option.{slice_get_past, unwrap_or-slice_get}
use Rattle.rh_model.specs.ClusterView.{ClusterView, NodeView, IsWithin, node_count, app_count, numbered, app_numbered, boot_of, is_permitted, sync_wait_of}
use Rattle.rh_model.specs.declared.node.App.{App}
use Rattle.rh_model.specs.declared.node.Node.{Node}
use Rattle.rh_model.specs.declared.settings.Restart.{Restart}
use Rattle.rh_model.specs.declared.settings.SyncWait.{SyncWait}
use Rattle.rh_model.specs.declared.settings.SyncWait.TheVariants.{Unset, After, Forever}
use Rattle.rh_state.specs.First.{configured}
use Rattle.rh_state.specs.declared.status.Kind.TheVariants as kind
use Rattle.rh_state.specs.declared.status.Mode.{Mode}
use Rattle.rh_state.specs.declared.status.Mode.TheVariants as mode
use Rattle.rh_state.specs.declared.status.Standing.TheVariants.{Quiet, Running}
use Rattle.rh_state.specs.declared.status.Timer.{Timer}
use Rattle.rh_state.specs.declared.status.Timer.TheVariants.{Sync, Failover}
use Rattle.rh_state.specs.Lists.{has_app}
use Rattle.rh_state.specs.Numbers.{nodes_of, apps_of, same_app}
use Rattle.rh_state.specs.Setters.{with_mode, with_incarnation}
use Rattle.rh_state.specs.Standings.{is_lost}
use Rattle.rh_state.specs.StateView.{StateView, mode_of, is_alive, is_up, is_waiting, incarnation_of, is_allowed, runs_at, waits_at, restart_of, standing_of, due_of}
use Rattle.rh_state.specs.Tables.{row, cell}
use Rattle.rh_state.specs.Timers.{same_timer, due_among}
use Rattle.rh_state.proofs.FirstStates.{length-configured}
use Rattle.rh_base.proofs.Lists.{cases}
use Rattle.rh_base.proofs.Truths.{same_number, same_refl}
use Rattle.rh_rules.specs.declared.event.Event.TheVariants as event
use Rattle.rh_rules.specs.declared.notice.Notice.{Notice}
use Rattle.rh_rules.specs.declared.notice.Notice.TheVariants as notice
use Rattle.rh_rules.specs.declared.pick.Pick.{Pick}
use Rattle.rh_rules.specs.Course.{Course, course_of, now_in, is_local}
use Rattle.rh_rules.specs.NodesStart.{with_sync_timer, booted, ready_come_up}
use Rattle.rh_rules.specs.Refusals.{refused}
use Rattle.rh_rules.specs.Settling.{all_moved, waits_told, settled}
use Rattle.rh_rules.specs.Steps.{Outcome, outcome_of, followed, next}
use Rattle.rh_step_laws.specs.Laws.{boots}
use Rattle.rh_trace.specs.Validity.{IsSound, IsValid, is_timed}
use Rattle.rh_trace.proofs.Every.{filter_no, filter_yes}
use Rattle.rh_trace.proofs.Numbered.{length_apps, app_there}
use Rattle.rh_trace.proofs.Places.{at_set_here, at_set_there}
use Rattle.rh_settle.proofs.Fuel.{ended}
use Rattle.rh_settle.proofs.Unchanged.{waits_told_state, settled_time, settled_incarnations, settled_restarts}
use Rattle.rh_refusals.proofs.Accepted.{CanBoot, accepted_boot}
use Rattle.rh_events.proofs.EachEvent.{sound_changed}
use Rattle.rh_events.proofs.ModesKept.{booted_modes}
use Rattle.rh_events.proofs.SoundComingUp.{all_nodes}
use Rattle.rh_step.proofs.Validity.{next_valid}
use Rattle.rh_start_laws.specs.Starts.{StartsInOrder, IsLast, HasStarted, LastBootsStartAll, starts_at, is_booted, standing_then, locals_told, spread_told, waits_told_at, start_told}
use Rattle.rh_start_laws.proofs.Booted.{some_of_any, lt_yes}
use Rattle.rh_start_laws.proofs.Lists.{filter_same}
use Rattle.rh_start_laws.proofs.Locals.{AtNode, EndAll, far_of, nodes_start, Comes, comes_on}
use Rattle.rh_start_laws.proofs.Marks.{apps_in, has_row, wanted_if}
use Rattle.rh_start_laws.proofs.Placed.{ArePlaced, EndPlaced, all_placed, at_rest, is_called_there, places_told, starts_by, stands_by}
use Rattle.rh_start_laws.proofs.Rising.{HasRisen, all_rise, is_called, ready_below}
use Rattle.rh_start_laws.proofs.Told.{waits_of, tells, WaitOn, nodes_told}

-- ---- what a boot leaves as it is

booted_field : {A : Type 0} (field : StateView → A) (s : StateView) (n : Node)
    → ((t : StateView) (timers : List (ℕ × Timer)) → field (record t { timers = timers }) ≡ field t)
    → field (booted s n) ≡ field (with_mode (with_incarnation s n (incarnation_of s n + 1)) n mode.Waiting)
unfolding booted
booted_field {A} field s n each = by (with_mode (with_incarnation s n (incarnation_of s n + 1)) n mode.Waiting) (sync_wait_of s.cluster n)
  where
    by : (t : StateView) (wait : SyncWait) → field (with_sync_timer t n wait) ≡ field t
    by t Unset = refl
    by t (After ms) = each t _
    by t Forever = refl

-- ---- permissions as configured

configured_cell : (c : ClusterView) (m : Node) (a : App) → IsWithin c
    → unwrap_or (slice_get (configured c m) a.0) false ≡ is_permitted c m a
unfolding configured
configured_cell c m a within = elim (cases_lt a.0 (app_count c)) [
  | inl inside ↦ unwrap_or-slice_get (configured c m) a.0 false
      ∙ get_or-map (is_permitted c m) (apps_of c) a.0 a false
      (let long : length (apps_of c) ≡ app_count c = length_apps c in omega (arith, long, inside))
      ∙ ap (is_permitted c m) (app_there c a.0 a inside)
  | inr past ↦ ap (λ (found : Option Bool). unwrap_or found false)
      (slice_get_past (configured c m) a.0
      (let long : length (configured c m) ≡ app_count c = length-configured c m in omega (arith, long, past)))
      ∙ sym (by (slice_get c.nodes m.0) refl past)
]
  where
    by : (found : Option NodeView) → slice_get c.nodes m.0 ≡ found → app_count c ≤ a.0
        → unwrap_or (option_and_then (λ (v : NodeView). slice_get v.permissions a.0) found) false ≡ false
    by None is past = refl
    by (Some v) is past = ap (λ (found : Option Bool). unwrap_or found false)
        (slice_get_past v.permissions a.0
        (let long : length v.permissions ≡ app_count c = within.permissions m.0 v is in omega (arith, long, past)))

-- ---- boot lists

row_within : (top : ℕ) (rows : List (App × Restart)) (a : App) → All (λ (e : App × Restart). e.0.0 < top) rows → has_row rows a ≡ true
    → a.0 < top
row_within top [] a all there = absurd (false≢true there)
row_within top (r ∷ rows) a all there = cases (same_app a r.0)
    (λ is. let same : a.0 ≡ r.0.0 = same_number a.0 r.0.0 is in
    let lt : r.0.0 < top = All-head (λ (e : App × Restart). e.0.0 < top) r rows all in omega (arith, same, lt))
    (λ other. row_within top rows a (All-tail (λ (e : App × Restart). e.0.0 < top) r rows all)
    (sym (ap (λ (b : Bool). b || has_row rows a) other) ∙ there))

row_there : (rows : List (App × Restart)) (j : ℕ) (d : App × Restart) → j < length rows → has_row rows (get_or rows j d).0 ≡ true
row_there rows j d lt = list_any_at (λ (row : App × Restart). same_app (get_or rows j d).0 row.0) rows j d lt
    (same_refl (get_or rows j d).0.0)

far_has : (c : ClusterView) (rows : List (App × Restart)) (a : App) → has_app (far_of c rows) a ≡ (has_row rows a && not (is_local c a))
far_has c [] a = refl
far_has c (r ∷ rows) a = cases (is_local c r.0)
    (λ t. ap (λ (rs : List (App × Restart)). has_app (apps_in rs) a)
    (filter_no (λ (x : App × Restart). not (is_local c x.0)) r rows (ap not t))
    ∙ far_has c rows a ∙ gone (same_app a r.0) (has_row rows a) (is_local c a)
    (λ is. ap (λ (i : ℕ). is_local c (app_numbered i)) (same_number a.0 r.0.0 is) ∙ t))
    (λ f. ap (λ (rs : List (App × Restart)). has_app (apps_in rs) a)
    (filter_yes (λ (x : App × Restart). not (is_local c x.0)) r rows (ap not f))
    ∙ ap (λ (b : Bool). same_app a r.0 || b) (far_has c rows a) ∙ kept (same_app a r.0) (has_row rows a) (is_local c a)
    (λ is. ap (λ (i : ℕ). is_local c (app_numbered i)) (same_number a.0 r.0.0 is) ∙ f))
  where
    gone : (q x l : Bool) → (q ≡ true → l ≡ true) → (x && not l) ≡ ((q || x) && not l)
    gone false x l so = refl
    gone true true true so = refl
    gone true false true so = refl
    gone true x false so = absurd (false≢true (so refl))

    kept : (q x l : Bool) → (q ≡ true → l ≡ false) → (q || (x && not l)) ≡ ((q || x) && not l)
    kept false x l so = refl
    kept true x false so = refl
    kept true x true so = absurd (true≢false (so refl))

-- a timer is its own
same_itself : (t : Timer) → same_timer t t ≡ true
same_itself (Sync m) = same_refl m.0
same_itself (Failover a) = same_refl a.0

none_set : (timers : List (ℕ × Timer)) → ((t : Timer) → is_some (due_among t timers) ≡ false) → timers ≡ []
none_set [] none = refl
none_set (e ∷ timers) none =
    absurd (false≢true (sym (none e.1) ∙ ap (λ (b : Bool). is_some (option_map (λ (entry : ℕ × Timer). entry.0) (cond b (Some e)
    (find (λ (entry : ℕ × Timer). same_timer e.1 entry.1) timers)))) (same_itself e.1)))

dead_not_up : (far : Mode) → is_alive far ≡ false → is_up far ≡ false
dead_not_up mode.Down dead = refl
dead_not_up mode.Waiting dead = refl
dead_not_up mode.Up dead = dead

module _ (s : StateView) (n : Node) (pick : Pick) (valid : IsValid s) (fine : refused s (event.Boot n) ≡ None) (f : StartsInOrder s.cluster)
    (last : IsLast s n) where
  abbrev c : ClusterView
  c = s.cluster

  abbrev begun : Course
  begun = now_in (course_of s [] []) (booted s n)

  abbrev risen : Course
  risen = ready_come_up begun

  can : CanBoot s n
  can = accepted_boot s n fine

  cluster_so : (booted s n).cluster ≡ c
  cluster_so = booted_field (λ (t : StateView). t.cluster) s n (λ t timers. refl)

  mode_here : mode_of (booted s n) n ≡ mode.Waiting
  mode_here = ap (λ (modes : List Mode). unwrap_or (slice_get modes n.0) mode.Down) (booted_modes s n)
      ∙ at_set_here s.modes n.0 mode.Waiting mode.Down
      (let long : length s.modes ≡ node_count c = valid.sound.shaped.modes in let lt : n.0 < node_count c = can.node in
      omega (arith, long, lt))

  mode_there : (m : Node) → m.0 ≢ n.0 → mode_of (booted s n) m ≡ mode_of s m
  mode_there m other = ap (λ (modes : List Mode). unwrap_or (slice_get modes m.0) mode.Down) (booted_modes s n)
      ∙ at_set_there s.modes n.0 m.0 mode.Waiting mode.Down other

  not_up : (m : Node) → m.0 < node_count c → is_up (mode_of s m) ≡ false
  not_up m lt = elim (cases_eq m.0 n.0) [
    | inl is ↦ ap (λ (k : ℕ). is_up (mode_of s (numbered k))) is ∙ dead_not_up (mode_of s n) can.down
    | inr other ↦ ap is_up (last.others m lt other)
  ]

  none_risen : HasRisen c (booted s n) 0 begun
  none_risen = record {
    cluster = cluster_so;
    sound = sound_changed (course_of s [] []) (event.Boot n) valid.sound fine;
    up = λ m lt. absurd (omega (arith, lt));
    rest = λ m ge lt. elim (cases_eq m.0 n.0) [
      | inl is ↦ ap (λ (k : ℕ). mode_of (booted s n) (numbered k)) is ∙ mode_here
      | inr other ↦ mode_there m other ∙ last.others m lt other
    ];
    waiting = λ m lt. absurd (omega (arith, lt));
    time = refl;
    incarnations = refl;
    running = refl;
    allowed = refl;
    restarts = λ m lt. absurd (omega (arith, lt));
    standings = λ a. booted_field (λ (t : StateView). standing_of t a) s n (λ t timers. refl) ∙ last.quiet a;
    notices = refl;
    marked = refl;
    freed = refl;
  }

  rises : HasRisen c (booted s n) (node_count c) risen
  rises = subst (HasRisen c (booted s n) (node_count c)) (sym (ready_below c begun cluster_so))
      (all_rise c (booted s n) begun none_risen (node_count c) (omega arith))

  none_runs : (m : Node) (a : App) → m.0 < node_count c → runs_at risen.state m a ≡ false
  none_runs m a lt =
      ap (λ (table : List (List App)). has_app (row table m.0) a)
      (rises.running ∙ booted_field (λ (t : StateView). t.running) s n (λ t timers. refl))
      ∙ ap (λ (apps : List App). has_app apps a) (valid.sound.idle.running m (not_up m lt))

  allowed_so : (m : Node) (a : App) → m.0 < node_count c → is_allowed risen.state m a ≡ is_permitted c m a
  allowed_so m a lt =
      ap (λ (table : List (List Bool)). cell table m.0 a.0 false)
      (rises.allowed ∙ booted_field (λ (t : StateView). t.allowed) s n (λ t timers. refl))
      ∙ ap (λ (cells : List Bool). unwrap_or (slice_get cells a.0) false) (valid.sound.idle.permissions m lt (not_up m lt))
      ∙ configured_cell c m a valid.sound.within

  at_first : AtNode c pick 0 [] [] (boot_of c (numbered 0)) risen
  unfolding nodes_of
  at_first = record {
    cluster = rises.cluster;
    sound = rises.sound;
    up = rises.up;
    standings = rises.standings;
    allowed = allowed_so;
    waits_before = λ m lt. absurd (omega (arith, lt));
    waits_here = λ lt. rises.waiting (numbered 0) lt;
    waits_later = λ m gt lt. rises.waiting m lt;
    runs_before = λ m a lt. absurd (omega (arith, lt));
    runs_here = λ a lt. none_runs (numbered 0) a lt;
    runs_later = λ m a gt lt. none_runs m a lt;
  }

  locals : EndAll c pick 0 (node_count c) risen
  locals = nodes_start c pick f.in_order (node_count c) 0 risen (omega arith) at_first

  none_placed : ArePlaced c f pick 0 locals.behind
  none_placed = record {
    cluster = locals.then.cluster;
    sound = locals.then.sound;
    up = locals.then.up;
    allowed = locals.then.allowed;
    runs = λ m a lt. locals.then.runs_before m a lt ∙ ap (λ (x : Bool). boots c m a && x) (starts_so m a);
    waits = λ m a lt. ap (λ (apps : List App). has_app apps a) (locals.then.waits_before m lt) ∙ far_has c (boot_of c m) a
        ∙ ap (λ (x : Bool). boots c m a && not x) (starts_so m a);
    standings = λ a. locals.then.standings a ∙ by (is_called c (nodes_of c) a) (nat_lt a.0 0) (f.at a) (none_below a.0);
  }
    where
      none_below : (i : ℕ) → nat_lt i 0 ≡ false
      none_below i = grind (arith, nat_tests)

      starts_so : (m : Node) (a : App) → is_local c a ≡ starts_by c f pick 0 m a
      starts_so m a = or_false (is_local c a) (nat_lt a.0 0) (nat_eq (f.at a).0 m.0) (none_below a.0)
        where
          or_false : (l x e : Bool) → x ≡ false → l ≡ (l || (x && e))
          or_false true x e is = refl
          or_false false false e is = refl
          or_false false true e is = absurd (true≢false is)

      by : (called x : Bool) (m : Node) → x ≡ false → wanted_if called ≡ stands_by called x m
      by false x m is = refl
      by true false m is = refl
      by true true m is = absurd (true≢false is)

  spread : EndPlaced c f pick 0 (app_count c) locals.behind
  spread = all_placed c f pick (app_count c) 0 locals.behind (omega arith) none_placed

  abbrev end : Course
  end = spread.behind

  h : ArePlaced c f pick (app_count c) end
  h = spread.then

  abbrev ups : List Notice
  ups = map notice.Up (nodes_of c)

  abbrev local_ones : List Notice
  local_ones = flat_map (locals_told c) (nodes_of c)

  abbrev waiting_ones : List Notice
  waiting_ones = flat_map (waits_told_at c f.at) (nodes_of c)

  comes : Comes pick risen end (local_ones ++ places_told c f pick (apps_of c))
  unfolding nodes_of apps_of
  comes = comes_on pick risen locals.behind end _ _ locals.comes spread.comes

  moved_so : all_moved pick risen ≡ end
  moved_so = comes.settles ∙ ended pick end (sym (at_rest c f pick (app_count c) end h (omega arith)))

  abbrev then : StateView
  then = (next s (event.Boot n) pick).state

  next_is : next s (event.Boot n) pick ≡ outcome_of (settled pick risen)
  unfolding next followed
  next_is = refl

  state_so : then ≡ end.state
  state_so = ap (λ (p : Outcome). p.state) next_is ∙ waits_told_state (all_moved pick risen) ∙ ap (λ (p : Course). p.state) moved_so

  -- ---- all of them are placed

  in_apps : (m : Node) (a : App) → boots c m a ≡ true → a.0 < app_count c
  in_apps m a is = row_within (app_count c) (boot_of c m) a (valid.sound.within.boot m) is

  starts_then : (m : Node) (a : App) → a.0 < app_count c → starts_by c f pick (app_count c) m a ≡ starts_at c f.at m a
  starts_then m a lt = by (is_local c a) (nat_lt a.0 (app_count c)) (nat_eq (f.at a).0 m.0) (lt_yes a.0 (app_count c) lt)
    where
      by : (l x e : Bool) → x ≡ true → (l || (x && e)) ≡ cond l true e
      by true x e is = refl
      by false true e is = refl
      by false false e is = absurd (false≢true is)

  booted_so : (m : Node) (a : App) (F : Bool → Bool)
      → (boots c m a && F (starts_by c f pick (app_count c) m a)) ≡ (boots c m a && F (starts_at c f.at m a))
  booted_so m a F = cases (boots c m a)
      (λ t. ap (λ (x : Bool). boots c m a && F x) (starts_then m a (in_apps m a t)))
      (λ not_there. (λ i. not_there i && F (starts_by c f pick (app_count c) m a)) ∙ (λ i. sym not_there i && F (starts_at c f.at m a)))

  runs_then : (m : Node) (a : App) → m.0 < node_count c → runs_at end.state m a ≡ (boots c m a && starts_at c f.at m a)
  runs_then m a lt = h.runs m a lt ∙ booted_so m a (λ (x : Bool). x)

  waits_then : (m : Node) (a : App) → m.0 < node_count c → waits_at end.state m a ≡ (boots c m a && not (starts_at c f.at m a))
  waits_then m a lt = h.waits m a lt ∙ booted_so m a not

  stands_then : (a : App) → standing_of end.state a ≡ standing_then c f.at a
  stands_then a = h.standings a ∙ by (is_booted c a) (is_local c a) (nat_lt a.0 (app_count c)) (f.at a)
      (λ t. let one : (m : Node) × (boots c m a ≡ true) = some_of_any (λ (m : Node). boots c m a) (nodes_of c) t in
      lt_yes a.0 (app_count c) (in_apps one.0 a one.1))
    where
      by : (b l x : Bool) (m : Node) → (b ≡ true → x ≡ true) → stands_by (b && not l) x m ≡ cond (not l && b) (Running m) Quiet
      by true true x m so = refl
      by true false true m so = refl
      by true false false m so = absurd (false≢true (so refl))
      by false true x m so = refl
      by false false x m so = refl

  -- ---- no timer is set

  is_sound : IsSound then
  is_sound = (next_valid s (event.Boot n) pick valid fine).sound

  not_waiting : (m : Node) → is_waiting (mode_of then m) ≡ false
  not_waiting m = elim (cases_lt m.0 (node_count c)) [
    | inl lt ↦ ap (λ (t : StateView). is_waiting (mode_of t m)) state_so ∙ ap is_waiting (h.up m lt)
    | inr past ↦ ap (λ (found : Option Mode). is_waiting (unwrap_or found mode.Down))
        (slice_get_past then.modes m.0 (let long : length then.modes ≡ node_count then.cluster = is_sound.shaped.modes in
        let same : node_count then.cluster ≡ node_count c = ap (λ (t : StateView). node_count t.cluster) state_so
        ∙ ap (λ (d : ClusterView). node_count d) h.cluster in
        omega (arith, long, same, past)))
  ]

  not_lost : (a : App) → is_lost (standing_of then a) ≡ false
  not_lost a = ap (λ (t : StateView). is_lost (standing_of t a)) state_so ∙ ap is_lost (stands_then a)
      ∙ by (not (is_local c a) && is_booted c a)
    where
      by : (b : Bool) → is_lost (cond b (Running (f.at a)) Quiet) ≡ false
      by true = refl
      by false = refl

  none_due : (t : Timer) → is_some (due_of then t) ≡ false
  none_due (Sync m) = is_sound.timers.sync m ∙ ap (λ (b : Bool). b && is_timed (sync_wait_of then.cluster m)) (not_waiting m)
  none_due (Failover a) = is_sound.timers.failover a ∙ not_lost a

  -- ---- so it stands

  incarnations_so : then.incarnations ≡ slice_set s.incarnations n.0 (incarnation_of s n + 1)
  incarnations_so = ap (λ (p : Outcome). p.state.incarnations) next_is ∙ settled_incarnations pick risen ∙ rises.incarnations
      ∙ booted_field (λ (t : StateView). t.incarnations) s n (λ t timers. refl)

  stands : HasStarted s n f.at then
  stands = record {
    cluster = ap (λ (t : StateView). t.cluster) state_so ∙ h.cluster;
    time = ap (λ (p : Outcome). p.state.time) next_is ∙ settled_time pick risen ∙ rises.time
        ∙ booted_field (λ (t : StateView). t.time) s n (λ t timers. refl);
    timers = none_set then.timers none_due;
    up = λ m lt. ap (λ (t : StateView). mode_of t m) state_so ∙ h.up m lt;
    begun = ap (λ (counts : List ℕ). slice_index counts n.0) incarnations_so
        ∙ get_or-set_same s.incarnations n.0 (incarnation_of s n + 1) 0
        (let long : length s.incarnations ≡ node_count c = valid.sound.shaped.incarnations in let lt : n.0 < node_count c = can.node in
        omega (arith, long, lt));
    others = λ m other. ap (λ (counts : List ℕ). slice_index counts m.0) incarnations_so
        ∙ get_or-set_other s.incarnations n.0 m.0 (incarnation_of s n + 1) 0 other;
    runs = λ m a lt. ap (λ (t : StateView). runs_at t m a) state_so ∙ runs_then m a lt;
    waits = λ m a lt. ap (λ (t : StateView). waits_at t m a) state_so ∙ waits_then m a lt;
    restarts = λ m lt j d l.
        ap (λ (table : List (List Restart)). restart_in table m (get_or (boot_of c m) j d).0)
        (ap (λ (p : Outcome). p.state.restarts) next_is ∙ settled_restarts pick risen) ∙ rises.restarts m lt j d l;
    standings = λ a. ap (λ (t : StateView). standing_of t a) state_so ∙ stands_then a;
  }
    where
      restart_in : List (List Restart) → Node → App → Restart
      restart_in table m a = restart_of (record s { restarts = table }) m a

  -- ---- and so it is told

  wait_on : (m : Node) → m.0 < node_count c → WaitOn end.state c f.at m
  wait_on m lt j d l = waits_then m (get_or (boot_of c m) j d).0 lt
      ∙ ap (λ (b : Bool). b && not (starts_at c f.at m (get_or (boot_of c m) j d).0)) (row_there (boot_of c m) j d l)

  spread_so : places_told c f pick (apps_of c) ≡ spread_told c f.at
  spread_so = ap (map (λ (a : App). notice.Started a (f.at a) kind.Normal None))
      (filter_same (is_called_there c f pick) (λ (a : App). not (is_local c a) && is_booted c a) (apps_of c)
      (λ a. by (is_booted c a) (is_local c a)))
    where
      by : (b l : Bool) → (b && not l) ≡ (not l && b)
      by true true = refl
      by true false = refl
      by false true = refl
      by false false = refl

  told_before : end.notices ≡ (ups ++ local_ones) ++ spread_told c f.at
  unfolding nodes_of apps_of
  told_before = comes.tells ∙ ap (λ (ns : List Notice). ns ++ (local_ones ++ places_told c f pick (apps_of c))) rises.notices
      ∙ ap (λ (ns : List Notice). ups ++ (local_ones ++ ns)) spread_so ∙ sym (append_assoc ups local_ones (spread_told c f.at))

  told_waits : waits_of end.state end.marked ≡ waiting_ones
  unfolding nodes_of
  told_waits = ap (waits_of end.state) (comes.marks ∙ rises.marked) ∙ nodes_told end.state c f.at (nodes_of c) (all_nodes c) wait_on

  tells_all : (next s (event.Boot n) pick).notices ≡ start_told c f.at
  tells_all = ap (λ (p : Outcome). p.notices) next_is ∙ ap (λ (p : Course). (waits_told p).notices) moved_so ∙ tells end.marked end
      ∙ ap (λ (ns : List Notice). ns ++ waits_of end.state end.marked) told_before
      ∙ ap (λ (ns : List Notice). ((ups ++ local_ones) ++ spread_told c f.at) ++ ns) told_waits

pub last_boots_start_all : LastBootsStartAll
last_boots_start_all s n pick valid fine f last = (stands s n pick valid fine f last, tells_all s n pick valid fine f last)
