-- Two valid states of one cluster with one report are alike in all that it shows.
use Rattle.std.proofs.Common.{◌≡◌, ◌≢◌, ◌<◌, ◌^◌, ℕ, Bool, true, false, List, [], ◌∷◌, length, map, get_or, slice_get, unwrap_or, codes, refl, sym, ap, ◌∙◌, subst, arith}
use Rattle.std.specs.List.{flat_map}
use Rattle.std.specs.Fmt.{decimal}
use Rattle.std.proofs.lemmas.Fmt.{decimal_injective}
use Rattle.std.proofs.lemmas.List.{append_cancel_left, ext_get_or}
use Rattle.std.proofs.lemmas.Option.{unwrap_or-slice_get}
use Rattle.rh_model.specs.ClusterView.{ClusterView, IsWithin, node_count, app_count, numbered, app_numbered}
use Rattle.rh_model.specs.declared.node.Node.{Node}
use Rattle.rh_model.specs.declared.node.App.{App}
use Rattle.rh_state.specs.declared.status.Mode.TheVariants.{Down}
use Rattle.rh_state.specs.declared.status.Standing.TheVariants.{Quiet}
use Rattle.rh_state.specs.declared.status.Timer.{Timer}
use Rattle.rh_state.specs.Lists.{has_app}
use Rattle.rh_state.specs.Numbers.{nodes_of, apps_of, same_app}
use Rattle.rh_state.specs.Shape.{IsAppOf, IsTimerOf}
use Rattle.rh_state.specs.Tables.{row}
use Rattle.rh_state.specs.StateView.{StateView, running_at, waiting_at, runs_at, waits_at, is_allowed, restart_of, kind_of, standing_of}
use Rattle.rh_rules.specs.Course.{is_local}
use Rattle.rh_trace.specs.Validity.{IsSound}
use Rattle.rh_base.proofs.Lists.{cases}
use Rattle.rh_base.proofs.Truths.{same_number}
use Rattle.rh_trace.proofs.Entries.{either, row_there}
use Rattle.rh_trace.proofs.Every.{Every}
use Rattle.rh_trace.proofs.Numbered.{length_nodes, node_there, length_apps, app_there}
use Rattle.rh_laws.specs.Reports.{HasPlainNames, IsAlike, ReportTellsState}
use Rattle.rh_laws.proofs.Texts.{ended, same_lines, head_same, tail_same, unless, every_at, every_unless, mark_of, Opens, opens_append, split, same_elements, same_where}
use Rattle.rh_laws.proofs.ReportLines.{time_bytes, stands_line, timer_bytes, forbidden_bytes, lines_from, last_lines, lines_of, report_is, Fits, lines_unbroken}
use Rattle.rh_laws.proofs.ShownParts.{same_forbidden, same_standing, same_timer_line}
use Rattle.rh_laws.proofs.ShownNodes.{SameNode, Outside, marked, same_nodes}
use Rattle.rh_laws.proofs.StateFits.{fits_cluster, nodes_within, apps_within, apps_apart}

-- ---- behind the nodes stand applications and timers
stands_no : (c : ClusterView) (s : StateView) (k : ℕ) → (32 ≡ k → ⊥) → Every (λ (l : List ℕ). mark_of l ≢ k) (unless (is_local c) (stands_line c s) (apps_of c))
stands_no c s k other = every_unless (λ (l : List ℕ). mark_of l ≢ k) (is_local c) (stands_line c s) (apps_of c)
    (marked (λ (l : List ℕ). mark_of l ≢ k) (stands_line c s) (apps_of c) (λ a. other))

timers_open : (c : ClusterView) (timers : List (ℕ × Timer)) (k : ℕ) → (101 ≡ k → ⊥) → Opens k (map (timer_bytes c) timers)
timers_open c [] k other = tt
timers_open c (x ∷ timers) k other = other

last_opens : (c : ClusterView) (s : StateView) (k : ℕ) → (32 ≡ k → ⊥) → (101 ≡ k → ⊥) → Opens k (last_lines c s)
last_opens c s k other another = opens_append k (unless (is_local c) (stands_line c s) (apps_of c)) (map (timer_bytes c) s.timers)
    (stands_no c s k other) (timers_open c s.timers k another)

last_outside : (c : ClusterView) (s : StateView) → Outside (last_lines c s)
last_outside c s = record {
  runs = last_opens c s 117 (λ e. absurd (omega (arith, e))) (λ e. absurd (omega (arith, e)));
  waits = last_opens c s 97 (λ e. absurd (omega (arith, e))) (λ e. absurd (omega (arith, e)));
  may_not = last_opens c s 111 (λ e. absurd (omega (arith, e))) (λ e. absurd (omega (arith, e)));
}

-- ---- what equal reports say, by parts
record Told (c : ClusterView) (s t : StateView) : Type 0 where
  time : s.time ≡ t.time
  nodes : Every (SameNode c s t) (nodes_of c)
  standings : Every (λ (a : App). is_local c a ≡ false → stands_line c s a ≡ stands_line c t a) (apps_of c)
  timers : s.timers ≡ t.timers

told : (c : ClusterView) (s t : StateView) → IsSound s → s.cluster ≡ c → HasPlainNames c → Fits c s → Fits c t → lines_of c s ≡ lines_of c t → Told c s t
told c s t sound is names fs ft e =
    let within = subst IsWithin is sound.within in
    let apart = apps_apart c (forbidden_bytes c) (λ a b ah bh k. same_forbidden c within names a b ah bh k) in
    let first = head_same (time_bytes s) (time_bytes t) (lines_from c s (nodes_of c) (last_lines c s)) (lines_from c t (nodes_of c) (last_lines c t)) e in
    let rest = tail_same (time_bytes s) (time_bytes t) (lines_from c s (nodes_of c) (last_lines c s)) (lines_from c t (nodes_of c) (last_lines c t)) e in
    let nodes = same_nodes c within names s t fs ft apart (nodes_of c) (last_lines c s) (last_lines c t) (nodes_within c) (last_outside c s) (last_outside c t) rest in
    let last = split 32 (unless (is_local c) (stands_line c s) (apps_of c)) (unless (is_local c) (stands_line c t) (apps_of c))
    (map (timer_bytes c) s.timers) (map (timer_bytes c) t.timers)
    (every_unless (λ (l : List ℕ). mark_of l ≡ 32) (is_local c) (stands_line c s) (apps_of c)
    (marked (λ (l : List ℕ). mark_of l ≡ 32) (stands_line c s) (apps_of c) (λ a. refl)))
    (every_unless (λ (l : List ℕ). mark_of l ≡ 32) (is_local c) (stands_line c t) (apps_of c)
    (marked (λ (l : List ℕ). mark_of l ≡ 32) (stands_line c t) (apps_of c) (λ a. refl)))
    (timers_open c s.timers 32 (λ k. absurd (omega (arith, k)))) (timers_open c t.timers 32 (λ k. absurd (omega (arith, k))))
    nodes.1 in
    record {
      time = decimal_injective s.time t.time fs.time ft.time (append_cancel_left (codes "now ") (decimal s.time) (decimal t.time) first);
      nodes = nodes.0;
      standings = same_where (is_local c) (stands_line c s) (stands_line c t) (apps_of c) last.0;
      timers = same_elements (λ (entry : ℕ × Timer). IsTimerOf c entry.1 × (entry.0 < 2 ^ 64)) (timer_bytes c) (timer_bytes c) s.timers t.timers
          (λ x y xh yh k. same_timer_line c within names x y xh yh k) fs.timers ft.timers last.1;
    }

-- ---- so the states are alike
at_node : (c : ClusterView) (P : Node → Type 0) → Every P (nodes_of c) → (i : ℕ) → i < node_count c → P (numbered i)
at_node c P each i l = subst P (node_there c i (numbered i) l)
    (every_at P (nodes_of c) i (numbered i) each (let e = length_nodes c in omega (arith, e, l)))

at_app : (c : ClusterView) (P : App → Type 0) → Every P (apps_of c) → (i : ℕ) → i < app_count c → P (app_numbered i)
at_app c P each i l = subst P (app_there c i (app_numbered i) l)
    (every_at P (apps_of c) i (app_numbered i) each (let e = length_apps c in omega (arith, e, l)))

-- what holds of each application of a list holds of one that it has
of_list : (P : App → Type 0) (apps : List App) (a : App) → Every P apps → has_app apps a ≡ true → P a
of_list P [] a h on = absurd (cc on)
of_list P (b ∷ apps) a h on = either (same_app a b) (has_app apps a) on
    (λ t. subst P (ap app_numbered (sym (same_number a.0 b.0 t))) h.0)
    (λ later. of_list P apps a h.1 later)

module _ (c : ClusterView) (s t : StateView) (vs : IsSound s) (vt : IsSound t) (is : s.cluster ≡ c) (same : t.cluster ≡ c) (names : HasPlainNames c) (fs : Fits c s)
    (ft : Fits c t) (h : Told c s t) where
  nodes_in : {A : Type 0} (xs ys : List A) → length xs ≡ node_count s.cluster → length ys ≡ node_count t.cluster → length xs ≡ length ys
  nodes_in xs ys long size = long ∙ ap node_count is ∙ sym (size ∙ ap node_count same)

  apps_in : {A : Type 0} (xs ys : List A) → length xs ≡ app_count s.cluster → length ys ≡ app_count t.cluster → length xs ≡ length ys
  apps_in xs ys long size = long ∙ ap app_count is ∙ sym (size ∙ ap app_count same)

  node : (i : ℕ) → i < node_count s.cluster → SameNode c s t (numbered i)
  node i l = at_node c (SameNode c s t) h.nodes i (subst (λ (k : ClusterView). i < node_count k) is l)

  app_inside : (i : ℕ) → i < app_count s.cluster → i < app_count c
  app_inside i l = subst (λ (k : ClusterView). i < app_count k) is l

  modes : s.modes ≡ t.modes
  modes = ext_get_or Down s.modes t.modes (nodes_in s.modes t.modes vs.shaped.modes vt.shaped.modes)
      (λ i l. sym (unwrap_or-slice_get s.modes i Down) ∙ (node i (let e = vs.shaped.modes in omega (arith, e, l))).mode ∙ unwrap_or-slice_get t.modes i Down)

  incarnations : s.incarnations ≡ t.incarnations
  incarnations = ext_get_or 0 s.incarnations t.incarnations (nodes_in s.incarnations t.incarnations vs.shaped.incarnations vt.shaped.incarnations)
      (λ i l. (node i (let e = vs.shaped.incarnations in omega (arith, e, l))).incarnation)

  running : s.running ≡ t.running
  running = ext_get_or [] s.running t.running (nodes_in s.running t.running vs.shaped.running vt.shaped.running)
      (λ i l. sym (unwrap_or-slice_get s.running i []) ∙ (node i (let e = vs.shaped.running in omega (arith, e, l))).running ∙ unwrap_or-slice_get t.running i [])

  waiting : s.waiting ≡ t.waiting
  waiting = ext_get_or [] s.waiting t.waiting (nodes_in s.waiting t.waiting vs.shaped.waiting vt.shaped.waiting)
      (λ i l. sym (unwrap_or-slice_get s.waiting i []) ∙ (node i (let e = vs.shaped.waiting in omega (arith, e, l))).waiting ∙ unwrap_or-slice_get t.waiting i [])

  allowed : s.allowed ≡ t.allowed
  allowed = ext_get_or [] s.allowed t.allowed (nodes_in s.allowed t.allowed vs.shaped.allowed vt.shaped.allowed) each
    where
      each : (i : ℕ) → i < length s.allowed → get_or s.allowed i [] ≡ get_or t.allowed i []
      each i l =
          let long = vs.shaped.allowed_rows i [] l in
          let size = vt.shaped.allowed_rows i [] (let e = nodes_in s.allowed t.allowed vs.shaped.allowed vt.shaped.allowed in omega (arith, e, l)) in
          let inside = node i (let e = vs.shaped.allowed in omega (arith, e, l)) in
          let xs : List Bool = get_or s.allowed i [] in
          let ys : List Bool = get_or t.allowed i [] in
          let seen : row s.allowed i ≡ xs = unwrap_or-slice_get s.allowed i [] in
          let shown : row t.allowed i ≡ ys = unwrap_or-slice_get t.allowed i [] in
          ext_get_or false xs ys (apps_in xs ys long size)
          (λ j k. sym (unwrap_or-slice_get xs j false)
          ∙ ap (λ (cells : List Bool). unwrap_or (slice_get cells j) false) (sym seen)
          ∙ at_app c (λ (a : App). is_allowed s (numbered i) a ≡ is_allowed t (numbered i) a) inside.allowed j (app_inside j (omega (arith, k, long)))
          ∙ ap (λ (cells : List Bool). unwrap_or (slice_get cells j) false) shown
          ∙ unwrap_or-slice_get ys j false)

  standing : (a : App) → IsAppOf c a → standing_of s a ≡ standing_of t a
  standing a l = cases (is_local c a)
      (λ local. vs.standing.local a (ap (λ (k : ClusterView). is_local k a) is ∙ local)
      ∙ sym (vt.standing.local a (ap (λ (k : ClusterView). is_local k a) same ∙ local)))
      (λ far. same_standing c (subst IsWithin is vs.within) names a (standing_of s a) (standing_of t a) (fs.standings a l) (ft.standings a l)
      (at_app c (λ (b : App). is_local c b ≡ false → stands_line c s b ≡ stands_line c t b) h.standings a.0 l far))

  standings : s.standings ≡ t.standings
  standings = ext_get_or Quiet s.standings t.standings (apps_in s.standings t.standings vs.shaped.standings vt.shaped.standings)
      (λ i l. sym (unwrap_or-slice_get s.standings i Quiet)
      ∙ standing (app_numbered i) (app_inside i (let e = vs.shaped.standings in omega (arith, e, l)))
      ∙ unwrap_or-slice_get t.standings i Quiet)

  runs_node : (n : Node) (a : App) → runs_at s n a ≡ true → SameNode c s t n
  runs_node n a on = node n.0 (let k = row_there s.running n.0 a on in let e = vs.shaped.running in omega (arith, k, e))

  waits_node : (n : Node) (a : App) → waits_at s n a ≡ true → SameNode c s t n
  waits_node n a on = node n.0 (let k = row_there s.waiting n.0 a on in let e = vs.shaped.waiting in omega (arith, k, e))

  ran : (n : Node) (a : App) → runs_at s n a ≡ true → (restart_of s n a ≡ restart_of t n a) × (kind_of s n a ≡ kind_of t n a)
  ran n a on = of_list (λ (b : App). (restart_of s n b ≡ restart_of t n b) × (kind_of s n b ≡ kind_of t n b)) (running_at s n) a (runs_node n a on).ran on

  alike : IsAlike s t
  alike = record {
    time = h.time;
    modes = modes;
    incarnations = incarnations;
    running = running;
    waiting = waiting;
    restarts = λ n a on. either (runs_at s n a) (waits_at s n a) on
        (λ r. (ran n a r).0)
        (λ w. of_list (λ (b : App). restart_of s n b ≡ restart_of t n b) (waiting_at s n) a (waits_node n a w).waited w);
    kinds = λ n a on. (ran n a on).1;
    allowed = allowed;
    standings = standings;
    timers = h.timers;
  }

pub report_tells_state : ReportTellsState
report_tells_state s t vs vt ds dt same names e =
    let c : ClusterView = s.cluster in
    let fs : Fits c s = fits_cluster s vs.sound ds in
    let ft : Fits c t = subst (λ (k : ClusterView). Fits k t) (sym same) (fits_cluster t vt.sound dt) in
    let within = vs.sound.within in
    let lines : lines_of c s ≡ lines_of c t = same_lines (lines_of c s) (lines_of c t)
    (lines_unbroken c within names s fs (nodes_within c) (apps_within c))
    (lines_unbroken c within names t ft (nodes_within c) (apps_within c))
    (sym (report_is s) ∙ e ∙ report_is t ∙ ap (λ (k : ClusterView). flat_map ended (lines_of k t)) (sym same)) in
    alike c s t vs.sound vt.sound refl (sym same) names fs ft (told c s t vs.sound refl names fs ft lines)
