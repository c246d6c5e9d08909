-- A report as the list of its lines.
use Rattle.std.proofs.Common.{◌≡◌, ◌<◌, ◌^◌, ℕ, true, cond, List, [], ◌∷◌, ◌++◌, map, codes, refl, sym, ap, ◌∙◌, append_assoc}
use Rattle.std.specs.List.{flat_map}
use Rattle.std.specs.Fmt.{decimal}
use Rattle.std.proofs.lemmas.Grind.{flat_map-append}
use Rattle.rh_model.specs.ClusterView.{ClusterView, IsWithin}
use Rattle.rh_model.specs.declared.node.Node.{Node}
use Rattle.rh_model.specs.declared.node.App.{App}
use Rattle.rh_model.specs.declared.settings.Restart.{Restart}
use Rattle.rh_state.specs.declared.status.Kind.{Kind}
use Rattle.rh_state.specs.declared.status.Standing.{Standing}
use Rattle.rh_state.specs.declared.status.Timer.{Timer}
use Rattle.rh_state.specs.declared.status.Timer.TheVariants.{Sync, Failover}
use Rattle.rh_state.specs.Numbers.{nodes_of, apps_of}
use Rattle.rh_state.specs.Shape.{IsNodeOf, IsAppOf, IsKindOf, IsStandingOf, IsTimerOf}
use Rattle.rh_state.specs.StateView.{StateView, mode_of, incarnation_of, running_at, waiting_at, restart_of, kind_of, is_allowed, standing_of}
use Rattle.rh_rules.specs.Course.{is_local}
use Rattle.rh_calls.specs.Report.{node_word, app_word, mode_words, restart_words, kind_words, standing_words, timer_words}
use Rattle.rh_calls.specs.Report.{node_line, running_line, waiting_line, forbidden_line, line_if_forbidden, standing_line, app_line, timer_line, node_lines, report_text}
use Rattle.rh_trace.proofs.Every.{Every}
use Rattle.rh_laws.specs.Reports.{HasPlainNames}
use Rattle.rh_laws.proofs.Texts.{free, free_append, ended, each_line, unless, unless_line, every_append, every_map, every_unless}
use Rattle.rh_laws.proofs.ShownWords.{number_line, node_free, app_free, kind_free, standing_free, restart_free, mode_free}

-- ---- the lines, without what ends them
abbrev pub time_bytes : StateView → List ℕ
time_bytes s = codes "now " ++ decimal s.time

abbrev pub node_bytes : ClusterView → StateView → Node → List ℕ
node_bytes c s n = codes "node " ++ node_word c n ++ codes " " ++ mode_words (mode_of s n) ++ codes " " ++ decimal (incarnation_of s n)

abbrev pub running_bytes : ClusterView → App → Restart → Kind → List ℕ
running_bytes c a r k = codes "  running " ++ app_word c a ++ codes " " ++ restart_words r ++ codes " " ++ kind_words c k

abbrev pub waiting_bytes : ClusterView → App → Restart → List ℕ
waiting_bytes c a r = codes "  waiting " ++ app_word c a ++ codes " " ++ restart_words r

abbrev pub forbidden_bytes : ClusterView → App → List ℕ
forbidden_bytes c a = codes "  forbidden " ++ app_word c a

abbrev pub standing_bytes : ClusterView → App → Standing → List ℕ
standing_bytes c a at = codes "app " ++ app_word c a ++ codes " " ++ standing_words c at

abbrev pub timer_bytes : ClusterView → ℕ × Timer → List ℕ
timer_bytes c entry = codes "timer " ++ timer_words c entry.1 ++ codes " " ++ decimal entry.0

-- ---- those of a part
abbrev pub runs_line : ClusterView → StateView → Node → App → List ℕ
runs_line c s n a = running_bytes c a (restart_of s n a) (kind_of s n a)

abbrev pub waits_line : ClusterView → StateView → Node → App → List ℕ
waits_line c s n a = waiting_bytes c a (restart_of s n a)

abbrev pub stands_line : ClusterView → StateView → App → List ℕ
stands_line c s a = standing_bytes c a (standing_of s a)

-- the nodes, one after the other, and what is behind them
abbrev pub lines_from : ClusterView → StateView → List Node → List (List ℕ) → List (List ℕ)
lines_from c s [] rest = rest
lines_from c s (n ∷ ns) rest = node_bytes c s n ∷ (map (runs_line c s n) (running_at s n) ++ (map (waits_line c s n) (waiting_at s n)
    ++ (unless (is_allowed s n) (forbidden_bytes c) (apps_of c) ++ lines_from c s ns rest)))

abbrev pub last_lines : ClusterView → StateView → List (List ℕ)
last_lines c s = unless (is_local c) (stands_line c s) (apps_of c) ++ map (timer_bytes c) s.timers

abbrev pub lines_of : ClusterView → StateView → List (List ℕ)
lines_of c s = time_bytes s ∷ lines_from c s (nodes_of c) (last_lines c s)

-- ---- the report is these lines
six : (a b c d e f : List ℕ) → ((((a ++ b) ++ c) ++ d) ++ e) ++ f ≡ a ++ (b ++ (c ++ (d ++ (e ++ f))))
six a b c d e f = simp append_assoc

four : (a b c d : List ℕ) → ((a ++ b) ++ c) ++ d ≡ a ++ (b ++ (c ++ d))
four a b c d = simp append_assoc

three_parts : (xs ys zs ws : List (List ℕ)) → flat_map ended xs ++ (flat_map ended ys ++ (flat_map ended zs ++ flat_map ended ws))
    ≡ flat_map ended (xs ++ (ys ++ (zs ++ ws)))
three_parts xs ys zs ws =
    ap (λ t. flat_map ended xs ++ (flat_map ended ys ++ t)) (sym (flat_map-append ended zs ws))
    ∙ ap (λ t. flat_map ended xs ++ t) (sym (flat_map-append ended ys (zs ++ ws)))
    ∙ sym (flat_map-append ended xs (ys ++ (zs ++ ws)))

nodes_are : (s : StateView) (ns : List Node) (rest : List (List ℕ))
    → flat_map (node_lines s) ns ++ flat_map ended rest ≡ flat_map ended (lines_from s.cluster s ns rest)
unfolding node_lines node_line running_line waiting_line line_if_forbidden forbidden_line
nodes_are s [] rest = refl
nodes_are s (n ∷ ns) rest =
    let c : ClusterView = s.cluster in
    let runs : List (List ℕ) = map (runs_line c s n) (running_at s n) in
    let waits : List (List ℕ) = map (waits_line c s n) (waiting_at s n) in
    let may_not : List (List ℕ) = unless (is_allowed s n) (forbidden_bytes c) (apps_of c) in
    six (ended (node_bytes c s n)) (flat_map (λ (a : App). ended (runs_line c s n a)) (running_at s n))
    (flat_map (λ (a : App). ended (waits_line c s n a)) (waiting_at s n))
    (flat_map (λ (a : App). cond (is_allowed s n a) [] (ended (forbidden_bytes c a))) (apps_of c))
    (flat_map (node_lines s) ns) (flat_map ended rest)
    ∙ (λ i. ended (node_bytes c s n) ++ (each_line (runs_line c s n) (running_at s n) i ++ (each_line (waits_line c s n) (waiting_at s n) i
    ++ (unless_line (is_allowed s n) (forbidden_bytes c) (apps_of c) i ++ nodes_are s ns rest i))))
    ∙ ap (λ t. ended (node_bytes c s n) ++ t) (three_parts runs waits may_not (lines_from c s ns rest))

pub report_is : (s : StateView) → report_text s ≡ flat_map ended (lines_of s.cluster s)
unfolding app_line standing_line timer_line
report_is s =
    let c : ClusterView = s.cluster in
    four (ended (time_bytes s)) (flat_map (node_lines s) (nodes_of c))
    (flat_map (λ (a : App). cond (is_local c a) [] (ended (stands_line c s a))) (apps_of c))
    (flat_map (λ (entry : ℕ × Timer). ended (timer_bytes c entry)) s.timers)
    ∙ ap (λ t. ended (time_bytes s) ++ (flat_map (node_lines s) (nodes_of c) ++ t))
    ((λ i. unless_line (is_local c) (stands_line c s) (apps_of c) i ++ each_line (timer_bytes c) s.timers i)
    ∙ sym (flat_map-append ended (unless (is_local c) (stands_line c s) (apps_of c)) (map (timer_bytes c) s.timers)))
    ∙ ap (λ t. ended (time_bytes s) ++ t) (nodes_are s (nodes_of c) (last_lines c s))

-- ---- what the numbers of a state are, by a cluster
pub record Fits (c : ClusterView) (s : StateView) : Type 0 where
  pub time : s.time < 2 ^ 64
  pub incarnations : (n : Node) → IsNodeOf c n → incarnation_of s n < 2 ^ 64
  pub running : (n : Node) → IsNodeOf c n → Every (IsAppOf c) (running_at s n)
  pub waiting : (n : Node) → IsNodeOf c n → Every (IsAppOf c) (waiting_at s n)
  pub kinds : (n : Node) (a : App) → IsNodeOf c n → IsAppOf c a → IsKindOf c (kind_of s n a)
  pub standings : (a : App) → IsAppOf c a → IsStandingOf c (standing_of s a)
  pub timers : Every (λ (entry : ℕ × Timer). IsTimerOf c entry.1 × (entry.0 < 2 ^ 64)) s.timers

-- ---- no line ends within
module _ (c : ClusterView) (within : IsWithin c) (names : HasPlainNames c) (s : StateView) (fits : Fits c s) where
  abbrev Unbroken : List ℕ → Type 0
  Unbroken line = free 10 line ≡ true

  join : (xs ys : List ℕ) → free 10 xs ≡ true → free 10 ys ≡ true → free 10 (xs ++ ys) ≡ true
  join xs ys h k = free_append 10 xs ys h k

  node_unbroken : (n : Node) → IsNodeOf c n → Unbroken (node_bytes c s n)
  node_unbroken n h =
      let w = codes "node " ++ node_word c n in
      let m = mode_words (mode_of s n) in
      join (w ++ codes " " ++ m ++ codes " ") (decimal (incarnation_of s n))
      (join (w ++ codes " " ++ m) (codes " ")
      (join (w ++ codes " ") m (join w (codes " ") (node_free c within names n h) refl) (mode_free (mode_of s n)))
      refl)
      (number_line (incarnation_of s n) (fits.incarnations n h))

  waits_unbroken : (n : Node) (a : App) → IsAppOf c a → Unbroken (waits_line c s n a)
  waits_unbroken n a h =
      let w = codes "  waiting " ++ app_word c a in
      join (w ++ codes " ") (restart_words (restart_of s n a)) (join w (codes " ") (app_free c within names a h) refl) (restart_free (restart_of s n a))

  runs_unbroken : (n : Node) (a : App) → IsNodeOf c n → IsAppOf c a → Unbroken (runs_line c s n a)
  runs_unbroken n a node h =
      let w = codes "  running " ++ app_word c a in
      let r = restart_words (restart_of s n a) in
      join (w ++ codes " " ++ r ++ codes " ") (kind_words c (kind_of s n a))
      (join (w ++ codes " " ++ r) (codes " ")
      (join (w ++ codes " ") r (join w (codes " ") (app_free c within names a h) refl) (restart_free (restart_of s n a)))
      refl)
      (kind_free c within names (kind_of s n a) (fits.kinds n a node h))

  forbidden_unbroken : (a : App) → IsAppOf c a → Unbroken (forbidden_bytes c a)
  forbidden_unbroken a h = app_free c within names a h

  stands_unbroken : (a : App) → IsAppOf c a → Unbroken (stands_line c s a)
  stands_unbroken a h =
      let w = codes "app " ++ app_word c a in
      join (w ++ codes " ") (standing_words c (standing_of s a)) (join w (codes " ") (app_free c within names a h) refl)
      (standing_free c within names (standing_of s a) (fits.standings a h))

  timer_free : (t : Timer) → IsTimerOf c t → free 10 (codes "timer " ++ timer_words c t) ≡ true
  timer_free (Sync n) h = node_free c within names n h
  timer_free (Failover a) h = app_free c within names a h

  timer_unbroken : (entry : ℕ × Timer) → IsTimerOf c entry.1 × (entry.0 < 2 ^ 64) → Unbroken (timer_bytes c entry)
  timer_unbroken entry h =
      let w = codes "timer " ++ timer_words c entry.1 in
      join (w ++ codes " ") (decimal entry.0) (join w (codes " ") (timer_free entry.1 h.0) refl) (number_line entry.0 h.1)

  nodes_unbroken : (ns : List Node) (rest : List (List ℕ)) → Every (IsNodeOf c) ns → Every (IsAppOf c) (apps_of c) → Every Unbroken rest
      → Every Unbroken (lines_from c s ns rest)
  nodes_unbroken [] rest h apps k = k
  nodes_unbroken (n ∷ ns) rest h apps k = (
    node_unbroken n h.0,
    every_append Unbroken (map (runs_line c s n) (running_at s n)) _
        (every_map (IsAppOf c) Unbroken (runs_line c s n) (running_at s n) (λ a g. runs_unbroken n a h.0 g) (fits.running n h.0))
        (every_append Unbroken (map (waits_line c s n) (waiting_at s n)) _
        (every_map (IsAppOf c) Unbroken (waits_line c s n) (waiting_at s n) (λ a g. waits_unbroken n a g) (fits.waiting n h.0))
        (every_append Unbroken (unless (is_allowed s n) (forbidden_bytes c) (apps_of c)) (lines_from c s ns rest)
        (every_unless Unbroken (is_allowed s n) (forbidden_bytes c) (apps_of c)
        (every_map (IsAppOf c) Unbroken (forbidden_bytes c) (apps_of c) forbidden_unbroken apps))
        (nodes_unbroken ns rest h.1 apps k))),
  )

  pub lines_unbroken : Every (IsNodeOf c) (nodes_of c) → Every (IsAppOf c) (apps_of c) → Every Unbroken (lines_of c s)
  lines_unbroken nodes apps = (
    number_line s.time fits.time,
    nodes_unbroken (nodes_of c) (last_lines c s) nodes apps
        (every_append Unbroken (unless (is_local c) (stands_line c s) (apps_of c)) (map (timer_bytes c) s.timers)
        (every_unless Unbroken (is_local c) (stands_line c s) (apps_of c) (every_map (IsAppOf c) Unbroken (stands_line c s) (apps_of c) stands_unbroken apps))
        (every_map (λ (entry : ℕ × Timer). IsTimerOf c entry.1 × (entry.0 < 2 ^ 64)) Unbroken (timer_bytes c) s.timers timer_unbroken fits.timers)),
  )
