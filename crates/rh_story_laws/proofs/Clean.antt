-- No CR stands in an answer, and each notice is a whole line.
use Rattle.std.proofs.Common.{◌≡◌, ◌≢◌, ◌==◌, ◌-◌, ◌+◌, ◌/◌, ◌%◌, ℕ, zero, suc, List, [], ◌∷◌, ◌++◌, length, Bool, true, false, cond, eqb, nat_lt, codes, Option, Some, None, unwrap_or, refl, sym, ap, ◌∙◌, subst, arith}
use Rattle.std.specs.Prelude.{All, slice_get}
use Rattle.std.specs.List.{flat_map}
use Rattle.std.specs.Fmt.{digit_glyph, digits_onto, digits, decimal}
use Rattle.std.proofs.lemmas.Bool.Decides.{nat_tests}
use Rattle.std.proofs.lemmas.List.Elements.{All-head, All-tail}
use Rattle.std.proofs.lemmas.Option.{get_or_from_slice_get, slice_get_within}
use Rattle.rh_model.specs.ClusterView.{ClusterView}
use Rattle.rh_model.specs.declared.node.Node.{Node}
use Rattle.rh_model.specs.declared.node.App.{App}
use Rattle.rh_model.specs.declared.settings.Dep.{Dep}
use Rattle.rh_model.specs.declared.settings.Dep.TheVariants.{Listed, Platform}
use Rattle.rh_model.specs.declared.settings.Restart.{Restart}
use Rattle.rh_model.specs.declared.settings.Restart.TheVariants.{Permanent, Transient, Temporary}
use Rattle.rh_state.specs.declared.status.Mode.{Mode}
use Rattle.rh_state.specs.declared.status.Mode.TheVariants.{Down, Waiting, Up as NodeUp}
use Rattle.rh_state.specs.declared.status.Kind.{Kind}
use Rattle.rh_state.specs.declared.status.Kind.TheVariants as kind
use Rattle.rh_state.specs.declared.status.Standing.{Standing}
use Rattle.rh_state.specs.declared.status.Standing.TheVariants as standing
use Rattle.rh_state.specs.declared.status.Timer.{Timer}
use Rattle.rh_state.specs.declared.status.Timer.TheVariants as timer
use Rattle.rh_state.specs.Numbers.{nodes_of, apps_of}
use Rattle.rh_state.specs.StateView.{StateView, mode_of, incarnation_of, running_at, waiting_at, restart_of, kind_of, is_allowed, standing_of}
use Rattle.rh_rules.specs.Course.{is_local}
use Rattle.rh_rules.specs.declared.event.Event.{Event}
use Rattle.rh_rules.specs.declared.notice.Notice.{Notice}
use Rattle.rh_rules.specs.declared.notice.Notice.TheVariants.{Up, Ended, Started, Stopped, Waits}
use Rattle.rh_rules.specs.declared.refusal.Refusal.{Refusal}
use Rattle.rh_rules.specs.declared.refusal.Refusal.TheVariants as refusal
use Rattle.rh_rules.specs.Refusals.{refused}
use Rattle.rh_rules.specs.Steps.{next}
use Rattle.rh_calls.specs.declared.call.Call.{Call}
use Rattle.rh_calls.specs.declared.call.Call.TheVariants as call
use Rattle.rh_calls.specs.declared.call.Reply.TheVariants as reply
use Rattle.rh_calls.specs.Report.{no_name, node_word, app_word, dep_word, mode_words, restart_words, kind_words, standing_words, timer_words, node_line, running_line, waiting_line, forbidden_line, line_if_forbidden, standing_line, app_line, timer_line, node_lines, report_text}
use Rattle.rh_trail.specs.SimView.{SimView, state_of}
use Rattle.rh_trail.specs.Lone.{answered, stepped, served, with_event, trail_limit}
use Rattle.rh_courses.proofs.Passing.{state_cluster}
use Rattle.rh_script.specs.Answers.{pair_words, notice_line, refusal_line, answer_text}
use Rattle.rh_script.specs.Laws.{IsUnbroken, HasUnbroken}
use Rattle.rh_story_laws.proofs.Texts.{not_both, Ended as WholeLines, ended_by}

abbrev pub clean : List ℕ → Bool
clean [] = true
clean (b ∷ bytes) = cond (eqb b 13) false (clean bytes)

pub clean_append : (x y : List ℕ) → clean x ≡ true → clean y ≡ true → clean (x ++ y) ≡ true
clean_append [] y h k = k
clean_append (b ∷ x) y h k = by (eqb b 13) h (λ u. clean_append x y u k)
  where
    by : (t : Bool) → cond t false (clean x) ≡ true → (clean x ≡ true → clean (x ++ y) ≡ true) → cond t false (clean (x ++ y)) ≡ true
    by true u others = not_both u
    by false u others = others u

-- both parts of a clean text are
pub clean_parts : (x y : List ℕ) → clean (x ++ y) ≡ true → (clean x ≡ true) × (clean y ≡ true)
clean_parts [] y h = (refl, h)
clean_parts (b ∷ x) y h = by (eqb b 13) h (λ u. clean_parts x y u)
  where
    by : (t : Bool) → cond t false (clean (x ++ y)) ≡ true → (clean (x ++ y) ≡ true → (clean x ≡ true) × (clean y ≡ true))
        → (cond t false (clean x) ≡ true) × (clean y ≡ true)
    by true u others = not_both u
    by false u others = others u

each_clean : {X : Type 0} (f : X → List ℕ) → ((x : X) → clean (f x) ≡ true) → (xs : List X) → clean (flat_map f xs) ≡ true
each_clean f each [] = refl
each_clean f each (x ∷ xs) = clean_append (f x) (flat_map f xs) (each x) (each_clean f each xs)

one_more : (b : ℕ) (x : List ℕ) → eqb b 13 ≡ false → clean x ≡ true → clean (b ∷ x) ≡ true
one_more b x other u = ap (λ t. cond t false (clean x)) other ∙ u

-- a text, and words behind it
with_lf : (x : List ℕ) → clean x ≡ true → clean (x ++ codes "\n") ≡ true
with_lf x u = clean_append x (codes "\n") u refl

with_blank : (x y : List ℕ) → clean x ≡ true → clean y ≡ true → clean (x ++ codes " " ++ y) ≡ true
with_blank x y u v = clean_append (x ++ codes " ") y (clean_append x (codes " ") u refl) v

-- ---- numbers
no_cr : (d : ℕ) → eqb (digit_glyph false d) 13 ≡ false
no_cr d = by (nat_lt d 10)
  where
    by : (b : Bool) → eqb (cond b (48 + d) (87 + d)) 13 ≡ false
    by true = grind (arith, nat_tests)
    by false = grind (arith, nat_tests)

digits_clean : (k n : ℕ) (x : List ℕ) → clean x ≡ true → clean (digits_onto k 10 false n x) ≡ true
digits_clean zero n x u = u
digits_clean (suc k) n x u =
    by (n / 10 == 0) (digits_clean k (n / 10) (digit_glyph false (n % 10) ∷ x) here)
  where
    here : clean (digit_glyph false (n % 10) ∷ x) ≡ true
    here = one_more (digit_glyph false (n % 10)) x (no_cr (n % 10)) u

    by : (b : Bool) → clean (digits_onto k 10 false (n / 10) (digit_glyph false (n % 10) ∷ x)) ≡ true
        → clean (cond b (digit_glyph false (n % 10) ∷ x) (digits_onto k 10 false (n / 10) (digit_glyph false (n % 10) ∷ x))) ≡ true
    by true others = here
    by false others = others

number_clean : (n : ℕ) → clean (decimal n) ≡ true
unfolding digits
number_clean n = digits_clean 64 n [] refl

-- ---- names
abbrev NoEnd : ℕ → Type 0
NoEnd b = (b ≢ 10) × (b ≢ 13)

unbroken_clean : (x : List ℕ) → IsUnbroken x → clean x ≡ true
unbroken_clean [] all = refl
unbroken_clean (b ∷ x) all =
    let other : (b == 13) ≡ false = grind (arith, nat_tests, (All-head NoEnd b x all).1) in
    one_more b x other (unbroken_clean x (All-tail NoEnd b x all))

name_clean : (names : List (List ℕ)) (i : ℕ) → All IsUnbroken names → clean (unwrap_or (slice_get names i) no_name) ≡ true
name_clean names i all = by (slice_get names i) refl
  where
    by : (o : Option (List ℕ)) → slice_get names i ≡ o → clean (unwrap_or o no_name) ≡ true
    by None is = refl
    by (Some name) is = unbroken_clean name (subst IsUnbroken (get_or_from_slice_get names i name [] is) (all i [] (slice_get_within names i name is)))

-- ---- words
mode_clean : (m : Mode) → clean (mode_words m) ≡ true
mode_clean Down = refl
mode_clean Waiting = refl
mode_clean NodeUp = refl

restart_clean : (r : Restart) → clean (restart_words r) ≡ true
restart_clean Permanent = refl
restart_clean Transient = refl
restart_clean Temporary = refl

-- ---- a notice is of whole lines
pub notice_ended : (c : ClusterView) (notice : Notice) → WholeLines (notice_line c notice)
unfolding notice_line
notice_ended c (Up n) = ended_by (codes "up " ++ node_word c n)
notice_ended c (Ended n) = ended_by (codes "ended " ++ node_word c n)
notice_ended c (Started a n kind lost) = ended_by (codes "started " ++ pair_words c a n ++ codes " " ++ kind_words c kind)
notice_ended c (Stopped a n) = ended_by (codes "stopped " ++ pair_words c a n)
notice_ended c (Waits a n) = ended_by (codes "waits " ++ pair_words c a n)

module _ (c : ClusterView) (names : HasUnbroken c) where
  node_clean : (n : Node) → clean (node_word c n) ≡ true
  node_clean n = name_clean c.node_names n.0 names.nodes

  app_clean : (a : App) → clean (app_word c a) ≡ true
  app_clean a = name_clean c.app_names a.0 names.apps

  kind_clean : (k : Kind) → clean (kind_words c k) ≡ true
  kind_clean kind.Normal = refl
  kind_clean (kind.Failover m) = node_clean m
  kind_clean (kind.Takeover m) = node_clean m

  standing_clean : (at : Standing) → clean (standing_words c at) ≡ true
  standing_clean standing.Quiet = refl
  standing_clean (standing.Wanted None) = refl
  standing_clean (standing.Wanted (Some m)) = node_clean m
  standing_clean (standing.Running n) = node_clean n
  standing_clean (standing.Lost n) = node_clean n

  timer_clean : (t : Timer) → clean (timer_words c t) ≡ true
  timer_clean (timer.Sync n) = node_clean n
  timer_clean (timer.Failover a) = app_clean a

  pair_clean : (a : App) (n : Node) → clean (pair_words c a n) ≡ true
  pair_clean a n = with_blank (app_word c a) (node_word c n) (app_clean a) (node_clean n)

  -- ---- notices
  notice_clean : (notice : Notice) → clean (notice_line c notice) ≡ true
  unfolding notice_line
  notice_clean (Up n) = with_lf (codes "up " ++ node_word c n) (node_clean n)
  notice_clean (Ended n) = with_lf (codes "ended " ++ node_word c n) (node_clean n)
  notice_clean (Started a n k lost) =
      with_lf (codes "started " ++ pair_words c a n ++ codes " " ++ kind_words c k)
      (with_blank (codes "started " ++ pair_words c a n) (kind_words c k) (pair_clean a n) (kind_clean k))
  notice_clean (Stopped a n) = with_lf (codes "stopped " ++ pair_words c a n) (pair_clean a n)
  notice_clean (Waits a n) = with_lf (codes "waits " ++ pair_words c a n) (pair_clean a n)

  -- ---- refusals
  module _ (platforms : All IsUnbroken c.platform_names) where
    dep_clean : (d : Dep) → clean (dep_word c d) ≡ true
    dep_clean (Listed a) = app_clean a
    dep_clean (Platform p) = name_clean c.platform_names p platforms

    refusal_clean : (why : Refusal) → clean (refusal_line c why) ≡ true
    refusal_clean (refusal.DependencyNotStarted dep) =
        with_lf (codes "refused S17 dependency_not_started " ++ dep_word c dep) (dep_clean dep)
    refusal_clean _ = refl

-- ---- the report
module _ (s : StateView) (names : HasUnbroken s.cluster) where
  running_clean : (n : Node) (a : App) → clean (running_line s n a) ≡ true
  unfolding running_line
  running_clean n a =
      with_lf (codes "  running " ++ app_word s.cluster a ++ codes " " ++ restart_words (restart_of s n a) ++ codes " " ++ kind_words s.cluster (kind_of s n a))
      (with_blank (codes "  running " ++ app_word s.cluster a ++ codes " " ++ restart_words (restart_of s n a)) (kind_words s.cluster (kind_of s n a))
      (with_blank (codes "  running " ++ app_word s.cluster a) (restart_words (restart_of s n a)) (app_clean s.cluster names a) (restart_clean (restart_of s n a)))
      (kind_clean s.cluster names (kind_of s n a)))

  waiting_clean : (n : Node) (a : App) → clean (waiting_line s n a) ≡ true
  unfolding waiting_line
  waiting_clean n a =
      with_lf (codes "  waiting " ++ app_word s.cluster a ++ codes " " ++ restart_words (restart_of s n a))
      (with_blank (codes "  waiting " ++ app_word s.cluster a) (restart_words (restart_of s n a)) (app_clean s.cluster names a) (restart_clean (restart_of s n a)))

  forbidden_clean : (n : Node) (a : App) → clean (line_if_forbidden s n a) ≡ true
  unfolding line_if_forbidden forbidden_line
  forbidden_clean n a = by (is_allowed s n a)
    where
      by : (b : Bool) → clean (cond b [] (codes "  forbidden " ++ app_word s.cluster a ++ codes "\n")) ≡ true
      by true = refl
      by false = with_lf (codes "  forbidden " ++ app_word s.cluster a) (app_clean s.cluster names a)

  first_clean : (n : Node) → clean (node_line s n) ≡ true
  unfolding node_line
  first_clean n =
      with_lf (codes "node " ++ node_word s.cluster n ++ codes " " ++ mode_words (mode_of s n) ++ codes " " ++ decimal (incarnation_of s n))
      (with_blank (codes "node " ++ node_word s.cluster n ++ codes " " ++ mode_words (mode_of s n)) (decimal (incarnation_of s n))
      (with_blank (codes "node " ++ node_word s.cluster n) (mode_words (mode_of s n)) (node_clean s.cluster names n) (mode_clean (mode_of s n)))
      (number_clean (incarnation_of s n)))

  lines_clean : (n : Node) → clean (node_lines s n) ≡ true
  unfolding node_lines
  lines_clean n =
      let runs = flat_map (running_line s n) (running_at s n) in
      let waits = flat_map (waiting_line s n) (waiting_at s n) in
      let may_not = flat_map (line_if_forbidden s n) (apps_of s.cluster) in
      clean_append (node_line s n ++ runs ++ waits) may_not
      (clean_append (node_line s n ++ runs) waits
      (clean_append (node_line s n) runs (first_clean n) (each_clean (running_line s n) (running_clean n) (running_at s n)))
      (each_clean (waiting_line s n) (waiting_clean n) (waiting_at s n)))
      (each_clean (line_if_forbidden s n) (forbidden_clean n) (apps_of s.cluster))

  place_clean : (a : App) → clean (app_line s a) ≡ true
  unfolding app_line standing_line
  place_clean a = by (is_local s.cluster a)
    where
      by : (b : Bool) → clean (cond b [] (codes "app " ++ app_word s.cluster a ++ codes " " ++ standing_words s.cluster (standing_of s a) ++ codes "\n")) ≡ true
      by true = refl
      by false =
          with_lf (codes "app " ++ app_word s.cluster a ++ codes " " ++ standing_words s.cluster (standing_of s a))
          (with_blank (codes "app " ++ app_word s.cluster a) (standing_words s.cluster (standing_of s a)) (app_clean s.cluster names a)
          (standing_clean s.cluster names (standing_of s a)))

  due_clean : (entry : ℕ × Timer) → clean (timer_line s.cluster entry) ≡ true
  unfolding timer_line
  due_clean entry =
      with_lf (codes "timer " ++ timer_words s.cluster entry.1 ++ codes " " ++ decimal entry.0)
      (with_blank (codes "timer " ++ timer_words s.cluster entry.1) (decimal entry.0) (timer_clean s.cluster names entry.1) (number_clean entry.0))

  report_clean : clean (report_text s) ≡ true
  report_clean =
      let time = codes "now " ++ decimal s.time ++ codes "\n" in
      let nodes = flat_map (node_lines s) (nodes_of s.cluster) in
      let apps = flat_map (app_line s) (apps_of s.cluster) in
      let timers = flat_map (timer_line s.cluster) s.timers in
      clean_append ((time ++ nodes) ++ apps) timers
      (clean_append (time ++ nodes) apps
      (clean_append time nodes (with_lf (codes "now " ++ decimal s.time) (number_clean s.time)) (each_clean (node_lines s) lines_clean (nodes_of s.cluster)))
      (each_clean (app_line s) place_clean (apps_of s.cluster)))
      (each_clean (timer_line s.cluster) due_clean s.timers)

-- ---- answers
module _ (c : ClusterView) (names : HasUnbroken c) (platforms : All IsUnbroken c.platform_names) where
  refused_clean : (why : Refusal) → clean (answer_text c (reply.Refused why)) ≡ true
  unfolding answer_text
  refused_clean why = refusal_clean c names platforms why

  done_clean : (notices : List Notice) → clean (answer_text c (reply.Done notices)) ≡ true
  unfolding answer_text
  done_clean notices = each_clean (notice_line c) (notice_clean c names) notices

  step_clean : (s : SimView) (e : Event) (o : Option Refusal) → clean (answer_text c (stepped s e o).reply) ≡ true
  step_clean s e (Some why) = refused_clean why
  step_clean s e None = by (s.cursor == trail_limit)
    where
      by : (b : Bool)
          → clean (answer_text c (cond b (answered (reply.Refused refusal.TrailFull) s) (answered (reply.Done (next (state_of s) e s.pick).notices) (with_event s e))).reply) ≡ true
      by true = refused_clean refusal.TrailFull
      by false = done_clean (next (state_of s) e s.pick).notices

  undo_clean : (s t : SimView) (b : Bool) → clean (answer_text c (cond b (answered reply.AtStart s) (answered reply.Undone t)).reply) ≡ true
  unfolding answer_text
  undo_clean s t true = refl
  undo_clean s t false = refl

  redo_clean : (s t : SimView) (b : Bool) → clean (answer_text c (cond b (answered reply.AtEnd s) (answered reply.Redone t)).reply) ≡ true
  unfolding answer_text
  redo_clean s t true = refl
  redo_clean s t false = refl

  moved_clean : (count : ℕ) → clean (answer_text c (reply.Moved count)) ≡ true
  unfolding answer_text
  moved_clean count = with_lf (codes "ok " ++ decimal count) (number_clean count)

  seen_clean : (cursor trail : ℕ) (s : StateView) → s.cluster ≡ c → clean (answer_text c (reply.Seen cursor trail (report_text s))) ≡ true
  unfolding answer_text
  seen_clean cursor trail s on = report_clean s (subst HasUnbroken (sym on) names)

  pub reply_clean : (s : SimView) → s.cluster ≡ c → (asked : Call) → clean (answer_text c (served s asked).reply) ≡ true
  reply_clean s on (call.Step e) = step_clean s e (refused (state_of s) e)
  reply_clean s on call.Undo = undo_clean s (record s { cursor = s.cursor - 1 }) (s.cursor == 0)
  reply_clean s on call.Redo = redo_clean s (record s { cursor = s.cursor + 1 }) (s.cursor == length s.trail)
  reply_clean s on call.UndoAll = moved_clean s.cursor
  reply_clean s on call.RedoAll = moved_clean (length s.trail - s.cursor)
  reply_clean s on call.Look = seen_clean s.cursor (length s.trail) (state_of s) (state_cluster s ∙ on)
