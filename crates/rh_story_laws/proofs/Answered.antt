-- The lines of a call in a story say what the call is answered.
use Rattle.std.proofs.Common.{◌≡◌, ◌==◌, ◌-◌, ◌+◌, ℕ, List, [], ◌∷◌, ◌++◌, Bool, true, false, cond, codes, length, Option, Some, None, refl, sym, ap, ◌∙◌, subst, append-nil, arith}
use Rattle.std.specs.Prelude.{All}
use Rattle.std.specs.List.{flat_map}
use Rattle.std.specs.Fmt.{decimal}
use Rattle.std.proofs.lemmas.Bool.{eqb-true}
use Rattle.std.proofs.lemmas.List.Concat.{flat_map-append}
use Rattle.rh_model.specs.ClusterView.{ClusterView}
use Rattle.rh_model.specs.declared.node.Node.{Node}
use Rattle.rh_model.specs.declared.node.App.{App}
use Rattle.rh_state.specs.declared.status.Timer.{Timer}
use Rattle.rh_state.specs.declared.status.Timer.TheVariants.{Sync}
use Rattle.rh_state.specs.Numbers.{nodes_of, apps_of}
use Rattle.rh_state.specs.StateView.{StateView, mode_of, incarnation_of, running_at, waiting_at, restart_of, kind_of, is_allowed, standing_of, due_of}
use Rattle.rh_rules.specs.Course.{is_local}
use Rattle.rh_rules.specs.declared.event.Event.{Event}
use Rattle.rh_rules.specs.declared.event.Event.TheVariants.{Boot, Tick}
use Rattle.rh_rules.specs.declared.notice.Notice.{Notice}
use Rattle.rh_rules.specs.declared.notice.Notice.TheVariants.{Waits}
use Rattle.rh_rules.specs.declared.refusal.Refusal.{Refusal}
use Rattle.rh_rules.specs.declared.refusal.Refusal.TheVariants.{TrailFull}
use Rattle.rh_rules.specs.Refusals.{refused, refusal_words}
use Rattle.rh_rules.specs.Steps.{next}
use Rattle.rh_trace.specs.Validity.{IsValid}
use Rattle.rh_step.specs.Firings.{FiringView, firings, told_by}
use Rattle.rh_step.proofs.FiringsTold.{firings_tell_the_tick}
use Rattle.rh_calls.specs.declared.call.Call.{Call}
use Rattle.rh_calls.specs.declared.call.Call.TheVariants as call
use Rattle.rh_calls.specs.declared.call.Reply.{Reply}
use Rattle.rh_calls.specs.declared.call.Reply.TheVariants as reply
use Rattle.rh_calls.specs.Report.{node_word, app_word, mode_words, restart_words, kind_words, standing_words, timer_words, node_line, running_line, waiting_line, forbidden_line, line_if_forbidden, standing_line, app_line, timer_line, node_lines as report_node, report_text}
use Rattle.rh_trail.specs.SimView.{SimView, state_of}
use Rattle.rh_trail.specs.Lone.{answered, stepped, served, with_event, trail_limit}
use Rattle.rh_trail.proofs.Reversals.{IsAccepted, accepted}
use Rattle.rh_why.specs.declared.reason.Reason.{Reason}
use Rattle.rh_why.specs.Reasons.{reasons, awaited}
use Rattle.rh_why.specs.Texts.{reason_text, awaited_text}
use Rattle.rh_courses.proofs.Passing.{state_cluster}
use Rattle.rh_script.specs.Answers.{pair_words, notice_line, reason_words, answer_text}
use Rattle.rh_script.specs.Laws.{IsUnbroken, HasUnbroken}
use Rattle.rh_run.proofs.Keeping.{served_keeps_cluster}
use Rattle.rh_story.specs.LineText.{answer_lines, time_line, reason_line, app_lines, node_lines, why_lines, notice_lines, firing_lines, event_lines, call_lines}
use Rattle.rh_story_laws.proofs.Texts.{free, Ended, nothing, ended_by, ended_append, ended_each}
use Rattle.rh_story_laws.proofs.Clean.{notice_ended}
use Rattle.rh_story_laws.proofs.Words.{number_free, reason_free, awaited_free}
use Rattle.rh_story_laws.proofs.Told.{Tells, tells_nothing, tells_both, tells_each, time_silent, reason_silent, answer_tells}

-- ---- each answer is of whole lines
forbidden_ended : (s : StateView) (n : Node) (a : App) → Ended (line_if_forbidden s n a)
unfolding line_if_forbidden forbidden_line
forbidden_ended s n a = by (is_allowed s n a)
  where
    by : (b : Bool) → Ended (cond b [] (codes "  forbidden " ++ app_word s.cluster a ++ codes "\n"))
    by true = nothing
    by false = ended_by (codes "  forbidden " ++ app_word s.cluster a)

running_ended : (s : StateView) (n : Node) (a : App) → Ended (running_line s n a)
unfolding running_line
running_ended s n a =
    ended_by (codes "  running " ++ app_word s.cluster a ++ codes " " ++ restart_words (restart_of s n a) ++ codes " " ++ kind_words s.cluster (kind_of s n a))

waiting_ended : (s : StateView) (n : Node) (a : App) → Ended (waiting_line s n a)
unfolding waiting_line
waiting_ended s n a = ended_by (codes "  waiting " ++ app_word s.cluster a ++ codes " " ++ restart_words (restart_of s n a))

node_ended : (s : StateView) (n : Node) → Ended (report_node s n)
unfolding report_node node_line
node_ended s n =
    let head = codes "node " ++ node_word s.cluster n ++ codes " " ++ mode_words (mode_of s n) ++ codes " " ++ decimal (incarnation_of s n) in
    let runs = flat_map (running_line s n) (running_at s n) in
    let waits = flat_map (waiting_line s n) (waiting_at s n) in
    let may_not = flat_map (line_if_forbidden s n) (apps_of s.cluster) in
    ended_append ((head ++ codes "\n" ++ runs) ++ waits) may_not
    (ended_append (head ++ codes "\n" ++ runs) waits
    (ended_append (head ++ codes "\n") runs (ended_by head) (ended_each (running_line s n) (running_ended s n) (running_at s n)))
    (ended_each (waiting_line s n) (waiting_ended s n) (waiting_at s n)))
    (ended_each (line_if_forbidden s n) (forbidden_ended s n) (apps_of s.cluster))

app_ended : (s : StateView) (a : App) → Ended (app_line s a)
unfolding app_line standing_line
app_ended s a = by (is_local s.cluster a)
  where
    by : (b : Bool) → Ended (cond b [] (codes "app " ++ app_word s.cluster a ++ codes " " ++ standing_words s.cluster (standing_of s a) ++ codes "\n"))
    by true = nothing
    by false = ended_by (codes "app " ++ app_word s.cluster a ++ codes " " ++ standing_words s.cluster (standing_of s a))

timer_ended : (c : ClusterView) (entry : ℕ × Timer) → Ended (timer_line c entry)
unfolding timer_line
timer_ended c entry = ended_by (codes "timer " ++ timer_words c entry.1 ++ codes " " ++ decimal entry.0)

report_ended : (s : StateView) → Ended (report_text s)
report_ended s =
    let time = codes "now " ++ decimal s.time ++ codes "\n" in
    let nodes = flat_map (report_node s) (nodes_of s.cluster) in
    let apps = flat_map (app_line s) (apps_of s.cluster) in
    let timers = flat_map (timer_line s.cluster) s.timers in
    ended_append ((time ++ nodes) ++ apps) timers
    (ended_append (time ++ nodes) apps
    (ended_append time nodes (ended_by (codes "now " ++ decimal s.time)) (ended_each (report_node s) (node_ended s) (nodes_of s.cluster)))
    (ended_each (app_line s) (app_ended s) (apps_of s.cluster)))
    (ended_each (timer_line s.cluster) (timer_ended s.cluster) s.timers)

refusal_ended : (c : ClusterView) (why : Refusal) → Ended (answer_text c (reply.Refused why))
unfolding answer_text
refusal_ended c why = ended_by (codes "refused " ++ refusal_words why ++ reason_words c why)

done_ended : (c : ClusterView) (notices : List Notice) → Ended (answer_text c (reply.Done notices))
unfolding answer_text
done_ended c notices = ended_append (codes "ok\n") (flat_map (notice_line c) notices) (ended_by (codes "ok")) (ended_each (notice_line c) (notice_ended c) notices)

step_ended : (s : SimView) (e : Event) (o : Option Refusal) → Ended (answer_text s.cluster (stepped s e o).reply)
step_ended s e (Some why) = refusal_ended s.cluster why
step_ended s e None = by (s.cursor == trail_limit)
  where
    by : (b : Bool) → Ended (answer_text s.cluster (cond b (answered (reply.Refused TrailFull) s) (answered (reply.Done (next (state_of s) e s.pick).notices) (with_event s e))).reply)
    by true = refusal_ended s.cluster TrailFull
    by false = done_ended s.cluster (next (state_of s) e s.pick).notices

undo_ended : (c : ClusterView) (s t : SimView) (b : Bool) → Ended (answer_text c (cond b (answered reply.AtStart s) (answered reply.Undone t)).reply)
unfolding answer_text
undo_ended c s t true = ended_by (codes "refused at_start")
undo_ended c s t false = ended_by (codes "ok")

redo_ended : (c : ClusterView) (s t : SimView) (b : Bool) → Ended (answer_text c (cond b (answered reply.AtEnd s) (answered reply.Redone t)).reply)
unfolding answer_text
redo_ended c s t true = ended_by (codes "refused at_end")
redo_ended c s t false = ended_by (codes "ok")

moved_ended : (c : ClusterView) (count : ℕ) → Ended (answer_text c (reply.Moved count))
unfolding answer_text
moved_ended c count = ended_by (codes "ok " ++ decimal count)

seen_ended : (c : ClusterView) (cursor trail : ℕ) (s : StateView) → Ended (answer_text c (reply.Seen cursor trail (report_text s)))
unfolding answer_text
seen_ended c cursor trail s = ended_append (codes "ok\n") (report_text s) (ended_by (codes "ok")) (report_ended s)

pub reply_ended : (s : SimView) (asked : Call) → Ended (answer_text s.cluster (served s asked).reply)
reply_ended s (call.Step e) = step_ended s e (refused (state_of s) e)
reply_ended s call.Undo = undo_ended s.cluster s (record s { cursor = s.cursor - 1 }) (s.cursor == 0)
reply_ended s call.Redo = redo_ended s.cluster s (record s { cursor = s.cursor + 1 }) (s.cursor == length s.trail)
reply_ended s call.UndoAll = moved_ended s.cluster s.cursor
reply_ended s call.RedoAll = moved_ended s.cluster (length s.trail - s.cursor)
reply_ended s call.Look = seen_ended s.cluster s.cursor (length s.trail) (state_of s)

-- ---- what is told beside answers says nothing
pub silent_each : {X : Type 0} (f : X → List ℕ) → ((x : X) → Tells (f x) []) → (xs : List X) → Tells (flat_map f xs) []
silent_each f each [] = tells_nothing
silent_each f each (x ∷ xs) = tells_both (f x) (flat_map f xs) [] [] (each x) (silent_each f each xs)

silent_behind : (s t a : List ℕ) → Tells s a → Tells t [] → Tells (s ++ t) a
silent_behind s t a x y = subst (Tells (s ++ t)) (append-nil a) (tells_both s t a [] x y)

pub none_told : (ns : List Notice) → (length ns == 0) ≡ true → ns ≡ []
none_told [] is = refl
none_told (n ∷ ns) is = absurd (omega (arith, eqb-true (length (n ∷ ns)) 0 is))

module _ (c : ClusterView) (names : HasUnbroken c) (platforms : All IsUnbroken c.platform_names) (t : StateView) (on : t.cluster ≡ c) where
  pub reason_tells : (reason : Reason) → Tells (reason_line (reason_text t.cluster reason)) []
  reason_tells reason =
      reason_silent (reason_text t.cluster reason) (ap (λ (d : ClusterView). free (reason_text d reason)) on ∙ reason_free c names platforms reason)

  pub app_tells : (a : App) (n : Node) → Tells (app_lines t a n) []
  app_tells a n = silent_each (λ reason. reason_line (reason_text t.cluster reason)) reason_tells (reasons t a n)

  node_tells : (n : Node) → Tells (node_lines t n) []
  node_tells n = by (length (awaited t n) == 0)
    where
      text : List ℕ
      text = awaited_text t.cluster (awaited t n) (due_of t (Sync n))

      by : (b : Bool) → Tells (cond b [] (reason_line (awaited_text t.cluster (awaited t n) (due_of t (Sync n))))) []
      by true = tells_nothing
      by false = reason_silent (awaited_text t.cluster (awaited t n) (due_of t (Sync n)))
          (ap (λ (d : ClusterView). free (awaited_text d (awaited t n) (due_of t (Sync n)))) on ∙ awaited_free c names platforms (awaited t n) (due_of t (Sync n)))

  pub why_tells : (notice : Notice) → Tells (why_lines t notice) []
  why_tells (Waits a n) = app_tells a n
  why_tells _ = tells_nothing

  pub notice_tells : (notice : Notice) → Tells (notice_lines t notice) (notice_line t.cluster notice)
  notice_tells notice =
      silent_behind (answer_lines (notice_line t.cluster notice)) (why_lines t notice) (notice_line t.cluster notice)
      (answer_tells (notice_line t.cluster notice) (notice_ended t.cluster notice)) (why_tells notice)

  pub notices_tell : (notices : List Notice) → Tells (flat_map (notice_lines t) notices) (flat_map (notice_line t.cluster) notices)
  notices_tell notices = tells_each (notice_lines t) (notice_line t.cluster) notice_tells notices

  pub firing_tells : (f : FiringView) → Tells (firing_lines t f) (flat_map (notice_line t.cluster) f.told)
  firing_tells f = by (length f.told == 0) refl
    where
      by : (b : Bool) → (length f.told == 0) ≡ b
          → Tells (cond b [] (time_line f.due ++ flat_map (notice_lines t) f.told)) (flat_map (notice_line t.cluster) f.told)
      by true is = subst (λ (ns : List Notice). Tells [] (flat_map (notice_line t.cluster) ns)) (sym (none_told f.told is)) tells_nothing
      by false is = tells_both (time_line f.due) (flat_map (notice_lines t) f.told) [] (flat_map (notice_line t.cluster) f.told)
          (time_silent (decimal f.due) (number_free f.due)) (notices_tell f.told)

  firings_tell : (fs : List FiringView) → Tells (flat_map (firing_lines t) fs) (flat_map (notice_line t.cluster) (told_by fs))
  firings_tell [] = tells_nothing
  firings_tell (f ∷ fs) =
      subst (Tells (flat_map (firing_lines t) (f ∷ fs))) (sym (flat_map-append (notice_line t.cluster) f.told (told_by fs)))
      (tells_both (firing_lines t f) (flat_map (firing_lines t) fs) (flat_map (notice_line t.cluster) f.told)
      (flat_map (notice_line t.cluster) (told_by fs)) (firing_tells f) (firings_tell fs))

  event_tells : (s : SimView) (e : Event) (ns : List Notice) → ((ms : ℕ) → e ≡ Tick ms → told_by (firings (state_of s) ms s.pick) ≡ ns)
      → Tells (event_lines s t e ns) (flat_map (notice_line t.cluster) ns)
  event_tells s (Tick ms) ns tick =
      let fs = firings (state_of s) ms s.pick in
      subst (λ (l : List Notice). Tells (flat_map (firing_lines t) fs) (flat_map (notice_line t.cluster) l)) (tick ms refl) (firings_tell fs)
  event_tells s (Boot n) ns tick =
      silent_behind (flat_map (notice_lines t) ns) (node_lines t n) (flat_map (notice_line t.cluster) ns) (notices_tell ns) (node_tells n)
  event_tells s _ ns tick = notices_tell ns

-- ---- a call
tick_told : (s : SimView) (ms : ℕ) (ns : List Notice) → IsValid (state_of s) → IsAccepted s (Tick ms) ns
    → told_by (firings (state_of s) ms s.pick) ≡ ns
tick_told s ms ns valid at = (firings_tell_the_tick (state_of s) ms s.pick valid at.fine).0 ∙ sym at.told

module _ (c : ClusterView) (names : HasUnbroken c) (platforms : All IsUnbroken c.platform_names) (s : SimView) (on : s.cluster ≡ c)
    (valid : IsValid (state_of s)) where
  step_tells : (e : Event) (ns : List Notice) → (served s (call.Step e)).reply ≡ reply.Done ns
      → Tells (call_lines s (call.Step e) (reply.Done ns)) (answer_text s.cluster (reply.Done ns))
  unfolding answer_text
  step_tells e ns is =
      let t = state_of (served s (call.Step e)).sim in
      let same : t.cluster ≡ s.cluster = state_cluster (served s (call.Step e)).sim ∙ served_keeps_cluster s (call.Step e) in
      tells_both (answer_lines (codes "ok\n")) (event_lines s t e ns) (codes "ok\n") (flat_map (notice_line s.cluster) ns)
      (answer_tells (codes "ok\n") (ended_by (codes "ok")))
      (subst (λ (d : ClusterView). Tells (event_lines s t e ns) (flat_map (notice_line d) ns)) same
      (event_tells c names platforms t (same ∙ on) s e ns
      (λ ms tick. tick_told s ms ns valid (subst (λ (f : Event). IsAccepted s f ns) tick (accepted s e ns is)))))

  pub call_tells : (asked : Call) → Tells (call_lines s asked (served s asked).reply) (answer_text s.cluster (served s asked).reply)
  call_tells asked = by asked (served s asked).reply refl
    where
      plain : (asked : Call) (r : Reply) → (served s asked).reply ≡ r → Tells (answer_lines (answer_text s.cluster r)) (answer_text s.cluster r)
      plain asked r is = answer_tells (answer_text s.cluster r) (subst (λ (q : Reply). Ended (answer_text s.cluster q)) is (reply_ended s asked))

      by : (asked : Call) (r : Reply) → (served s asked).reply ≡ r → Tells (call_lines s asked r) (answer_text s.cluster r)
      by (call.Step e) (reply.Done ns) is = step_tells e ns is
      by (call.Step e) (reply.Refused why) is = plain (call.Step e) (reply.Refused why) is
      by (call.Step e) reply.Undone is = plain (call.Step e) reply.Undone is
      by (call.Step e) reply.Redone is = plain (call.Step e) reply.Redone is
      by (call.Step e) reply.AtStart is = plain (call.Step e) reply.AtStart is
      by (call.Step e) reply.AtEnd is = plain (call.Step e) reply.AtEnd is
      by (call.Step e) (reply.Moved count) is = plain (call.Step e) (reply.Moved count) is
      by (call.Step e) (reply.Seen cursor trail text) is = plain (call.Step e) (reply.Seen cursor trail text) is
      by call.Undo r is = plain call.Undo r is
      by call.Redo r is = plain call.Redo r is
      by call.UndoAll r is = plain call.UndoAll r is
      by call.RedoAll r is = plain call.RedoAll r is
      by call.Look r is = plain call.Look r is
