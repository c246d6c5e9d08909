-- All that a story adds to a script are lines that the next story drops.
use Rattle.std.proofs.Common.{◌≡◌, ◌==◌, ◌&&◌, ℕ, List, [], ◌∷◌, ◌++◌, Bool, true, false, cond, codes, length, None, refl, sym, ap, ◌∙◌, subst, append_assoc, true≢false}
use Rattle.std.specs.Prelude.{All}
use Rattle.std.specs.List.{flat_map}
use Rattle.std.specs.Fmt.{decimal}
use Rattle.std.specs.Option.{option_map}
use Rattle.rh_script.specs.declared.notes.Kind.{Kind}
use Rattle.rh_script.specs.declared.notes.Kind.TheVariants as kind
use Rattle.rh_script.specs.Notes.{mark, kind_of}
use Rattle.rh_model.specs.ClusterView.{ClusterView}
use Rattle.rh_model.specs.declared.node.Node.{Node}
use Rattle.rh_state.specs.declared.status.Timer.TheVariants.{Sync}
use Rattle.rh_state.specs.StateView.{StateView, due_of}
use Rattle.rh_rules.specs.declared.event.Event.{Event}
use Rattle.rh_rules.specs.declared.event.Event.TheVariants.{Boot, Tick}
use Rattle.rh_rules.specs.declared.notice.Notice.{Notice}
use Rattle.rh_rules.specs.declared.notice.Notice.TheVariants.{Waits}
use Rattle.rh_step.specs.Firings.{FiringView, firings}
use Rattle.rh_calls.specs.declared.call.Call.{Call}
use Rattle.rh_calls.specs.declared.call.Call.TheVariants as call
use Rattle.rh_calls.specs.declared.call.Reply.{Reply}
use Rattle.rh_calls.specs.declared.call.Reply.TheVariants as reply
use Rattle.rh_trail.specs.SimView.{SimView, state_of}
use Rattle.rh_trail.specs.Lone.{served}
use Rattle.rh_why.specs.declared.reason.Reason.{Reason}
use Rattle.rh_why.specs.Reasons.{reasons, awaited}
use Rattle.rh_why.specs.Texts.{reason_text, awaited_text}
use Rattle.rh_courses.specs.Courses.{CourseView}
use Rattle.rh_courses.specs.Texts.{course_text}
use Rattle.rh_courses.proofs.Passing.{state_cluster}
use Rattle.rh_script.specs.declared.script.Line.{Line}
use Rattle.rh_script.specs.declared.script.Line.TheVariants.{Nothing}
use Rattle.rh_script.specs.Lines.{raw_lines, content}
use Rattle.rh_script.specs.Laws.{IsUnbroken, HasUnbroken}
use Rattle.rh_script.specs.Commands.{line_of}
use Rattle.rh_script.specs.Answers.{notice_line, answer_text}
use Rattle.rh_run.proofs.Keeping.{served_keeps_cluster}
use Rattle.rh_story.specs.LineText.{answer_lines, time_line, reason_line, node_lines, why_lines, notice_lines, firing_lines, event_lines, call_lines}
use Rattle.rh_story.specs.TableText.{course_line}
use Rattle.rh_story_laws.proofs.Texts.{free, Ended, nothing, line, first_line, lines_append, ended_by}
use Rattle.rh_story_laws.proofs.Marks.{kind_at, told_kind, kind_content}
use Rattle.rh_story_laws.proofs.Words.{number_free, reason_free, awaited_free, course_free}
use Rattle.rh_story_laws.proofs.Told.{marked_first, answer_tells, time_silent}
use Rattle.rh_story_laws.proofs.Clean.{notice_ended}
use Rattle.rh_story_laws.proofs.Answered.{reply_ended, reason_tells, notice_tells, notices_tell, firing_tells}

-- a story writes such a line
abbrev pub Marked : List ℕ → Type 0
Marked l = told_kind (kind_at (content l)) ≡ true

abbrev pub AllMarked : List (List ℕ) → Type 0
AllMarked [] = Unit {0}
AllMarked (l ∷ lines) = Marked l × AllMarked lines

-- such a line is a comment
pub marked_asks_nothing : (c : ClusterView) (l : List ℕ) → told_kind (kind_at l) ≡ true → line_of c l ≡ Nothing
unfolding line_of
marked_asks_nothing c [] h = absurd (true≢false (sym h))
marked_asks_nothing c (a ∷ []) h = absurd (true≢false (sym h))
marked_asks_nothing c (a ∷ b ∷ []) h = absurd (true≢false (sym h))
marked_asks_nothing c (a ∷ b ∷ d ∷ bytes) h = by (a == 35) _ h
  where
    by : (t : Bool) (other : Line) → told_kind (option_map (λ (note : Kind × List ℕ). note.0) (cond (t && (d == 32)) (option_map (λ k. (k, bytes)) (kind_of b)) None)) ≡ true
        → cond t Nothing other ≡ Nothing
    by true other k = refl
    by false other k = absurd (true≢false (sym k))

-- ---- texts of such lines
all_append : (xs ys : List (List ℕ)) → AllMarked xs → AllMarked ys → AllMarked (xs ++ ys)
all_append [] ys a b = b
all_append (l ∷ xs) ys a b = (a.0, all_append xs ys a.1 b)

abbrev pub MarkedText : List ℕ → Type 0
MarkedText text = AllMarked (raw_lines text)

pub marked_append : (s t : List ℕ) → Ended s → MarkedText s → MarkedText t → MarkedText (s ++ t)
marked_append s t e a b = subst AllMarked (sym (lines_append s t e)) (all_append (raw_lines s) (raw_lines t) a b)

pub marked_line : (x : List ℕ) → free x ≡ true → told_kind (kind_at x) ≡ true → MarkedText (x ++ 10 ∷ [])
marked_line x u h = subst AllMarked (sym (first_line x [] u)) (ap told_kind (kind_content x) ∙ h, tt)

answers_marked : (t : List ℕ) → Ended t → MarkedText (answer_lines t)
answers_marked _ nothing = tt
answers_marked _ (line x rest u r) =
    subst MarkedText (sym (marked_first x rest u))
    (subst AllMarked (sym (first_line (35 ∷ 61 ∷ 32 ∷ x) (answer_lines rest) u))
    (ap told_kind (kind_content (35 ∷ 61 ∷ 32 ∷ x)), answers_marked rest r))

module _ (c : ClusterView) (names : HasUnbroken c) (platforms : All IsUnbroken c.platform_names) (t : StateView) (on : t.cluster ≡ c) where
  reason_marked : (r : Reason) → MarkedText (reason_line (reason_text t.cluster r))
  reason_marked r =
      marked_line (mark kind.Reason ++ reason_text t.cluster r) (ap (λ (d : ClusterView). free (reason_text d r)) on ∙ reason_free c names platforms r) refl

  reasons_marked : (rs : List Reason) → MarkedText (flat_map (λ reason. reason_line (reason_text t.cluster reason)) rs)
  reasons_marked [] = tt
  reasons_marked (r ∷ rs) =
      marked_append (reason_line (reason_text t.cluster r)) (flat_map (λ reason. reason_line (reason_text t.cluster reason)) rs)
      (reason_tells c names platforms t on r).ended (reason_marked r) (reasons_marked rs)

  node_marked : (n : Node) → MarkedText (node_lines t n)
  node_marked n = by (length (awaited t n) == 0)
    where
      by : (b : Bool) → MarkedText (cond b [] (reason_line (awaited_text t.cluster (awaited t n) (due_of t (Sync n)))))
      by true = tt
      by false = marked_line (mark kind.Reason ++ awaited_text t.cluster (awaited t n) (due_of t (Sync n)))
          (ap (λ (d : ClusterView). free (awaited_text d (awaited t n) (due_of t (Sync n)))) on ∙ awaited_free c names platforms (awaited t n) (due_of t (Sync n))) refl

  why_marked : (notice : Notice) → MarkedText (why_lines t notice)
  why_marked (Waits a n) = reasons_marked (reasons t a n)
  why_marked _ = tt

  notices_marked : (ns : List Notice) → MarkedText (flat_map (notice_lines t) ns)
  notices_marked [] = tt
  notices_marked (n ∷ ns) =
      let says = notice_line t.cluster n in
      marked_append (notice_lines t n) (flat_map (notice_lines t) ns) (notice_tells c names platforms t on n).ended
      (marked_append (answer_lines says) (why_lines t n) (answer_tells says (notice_ended t.cluster n)).ended
      (answers_marked says (notice_ended t.cluster n)) (why_marked n))
      (notices_marked ns)

  firing_marked : (f : FiringView) → MarkedText (firing_lines t f)
  firing_marked f = by (length f.told == 0)
    where
      by : (b : Bool) → MarkedText (cond b [] (time_line f.due ++ flat_map (notice_lines t) f.told))
      by true = tt
      by false = marked_append (time_line f.due) (flat_map (notice_lines t) f.told) (time_silent (decimal f.due) (number_free f.due)).ended
          (marked_line (mark kind.Time ++ decimal f.due) (number_free f.due) refl) (notices_marked f.told)

  firings_marked : (fs : List FiringView) → MarkedText (flat_map (firing_lines t) fs)
  firings_marked [] = tt
  firings_marked (f ∷ fs) =
      marked_append (firing_lines t f) (flat_map (firing_lines t) fs) (firing_tells c names platforms t on f).ended (firing_marked f) (firings_marked fs)

  event_marked : (s : SimView) (e : Event) (ns : List Notice) → MarkedText (event_lines s t e ns)
  event_marked s (Tick ms) ns = firings_marked (firings (state_of s) ms s.pick)
  event_marked s (Boot n) ns =
      marked_append (flat_map (notice_lines t) ns) (node_lines t n) (notices_tell c names platforms t on ns).ended (notices_marked ns) (node_marked n)
  event_marked s _ ns = notices_marked ns

-- ---- those of a call
module _ (c : ClusterView) (names : HasUnbroken c) (platforms : All IsUnbroken c.platform_names) (s : SimView) (on : s.cluster ≡ c) where
  pub call_marked : (asked : Call) → MarkedText (call_lines s asked (served s asked).reply)
  call_marked asked = by asked (served s asked).reply refl
    where
      plain : (asked : Call) (r : Reply) → (served s asked).reply ≡ r → MarkedText (answer_lines (answer_text s.cluster r))
      plain asked r is = answers_marked (answer_text s.cluster r) (subst (λ (q : Reply). Ended (answer_text s.cluster q)) is (reply_ended s asked))

      by : (asked : Call) (r : Reply) → (served s asked).reply ≡ r → MarkedText (call_lines s asked r)
      by (call.Step e) (reply.Done ns) is =
          let t = state_of (served s (call.Step e)).sim in
          marked_append (answer_lines (codes "ok\n")) (event_lines s t e ns) (answer_tells (codes "ok\n") (ended_by (codes "ok"))).ended
          (answers_marked (codes "ok\n") (ended_by (codes "ok")))
          (event_marked c names platforms t (state_cluster (served s (call.Step e)).sim ∙ served_keeps_cluster s (call.Step e) ∙ on) s e ns)
      by (call.Step e) (reply.Refused why) is = plain (call.Step e) (reply.Refused why) is
      by (call.Step e) reply.Undone is = plain (call.Step e) reply.Undone is
      by (call.Step e) reply.Redone is = plain (call.Step e) reply.Redone is
      by (call.Step e) reply.AtStart is = plain (call.Step e) reply.AtStart is
      by (call.Step e) reply.AtEnd is = plain (call.Step e) reply.AtEnd is
      by (call.Step e) (reply.Moved count) is = plain (call.Step e) (reply.Moved count) is
      by (call.Step e) (reply.Seen cursor trail text) is = plain (call.Step e) (reply.Seen cursor trail text) is
      by call.Undo r is = plain call.Undo r is
      by call.Redo r is = plain call.Redo r is
      by call.UndoAll r is = plain call.UndoAll r is
      by call.RedoAll r is = plain call.RedoAll r is
      by call.Look r is = plain call.Look r is

  -- ---- those of a table
  row_free : (course : CourseView) → free (course_text s.cluster course) ≡ true
  row_free course = ap (λ (d : ClusterView). free (course_text d course)) on ∙ course_free c names platforms course

  pub rows_marked : (courses : List CourseView) → MarkedText (flat_map (course_line s.cluster) courses)
  rows_marked [] = tt
  rows_marked (course ∷ courses) =
      marked_append (course_line s.cluster course) (flat_map (course_line s.cluster) courses)
      (line (mark kind.Table ++ course_text s.cluster course) [] (row_free course) nothing)
      (marked_line (mark kind.Table ++ course_text s.cluster course) (row_free course) refl) (rows_marked courses)

  -- the first of them is one of a table
  pub row_first : (course : CourseView) (courses : List CourseView)
      → raw_lines (flat_map (course_line s.cluster) (course ∷ courses))
      ≡ ((mark kind.Table ++ course_text s.cluster course) ++ 10 ∷ []) ∷ raw_lines (flat_map (course_line s.cluster) courses)
  row_first course courses =
      let x = mark kind.Table ++ course_text s.cluster course in
      ap raw_lines (append_assoc x (10 ∷ []) (flat_map (course_line s.cluster) courses))
      ∙ first_line x (flat_map (course_line s.cluster) courses) (row_free course)
