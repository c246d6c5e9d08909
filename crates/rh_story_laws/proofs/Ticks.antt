-- What is told of a tick stands below the time of the timer that told it.
use Rattle.std.proofs.Common.{◌≡◌, ◌==◌, ℕ, List, [], ◌∷◌, ◌++◌, Bool, true, false, cond, codes, not, length, map, Option, None, is_some, refl, sym, ap, ◌∙◌, subst, append_assoc, append-nil}
use Rattle.std.specs.Prelude.{All, filter}
use Rattle.std.specs.List.{flat_map}
use Rattle.std.specs.Fmt.{decimal}
use Rattle.rh_script.specs.declared.notes.Kind.TheVariants as kind
use Rattle.rh_script.specs.Notes.{mark, note_of}
use Rattle.rh_model.specs.ClusterView.{ClusterView}
use Rattle.rh_cluster.proofs.ReadWithin.{clusters_within}
use Rattle.rh_state.specs.StateView.{StateView}
use Rattle.rh_rules.specs.declared.event.Event.TheVariants.{Tick}
use Rattle.rh_rules.specs.declared.notice.Notice.{Notice}
use Rattle.rh_rules.specs.declared.notice.Notice.TheVariants.{Waits}
use Rattle.rh_trace.specs.Validity.{IsValid}
use Rattle.rh_step.specs.Firings.{FiringView}
use Rattle.rh_step.proofs.FiringsTold.{firings_tell_the_tick, firings_are_in_time}
use Rattle.rh_calls.specs.declared.call.Call.TheVariants as call
use Rattle.rh_calls.specs.declared.call.Reply.TheVariants as reply
use Rattle.rh_trail.specs.SimView.{SimView, state_of}
use Rattle.rh_trail.specs.Lone.{opened, served, sim_after}
use Rattle.rh_trail.proofs.Reversals.{IsAccepted, accepted, calls_reversible}
use Rattle.rh_why.specs.declared.reason.Reason.{Reason}
use Rattle.rh_why.specs.Reasons.{reasons}
use Rattle.rh_why.specs.Texts.{reason_text}
use Rattle.rh_courses.proofs.Passing.{state_cluster}
use Rattle.rh_script.specs.Lines.{raw_lines}
use Rattle.rh_script.specs.Laws.{IsUnbroken, HasUnbroken}
use Rattle.rh_script.specs.Answers.{notice_line, answer_text}
use Rattle.rh_script.proofs.NameWords.{clusters_have_words}
use Rattle.rh_run.proofs.Keeping.{served_keeps_cluster}
use Rattle.rh_story.specs.LineText.{answer_lines, time_line, reason_line, why_lines, notice_lines, firing_lines, call_lines}
use Rattle.rh_story_laws.specs.Answers.{answer_in, answers_in}
use Rattle.rh_story_laws.specs.Ticks.{time_in, until_time, with_time, timed, tick_lines, fired_in_tick, tells_some, as_told, IsToldByTimes, NoticesOfATickAreRuns}
use Rattle.rh_story_laws.proofs.Texts.{free, Ended, nothing, line, first_line, lines_append}
use Rattle.rh_story_laws.proofs.Words.{number_free, reason_free}
use Rattle.rh_story_laws.proofs.Platforms.{platforms_unbroken}
use Rattle.rh_story_laws.proofs.Told.{marked_first, answer_tells}
use Rattle.rh_story_laws.proofs.Clean.{notice_ended}
use Rattle.rh_story_laws.proofs.Answered.{reason_tells, notice_tells, notices_tell, call_tells}
use Rattle.rh_story_laws.proofs.Telling.{sim_cluster}

-- ---- lines without a time
abbrev NoTime : List (List ℕ) → Type 0
NoTime [] = Unit {0}
NoTime (l ∷ lines) = (time_in (note_of l) ≡ None) × NoTime lines

no_time_append : (xs ys : List (List ℕ)) → NoTime xs → NoTime ys → NoTime (xs ++ ys)
no_time_append [] ys a b = b
no_time_append (l ∷ xs) ys a b = (a.0, no_time_append xs ys a.1 b)

until_passes : (xs more : List (List ℕ)) → NoTime xs → until_time (xs ++ more) ≡ answers_in xs ++ until_time more
until_passes [] more none = refl
until_passes (l ∷ xs) more none =
    ap (λ (o : Option (List ℕ)). cond (is_some o) [] (answer_in (note_of l) ++ until_time (xs ++ more))) none.0
    ∙ ap (λ (t : List ℕ). answer_in (note_of l) ++ t) (until_passes xs more none.1)
    ∙ sym (append_assoc (answer_in (note_of l)) (answers_in xs) (until_time more))

timed_passes : (xs more : List (List ℕ)) → NoTime xs → timed (xs ++ more) ≡ timed more
timed_passes [] more none = refl
timed_passes (l ∷ xs) more none =
    ap (λ (o : Option (List ℕ)). with_time o (until_time (xs ++ more)) (timed (xs ++ more))) none.0
    ∙ timed_passes xs more none.1

abbrev Timeless : List ℕ → Type 0
Timeless text = NoTime (raw_lines text)

timeless_append : (s t : List ℕ) → Ended s → Timeless s → Timeless t → Timeless (s ++ t)
timeless_append s t e a b = subst NoTime (sym (lines_append s t e)) (no_time_append (raw_lines s) (raw_lines t) a b)

timeless_line : (x : List ℕ) → free x ≡ true → time_in (note_of (x ++ 10 ∷ [])) ≡ None → Timeless (x ++ 10 ∷ [])
timeless_line x u none = subst NoTime (sym (first_line x [] u)) (none, tt)

answers_timeless : (t : List ℕ) → Ended t → Timeless (answer_lines t)
answers_timeless _ nothing = tt
answers_timeless _ (line x rest u r) =
    subst Timeless (sym (marked_first x rest u))
    (subst NoTime (sym (first_line (35 ∷ 61 ∷ 32 ∷ x) (answer_lines rest) u)) (refl, answers_timeless rest r))

module _ (c : ClusterView) (names : HasUnbroken c) (platforms : All IsUnbroken c.platform_names) (t : StateView) (on : t.cluster ≡ c) where
  reasons_timeless : (rs : List Reason) → Timeless (flat_map (λ reason. reason_line (reason_text t.cluster reason)) rs)
  reasons_timeless [] = tt
  reasons_timeless (r ∷ rs) =
      timeless_append (reason_line (reason_text t.cluster r)) (flat_map (λ reason. reason_line (reason_text t.cluster reason)) rs)
      (reason_tells c names platforms t on r).ended
      (timeless_line (mark kind.Reason ++ reason_text t.cluster r)
      (ap (λ (d : ClusterView). free (reason_text d r)) on ∙ reason_free c names platforms r) refl)
      (reasons_timeless rs)

  why_timeless : (notice : Notice) → Timeless (why_lines t notice)
  why_timeless (Waits a n) = reasons_timeless (reasons t a n)
  why_timeless _ = tt

  notices_timeless : (ns : List Notice) → Timeless (flat_map (notice_lines t) ns)
  notices_timeless [] = tt
  notices_timeless (n ∷ ns) =
      let says = notice_line t.cluster n in
      timeless_append (notice_lines t n) (flat_map (notice_lines t) ns) (notice_tells c names platforms t on n).ended
      (timeless_append (answer_lines says) (why_lines t n) (answer_tells says (notice_ended t.cluster n)).ended
      (answers_timeless says (notice_ended t.cluster n)) (why_timeless n))
      (notices_timeless ns)

  -- ---- a time is the first line of what a timer told
  time_first : (due : ℕ) (text : List ℕ) → raw_lines (time_line due ++ text) ≡ time_line due ∷ raw_lines text
  time_first due text =
      ap raw_lines (append_assoc (mark kind.Time ++ decimal due) (codes "\n") text)
      ∙ first_line (mark kind.Time ++ decimal due) text (number_free due)

  -- what is told by one that told something, before a text
  firing_first : (f : FiringView) (text : List ℕ)
      → raw_lines ((time_line f.due ++ flat_map (notice_lines t) f.told) ++ text)
      ≡ time_line f.due ∷ (raw_lines (flat_map (notice_lines t) f.told) ++ raw_lines text)
  firing_first f text =
      ap raw_lines (append_assoc (time_line f.due) (flat_map (notice_lines t) f.told) text)
      ∙ time_first f.due (flat_map (notice_lines t) f.told ++ text)
      ∙ ap (λ ls. time_line f.due ∷ ls) (lines_append (flat_map (notice_lines t) f.told) text (notices_tell c names platforms t on f.told).ended)

  until_first : (fs : List FiringView) → until_time (raw_lines (flat_map (firing_lines t) fs)) ≡ []
  until_first [] = refl
  until_first (f ∷ fs) = by (length f.told == 0) (until_first fs)
    where
      by : (b : Bool) → until_time (raw_lines (flat_map (firing_lines t) fs)) ≡ []
          → until_time (raw_lines (cond b [] (time_line f.due ++ flat_map (notice_lines t) f.told) ++ flat_map (firing_lines t) fs)) ≡ []
      by true others = others
      by false others = ap until_time (firing_first f (flat_map (firing_lines t) fs))

  firings_timed : (fs : List FiringView) → timed (raw_lines (flat_map (firing_lines t) fs)) ≡ map (as_told t.cluster) (filter tells_some fs)
  firings_timed [] = refl
  firings_timed (f ∷ fs) = by (length f.told == 0) (firings_timed fs)
    where
      says : answers_in (raw_lines (flat_map (notice_lines t) f.told)) ++ until_time (raw_lines (flat_map (firing_lines t) fs)) ≡ flat_map (notice_line t.cluster) f.told
      says = (λ i. (notices_tell c names platforms t on f.told).told i ++ until_first fs i) ∙ append-nil (flat_map (notice_line t.cluster) f.told)

      by : (b : Bool) → timed (raw_lines (flat_map (firing_lines t) fs)) ≡ map (as_told t.cluster) (filter tells_some fs)
          → timed (raw_lines (cond b [] (time_line f.due ++ flat_map (notice_lines t) f.told) ++ flat_map (firing_lines t) fs))
          ≡ map (as_told t.cluster) (cond (not b) (f ∷ filter tells_some fs) (filter tells_some fs))
      by true others = others
      by false others =
          let here = raw_lines (flat_map (notice_lines t) f.told) in
          let rest = raw_lines (flat_map (firing_lines t) fs) in
          let none = notices_timeless f.told in
          ap timed (firing_first f (flat_map (firing_lines t) fs))
          ∙ (λ i. (decimal f.due ++ codes "\n", (until_passes here rest none ∙ says) i) ∷ (timed_passes here rest none ∙ others) i)

-- ---- a tick
module _ (c : ClusterView) (names : HasUnbroken c) (platforms : All IsUnbroken c.platform_names) (s : SimView) (on : s.cluster ≡ c)
    (valid : IsValid (state_of s)) (ms : ℕ) (notices : List Notice) (done : (served s (call.Step (Tick ms))).reply ≡ reply.Done notices) where
  abbrev later : StateView
  later = state_of (served s (call.Step (Tick ms))).sim

  later_cluster : later.cluster ≡ s.cluster
  later_cluster = state_cluster (served s (call.Step (Tick ms))).sim ∙ served_keeps_cluster s (call.Step (Tick ms))

  abbrev text : List ℕ
  text = flat_map (firing_lines later) (fired_in_tick s ms)

  ok_first : tick_lines s ms notices ≡ codes "#= ok\n" ∷ raw_lines text
  ok_first = first_line (codes "#= ok") text refl

  at : IsAccepted s (Tick ms) notices
  at = accepted s (Tick ms) notices done

  pub told_by_times : IsToldByTimes s ms notices
  told_by_times =
      let in_time = firings_are_in_time (state_of s) ms s.pick valid at.fine in
      record {
        answers = subst (λ r. answers_in (raw_lines (call_lines s (call.Step (Tick ms)) r)) ≡ answer_text s.cluster r) done
            (call_tells c names platforms s on valid (call.Step (Tick ms))).told;
        front = ap until_time ok_first ∙ ap (λ (rest : List ℕ). codes "ok\n" ++ rest) (until_first c names platforms later (later_cluster ∙ on) (fired_in_tick s ms));
        times = ap timed ok_first ∙ firings_timed c names platforms later (later_cluster ∙ on) (fired_in_tick s ms)
            ∙ ap (λ (d : ClusterView). map (as_told d) (filter tells_some (fired_in_tick s ms))) later_cluster;
        told = (firings_tell_the_tick (state_of s) ms s.pick valid at.fine).0 ∙ sym at.told;
        order = in_time.0;
        begins = in_time.1;
        ends = in_time.2;
      }

pub notices_of_a_tick_are_runs : NoticesOfATickAreRuns
notices_of_a_tick_are_runs bytes c pick calls ms notices read done =
    told_by_times c (clusters_have_words bytes c read).1 (platforms_unbroken bytes c read) (sim_after (opened c pick) calls) (sim_cluster (opened c pick) calls)
    (calls_reversible c pick calls (clusters_within bytes c read)).valid ms notices done
