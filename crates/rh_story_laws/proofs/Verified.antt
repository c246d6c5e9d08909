-- A verification finds nothing to differ in a whole story.
use Rattle.std.proofs.Common.{◌≡◌, ◌==◌, ◌&&◌, ◌+◌, ◌↔◌, ℕ, List, [], ◌∷◌, ◌++◌, length, filter, map, All, Bool, true, false, not, cond, codes, Option, Some, None, is_some, Ok, refl, sym, ap, suc, ◌∙◌, subst, true≢false, arith}
use Rattle.std.specs.Prelude.{◌||◌}
use Rattle.std.specs.Fmt.{decimal}
use Rattle.std.specs.List.{flat_map, cons_option}
use Rattle.std.proofs.lemmas.Bool.Decides.{nat_tests}
use Rattle.std.proofs.lemmas.List.Elements.{All-nil, All-cons, All-head, All-tail}
use Rattle.rh_model.specs.ClusterView.{ClusterView}
use Rattle.rh_cluster.specs.ClusterOf.{cluster_of}
use Rattle.rh_cluster.proofs.ReadWithin.{clusters_within}
use Rattle.rh_script.specs.Notes.{note_of}
use Rattle.rh_rules.specs.declared.pick.Pick.{Pick}
use Rattle.rh_calls.specs.declared.call.Call.{Call}
use Rattle.rh_calls.specs.declared.call.Reply.{Reply}
use Rattle.rh_calls.specs.declared.call.Reply.TheVariants as reply
use Rattle.rh_trail.specs.SimView.{SimView}
use Rattle.rh_trail.specs.Lone.{opened, served}
use Rattle.rh_script.specs.declared.script.Line.{Line}
use Rattle.rh_script.specs.declared.script.Line.TheVariants.{Nothing, Asks, Bad}
use Rattle.rh_script.specs.Laws.{IsUnbroken, HasUnbroken}
use Rattle.rh_script.specs.Lines.{raw_lines, content, lines_behind, cluster_text, script_lines}
use Rattle.rh_script.specs.Commands.{line_of, calls_of}
use Rattle.rh_script.specs.Answers.{notice_line, reason_words, answer_text}
use Rattle.rh_rules.specs.Refusals.{refusal_words}
use Rattle.rh_script.proofs.NameWords.{clusters_have_words}
use Rattle.rh_run.specs.declared.fault.Told.{Told}
use Rattle.rh_run.specs.declared.fault.Told.TheVariants as told
use Rattle.rh_run.specs.RunText.{lines_asked}
use Rattle.rh_story.specs.HeadText.{head_text}
use Rattle.rh_story.specs.StoryText.{lines_text, story_over, story_text}
use Rattle.rh_verify.specs.Spaces.{lines_of}
use Rattle.rh_verify.specs.Manual.{manual}
use Rattle.rh_verify.specs.Expected.{Check, check_of, asked_by, ahead, checks, answer_in, wanted_in, answers_in, wanted_among, is_expectation, is_checked, numbered, stray}
use Rattle.rh_verify.specs.Blocks.{is_answered, missing, holds}
use Rattle.rh_verify.specs.Counts.{tally_text}
use Rattle.rh_verify.specs.VerifyText.{first_line, script_checks, blocks_text, verify_text, verify_end}
use Rattle.rh_verify.specs.Laws.{IsScript}
use Rattle.rh_verify.proofs.Agreeing.{agrees}
use Rattle.rh_story_laws.specs.Answers.{IsRun}
use Rattle.rh_story_laws.specs.Again.{HasScript}
use Rattle.rh_story_laws.specs.Verified.{command_count, all_checked, ReportsHold, WholeStoriesHold, OnlyReportsDiffer}
use Rattle.rh_story_laws.proofs.Texts.{Ended}
use Rattle.rh_story_laws.proofs.Rows.{rows_of, rows_behind}
use Rattle.rh_story_laws.proofs.Platforms.{platforms_unbroken}
use Rattle.rh_story_laws.proofs.Answered.{reply_ended}
use Rattle.rh_story_laws.proofs.Telling.{no_bytes}
use Rattle.rh_story_laws.proofs.Whole.{none_bad}
use Rattle.rh_story_laws.proofs.Again.{lack_ended}
use Rattle.rh_story_laws.proofs.HeadAgain.{head_stands}
use Rattle.rh_story_laws.proofs.Clean.{reply_clean}
use Rattle.rh_story_laws.proofs.Said.{answers_itself, some_line}
use Rattle.rh_story_laws.proofs.Finds.{Alike, no_more, one_more, Finds, lines_find}

-- what a report lacks of what is wanted
abbrev lacking : Check → List (List ℕ)
lacking x = missing x.report (wanted_among x.behind)

abbrev LacksNothing : Check → Type 0
LacksNothing x = lacking x ≡ []

-- each answer has a line
some_answer : (c : ClusterView) (r : Reply) → (length (lines_of (answer_text c r)) == 0) ≡ false
unfolding answer_text
some_answer c (reply.Done notices) = some_line 111 (codes "k\n" ++ flat_map (notice_line c) notices)
some_answer c (reply.Refused why) = some_line 114 (codes "efused " ++ refusal_words why ++ reason_words c why ++ codes "\n")
some_answer c reply.Undone = some_line 111 (codes "k\n")
some_answer c reply.Redone = some_line 111 (codes "k\n")
some_answer c reply.AtStart = some_line 114 (codes "efused at_start\n")
some_answer c reply.AtEnd = some_line 114 (codes "efused at_end\n")
some_answer c (reply.Moved count) = some_line 111 (codes "k " ++ decimal count ++ codes "\n")
some_answer c (reply.Seen cursor trail text) = some_line 111 (codes "k\n" ++ text)

module _ (c : ClusterView) (names : HasUnbroken c) (platforms : All IsUnbroken c.platform_names) where
  -- ---- of a command that is like one of the input only the report can differ
  itself : (s : SimView) → s.cluster ≡ c → (asked : Call)
      → is_answered (lines_of (answer_text c (served s asked).reply)) (answer_text c (served s asked).reply) ≡ true
  itself s on asked =
      answers_itself (answer_text c (served s asked).reply)
      (subst (λ (d : ClusterView). Ended (answer_text d (served s asked).reply)) on (reply_ended s asked))
      (reply_clean c names platforms s on asked)

  one_holds : (j k : ℕ) (l m : List ℕ) (s : SimView) (asked : Call) (said kept : List (List ℕ)) → s.cluster ≡ c
      → answers_in said ≡ lines_of (answer_text c (served s asked).reply) → wanted_among said ≡ wanted_among kept
      → holds (check_of manual j l s asked said) ≡ (length (lacking (check_of manual k m s asked kept)) == 0)
  one_holds j k l m s asked said kept on answers wants =
      (λ i. is_answered (answers i) (answer_text (on i) (served s asked).reply)
      && (length (missing (manual.report (manual.behind s asked)) (wants i)) == 0))
      ∙ ap (λ (t : Bool). t && (length (lacking (check_of manual k m s asked kept)) == 0)) (itself s on asked)

  none_differ : (xs ys : List Check) → Alike c xs ys → All LacksNothing ys → length (filter (λ x. not (holds x)) xs) ≡ 0
  none_differ _ _ no_more all = refl
  none_differ _ _ (one_more j k l m s asked said kept xs ys on answers wants rest) all =
      let x = check_of manual j l s asked said in
      let y = check_of manual k m s asked kept in
      let same = one_holds j k l m s asked said kept on answers wants ∙ ap (λ (ls : List (List ℕ)). length ls == 0) (All-head LacksNothing y ys all) in
      ap (λ (t : Bool). length (cond (not t) (x ∷ filter (λ x. not (holds x)) xs) (filter (λ x. not (holds x)) xs))) same
      ∙ none_differ xs ys rest (All-tail LacksNothing y ys all)

  all_lack_nothing : (xs ys : List Check) → Alike c xs ys → length (filter (λ x. not (holds x)) xs) ≡ 0 → All LacksNothing ys
  all_lack_nothing _ _ no_more none = All-nil LacksNothing
  all_lack_nothing _ _ (one_more j k l m s asked said kept xs ys on answers wants rest) none =
      by (length (lacking (check_of manual k m s asked kept)) == 0) refl (λ counted. all_lack_nothing xs ys rest counted)
    where
      x : Check
      x = check_of manual j l s asked said

      y : Check
      y = check_of manual k m s asked kept

      by : (t : Bool) → (length (lacking (check_of manual k m s asked kept)) == 0) ≡ t
          → (length (filter (λ x. not (holds x)) xs) ≡ 0 → All LacksNothing ys) → All LacksNothing (check_of manual k m s asked kept ∷ ys)
      by true is others =
          let counted = ap (λ (b : Bool). length (cond (not b) (x ∷ filter (λ x. not (holds x)) xs) (filter (λ x. not (holds x)) xs)))
          (one_holds j k l m s asked said kept on answers wants ∙ is) in
          All-cons LacksNothing y ys (no_bytes (lacking y) is) (others (sym counted ∙ none))
      by false is others =
          let counted = ap (λ (b : Bool). length (cond (not b) (x ∷ filter (λ x. not (holds x)) xs) (filter (λ x. not (holds x)) xs)))
          (one_holds j k l m s asked said kept on answers wants ∙ is) in
          absurd (omega (arith, sym counted ∙ none))

  -- ---- each of them is checked
  all_are_checked : (xs ys : List Check) → Alike c xs ys → length (filter is_checked xs) ≡ length ys
  all_are_checked _ _ no_more = refl
  all_are_checked _ _ (one_more j k l m s asked said kept xs ys on answers wants rest) =
      ap (λ (t : Bool). length (cond (not t || not (length (wanted_among said) == 0)) (check_of manual j l s asked said ∷ filter is_checked xs) (filter is_checked xs)))
      (ap (λ (ls : List (List ℕ)). length ls == 0) answers ∙ some_answer c (served s asked).reply)
      ∙ ap (λ (n : ℕ). suc n) (all_are_checked xs ys rest)

  as_many : (xs ys : List Check) → Alike c xs ys → length xs ≡ length ys
  as_many _ _ no_more = refl
  as_many _ _ (one_more j k l m s asked said kept xs ys on answers wants rest) = ap (λ (n : ℕ). suc n) (as_many xs ys rest)

-- ---- commands are counted
counted : (c : ClusterView) (s : SimView) (j : ℕ) (lines : List (List ℕ)) → length (checks manual s j (asked_by c lines)) ≡ length (calls_of (lines_asked c lines))
counted c s j [] = refl
counted c s j (l ∷ lines) = by (line_of c l) (λ t. counted c t (j + 1) lines)
  where
    by : (a : Line) → ((t : SimView) → length (checks manual t (j + 1) (asked_by c lines)) ≡ length (calls_of (lines_asked c lines)))
        → length (checks manual s j ((l, a) ∷ asked_by c lines)) ≡ length (calls_of (a ∷ lines_asked c lines))
    by Nothing others = others s
    by (Asks asked) others = ap (λ (n : ℕ). suc n) (others (served s asked).sim)
    by Bad others = refl

-- ---- expectations before the first command
none_given : (o : Option (List ℕ)) (xs : List (List ℕ)) → cons_option o xs ≡ [] → (o ≡ None) × (xs ≡ [])
none_given None xs h = (refl, h)
none_given (Some x) xs h = absurd (cc h)

neither : (a w : Option (List ℕ)) → (is_some a || is_some w) ≡ false → w ≡ None
neither None None h = refl
neither None (Some x) h = absurd (true≢false h)
neither (Some x) w h = absurd (true≢false h)

none_stray : (k : ℕ) (lines : List (List ℕ)) → answers_in lines ≡ [] → wanted_among lines ≡ []
    → length (filter (λ at. is_expectation at.1) (numbered k lines)) ≡ 0
none_stray k [] a w = refl
none_stray k (l ∷ lines) a w =
    let answers = none_given (answer_in (note_of l)) (answers_in lines) a in
    let wants = none_given (wanted_in (note_of l)) (wanted_among lines) w in
    ap (λ (t : Bool). length (cond t ((k, l) ∷ filter (λ at. is_expectation at.1) (numbered (k + 1) lines)) (filter (λ at. is_expectation at.1) (numbered (k + 1) lines))))
    (λ i. is_some (answers.0 i) || is_some (wants.0 i))
    ∙ none_stray (k + 1) lines answers.1 wants.1

none_wanted : (k : ℕ) (lines : List (List ℕ)) → length (filter (λ at. is_expectation at.1) (numbered k lines)) ≡ 0 → wanted_among lines ≡ []
none_wanted k [] h = refl
none_wanted k (l ∷ lines) h = by (is_expectation l) refl (λ none. none_wanted (k + 1) lines none) h
  where
    by : (t : Bool) → is_expectation l ≡ t
        → (length (filter (λ at. is_expectation at.1) (numbered (k + 1) lines)) ≡ 0 → wanted_among lines ≡ [])
        → length (cond t ((k, l) ∷ filter (λ at. is_expectation at.1) (numbered (k + 1) lines)) (filter (λ at. is_expectation at.1) (numbered (k + 1) lines))) ≡ 0
        → wanted_among (l ∷ lines) ≡ []
    by true is others some = absurd (omega (arith, some))
    by false is others none = (λ i. cons_option (neither (answer_in (note_of l)) (wanted_in (note_of l)) is i) (others none i))

-- ---- the end of a verification
none_at : (n : ℕ) → n ≡ 0 → cond (n == 0) None (Some told.Differs) ≡ None
none_at n is = rw is refl

at_none : (n : ℕ) → cond (n == 0) None (Some told.Differs) ≡ None → n ≡ 0
at_none n = by (n == 0) refl
  where
    by : (b : Bool) → (n == 0) ≡ b → cond b None (Some told.Differs) ≡ None → n ≡ 0
    by true is h = grind (arith, nat_tests, is)
    by false is h = absurd (cc h)

module _ (text : List ℕ) (c : ClusterView) (pick : Pick) (is : IsScript text c) (names : HasUnbroken c) (platforms : All IsUnbroken c.platform_names)
    (ys : List Check) (wanted : List (List ℕ)) (found : Finds c (opened c pick) (script_lines text) ys wanted) where
  abbrev before : List (List ℕ)
  before = ahead (asked_by c (script_lines text))

  abbrev each_check : List Check
  each_check = script_checks manual (opened c pick) (first_line text) (script_lines text)

  abbrev strays : ℕ
  strays = length (stray (first_line text) (asked_by c (script_lines text)))

  abbrev failing : ℕ
  failing = length (filter (λ x. not (holds x)) each_check)

  ends : verify_end text pick ≡ cond (strays + failing == 0) None (Some told.Differs)
  unfolding verify_end
  ends = rw (is.cluster, is.lines) refl

  says : verify_text text pick
      ≡ blocks_text manual (opened c pick) (first_line text) (script_lines text)
      ++ tally_text (record { commands = length each_check; checked = strays + length (filter is_checked each_check); differing = strays + failing })
  unfolding verify_text
  says = rw (is.cluster, is.lines) refl

  ends_well : All LacksNothing ys → wanted ≡ [] → verify_end text pick ≡ None
  ends_well lack none =
      ends ∙ none_at (strays + failing) (omega (
        arith,
        none_stray (first_line text) before found.silent (found.wants ∙ none),
        none_differ c names platforms each_check ys (found.alike (first_line text)) lack,
      ))

  module _ (well : verify_end text pick ≡ None) where
    zero : strays + failing ≡ 0
    zero = at_none (strays + failing) (sym ends ∙ well)

    no_strays : strays ≡ 0
    no_strays = omega (arith, zero)

    no_others : failing ≡ 0
    no_others = omega (arith, zero)

    reports : All LacksNothing ys
    reports = all_lack_nothing c names platforms each_check ys (found.alike (first_line text)) no_others

    wants_none : wanted ≡ []
    wants_none = sym found.wants ∙ none_wanted (first_line text) before no_strays

    all_count : strays + length (filter is_checked each_check) ≡ length ys
    all_count = omega (arith, no_strays, all_are_checked c names platforms each_check ys (found.alike (first_line text)))

    tally : (n m d : ℕ) → n ≡ length ys → m ≡ length ys → d ≡ 0
        → tally_text (record { commands = n; checked = m; differing = d }) ≡ all_checked (length ys)
    unfolding tally_text
    tally n m d a b e = rw (a, b, e) refl

    counts : verify_text text pick ≡ all_checked (length ys)
    counts =
        says
        ∙ ap (λ (t : List ℕ). t ++ tally_text (record { commands = length each_check; checked = strays + length (filter is_checked each_check); differing = strays + failing }))
        ((agrees text c pick is).1 well)
        ∙ tally (length each_check) (strays + length (filter is_checked each_check)) (strays + failing)
        (as_many c names platforms each_check ys (found.alike (first_line text))) all_count zero

-- ---- the whole story
module _ (bytes : List ℕ) (c : ClusterView) (pick : Pick) (run : IsRun bytes c) (some : HasScript bytes) where
  platforms : All IsUnbroken c.platform_names
  platforms = platforms_unbroken (cluster_text bytes) c run.cluster

  names : HasUnbroken c
  names = (clusters_have_words (cluster_text bytes) c run.cluster).1

  abbrev lines : List (List ℕ)
  lines = raw_lines bytes

  abbrev script : List ℕ
  script = lines_text (opened c pick) 1 [] (lines_behind lines)

  -- what it is made of
  made : story_text bytes pick true ≡ head_text lines ++ script
  unfolding story_text
  made =
      let stands = head_stands lines (rows_of bytes) some in
      ap (story_over pick true lines) run.cluster
      ∙ ap (λ (lack : List ℕ). head_text lines ++ lines_text (opened c pick) 1 lack (lines_behind lines)) (lack_ended (head_text lines) stands.ended)

  its_cluster : cluster_of (cluster_text (story_text bytes pick true)) ≡ Ok c
  its_cluster =
      let stands = head_stands lines (rows_of bytes) some in
      ap (λ (t : List ℕ). cluster_of (cluster_text t)) made ∙ ap cluster_of (stands.before script) ∙ run.cluster

  its_script : script_lines (story_text bytes pick true) ≡ lines_of script
  its_script =
      let stands = head_stands lines (rows_of bytes) some in
      ap script_lines made ∙ ap (map content) (stands.behind script)

  abbrev commands : List Check
  commands = script_checks manual (opened c pick) (first_line bytes) (script_lines bytes)

  abbrev wants : List (List ℕ)
  wants = wanted_among (ahead (asked_by c (script_lines bytes)))

  found : Finds c (opened c pick) (script_lines (story_text bytes pick true)) commands wants
  found =
      subst (λ (ls : List (List ℕ)). Finds c (opened c pick) ls commands wants) (sym its_script)
      (lines_find c pick (clusters_within (cluster_text bytes) c run.cluster) names platforms (lines_behind lines) (first_line bytes)
      (rows_behind lines (rows_of bytes)) (none_bad bytes c run))

  is_script : IsScript (story_text bytes pick true) c
  is_script = record { cluster = its_cluster; lines = found.good 1 }

  pub only_reports : ((verify_end (story_text bytes pick true) pick ≡ None) ↔ ReportsHold bytes c pick)
      × (verify_end (story_text bytes pick true) pick ≡ None → verify_text (story_text bytes pick true) pick ≡ all_checked (command_count c bytes))
  only_reports =
      let story = story_text bytes pick true in (
        (
          (λ well. record {
            behind = reports story c pick is_script names platforms commands wants found well;
            none_ahead = wants_none story c pick is_script names platforms commands wants found well;
          }),
          (λ hold. ends_well story c pick is_script names platforms commands wants found hold.behind hold.none_ahead),
        ),
        (λ well. counts story c pick is_script names platforms commands wants found well
            ∙ ap all_checked (counted c (opened c pick) (first_line bytes) (script_lines bytes))),
      )

-- ---- where nothing is wanted of a report
abbrev Unwanted : List ℕ → Type 0
Unwanted line = wanted_in (note_of line) ≡ None

unwanted_ahead : (c : ClusterView) (lines : List (List ℕ)) → All Unwanted lines → wanted_among (ahead (asked_by c lines)) ≡ []
unwanted_ahead c [] all = refl
unwanted_ahead c (l ∷ lines) all = by (line_of c l) (unwanted_ahead c lines (All-tail Unwanted l lines all))
  where
    by : (a : Line) → wanted_among (ahead (asked_by c lines)) ≡ [] → wanted_among (ahead ((l, a) ∷ asked_by c lines)) ≡ []
    by Nothing others = (λ i. cons_option (All-head Unwanted l lines all i) (others i))
    by (Asks asked) others = refl
    by Bad others = refl

unwanted_behind : (c : ClusterView) (s : SimView) (j : ℕ) (lines : List (List ℕ)) → All Unwanted lines → All LacksNothing (checks manual s j (asked_by c lines))
unwanted_behind c s j [] all = All-nil LacksNothing
unwanted_behind c s j (l ∷ lines) all = by (line_of c l) (λ t. unwanted_behind c t (j + 1) lines (All-tail Unwanted l lines all))
  where
    by : (a : Line) → ((t : SimView) → All LacksNothing (checks manual t (j + 1) (asked_by c lines))) → All LacksNothing (checks manual s j ((l, a) ∷ asked_by c lines))
    by Nothing others = others s
    by (Asks asked) others =
        let x = check_of manual j l s asked (ahead (asked_by c lines)) in
        All-cons LacksNothing x (checks manual (served s asked).sim (j + 1) (asked_by c lines))
        (ap (missing x.report) (unwanted_ahead c lines (All-tail Unwanted l lines all)))
        (others (served s asked).sim)
    by Bad others = All-nil LacksNothing

pub only_reports_differ : OnlyReportsDiffer
only_reports_differ bytes story text c pick said owed run some told_is owes =
    subst (λ (t : List ℕ). ((owed ≡ None) ↔ ReportsHold bytes c pick) × (owed ≡ None → t ≡ all_checked (command_count c bytes))) (sym (owes.0 ∙ ap (λ (s : List ℕ). verify_text s pick) told_is.0))
    (subst (λ (o : Option Told). ((o ≡ None) ↔ ReportsHold bytes c pick) × (o ≡ None → verify_text (story_text bytes pick true) pick ≡ all_checked (command_count c bytes)))
    (sym (owes.1 ∙ ap (λ (s : List ℕ). verify_end s pick) told_is.0))
    (only_reports bytes c pick run some))

pub whole_stories_hold : WholeStoriesHold
whole_stories_hold bytes story text c pick said owed run some nothing told_is owes =
    let all = only_reports_differ bytes story text c pick said owed run some told_is owes in
    let well : owed ≡ None = all.0.1 (record {
      behind = unwanted_behind c (opened c pick) (first_line bytes) (script_lines bytes) nothing;
      none_ahead = unwanted_ahead c (script_lines bytes) nothing;
    }) in
    (all.1 well, well)
