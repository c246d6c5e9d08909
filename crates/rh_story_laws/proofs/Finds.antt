-- What a verification finds in the lines of a story: the commands of the input, each with its own answer.
use Rattle.std.proofs.Common.{◌≡◌, ◌==◌, ◌+◌, ℕ, List, [], ◌∷◌, ◌++◌, Bool, true, false, cond, codes, map, length, Option, Some, None, refl, sym, ap, ◌∙◌, subst, append_assoc, append-nil}
use Rattle.std.specs.Prelude.{All}
use Rattle.std.specs.List.{flat_map, cons_option}
use Rattle.std.proofs.lemmas.List.Elements.{filter_map-append}
use Rattle.rh_model.specs.ClusterView.{ClusterView, IsWithin}
use Rattle.rh_script.specs.Notes.{note_of, is_told}
use Rattle.rh_rules.specs.declared.pick.Pick.{Pick}
use Rattle.rh_calls.specs.declared.call.Call.{Call}
use Rattle.rh_trail.specs.SimView.{SimView}
use Rattle.rh_trail.specs.Lone.{opened, served}
use Rattle.rh_courses.specs.Courses.{courses_in}
use Rattle.rh_script.specs.Laws.{IsUnbroken, HasUnbroken}
use Rattle.rh_script.specs.declared.script.Line.{Line}
use Rattle.rh_script.specs.declared.script.Line.TheVariants.{Nothing, Asks, Bad}
use Rattle.rh_script.specs.Lines.{content}
use Rattle.rh_script.specs.Commands.{line_of}
use Rattle.rh_script.specs.Answers.{answer_text}
use Rattle.rh_run.specs.RunText.{bad_line, lines_asked}
use Rattle.rh_run.proofs.Keeping.{served_keeps_cluster}
use Rattle.rh_story.specs.HeadText.{missing_end, closed}
use Rattle.rh_story.specs.LineText.{call_lines}
use Rattle.rh_story.specs.TableText.{course_line, table_text, lack_behind, is_left_out}
use Rattle.rh_story.specs.StoryText.{lines_text}
use Rattle.rh_verify.specs.Spaces.{lines_of}
use Rattle.rh_verify.specs.Manual.{manual}
use Rattle.rh_verify.specs.Expected.{Check, check_of, asked_by, ahead, checks, answer_in, wanted_in, answers_in, wanted_among}
use Rattle.rh_story_laws.proofs.Texts.{free, nothing, line, ended_append}
use Rattle.rh_story_laws.proofs.Rows.{Rows, none, last, more, content_is, content_bare}
use Rattle.rh_story_laws.proofs.Marks.{told_is}
use Rattle.rh_story_laws.proofs.Closing.{closed_ended, closes, bare_line}
use Rattle.rh_story_laws.proofs.Answered.{call_tells}
use Rattle.rh_story_laws.proofs.Telling.{blank_asks_nothing, left_out_blank, left_out_nothing, some_bytes, rows_tell, Reached, on_cluster, is_valid, reached_next}
use Rattle.rh_story_laws.proofs.Marked.{call_marked, rows_marked}
use Rattle.rh_story_laws.proofs.Again.{lack_line, lack_ended, by_asked, table_if}
use Rattle.rh_story_laws.proofs.Said.{contents_append, contents_first, told_unwanted, untold_no_line, Comments, Says, says}

-- ---- commands of a story beside those of its input
pub data Alike (c : ClusterView) : List Check → List Check → Type 0 where
  no_more : Alike c [] []
  one_more : (j k : ℕ) (l m : List ℕ) (s : SimView) (asked : Call) (said kept : List (List ℕ)) (xs ys : List Check)
      → s.cluster ≡ c → answers_in said ≡ lines_of (answer_text c (served s asked).reply) → wanted_among said ≡ wanted_among kept → Alike c xs ys
      → Alike c (check_of manual j l s asked said ∷ xs) (check_of manual k m s asked kept ∷ ys)

-- lines without a bad one, whose commands are like these, whatever the number of the first; before the first no answer is expected,
-- and this of a report
pub record Finds (c : ClusterView) (s : SimView) (lines : List (List ℕ)) (ys : List Check) (wanted : List (List ℕ)) : Type 0 where
  pub silent : answers_in (ahead (asked_by c lines)) ≡ []
  pub wants : wanted_among (ahead (asked_by c lines)) ≡ wanted
  pub alike : (j : ℕ) → Alike c (checks manual s j (asked_by c lines)) ys
  pub good : (j : ℕ) → bad_line j (lines_asked c lines) ≡ None

finds_none : (c : ClusterView) (s : SimView) → Finds c s [] [] []
finds_none c s = record { silent = refl; wants = refl; alike = λ j. no_more; good = λ j. refl }

-- ---- comments before lines
module _ (c : ClusterView) where
  ahead_passes : (qs lines : List (List ℕ)) → Comments c qs → ahead (asked_by c (qs ++ lines)) ≡ qs ++ ahead (asked_by c lines)
  ahead_passes [] lines h = refl
  ahead_passes (q ∷ qs) lines h =
      ap (λ (a : Line). ahead ((q, a) ∷ asked_by c (qs ++ lines))) h.0 ∙ ap (λ (ls : List (List ℕ)). q ∷ ls) (ahead_passes qs lines h.1)

  checks_pass : (s : SimView) (qs lines : List (List ℕ)) (ys : List Check) → Comments c qs → ((j : ℕ) → Alike c (checks manual s j (asked_by c lines)) ys)
      → (j : ℕ) → Alike c (checks manual s j (asked_by c (qs ++ lines))) ys
  checks_pass s [] lines ys h behind j = behind j
  checks_pass s (q ∷ qs) lines ys h behind j =
      subst (λ (a : Line). Alike c (checks manual s j ((q, a) ∷ asked_by c (qs ++ lines))) ys) (sym h.0) (checks_pass s qs lines ys h.1 behind (j + 1))

  bad_passes : (qs lines : List (List ℕ)) → Comments c qs → ((j : ℕ) → bad_line j (lines_asked c lines) ≡ None)
      → (j : ℕ) → bad_line j (lines_asked c (qs ++ lines)) ≡ None
  bad_passes [] lines h behind j = behind j
  bad_passes (q ∷ qs) lines h behind j =
      ap (λ (a : Line). bad_line j (a ∷ lines_asked c (qs ++ lines))) h.0 ∙ bad_passes qs lines h.1 behind (j + 1)

  answers_pass : (qs lines : List (List ℕ)) → Comments c qs
      → answers_in (ahead (asked_by c (qs ++ lines))) ≡ answers_in qs ++ answers_in (ahead (asked_by c lines))
  answers_pass qs lines h = ap answers_in (ahead_passes qs lines h) ∙ filter_map-append (λ l. answer_in (note_of l)) qs (ahead (asked_by c lines))

  wanted_pass : (qs lines : List (List ℕ)) → Comments c qs
      → wanted_among (ahead (asked_by c (qs ++ lines))) ≡ wanted_among qs ++ wanted_among (ahead (asked_by c lines))
  wanted_pass qs lines h = ap wanted_among (ahead_passes qs lines h) ∙ filter_map-append (λ l. wanted_in (note_of l)) qs (ahead (asked_by c lines))

  -- comments that say nothing
  finds_behind : (s : SimView) (qs lines : List (List ℕ)) (ys : List Check) (wanted : List (List ℕ)) → Comments c qs → answers_in qs ≡ []
      → Finds c s lines ys wanted → Finds c s (qs ++ lines) ys (wanted_among qs ++ wanted)
  finds_behind s qs lines ys wanted h quiet f = record {
    silent = answers_pass qs lines h ∙ (λ i. quiet i ++ f.silent i);
    wants = wanted_pass qs lines h ∙ ap (λ (ls : List (List ℕ)). wanted_among qs ++ ls) f.wants;
    alike = checks_pass s qs lines ys h f.alike;
    good = bad_passes qs lines h f.good;
  }

  -- a comment that is kept
  finds_kept : (s : SimView) (l : List ℕ) (lines : List (List ℕ)) (ys : List Check) (wanted : List (List ℕ)) → line_of c l ≡ Nothing
      → answer_in (note_of l) ≡ None → Finds c s lines ys wanted → Finds c s (l ∷ lines) ys (cons_option (wanted_in (note_of l)) wanted)
  finds_kept s l lines ys wanted is quiet f =
      subst (Finds c s (l ∷ lines) ys) (alone (wanted_in (note_of l)))
      (finds_behind s (l ∷ []) lines ys wanted (is, tt) (ap (λ (o : Option (List ℕ)). cons_option o []) quiet) f)
    where
      alone : (o : Option (List ℕ)) → cons_option o [] ++ wanted ≡ cons_option o wanted
      alone None = refl
      alone (Some x) = refl

  -- one that is left out
  finds_less : (s : SimView) (l : List ℕ) (lines : List (List ℕ)) (ys : List Check) (wanted : List (List ℕ)) → wanted_in (note_of l) ≡ None
      → Finds c s lines ys wanted → Finds c s lines ys (cons_option (wanted_in (note_of l)) wanted)
  finds_less s l lines ys wanted unwanted f =
      subst (Finds c s lines ys) (sym (ap (λ (o : Option (List ℕ)). cons_option o wanted) unwanted)) f

  -- a command with its answer
  finds_command : (s : SimView) (k : ℕ) (l m : List ℕ) (asked : Call) (qs kept lines : List (List ℕ)) (ys : List Check) → s.cluster ≡ c
      → line_of c l ≡ Asks asked → Says c qs (lines_of (answer_text c (served s asked).reply)) → Finds c (served s asked).sim lines ys (wanted_among kept)
      → Finds c s (l ∷ (qs ++ lines)) (check_of manual k m s asked kept ∷ ys) []
  finds_command s k l m asked qs kept lines ys on is said f = record {
    silent = ap (λ (a : Line). answers_in (ahead ((l, a) ∷ asked_by c (qs ++ lines)))) is;
    wants = ap (λ (a : Line). wanted_among (ahead ((l, a) ∷ asked_by c (qs ++ lines)))) is;
    alike = λ j.
        subst (λ (a : Line). Alike c (checks manual s j ((l, a) ∷ asked_by c (qs ++ lines))) (check_of manual k m s asked kept ∷ ys)) (sym is)
        (one_more j k l m s asked (ahead (asked_by c (qs ++ lines))) kept (checks manual (served s asked).sim (j + 1) (asked_by c (qs ++ lines))) ys on
        (answers_pass qs lines said.comments ∙ (λ i. said.answers i ++ f.silent i) ∙ append-nil (lines_of (answer_text c (served s asked).reply)))
        (wanted_pass qs lines said.comments ∙ (λ i. said.unwanted i ++ f.wants i))
        (checks_pass (served s asked).sim qs lines ys said.comments f.alike (j + 1)));
    good = λ j.
        ap (λ (a : Line). bad_line j (a ∷ lines_asked c (qs ++ lines))) is ∙ bad_passes qs lines said.comments f.good (j + 1);
  }

-- ---- the table
module _ (c : ClusterView) (names : HasUnbroken c) (platforms : All IsUnbroken c.platform_names) (s : SimView) (on : s.cluster ≡ c) where
  abbrev rows : List ℕ
  rows = flat_map (course_line s.cluster) (courses_in s)

  rows_find : Finds c s (lines_of rows) [] []
  rows_find =
      let said = says c rows [] (rows_tell c names platforms s on) (rows_marked c names platforms s on (courses_in s)) in
      subst (λ (ls : List (List ℕ)). Finds c s ls [] []) (append-nil (lines_of rows))
      (subst (λ (ws : List (List ℕ)). Finds c s (lines_of rows ++ []) [] ws) (ap (λ (ws : List (List ℕ)). ws ++ []) said.unwanted)
      (finds_behind c s (lines_of rows) [] [] [] said.comments said.answers (finds_none c s)))

  blank_finds : Finds c s (lines_of (codes "\n" ++ rows)) [] []
  blank_finds =
      subst (λ (l : List ℕ). Finds c s (l ∷ lines_of rows) [] []) (sym (content_is []))
      (finds_kept c s [] (lines_of rows) [] [] (blank_asks_nothing c) refl rows_find)

  table_finds : Finds c s (lines_of (table_text [] s)) [] []
  unfolding table_text
  table_finds = by (length (courses_in s) == 0)
    where
      by : (b : Bool) → Finds c s (lines_of (table_if s [] b)) [] []
      by true = finds_none c s
      by false = blank_finds

  -- behind a comment that doesn't end
  bare_finds : (x : List ℕ) → free x ≡ true → (x ≡ [] → ⊥) → line_of c (content x) ≡ Nothing → is_told (content x) ≡ false
      → Finds c s (lines_of (x ++ table_text (missing_end x) s)) [] (cons_option (wanted_in (note_of (content x))) [])
  unfolding table_text
  bare_finds x u some asks other = by (length (courses_in s) == 0)
    where
      shape : (a b d : List ℕ) → x ++ ((a ++ b) ++ d) ≡ (x ++ a) ++ (b ++ d)
      shape a b d = simp append_assoc

      quiet : answer_in (note_of (content x)) ≡ None
      quiet = untold_no_line (content x) (sym (told_is (content x)) ∙ other)

      kept : (rest : List (List ℕ)) → Finds c s rest [] [] → Finds c s (content x ∷ rest) [] (cons_option (wanted_in (note_of (content x))) [])
      kept rest f = finds_kept c s (content x) rest [] [] asks quiet f

      by : (b : Bool) → Finds c s (lines_of (x ++ table_if s (missing_end x) b)) [] (cons_option (wanted_in (note_of (content x))) [])
      by true =
          subst (λ (ls : List (List ℕ)). Finds c s ls [] (cons_option (wanted_in (note_of (content x))) []))
          (sym (ap lines_of (append-nil x) ∙ ap (map content) (bare_line x u some))) (kept [] (finds_none c s))
      by false =
          let y = (closes x u).0 in
          let h = (closes x u).1 in
          let same : content (y ++ 10 ∷ []) ≡ content x = h.content ∙ sym (content_bare x u) in
          subst (λ (ls : List (List ℕ)). Finds c s ls [] (cons_option (wanted_in (note_of (content x))) []))
          (sym (ap lines_of (shape (missing_end x) (codes "\n") rows ∙ ap (λ (l : List ℕ). l ++ (codes "\n" ++ rows)) h.is)
          ∙ contents_first y (codes "\n" ++ rows) h.free ∙ ap (λ (l : List ℕ). l ∷ lines_of (codes "\n" ++ rows)) same))
          (kept (lines_of (codes "\n" ++ rows)) blank_finds)

-- ---- the lines, one after the other
module _ (c : ClusterView) (pick : Pick) (within : IsWithin c) (names : HasUnbroken c) (platforms : All IsUnbroken c.platform_names) where
  -- what a line and those behind it are in the input
  abbrev checks_by : SimView → ℕ → List ℕ → List (List ℕ) → Line → List Check
  checks_by s j l rest asked = checks manual s j ((content l, asked) ∷ asked_by c (map content rest))

  abbrev wanted_by : List ℕ → List (List ℕ) → Line → List (List ℕ)
  wanted_by l rest asked = wanted_among (ahead ((content l, asked) ∷ asked_by c (map content rest)))

  abbrev AllFind : List (List ℕ) → Type 0
  AllFind lines = (done : List Call) (s : SimView) → Reached c pick within names platforms done s → (k j : ℕ)
      → bad_line k (lines_asked c (map content lines)) ≡ None
      → Finds c s (lines_of (lines_text s k [] lines)) (checks manual s j (asked_by c (map content lines))) (wanted_among (ahead (asked_by c (map content lines))))

  -- a command, and the text behind its answer
  command_finds : (done : List Call) (s : SimView) → Reached c pick within names platforms done s → (j : ℕ) (x m : List ℕ) (asked : Call) (text : List ℕ)
      (kept : List (List ℕ)) (ys : List Check) → free x ≡ true → line_of c (content (x ++ 10 ∷ [])) ≡ Asks asked
      → Finds c (served s asked).sim (lines_of text) ys (wanted_among kept)
      → Finds c s (lines_of (((x ++ 10 ∷ []) ++ call_lines s asked (served s asked).reply) ++ text)) (check_of manual j m s asked kept ∷ ys) []
  command_finds done s at j x m asked text kept ys u is f =
      let l = x ++ 10 ∷ [] in
      let on = on_cluster c pick within names platforms done s at in
      let said = call_lines s asked (served s asked).reply in
      let tells = call_tells c names platforms s on (is_valid c pick within names platforms done s at) asked in
      let all : Says c (lines_of said) (lines_of (answer_text c (served s asked).reply)) =
      subst (λ (d : ClusterView). Says c (lines_of said) (lines_of (answer_text d (served s asked).reply))) on
      (says c said (answer_text s.cluster (served s asked).reply) tells (call_marked c names platforms s on asked)) in
      subst (λ (ls : List (List ℕ)). Finds c s ls (check_of manual j m s asked kept ∷ ys) [])
      (sym (ap lines_of (append_assoc l said text) ∙ contents_first x (said ++ text) u
      ∙ ap (λ (ls : List (List ℕ)). content l ∷ ls) (contents_append said text tells.ended)))
      (finds_command c s j (content l) m asked (lines_of said) kept (lines_of text) ys on is all f)

  one_finds : (x : List ℕ) (rest : List (List ℕ)) → free x ≡ true → AllFind rest
      → (done : List Call) (s : SimView) → Reached c pick within names platforms done s → (k j : ℕ) (asked : Line)
      → line_of c (content (x ++ 10 ∷ [])) ≡ asked → bad_line k (asked ∷ lines_asked c (map content rest)) ≡ None
      → Finds c s (lines_of (by_asked s k (x ++ 10 ∷ []) rest asked)) (checks_by s j (x ++ 10 ∷ []) rest asked) (wanted_by (x ++ 10 ∷ []) rest asked)
  one_finds x rest u others done s at k j Nothing is good = by (is_left_out (x ++ 10 ∷ []) rest) (is_told (content (x ++ 10 ∷ []))) refl refl
    where
      l : List ℕ
      l = x ++ 10 ∷ []

      ys : List Check
      ys = checks manual s (j + 1) (asked_by c (map content rest))

      wanted : List (List ℕ)
      wanted = wanted_among (ahead (asked_by c (map content rest)))

      behind : Finds c s (lines_of (lines_text s (k + 1) [] rest)) (checks manual s (j + 1) (asked_by c (map content rest))) (wanted_among (ahead (asked_by c (map content rest))))
      behind = others done s at (k + 1) (j + 1) good

      by : (out old : Bool) → is_left_out (x ++ 10 ∷ []) rest ≡ out → is_told (content (x ++ 10 ∷ [])) ≡ old
          → Finds c s (lines_of (cond out [] (cond old [] (x ++ 10 ∷ []))
          ++ lines_text s (k + 1) (lack_behind [] (cond out [] (cond old [] (x ++ 10 ∷ [])))) rest))
          (checks manual s (j + 1) (asked_by c (map content rest)))
          (cons_option (wanted_in (note_of (content (x ++ 10 ∷ [])))) (wanted_among (ahead (asked_by c (map content rest)))))
      by true old out h =
          finds_less c s (content l) (lines_of (lines_text s (k + 1) [] rest)) ys wanted
          (ap (λ (t : List ℕ). wanted_in (note_of t)) (left_out_blank l rest out)) behind
      by false true out h =
          finds_less c s (content l) (lines_of (lines_text s (k + 1) [] rest)) ys wanted
          (told_unwanted (content l) (sym (told_is (content l)) ∙ h)) behind
      by false false out h =
          subst (λ (lack : List ℕ). Finds c s (lines_of ((x ++ 10 ∷ []) ++ lines_text s (k + 1) lack rest)) ys (cons_option (wanted_in (note_of (content l))) wanted))
          (sym (lack_line x))
          (subst (λ (ls : List (List ℕ)). Finds c s ls ys (cons_option (wanted_in (note_of (content l))) wanted))
          (sym (contents_first x (lines_text s (k + 1) [] rest) u))
          (finds_kept c s (content l) (lines_of (lines_text s (k + 1) [] rest)) ys wanted is
          (untold_no_line (content l) (sym (told_is (content l)) ∙ h)) behind))
  one_finds x rest u others done s at k j (Asks asked) is good = by (is_left_out (x ++ 10 ∷ []) rest) refl
    where
      by : (out : Bool) → is_left_out (x ++ 10 ∷ []) rest ≡ out
          → Finds c s (lines_of (cond out [] (closed (x ++ 10 ∷ []) ++ call_lines s asked (served s asked).reply)
          ++ lines_text (served s asked).sim (k + 1) (lack_behind [] (cond out [] (closed (x ++ 10 ∷ []) ++ call_lines s asked (served s asked).reply))) rest))
          (check_of manual j (content (x ++ 10 ∷ [])) s asked (ahead (asked_by c (map content rest))) ∷ checks manual (served s asked).sim (j + 1) (asked_by c (map content rest))) []
      by true out = absurd (left_out_nothing c (x ++ 10 ∷ []) rest asked out is)
      by false out =
          let l = x ++ 10 ∷ [] in
          let on = on_cluster c pick within names platforms done s at in
          let said = call_lines s asked (served s asked).reply in
          let ended = (call_tells c names platforms s on (is_valid c pick within names platforms done s at) asked).ended in
          let lack : lack_behind [] (l ++ said) ≡ [] = lack_ended (l ++ said) (ended_append l said (line x [] u nothing) ended) in
          let kept = ahead (asked_by c (map content rest)) in
          let ys = checks manual (served s asked).sim (j + 1) (asked_by c (map content rest)) in
          let wants : List Check = check_of manual j (content l) s asked kept ∷ ys in
          subst (λ (t : List ℕ). Finds c s (lines_of ((t ++ said) ++ lines_text (served s asked).sim (k + 1) (lack_behind [] (t ++ said)) rest)) wants [])
          (sym (closed_ended x))
          (subst (λ (lack : List ℕ). Finds c s (lines_of ((l ++ said) ++ lines_text (served s asked).sim (k + 1) lack rest)) wants []) (sym lack)
          (command_finds done s at j x (content l) asked (lines_text (served s asked).sim (k + 1) [] rest) kept ys u is
          (others (done ++ asked ∷ []) (served s asked).sim (reached_next c pick within names platforms done s asked at) (k + 1) (j + 1) good)))
  one_finds x rest u others done s at k j Bad is good = absurd (cc good)

  -- the last line, where it doesn't end
  last_finds : (x : List ℕ) → free x ≡ true → (x ≡ [] → ⊥) → (done : List Call) (s : SimView) → Reached c pick within names platforms done s → (k j : ℕ)
      (asked : Line) → line_of c (content x) ≡ asked → bad_line k (asked ∷ []) ≡ None
      → Finds c s (lines_of (by_asked s k x [] asked)) (checks_by s j x [] asked) (wanted_by x [] asked)
  last_finds x u some done s at k j Nothing is good = by (is_left_out x []) (is_told (content x)) refl refl
    where
      on : s.cluster ≡ c
      on = on_cluster c pick within names platforms done s at

      by : (out old : Bool) → is_left_out x [] ≡ out → is_told (content x) ≡ old
          → Finds c s (lines_of (cond out [] (cond old [] x) ++ table_text (lack_behind [] (cond out [] (cond old [] x))) s)) []
          (cons_option (wanted_in (note_of (content x))) [])
      by true old out h =
          finds_less c s (content x) (lines_of (table_text [] s)) [] []
          (ap (λ (t : List ℕ). wanted_in (note_of t)) (left_out_blank x [] out)) (table_finds c names platforms s on)
      by false true out h =
          finds_less c s (content x) (lines_of (table_text [] s)) [] []
          (told_unwanted (content x) (sym (told_is (content x)) ∙ h)) (table_finds c names platforms s on)
      by false false out h =
          subst (λ (t : Bool). Finds c s (lines_of (x ++ table_text (cond t [] (missing_end x)) s)) [] (cons_option (wanted_in (note_of (content x))) []))
          (sym (some_bytes x some)) (bare_finds c names platforms s on x u some is h)
  last_finds x u some done s at k j (Asks asked) is good = by (is_left_out x []) refl
    where
      on : s.cluster ≡ c
      on = on_cluster c pick within names platforms done s at

      by : (out : Bool) → is_left_out x [] ≡ out
          → Finds c s (lines_of (cond out [] (closed x ++ call_lines s asked (served s asked).reply)
          ++ table_text (lack_behind [] (cond out [] (closed x ++ call_lines s asked (served s asked).reply))) (served s asked).sim))
          (check_of manual j (content x) s asked [] ∷ []) []
      by true out = absurd (left_out_nothing c x [] asked out is)
      by false out =
          let y = (closes x u).0 in
          let h = (closes x u).1 in
          let l = y ++ 10 ∷ [] in
          let said = call_lines s asked (served s asked).reply in
          let same : content l ≡ content x = h.content ∙ sym (content_bare x u) in
          let ended = (call_tells c names platforms s on (is_valid c pick within names platforms done s at) asked).ended in
          let lack : lack_behind [] (l ++ said) ≡ [] = lack_ended (l ++ said) (ended_append l said (line y [] h.free nothing) ended) in
          let wants : List Check = check_of manual j (content x) s asked [] ∷ [] in
          subst (λ (t : List ℕ). Finds c s (lines_of ((t ++ said) ++ table_text (lack_behind [] (t ++ said)) (served s asked).sim)) wants []) (sym h.is)
          (subst (λ (lack : List ℕ). Finds c s (lines_of ((l ++ said) ++ table_text lack (served s asked).sim)) wants []) (sym lack)
          (command_finds done s at j y (content x) asked (table_text [] (served s asked).sim) [] [] h.free (ap (line_of c) same ∙ is)
          (table_finds c names platforms (served s asked).sim (served_keeps_cluster s asked ∙ on))))
  last_finds x u some done s at k j Bad is good = absurd (cc good)

  all_find : (lines : List (List ℕ)) → Rows lines → AllFind lines
  all_find _ none done s at k j good = table_finds c names platforms s (on_cluster c pick within names platforms done s at)
  all_find _ (last x u some) done s at k j good =
      subst (λ (d : ClusterView). Finds c s (lines_of (by_asked s k x [] (line_of d (content x)))) (checks_by s j x [] (line_of c (content x)))
      (wanted_by x [] (line_of c (content x))))
      (sym (on_cluster c pick within names platforms done s at))
      (last_finds x u some done s at k j (line_of c (content x)) refl good)
  all_find _ (more x rest u r) done s at k j good =
      let l = x ++ 10 ∷ [] in
      subst (λ (d : ClusterView). Finds c s (lines_of (by_asked s k l rest (line_of d (content l)))) (checks_by s j l rest (line_of c (content l)))
      (wanted_by l rest (line_of c (content l))))
      (sym (on_cluster c pick within names platforms done s at))
      (one_finds x rest u (all_find rest r) done s at k j (line_of c (content l)) refl good)

  pub lines_find : (lines : List (List ℕ)) (j : ℕ) → Rows lines → bad_line 1 (lines_asked c (map content lines)) ≡ None
      → Finds c (opened c pick) (lines_of (lines_text (opened c pick) 1 [] lines)) (checks manual (opened c pick) j (asked_by c (map content lines)))
      (wanted_among (ahead (asked_by c (map content lines))))
  lines_find lines j r good = all_find lines r [] (opened c pick) refl 1 j good
