-- The lines of a story are told again as they stand.
use Rattle.std.proofs.Common.{◌≡◌, ◌==◌, ◌&&◌, ◌+◌, ℕ, List, [], ◌∷◌, ◌++◌, Bool, true, false, cond, codes, map, length, Option, Some, None, refl, sym, ap, ◌∙◌, subst, append_assoc, append-nil, true≢false}
use Rattle.std.specs.Prelude.{All}
use Rattle.std.specs.List.{flat_map, concat}
use Rattle.std.specs.Option.{option_map}
use Rattle.rh_model.specs.ClusterView.{ClusterView, IsWithin}
use Rattle.rh_script.specs.declared.notes.Kind.{Kind}
use Rattle.rh_script.specs.declared.notes.Kind.TheVariants as kind
use Rattle.rh_script.specs.Notes.{mark, note_of, is_told}
use Rattle.rh_rules.specs.declared.pick.Pick.{Pick}
use Rattle.rh_calls.specs.declared.call.Call.{Call}
use Rattle.rh_trail.specs.SimView.{SimView}
use Rattle.rh_trail.specs.Lone.{opened, served}
use Rattle.rh_courses.specs.Courses.{CourseView, courses_in}
use Rattle.rh_courses.specs.Texts.{course_text}
use Rattle.rh_script.specs.Laws.{IsUnbroken, HasUnbroken}
use Rattle.rh_script.specs.declared.script.Line.{Line}
use Rattle.rh_script.specs.declared.script.Line.TheVariants.{Nothing, Asks, Bad}
use Rattle.rh_script.specs.Lines.{raw_lines, content, ends_with}
use Rattle.rh_script.specs.Commands.{line_of}
use Rattle.rh_run.specs.RunText.{bad_line, lines_asked}
use Rattle.rh_run.proofs.Keeping.{served_keeps_cluster}
use Rattle.rh_story.specs.HeadText.{missing_end, closed}
use Rattle.rh_story.specs.LineText.{kept, call_lines, line_text, behind_line, is_bad}
use Rattle.rh_story.specs.TableText.{is_table_note, course_line, table_text, lack_behind, starts_table, is_left_out, shown}
use Rattle.rh_story.specs.StoryText.{lines_text}
use Rattle.rh_story_laws.proofs.Texts.{free, Ended, nothing, line, first_line, lines_append, ended_append}
use Rattle.rh_story_laws.proofs.Rows.{Rows, none, last, more, ends_is, content_is, content_bare}
use Rattle.rh_story_laws.proofs.Marks.{kind_at, told_kind, kind_content, told_is, command_plain}
use Rattle.rh_story_laws.proofs.Closing.{closed_ended, closes, bare_line}
use Rattle.rh_story_laws.proofs.Answered.{call_tells}
use Rattle.rh_story_laws.proofs.Telling.{blank_asks_nothing, left_out_nothing, some_bytes, Reached, on_cluster, is_valid, reached_next}
use Rattle.rh_story_laws.proofs.Marked.{Marked, AllMarked, marked_asks_nothing, call_marked, rows_marked, row_first}

-- ---- what a text lacks behind whole lines
pub lack_line : (x : List ℕ) → lack_behind [] (x ++ 10 ∷ []) ≡ []
lack_line x = by (length (x ++ 10 ∷ []) == 0)
  where
    missing : missing_end (x ++ 10 ∷ []) ≡ []
    missing = ap (λ (t : Bool). cond t [] (cond (ends_with 13 (x ++ 10 ∷ [])) (codes "\r\n") (codes "\n"))) (ends_is x 10 10)

    by : (b : Bool) → cond b [] (missing_end (x ++ 10 ∷ [])) ≡ []
    by true = refl
    by false = missing

-- a text of whole lines is empty or ends in LF
data Final : List ℕ → Type 0 where
  empty_text : Final []
  by_lf : (x : List ℕ) → Final (x ++ 10 ∷ [])

final_of : (t : List ℕ) → Ended t → Final t
final_of _ nothing = empty_text
final_of _ (line x rest u r) = behind rest (final_of rest r)
  where
    behind : (rest : List ℕ) → Final rest → Final (x ++ 10 ∷ rest)
    behind _ empty_text = by_lf x
    behind _ (by_lf y) = subst Final (append_assoc x (10 ∷ y) (10 ∷ [])) (by_lf (x ++ 10 ∷ y))

pub lack_ended : (t : List ℕ) → Ended t → lack_behind [] t ≡ []
lack_ended t e = by t (final_of t e)
  where
    by : (t : List ℕ) → Final t → lack_behind [] t ≡ []
    by _ empty_text = refl
    by _ (by_lf x) = lack_line x

-- ---- old tables
no_table : (l : List ℕ) → told_kind (kind_at l) ≡ false → is_table_note (note_of l) ≡ false
no_table l h = by (note_of l) h
  where
    by : (o : Option (Kind × List ℕ)) → told_kind (option_map (λ (note : Kind × List ℕ). note.0) o) ≡ false → is_table_note o ≡ false
    by None k = refl
    by (Some (kind.Answer, text)) k = refl
    by (Some (kind.Time, text)) k = refl
    by (Some (kind.Reason, text)) k = refl
    by (Some (kind.Table, text)) k = absurd (true≢false k)
    by (Some (kind.Wanted, text)) k = refl

table_by_kind : (l : List ℕ) → kind_at l ≡ Some kind.Table → is_table_note (note_of l) ≡ true
table_by_kind l h = by (note_of l) h
  where
    by : (o : Option (Kind × List ℕ)) → option_map (λ (note : Kind × List ℕ). note.0) o ≡ Some kind.Table → is_table_note o ≡ true
    by None k = cc k
    by (Some (kind.Answer, text)) k = cc k
    by (Some (kind.Time, text)) k = cc k
    by (Some (kind.Reason, text)) k = cc k
    by (Some (kind.Table, text)) k = refl
    by (Some (kind.Wanted, text)) k = cc k

not_left_out : (l : List ℕ) (rest : List (List ℕ)) → starts_table rest ≡ false → is_left_out l rest ≡ false
unfolding is_left_out
not_left_out l rest h = ap (λ (t : Bool). (length (content l) == 0) && t) h ∙ by (length (content l) == 0)
  where
    by : (b : Bool) → (b && false) ≡ false
    by true = refl
    by false = refl

blank_left_out : (rest : List (List ℕ)) → starts_table rest ≡ true → is_left_out (10 ∷ []) rest ≡ true
unfolding is_left_out
blank_left_out rest h = (λ i. (length (content_is [] i) == 0) && h i)

-- ---- one line, by what it asks
abbrev pub by_asked : SimView → ℕ → List ℕ → List (List ℕ) → Line → List ℕ
by_asked s k l rest asked =
    shown l rest (line_text s k l asked)
    ++ cond (is_bad asked) (concat rest) (lines_text (behind_line s asked) (k + 1) (lack_behind [] (shown l rest (line_text s k l asked))) rest)

-- it says nothing, and is left out
passes : (s : SimView) (k : ℕ) (l : List ℕ) (rest : List (List ℕ)) → line_of s.cluster (content l) ≡ Nothing → shown l rest (kept l) ≡ []
    → lines_text s k [] (l ∷ rest) ≡ lines_text s (k + 1) [] rest
passes s k l rest asks out =
    ap (by_asked s k l rest) asks
    ∙ ap (λ (text : List ℕ). text ++ lines_text s (k + 1) (lack_behind [] text) rest) out

marked_out : (l : List ℕ) (rest : List (List ℕ)) → Marked l → shown l rest (kept l) ≡ []
marked_out l rest h = ap (λ (t : Bool). shown l rest (cond t [] l)) (told_is (content l) ∙ h) ∙ by (is_left_out l rest)
  where
    by : (b : Bool) → ◌≡◌ {A = List ℕ} (cond b [] []) []
    by true = refl
    by false = refl

drop_marked : (s : SimView) (said : List (List ℕ)) → AllMarked said → (rest : List (List ℕ)) (text : List ℕ)
    → ((j : ℕ) → lines_text s j [] rest ≡ text) → (j : ℕ) → lines_text s j [] (said ++ rest) ≡ text
drop_marked s [] marked rest text behind j = behind j
drop_marked s (l ∷ said) marked rest text behind j =
    passes s j l (said ++ rest) (marked_asks_nothing s.cluster (content l) marked.0) (marked_out l (said ++ rest) marked.0)
    ∙ drop_marked s said marked.1 rest text behind (j + 1)

-- a text that is told again as it stands, and doesn't begin with an old table
record Stands (s : SimView) (text : List ℕ) : Type 0 where
  again : (j : ℕ) → lines_text s j [] (raw_lines text) ≡ text
  plain : starts_table (raw_lines text) ≡ false

line_first : (x text : List ℕ) → free x ≡ true → raw_lines ((x ++ 10 ∷ []) ++ text) ≡ (x ++ 10 ∷ []) ∷ raw_lines text
line_first x text u = ap raw_lines (append_assoc x (10 ∷ []) text) ∙ first_line x text u

begins_plain : (x text : List ℕ) → free x ≡ true → told_kind (kind_at (content (x ++ 10 ∷ []))) ≡ false → starts_table (raw_lines ((x ++ 10 ∷ []) ++ text)) ≡ false
begins_plain x text u h = ap starts_table (line_first x text u) ∙ no_table (content (x ++ 10 ∷ [])) h

-- ---- a comment that is kept
kept_stands : (s : SimView) (x text : List ℕ) → free x ≡ true → line_of s.cluster (content (x ++ 10 ∷ [])) ≡ Nothing
    → is_told (content (x ++ 10 ∷ [])) ≡ false → Stands s text → Stands s ((x ++ 10 ∷ []) ++ text)
kept_stands s x text u asks other behind =
    let l = x ++ 10 ∷ [] in
    let rest = raw_lines text in
    let here : shown l rest (kept l) ≡ l =
    (λ i. cond (not_left_out l rest behind.plain i) [] (cond (other i) [] l)) in
    record {
      again = λ j.
          ap (lines_text s j []) (line_first x text u)
          ∙ ap (by_asked s j l rest) asks
          ∙ ap (λ (t : List ℕ). t ++ lines_text s (j + 1) (lack_behind [] t) rest) here
          ∙ ap (λ (lack : List ℕ). l ++ lines_text s (j + 1) lack rest) (lack_line x)
          ∙ ap (λ (t : List ℕ). l ++ t) (behind.again (j + 1));
      plain = begins_plain x text u (sym (told_is (content l)) ∙ other);
    }

-- the table of a simulation, by whether it has no course
abbrev pub table_if : SimView → List ℕ → Bool → List ℕ
table_if s lack b = cond b [] (lack ++ codes "\n" ++ flat_map (course_line s.cluster) (courses_in s))

module _ (c : ClusterView) (names : HasUnbroken c) (platforms : All IsUnbroken c.platform_names) where
  -- ---- the table
  table_stands : (s : SimView) → s.cluster ≡ c → Stands s (table_text [] s)
  unfolding table_text
  table_stands s on = record { again = λ j. again_by j (length (courses_in s) == 0) refl; plain = plain_by (length (courses_in s) == 0) }
    where
      rows : List ℕ
      rows = flat_map (course_line s.cluster) (courses_in s)

      blank_first : raw_lines (codes "\n" ++ flat_map (course_line s.cluster) (courses_in s)) ≡ (10 ∷ []) ∷ raw_lines (flat_map (course_line s.cluster) (courses_in s))
      blank_first = refl

      plain_by : (b : Bool) → starts_table (raw_lines (table_if s [] b)) ≡ false
      plain_by true = refl
      plain_by false = ap (λ (l : List ℕ). is_table_note (note_of l)) (content_is [])

      row_starts : (courses : List CourseView) → (length courses == 0) ≡ false → starts_table (raw_lines (flat_map (course_line s.cluster) courses)) ≡ true
      row_starts [] h = absurd (true≢false h)
      row_starts (course ∷ courses) h =
          ap starts_table (row_first c names platforms s on course courses)
          ∙ table_by_kind (content ((mark kind.Table ++ course_text s.cluster course) ++ 10 ∷ [])) (kind_content (mark kind.Table ++ course_text s.cluster course))

      again_by : (j : ℕ) (b : Bool) → (length (courses_in s) == 0) ≡ b → lines_text s j [] (raw_lines (table_if s [] b)) ≡ table_if s [] b
      again_by j true is = ap (table_if s []) is
      again_by j false is =
          let ls = raw_lines (flat_map (course_line s.cluster) (courses_in s)) in
          let out = blank_left_out ls (row_starts (courses_in s) is) in
          passes s j (10 ∷ []) ls (ap (line_of s.cluster) (content_is []) ∙ blank_asks_nothing s.cluster)
          (ap (λ (t : Bool). cond t [] (kept (10 ∷ []))) out)
          ∙ ap (lines_text s (j + 1) []) (sym (append-nil ls))
          ∙ drop_marked s ls (rows_marked c names platforms s on (courses_in s)) [] (table_if s [] false) (λ k. ap (table_if s []) is) (j + 1)

  -- behind a comment that doesn't end
  bare_stands : (s : SimView) → s.cluster ≡ c → (x : List ℕ) → free x ≡ true → (x ≡ [] → ⊥) → line_of s.cluster (content x) ≡ Nothing
      → is_told (content x) ≡ false → Stands s (x ++ table_text (missing_end x) s)
  unfolding table_text
  bare_stands s on x u some asks other = by (length (courses_in s) == 0) refl
    where
      shape : (a b d : List ℕ) → x ++ ((a ++ b) ++ d) ≡ (x ++ a) ++ (b ++ d)
      shape a b d = simp append_assoc

      lacks : lack_behind [] x ≡ missing_end x
      lacks = ap (λ (t : Bool). cond t [] (missing_end x)) (some_bytes x some)

      alone : (length (courses_in s) == 0) ≡ true → Stands s (x ++ [])
      alone is = subst (Stands s) (sym (append-nil x)) (record {
        again = λ j.
            ap (lines_text s j []) (bare_line x u some)
            ∙ ap (by_asked s j x []) asks
            ∙ ap (λ (t : List ℕ). t ++ lines_text s (j + 1) (lack_behind [] t) [])
            (λ i. cond (not_left_out x [] refl i) [] (cond (other i) [] x))
            ∙ ap (λ (t : Bool). x ++ table_if s (lack_behind [] x) t) is
            ∙ append-nil x;
        plain = ap starts_table (bare_line x u some) ∙ no_table (content x) (sym (told_is (content x)) ∙ other);
      })

      ended : (length (courses_in s) == 0) ≡ false → Stands s (x ++ (missing_end x ++ codes "\n" ++ flat_map (course_line s.cluster) (courses_in s)))
      ended is =
          let y = (closes x u).0 in
          let h = (closes x u).1 in
          let rows = flat_map (course_line s.cluster) (courses_in s) in
          let same : content (y ++ 10 ∷ []) ≡ content x = h.content ∙ sym (content_bare x u) in
          let table : Stands s (codes "\n" ++ rows) = subst (λ (b : Bool). Stands s (table_if s [] b)) is (table_stands s on) in
          subst (Stands s) (sym (shape (missing_end x) (codes "\n") rows ∙ ap (λ (l : List ℕ). l ++ (codes "\n" ++ rows)) h.is))
          (kept_stands s y (codes "\n" ++ rows) h.free (ap (line_of s.cluster) same ∙ asks) (ap is_told same ∙ other) table)

      by : (b : Bool) → (length (courses_in s) == 0) ≡ b → Stands s (x ++ table_if s (missing_end x) b)
      by true is = alone is
      by false is = ended is

module _ (c : ClusterView) (pick : Pick) (within : IsWithin c) (names : HasUnbroken c) (platforms : All IsUnbroken c.platform_names) where
  abbrev asks_of : List (List ℕ) → List Line
  asks_of lines = lines_asked c (map content lines)

  -- ---- a command
  asks_stands : (done : List Call) (s : SimView) → Reached c pick within names platforms done s → (x : List ℕ) (asked : Call) (text : List ℕ) → free x ≡ true
      → line_of s.cluster (content (x ++ 10 ∷ [])) ≡ Asks asked → Stands (served s asked).sim text
      → Stands s (((x ++ 10 ∷ []) ++ call_lines s asked (served s asked).reply) ++ text)
  asks_stands done s at x asked text u is behind =
      let l = x ++ 10 ∷ [] in
      let on = on_cluster c pick within names platforms done s at in
      let said = call_lines s asked (served s asked).reply in
      let ended = (call_tells c names platforms s on (is_valid c pick within names platforms done s at) asked).ended in
      let whole : Ended (l ++ said) = ended_append l said (line x [] u nothing) ended in
      let rest = raw_lines said ++ raw_lines text in
      let first : raw_lines ((l ++ said) ++ text) ≡ l ∷ rest =
      ap raw_lines (append_assoc l said text) ∙ line_first x (said ++ text) u ∙ ap (λ (ls : List (List ℕ)). l ∷ ls) (lines_append said text ended) in
      let here : shown l rest (closed l ++ said) ≡ l ++ said =
      ap (λ (t : Bool). cond t [] (closed l ++ said)) (not_out l rest (is_left_out l rest) refl is) ∙ ap (λ (t : List ℕ). t ++ said) (closed_ended x) in
      record {
        again = λ j.
            ap (lines_text s j []) first
            ∙ ap (by_asked s j l rest) is
            ∙ ap (λ (t : List ℕ). t ++ lines_text (served s asked).sim (j + 1) (lack_behind [] t) rest) here
            ∙ ap (λ (lack : List ℕ). (l ++ said) ++ lines_text (served s asked).sim (j + 1) lack rest) (lack_ended (l ++ said) whole)
            ∙ ap (λ (t : List ℕ). (l ++ said) ++ t)
            (drop_marked (served s asked).sim (raw_lines said) (call_marked c names platforms s on asked) (raw_lines text) text behind.again (j + 1));
        plain = ap starts_table first ∙ no_table (content l) (ap told_kind (command_plain s.cluster (content l) asked is));
      }
    where
      not_out : (l : List ℕ) (rest : List (List ℕ)) (b : Bool) → is_left_out l rest ≡ b → line_of s.cluster (content l) ≡ Asks asked → b ≡ false
      not_out l rest true out h = absurd (left_out_nothing s.cluster l rest asked out h)
      not_out l rest false out h = refl

  -- ---- the lines, one after the other
  abbrev AllStand : List (List ℕ) → Type 0
  AllStand lines = (done : List Call) (s : SimView) → Reached c pick within names platforms done s → (k : ℕ) → bad_line k (asks_of lines) ≡ None
      → Stands s (lines_text s k [] lines)

  one_stands : (x : List ℕ) (rest : List (List ℕ)) → free x ≡ true → AllStand rest
      → (done : List Call) (s : SimView) → Reached c pick within names platforms done s → (k : ℕ) (asked : Line)
      → line_of s.cluster (content (x ++ 10 ∷ [])) ≡ asked → bad_line k (asked ∷ asks_of rest) ≡ None
      → Stands s (by_asked s k (x ++ 10 ∷ []) rest asked)
  one_stands x rest u others done s at k Nothing is good = by (is_left_out (x ++ 10 ∷ []) rest) (is_told (content (x ++ 10 ∷ []))) refl
    where
      by : (out old : Bool) → is_told (content (x ++ 10 ∷ [])) ≡ old
          → Stands s (cond out [] (cond old [] (x ++ 10 ∷ []))
          ++ lines_text s (k + 1) (lack_behind [] (cond out [] (cond old [] (x ++ 10 ∷ [])))) rest)
      by true old h = others done s at (k + 1) good
      by false true h = others done s at (k + 1) good
      by false false h =
          subst (λ (lack : List ℕ). Stands s ((x ++ 10 ∷ []) ++ lines_text s (k + 1) lack rest)) (sym (lack_line x))
          (kept_stands s x (lines_text s (k + 1) [] rest) u is h (others done s at (k + 1) good))
  one_stands x rest u others done s at k (Asks asked) is good = by (is_left_out (x ++ 10 ∷ []) rest) refl
    where
      by : (out : Bool) → is_left_out (x ++ 10 ∷ []) rest ≡ out
          → Stands s (cond out [] (closed (x ++ 10 ∷ []) ++ call_lines s asked (served s asked).reply)
          ++ lines_text (served s asked).sim (k + 1) (lack_behind [] (cond out [] (closed (x ++ 10 ∷ []) ++ call_lines s asked (served s asked).reply))) rest)
      by true out = absurd (left_out_nothing s.cluster (x ++ 10 ∷ []) rest asked out is)
      by false out =
          let l = x ++ 10 ∷ [] in
          let on = on_cluster c pick within names platforms done s at in
          let said = call_lines s asked (served s asked).reply in
          let ended = (call_tells c names platforms s on (is_valid c pick within names platforms done s at) asked).ended in
          let lack : lack_behind [] (l ++ said) ≡ [] = lack_ended (l ++ said) (ended_append l said (line x [] u nothing) ended) in
          subst (λ (m : List ℕ). Stands s ((m ++ said) ++ lines_text (served s asked).sim (k + 1) (lack_behind [] (m ++ said)) rest)) (sym (closed_ended x))
          (subst (λ (lack : List ℕ). Stands s ((l ++ said) ++ lines_text (served s asked).sim (k + 1) lack rest)) (sym lack)
          (asks_stands done s at x asked (lines_text (served s asked).sim (k + 1) [] rest) u is
          (others (done ++ asked ∷ []) (served s asked).sim (reached_next c pick within names platforms done s asked at) (k + 1) good)))
  one_stands x rest u others done s at k Bad is good = absurd (cc good)

  last_stands : (x : List ℕ) → free x ≡ true → (x ≡ [] → ⊥) → (done : List Call) (s : SimView) → Reached c pick within names platforms done s → (k : ℕ) (asked : Line)
      → line_of s.cluster (content x) ≡ asked → bad_line k (asked ∷ []) ≡ None → Stands s (by_asked s k x [] asked)
  last_stands x u some done s at k Nothing is good = by (is_left_out x []) (is_told (content x)) refl
    where
      on : s.cluster ≡ c
      on = on_cluster c pick within names platforms done s at

      by : (out old : Bool) → is_told (content x) ≡ old
          → Stands s (cond out [] (cond old [] x) ++ table_text (lack_behind [] (cond out [] (cond old [] x))) s)
      by true old h = table_stands c names platforms s on
      by false true h = table_stands c names platforms s on
      by false false h =
          subst (λ (t : Bool). Stands s (x ++ table_text (cond t [] (missing_end x)) s)) (sym (some_bytes x some))
          (bare_stands c names platforms s on x u some is h)
  last_stands x u some done s at k (Asks asked) is good = by (is_left_out x []) refl
    where
      on : s.cluster ≡ c
      on = on_cluster c pick within names platforms done s at

      by : (out : Bool) → is_left_out x [] ≡ out
          → Stands s (cond out [] (closed x ++ call_lines s asked (served s asked).reply)
          ++ table_text (lack_behind [] (cond out [] (closed x ++ call_lines s asked (served s asked).reply))) (served s asked).sim)
      by true out = absurd (left_out_nothing s.cluster x [] asked out is)
      by false out =
          let y = (closes x u).0 in
          let h = (closes x u).1 in
          let l = y ++ 10 ∷ [] in
          let said = call_lines s asked (served s asked).reply in
          let same : content l ≡ content x = h.content ∙ sym (content_bare x u) in
          let ended = (call_tells c names platforms s on (is_valid c pick within names platforms done s at) asked).ended in
          let lack : lack_behind [] (l ++ said) ≡ [] = lack_ended (l ++ said) (ended_append l said (line y [] h.free nothing) ended) in
          subst (λ (m : List ℕ). Stands s ((m ++ said) ++ table_text (lack_behind [] (m ++ said)) (served s asked).sim)) (sym h.is)
          (subst (λ (lack : List ℕ). Stands s ((l ++ said) ++ table_text lack (served s asked).sim)) (sym lack)
          (asks_stands done s at y asked (table_text [] (served s asked).sim) h.free (ap (line_of s.cluster) same ∙ is)
          (table_stands c names platforms (served s asked).sim (served_keeps_cluster s asked ∙ on))))
  last_stands x u some done s at k Bad is good = absurd (cc good)

  all_stand : (lines : List (List ℕ)) → Rows lines → AllStand lines
  all_stand _ none done s at k good = table_stands c names platforms s (on_cluster c pick within names platforms done s at)
  all_stand _ (last x u some) done s at k good =
      last_stands x u some done s at k (line_of s.cluster (content x)) refl
      (subst (λ (d : ClusterView). bad_line k (line_of d (content x) ∷ []) ≡ None) (sym (on_cluster c pick within names platforms done s at)) good)
  all_stand _ (more x rest u r) done s at k good =
      one_stands x rest u (all_stand rest r) done s at k (line_of s.cluster (content (x ++ 10 ∷ []))) refl
      (subst (λ (d : ClusterView). bad_line k (line_of d (content (x ++ 10 ∷ [])) ∷ asks_of rest) ≡ None) (sym (on_cluster c pick within names platforms done s at)) good)

  pub lines_again : (lines : List (List ℕ)) → Rows lines → bad_line 1 (asks_of lines) ≡ None
      → lines_text (opened c pick) 1 [] (raw_lines (lines_text (opened c pick) 1 [] lines)) ≡ lines_text (opened c pick) 1 [] lines
  lines_again lines r good = (all_stand lines r [] (opened c pick) refl 1 good).again 1
