-- The lines of a script in a story say what a run writes.
use Rattle.std.proofs.Common.{◌≡◌, ◌==◌, ◌&&◌, ◌+◌, ℕ, List, [], ◌∷◌, ◌++◌, Bool, true, false, cond, codes, map, length, None, refl, sym, ap, ◌∙◌, subst, append_assoc, append-nil, arith}
use Rattle.std.specs.Prelude.{All}
use Rattle.std.specs.List.{flat_map, concat}
use Rattle.std.specs.Str.{is_utf8, chars}
use Rattle.std.proofs.lemmas.Bool.{eqb-true}
use Rattle.rh_model.specs.ClusterView.{ClusterView, IsWithin}
use Rattle.rh_script.specs.Notes.{is_told}
use Rattle.rh_rules.specs.declared.pick.Pick.{Pick}
use Rattle.rh_trace.specs.Validity.{IsValid}
use Rattle.rh_calls.specs.declared.call.Call.{Call}
use Rattle.rh_trail.specs.SimView.{SimView, state_of}
use Rattle.rh_trail.specs.Lone.{opened, served, sim_after}
use Rattle.rh_trail.proofs.Reversals.{calls_reversible}
use Rattle.rh_courses.specs.Courses.{CourseView, courses_in}
use Rattle.rh_courses.specs.Texts.{course_text}
use Rattle.rh_script.specs.Laws.{IsUnbroken, HasUnbroken}
use Rattle.rh_script.specs.declared.script.Line.{Line}
use Rattle.rh_script.specs.declared.script.Line.TheVariants.{Nothing, Asks, Bad}
use Rattle.rh_script.specs.Lines.{content}
use Rattle.rh_script.specs.Commands.{line_of, calls_of}
use Rattle.rh_script.specs.Answers.{answer_text}
use Rattle.rh_run.specs.RunText.{bad_line, lines_asked, answers_text}
use Rattle.rh_run.proofs.Keeping.{served_keeps_cluster}
use Rattle.rh_story.specs.HeadText.{missing_end, closed}
use Rattle.rh_story.specs.LineText.{kept, call_lines, line_text, behind_line, is_bad}
use Rattle.rh_story.specs.TableText.{course_line, table_text, lack_behind, starts_table, is_left_out, shown}
use Rattle.rh_story.specs.StoryText.{lines_text}
use Rattle.rh_story_laws.specs.Answers.{answers_in}
use Rattle.rh_story_laws.proofs.Texts.{free}
use Rattle.rh_story_laws.proofs.Rows.{Rows, none, last, more, content_bare}
use Rattle.rh_story_laws.proofs.Marks.{kind_at, told_kind, front_lf, kind_content, told_is, untold_silent, command_plain}
use Rattle.rh_story_laws.proofs.Words.{course_free}
use Rattle.rh_story_laws.proofs.Told.{told, Tells, tells_nothing, tells_both, told_behind, silent_line, table_silent}
use Rattle.rh_story_laws.proofs.Closing.{Lack, whole, lf, crlf, missing_is, closed_ended, closes, bare_line}
use Rattle.rh_story_laws.proofs.Answered.{silent_each, call_tells}

-- ---- simulations on the way
pub sim_cluster : (s : SimView) (calls : List Call) → (sim_after s calls).cluster ≡ s.cluster
sim_cluster s [] = refl
sim_cluster s (asked ∷ calls) = sim_cluster (served s asked).sim calls ∙ served_keeps_cluster s asked

pub after_more : (s : SimView) (calls : List Call) (asked : Call) → sim_after s (calls ++ asked ∷ []) ≡ (served (sim_after s calls) asked).sim
after_more s [] asked = refl
after_more s (first ∷ calls) asked = after_more (served s first).sim calls asked

-- ---- lines that say nothing
pub lack_tells : (lack : List ℕ) → Lack lack → Tells lack []
lack_tells _ whole = tells_nothing
lack_tells _ lf = silent_line [] refl refl
lack_tells _ crlf = silent_line (13 ∷ []) refl refl

pub lack_later : (lack piece : List ℕ) → Lack lack → Lack (lack_behind lack piece)
lack_later lack piece is = by (length piece == 0)
  where
    by : (b : Bool) → Lack (cond b lack (missing_end piece))
    by true = is
    by false = missing_is piece

pub no_bytes : {A : Type 0} (xs : List A) → (length xs == 0) ≡ true → xs ≡ []
no_bytes [] is = refl
no_bytes (x ∷ xs) is = absurd (omega (arith, eqb-true (length (x ∷ xs)) 0 is))

pub some_bytes : {A : Type 0} (xs : List A) → (xs ≡ [] → ⊥) → (length xs == 0) ≡ false
some_bytes xs some = by (length xs == 0) refl
  where
    by : (b : Bool) → (length xs == 0) ≡ b → b ≡ false
    by true is = absurd (some (no_bytes xs is))
    by false is = refl

-- a line that no story writes and that asks nothing
plain_silent : (x : List ℕ) → free x ≡ true → told_kind (kind_at x) ≡ false → Tells (x ++ 10 ∷ []) []
plain_silent x u h = silent_line x u (untold_silent (x ++ 10 ∷ []) (ap told_kind (front_lf x) ∙ h))

kept_tells : (x : List ℕ) → free x ≡ true → Tells (kept (x ++ 10 ∷ [])) []
kept_tells x u = by (is_told (content (x ++ 10 ∷ []))) refl
  where
    by : (b : Bool) → is_told (content (x ++ 10 ∷ [])) ≡ b → Tells (cond b [] (x ++ 10 ∷ [])) []
    by true is = tells_nothing
    by false is = plain_silent x u (ap told_kind (sym (kind_content x)) ∙ sym (told_is (content (x ++ 10 ∷ []))) ∙ is)

-- a command says nothing by itself
asks_tells : (c : ClusterView) (x : List ℕ) (asked : Call) → free x ≡ true → line_of c (content (x ++ 10 ∷ [])) ≡ Asks asked → Tells (closed (x ++ 10 ∷ [])) []
asks_tells c x asked u is =
    subst (λ (l : List ℕ). Tells l []) (sym (closed_ended x))
    (plain_silent x u (ap told_kind (sym (kind_content x) ∙ command_plain c (content (x ++ 10 ∷ [])) asked is)))

bare_asks_tells : (c : ClusterView) (x : List ℕ) (asked : Call) → free x ≡ true → line_of c (content x) ≡ Asks asked → Tells (closed x) []
bare_asks_tells c x asked u is =
    let y = (closes x u).0 in
    let h = (closes x u).1 in
    let kind : kind_at (y ++ 10 ∷ []) ≡ None = h.kind ∙ ap kind_at (sym (content_bare x u)) ∙ command_plain c (content x) asked is in
    subst (λ (l : List ℕ). Tells l []) (sym h.is) (silent_line y h.free (untold_silent (y ++ 10 ∷ []) (ap told_kind kind)))

-- ---- a blank line before an old table is no command
pub blank_asks_nothing : (c : ClusterView) → line_of c [] ≡ Nothing
unfolding line_of is_utf8 chars
blank_asks_nothing c = refl

pub left_out_blank : (l : List ℕ) (rest : List (List ℕ)) → is_left_out l rest ≡ true → content l ≡ []
unfolding is_left_out
left_out_blank l rest is = no_bytes (content l) (by (length (content l) == 0) is)
  where
    by : (b : Bool) → (b && starts_table rest) ≡ true → b ≡ true
    by true h = refl
    by false h = cc h

pub left_out_nothing : (c : ClusterView) (l : List ℕ) (rest : List (List ℕ)) (asked : Call) → is_left_out l rest ≡ true → line_of c (content l) ≡ Asks asked → ⊥
left_out_nothing c l rest asked is asks =
    let e : Nothing ≡ Asks asked = sym (blank_asks_nothing c) ∙ ap (line_of c) (sym (left_out_blank l rest is)) ∙ asks in cc e

-- ---- the table
module _ (c : ClusterView) (names : HasUnbroken c) (platforms : All IsUnbroken c.platform_names) (s : SimView) (on : s.cluster ≡ c) where
  course_tells : (course : CourseView) → Tells (course_line s.cluster course) []
  course_tells course =
      table_silent (course_text s.cluster course) (ap (λ (d : ClusterView). free (course_text d course)) on ∙ course_free c names platforms course)

  pub rows_tell : Tells (flat_map (course_line s.cluster) (courses_in s)) []
  rows_tell = silent_each (course_line s.cluster) course_tells (courses_in s)

  blank_tells : Tells (codes "\n") []
  blank_tells = silent_line [] refl refl

  pub table_tells : (lack : List ℕ) → Lack lack → Tells (table_text lack s) []
  unfolding table_text
  table_tells lack is = by (length (courses_in s) == 0)
    where
      by : (b : Bool) → Tells (cond b [] (lack ++ codes "\n" ++ flat_map (course_line s.cluster) (courses_in s))) []
      by true = tells_nothing
      by false = tells_both (lack ++ codes "\n") (flat_map (course_line s.cluster) (courses_in s)) [] []
          (tells_both lack (codes "\n") [] [] (lack_tells lack is) blank_tells) rows_tell

  -- behind a last line that doesn't end
  pub table_told : (x : List ℕ) → free x ≡ true → (x ≡ [] → ⊥) → told_kind (kind_at x) ≡ false → told (x ++ table_text (missing_end x) s) ≡ []
  unfolding table_text
  table_told x u some h = by (length (courses_in s) == 0)
    where
      alone : told x ≡ []
      alone = ap answers_in (bare_line x u some) ∙ ap (λ (a : List ℕ). a ++ []) (untold_silent x h)

      ended : Tells (closed x) []
      ended =
          let y = (closes x u).0 in
          let k = (closes x u).1 in
          subst (λ (l : List ℕ). Tells l []) (sym k.is) (silent_line y k.free (untold_silent (y ++ 10 ∷ []) (ap told_kind k.kind ∙ h)))

      rows : List ℕ
      rows = flat_map (course_line s.cluster) (courses_in s)

      shape : (a b d : List ℕ) → x ++ ((a ++ b) ++ d) ≡ (x ++ a) ++ (b ++ d)
      shape a b d = simp append_assoc

      by : (b : Bool) → told (x ++ cond b [] (missing_end x ++ codes "\n" ++ flat_map (course_line s.cluster) (courses_in s))) ≡ []
      by true = ap told (append-nil x) ∙ alone
      by false = ap told (shape (missing_end x) (codes "\n") (flat_map (course_line s.cluster) (courses_in s)))
          ∙ (tells_both (closed x) (codes "\n" ++ flat_map (course_line s.cluster) (courses_in s)) [] [] ended
          (tells_both (codes "\n") (flat_map (course_line s.cluster) (courses_in s)) [] [] blank_tells rows_tell)).told

-- ---- the lines, one after the other
module _ (c : ClusterView) (pick : Pick) (within : IsWithin c) (names : HasUnbroken c) (platforms : All IsUnbroken c.platform_names) where
  -- a simulation on the way
  abbrev pub Reached : List Call → SimView → Type 0
  Reached done s = s ≡ sim_after (opened c pick) done

  pub on_cluster : (done : List Call) (s : SimView) → Reached done s → s.cluster ≡ c
  on_cluster done s at = ap (λ (v : SimView). v.cluster) at ∙ sim_cluster (opened c pick) done

  pub is_valid : (done : List Call) (s : SimView) → Reached done s → IsValid (state_of s)
  is_valid done s at = subst (λ (v : SimView). IsValid (state_of v)) (sym at) (calls_reversible c pick done within).valid

  pub reached_next : (done : List Call) (s : SimView) (asked : Call) → Reached done s → Reached (done ++ asked ∷ []) (served s asked).sim
  reached_next done s asked at = ap (λ (v : SimView). (served v asked).sim) at ∙ sym (after_more (opened c pick) done asked)

  -- what a line is answered
  abbrev answer_of : SimView → Line → List ℕ
  answer_of s Nothing = []
  answer_of s (Asks asked) = answer_text s.cluster (served s asked).reply
  answer_of s Bad = []

  -- the lines from one on, by what that one asks
  abbrev text_by : SimView → ℕ → List ℕ → List ℕ → List (List ℕ) → Line → List ℕ
  text_by s k lack l rest asked =
      shown l rest (line_text s k l asked)
      ++ (cond (is_bad asked) (concat rest) (lines_text (behind_line s asked) (k + 1) (lack_behind lack (shown l rest (line_text s k l asked))) rest))

  abbrev asks : List (List ℕ) → List Line
  asks lines = lines_asked c (map content lines)

  abbrev Says : List (List ℕ) → Type 0
  Says rest = (done : List Call) (s : SimView) → Reached done s → (k : ℕ) (lack : List ℕ) → Lack lack → bad_line k (asks rest) ≡ None
      → told (lines_text s k lack rest) ≡ answers_text c s (calls_of (asks rest))

  -- the text of a line that ends
  shown_tells : (s : SimView) → s.cluster ≡ c → IsValid (state_of s) → (k : ℕ) (x : List ℕ) (rest : List (List ℕ)) → free x ≡ true
      → (asked : Line) → line_of c (content (x ++ 10 ∷ [])) ≡ asked → is_bad asked ≡ false
      → Tells (shown (x ++ 10 ∷ []) rest (line_text s k (x ++ 10 ∷ []) asked)) (answer_of s asked)
  shown_tells s on valid k x rest u Nothing is good = by (is_left_out (x ++ 10 ∷ []) rest)
    where
      by : (b : Bool) → Tells (cond b [] (kept (x ++ 10 ∷ []))) []
      by true = tells_nothing
      by false = kept_tells x u
  shown_tells s on valid k x rest u (Asks asked) is good = by (is_left_out (x ++ 10 ∷ []) rest) refl
    where
      by : (b : Bool) → is_left_out (x ++ 10 ∷ []) rest ≡ b
          → Tells (cond b [] (closed (x ++ 10 ∷ []) ++ call_lines s asked (served s asked).reply)) (answer_text s.cluster (served s asked).reply)
      by true out = absurd (left_out_nothing c (x ++ 10 ∷ []) rest asked out is)
      by false out = tells_both (closed (x ++ 10 ∷ [])) (call_lines s asked (served s asked).reply) [] (answer_text s.cluster (served s asked).reply)
          (asks_tells c x asked u is) (call_tells c names platforms s on valid asked)
  shown_tells s on valid k x rest u Bad is good = absurd (cc good)

  one_line : (x : List ℕ) (rest : List (List ℕ)) → free x ≡ true → Says rest
      → (done : List Call) (s : SimView) → Reached done s → (k : ℕ) (lack : List ℕ) → Lack lack
      → (asked : Line) → line_of c (content (x ++ 10 ∷ [])) ≡ asked → bad_line k (asked ∷ asks rest) ≡ None
      → told (text_by s k lack (x ++ 10 ∷ []) rest asked) ≡ answers_text c s (calls_of (asked ∷ asks rest))
  one_line x rest u others done s at k lack fit Nothing is good =
      let l = x ++ 10 ∷ [] in
      let text = shown l rest (line_text s k l Nothing) in
      let here = shown_tells s (on_cluster done s at) (is_valid done s at) k x rest u Nothing is refl in
      told_behind text (lines_text s (k + 1) (lack_behind lack text) rest) here.ended
      ∙ (λ i. here.told i ++ others done s at (k + 1) (lack_behind lack text) (lack_later lack text fit) good i)
  one_line x rest u others done s at k lack fit (Asks asked) is good =
      let l = x ++ 10 ∷ [] in
      let text = shown l rest (line_text s k l (Asks asked)) in
      let on = on_cluster done s at in
      let here = shown_tells s on (is_valid done s at) k x rest u (Asks asked) is refl in
      told_behind text (lines_text (served s asked).sim (k + 1) (lack_behind lack text) rest) here.ended
      ∙ (λ i. here.told i ++ others (done ++ asked ∷ []) (served s asked).sim (reached_next done s asked at) (k + 1) (lack_behind lack text)
      (lack_later lack text fit) good i)
      ∙ ap (λ (d : ClusterView). answer_text d (served s asked).reply ++ answers_text c (served s asked).sim (calls_of (asks rest))) on
  one_line x rest u others done s at k lack fit Bad is good = absurd (cc good)

  -- the last line, where it doesn't end
  last_line : (x : List ℕ) → free x ≡ true → (x ≡ [] → ⊥) → (done : List Call) (s : SimView) → Reached done s → (k : ℕ) (lack : List ℕ) → Lack lack
      → (asked : Line) → line_of c (content x) ≡ asked → bad_line k (asked ∷ []) ≡ None
      → told (text_by s k lack x [] asked) ≡ answers_text c s (calls_of (asked ∷ []))
  last_line x u some done s at k lack fit Nothing is good = by (is_left_out x []) (is_told (content x)) refl
    where
      on : s.cluster ≡ c
      on = on_cluster done s at

      without : told (table_text lack s) ≡ []
      without = (table_tells c names platforms s on lack fit).told

      by : (out old : Bool) → is_told (content x) ≡ old
          → told (cond out [] (cond old [] x) ++ table_text (lack_behind lack (cond out [] (cond old [] x))) s) ≡ []
      by true old here = without
      by false true here = without
      by false false here =
          ap (λ (b : Bool). told (x ++ table_text (cond b lack (missing_end x)) s)) (some_bytes x some)
          ∙ table_told c names platforms s on x u some (ap (λ (l : List ℕ). told_kind (kind_at l)) (sym (content_bare x u)) ∙ sym (told_is (content x)) ∙ here)
  last_line x u some done s at k lack fit (Asks asked) is good = by (is_left_out x []) refl
    where
      on : s.cluster ≡ c
      on = on_cluster done s at

      text : List ℕ
      text = closed x ++ call_lines s asked (served s asked).reply

      here : Tells (closed x ++ call_lines s asked (served s asked).reply) (answer_text s.cluster (served s asked).reply)
      here = tells_both (closed x) (call_lines s asked (served s asked).reply) [] (answer_text s.cluster (served s asked).reply)
          (bare_asks_tells c x asked u is) (call_tells c names platforms s on (is_valid done s at) asked)

      behind : (lack : List ℕ) → Lack lack → told (table_text lack (served s asked).sim) ≡ []
      behind after is = (table_tells c names platforms (served s asked).sim (served_keeps_cluster s asked ∙ on) after is).told

      by : (out : Bool) → is_left_out x [] ≡ out
          → told (cond out [] (closed x ++ call_lines s asked (served s asked).reply)
          ++ table_text (lack_behind lack (cond out [] (closed x ++ call_lines s asked (served s asked).reply))) (served s asked).sim)
          ≡ answer_text c (served s asked).reply ++ []
      by true out = absurd (left_out_nothing c x [] asked out is)
      by false out =
          let piece = closed x ++ call_lines s asked (served s asked).reply in
          told_behind piece (table_text (lack_behind lack piece) (served s asked).sim) here.ended
          ∙ (λ i. here.told i ++ behind (lack_behind lack piece) (lack_later lack piece fit) i)
          ∙ ap (λ (d : ClusterView). answer_text d (served s asked).reply ++ []) on
  last_line x u some done s at k lack fit Bad is good = absurd (cc good)

  pub lines_say : (lines : List (List ℕ)) → Rows lines → Says lines
  lines_say _ none done s at k lack fit good = (table_tells c names platforms s (on_cluster done s at) lack fit).told
  lines_say _ (last x u some) done s at k lack fit good =
      ap (λ (d : ClusterView). told (text_by s k lack x [] (line_of d (content x)))) (on_cluster done s at)
      ∙ last_line x u some done s at k lack fit (line_of c (content x)) refl good
  lines_say _ (more x rest u r) done s at k lack fit good =
      ap (λ (d : ClusterView). told (text_by s k lack (x ++ 10 ∷ []) rest (line_of d (content (x ++ 10 ∷ []))))) (on_cluster done s at)
      ∙ one_line x rest u (lines_say rest r) done s at k lack fit (line_of c (content (x ++ 10 ∷ []))) refl good
