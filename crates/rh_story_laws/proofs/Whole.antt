-- A story behind its head, and the law of whole inputs.
use Rattle.std.proofs.Common.{◌≡◌, ◌==◌, ◌⊎◌, inl, inr, ℕ, List, [], ◌∷◌, ◌++◌, Bool, true, false, cond, codes, length, Option, Some, None, Ok, refl, sym, ap, ◌∙◌, append_assoc, append-nil}
use Rattle.std.specs.Prelude.{All}
use Rattle.std.specs.List.{flat_map}
use Rattle.std.specs.Str.{bytes_eq}
use Rattle.std.specs.Option.{option_map}
use Rattle.std.proofs.lemmas.Slice.Eq.{bytes_eq-Decides}
use Rattle.rh_model.specs.ClusterView.{ClusterView, IsWithin}
use Rattle.rh_cluster.proofs.ReadWithin.{clusters_within}
use Rattle.rh_rules.specs.declared.pick.Pick.{Pick}
use Rattle.rh_trail.specs.SimView.{SimView}
use Rattle.rh_trail.specs.Lone.{opened}
use Rattle.rh_courses.specs.Courses.{courses_in}
use Rattle.rh_script.specs.Laws.{IsUnbroken, HasUnbroken}
use Rattle.rh_script.specs.Lines.{raw_lines, content, is_separator, lines_behind, cluster_text, script_lines}
use Rattle.rh_script.specs.Commands.{calls_of}
use Rattle.rh_script.proofs.NameWords.{clusters_have_words}
use Rattle.rh_run.specs.declared.fault.Told.TheVariants as fault
use Rattle.rh_run.specs.RunText.{bad_line, lines_asked, answers_text, end_text, text_over, end_over, run_text, run_end}
use Rattle.rh_story.specs.HeadText.{closed, head_text}
use Rattle.rh_story.specs.TableText.{course_line, table_text, lack_behind}
use Rattle.rh_story.specs.StoryText.{lines_text, story_over, story_text}
use Rattle.rh_story_laws.specs.Answers.{answers_in, told_lines, IsRun, StoryAnswersAreRuns}
use Rattle.rh_story_laws.proofs.Texts.{free, first_line}
use Rattle.rh_story_laws.proofs.Rows.{Rows, none, last, more, rows_of, rows_behind, content_bare}
use Rattle.rh_story_laws.proofs.Platforms.{platforms_unbroken}
use Rattle.rh_story_laws.proofs.Told.{told}
use Rattle.rh_story_laws.proofs.Closing.{Lack, whole, lf, crlf, closed_ended, closes}
use Rattle.rh_story_laws.proofs.Telling.{lack_later, rows_tell, table_tells, lines_say}

-- ---- the line that ends the head
separator_lf : is_separator (codes "===\n") ≡ true
unfolding content
separator_lf = refl

separator_crlf : is_separator (codes "===\r\n") ≡ true
unfolding content
separator_crlf = refl

separator_bare : is_separator (codes "===") ≡ true
unfolding content
separator_bare = refl

ends_head : (y text : List ℕ) → free y ≡ true → is_separator (y ++ 10 ∷ []) ≡ true → lines_behind (raw_lines (y ++ 10 ∷ text)) ≡ raw_lines text
ends_head y text u is =
    ap lines_behind (first_line y text u)
    ∙ ap (λ (t : Bool). cond t (raw_lines text) (lines_behind (raw_lines text))) is

passes_head : (y text : List ℕ) → free y ≡ true → is_separator (y ++ 10 ∷ []) ≡ false
    → lines_behind (raw_lines (y ++ 10 ∷ text)) ≡ lines_behind (raw_lines text)
passes_head y text u is =
    ap lines_behind (first_line y text u)
    ∙ ap (λ (t : Bool). cond t (raw_lines text) (lines_behind (raw_lines text))) is

same_separator : (l m : List ℕ) → content l ≡ content m → is_separator l ≡ is_separator m
same_separator l m same = ap (λ (x : List ℕ). bytes_eq x (codes "===")) same

separator_is : (x : List ℕ) → free x ≡ true → is_separator x ≡ true → x ≡ codes "==="
separator_is x u is = sym (content_bare x u) ∙ (bytes_eq-Decides (content x) (codes "===")).0 is

-- ---- heads: a line `===` ends the head, and it may lack its own end where the input ends there
record WholeHead (lines : List (List ℕ)) : Type 0 where
  behind : (text : List ℕ) → lines_behind (raw_lines (head_text lines ++ text)) ≡ raw_lines text

record BareHead (lines : List (List ℕ)) : Type 0 where
  no_lines : lines_behind lines ≡ []
  behind : (text : List ℕ) → lines_behind (raw_lines (head_text lines ++ text)) ≡ lines_behind (raw_lines (codes "===" ++ text))

head_passes : (l y : List ℕ) (rest : List (List ℕ)) → closed l ≡ y ++ 10 ∷ [] → free y ≡ true → is_separator l ≡ false → is_separator (y ++ 10 ∷ []) ≡ false
    → (text : List ℕ) → lines_behind (raw_lines (head_text (l ∷ rest) ++ text)) ≡ lines_behind (raw_lines (head_text rest ++ text))
head_passes l y rest end u is other text =
    ap (λ (b : Bool). lines_behind (raw_lines (cond b l (closed l ++ head_text rest) ++ text))) is
    ∙ ap (λ (m : List ℕ). lines_behind (raw_lines ((m ++ head_text rest) ++ text))) end
    ∙ ap (λ (m : List ℕ). lines_behind (raw_lines m)) (shape (head_text rest))
    ∙ passes_head y (head_text rest ++ text) u other
  where
    shape : (h : List ℕ) → ((y ++ 10 ∷ []) ++ h) ++ text ≡ y ++ 10 ∷ (h ++ text)
    shape h = simp append_assoc

whole_here : (x : List ℕ) (rest : List (List ℕ)) → free x ≡ true → is_separator (x ++ 10 ∷ []) ≡ true → WholeHead ((x ++ 10 ∷ []) ∷ rest)
whole_here x rest u is = record {
  behind = λ text.
      ap (λ (b : Bool). lines_behind (raw_lines (cond b (x ++ 10 ∷ []) (closed (x ++ 10 ∷ []) ++ head_text rest) ++ text))) is
      ∙ ap (λ (l : List ℕ). lines_behind (raw_lines l)) (append_assoc x (10 ∷ []) text)
      ∙ ends_head x text u is;
}

bare_here : (x : List ℕ) → free x ≡ true → is_separator x ≡ true → BareHead (x ∷ [])
bare_here x u is = record {
  no_lines = ap (λ (b : Bool). cond b [] []) is;
  behind = λ text.
      ap (λ (b : Bool). lines_behind (raw_lines (cond b x (closed x ++ codes "===\n") ++ text))) is
      ∙ ap (λ (l : List ℕ). lines_behind (raw_lines (l ++ text))) (separator_is x u is);
}

head_added : (text : List ℕ) → lines_behind (raw_lines (codes "===\n" ++ text)) ≡ raw_lines text
head_added text = ends_head (codes "===") text refl separator_lf

head_of : (lines : List (List ℕ)) → Rows lines → WholeHead lines ⊎ BareHead lines
head_of _ none = inl (record { behind = head_added })
head_of _ (last x u some) = by (is_separator x) refl
  where
    by : (b : Bool) → is_separator x ≡ b → WholeHead (x ∷ []) ⊎ BareHead (x ∷ [])
    by true is = inr (bare_here x u is)
    by false is =
        let y = (closes x u).0 in
        let k = (closes x u).1 in
        let other : is_separator (y ++ 10 ∷ []) ≡ false = same_separator (y ++ 10 ∷ []) x (k.content ∙ sym (content_bare x u)) ∙ is in
        inl (record { behind = λ text. head_passes x y [] k.is k.free is other text ∙ head_added text })
head_of _ (more x rest u r) = by (is_separator (x ++ 10 ∷ [])) refl (head_of rest r)
  where
    by : (b : Bool) → is_separator (x ++ 10 ∷ []) ≡ b → WholeHead rest ⊎ BareHead rest → WholeHead ((x ++ 10 ∷ []) ∷ rest) ⊎ BareHead ((x ++ 10 ∷ []) ∷ rest)
    by true is behind = inl (whole_here x rest u is)
    by false is (inl h) = inl (record { behind = λ text. head_passes (x ++ 10 ∷ []) x rest (closed_ended x) u is is text ∙ h.behind text })
    by false is (inr h) = inr (record {
      no_lines = ap (λ (b : Bool). cond b rest (lines_behind rest)) is ∙ h.no_lines;
      behind = λ text. head_passes (x ++ 10 ∷ []) x rest (closed_ended x) u is is text ∙ h.behind text;
    })

-- ---- a run whose lines are all commands, comments or blank
nothing_made : {A B : Type 0} (f : A → B) (o : Option A) → option_map f o ≡ None → o ≡ None
nothing_made f None e = refl
nothing_made f (Some x) e = absurd (cc e)

pub none_bad : (bytes : List ℕ) (c : ClusterView) → IsRun bytes c → bad_line 1 (lines_asked c (script_lines bytes)) ≡ None
unfolding run_end
none_bad bytes c run =
    nothing_made (λ k. fault.BadLine k) (bad_line 1 (lines_asked c (script_lines bytes))) (ap (end_over (script_lines bytes)) (sym run.cluster) ∙ run.ends)

run_is : (bytes : List ℕ) (c : ClusterView) (pick : Pick) → IsRun bytes c
    → run_text bytes pick ≡ answers_text c (opened c pick) (calls_of (lines_asked c (script_lines bytes)))
unfolding run_text
run_is bytes c pick run =
    let lines = lines_asked c (script_lines bytes) in
    ap (text_over pick (script_lines bytes)) run.cluster
    ∙ ap (λ bad. answers_text c (opened c pick) (calls_of lines) ++ end_text bad) (none_bad bytes c run)
    ∙ append-nil (answers_text c (opened c pick) (calls_of lines))

-- ---- the table behind a line `===` without its end
module _ (c : ClusterView) (names : HasUnbroken c) (platforms : All IsUnbroken c.platform_names) (s : SimView) (on : s.cluster ≡ c) where
  bare_table : (lack : List ℕ) → Lack lack → answers_in (lines_behind (raw_lines (codes "===" ++ table_text lack s))) ≡ []
  unfolding table_text
  bare_table lack fit = by (length (courses_in s) == 0)
    where
      behind : (l rows : List ℕ) → Lack l → told rows ≡ [] → answers_in (lines_behind (raw_lines (codes "===" ++ (l ++ codes "\n" ++ rows)))) ≡ []
      behind _ rows whole silent = ap answers_in (ends_head (codes "===") rows refl separator_lf) ∙ silent
      behind _ rows lf silent = ap answers_in (ends_head (codes "===") (10 ∷ rows) refl separator_lf) ∙ silent
      behind _ rows crlf silent = ap answers_in (ends_head (codes "===\r") (10 ∷ rows) refl separator_crlf) ∙ silent

      by : (b : Bool) → answers_in (lines_behind (raw_lines (codes "===" ++ cond b [] (lack ++ codes "\n" ++ flat_map (course_line s.cluster) (courses_in s))))) ≡ []
      by true = ap (λ (t : Bool). answers_in (cond t [] [])) separator_bare
      by false = behind lack (flat_map (course_line s.cluster) (courses_in s)) fit (rows_tell c names platforms s on).told

-- ---- the whole
module _ (bytes : List ℕ) (c : ClusterView) (pick : Pick) (run : IsRun bytes c) where
  platforms : All IsUnbroken c.platform_names
  platforms = platforms_unbroken (cluster_text bytes) c run.cluster

  names : HasUnbroken c
  names = (clusters_have_words (cluster_text bytes) c run.cluster).1

  within : IsWithin c
  within = clusters_within (cluster_text bytes) c run.cluster

  abbrev lines : List (List ℕ)
  lines = lines_behind (raw_lines bytes)

  abbrev said : List ℕ
  said = answers_text c (opened c pick) (calls_of (lines_asked c (script_lines bytes)))

  script_says : (lack : List ℕ) → Lack lack → told (lines_text (opened c pick) 1 lack lines) ≡ said
  script_says lack fit =
      lines_say c pick within names platforms lines (rows_behind (raw_lines bytes) (rows_of bytes)) [] (opened c pick) refl 1 lack fit (none_bad bytes c run)

  behind_head : (lack : List ℕ) → Lack lack → WholeHead (raw_lines bytes) ⊎ BareHead (raw_lines bytes)
      → answers_in (lines_behind (raw_lines (head_text (raw_lines bytes) ++ lines_text (opened c pick) 1 lack lines))) ≡ said
  behind_head lack fit (inl h) = ap answers_in (h.behind (lines_text (opened c pick) 1 lack lines)) ∙ script_says lack fit
  behind_head lack fit (inr h) =
      ap answers_in (h.behind (lines_text (opened c pick) 1 lack lines))
      ∙ ap (λ (ls : List (List ℕ)). answers_in (lines_behind (raw_lines (codes "===" ++ lines_text (opened c pick) 1 lack ls)))) h.no_lines
      ∙ bare_table c names platforms (opened c pick) refl lack fit
      ∙ sym (table_tells c names platforms (opened c pick) refl lack fit).told
      ∙ sym (ap (λ (ls : List (List ℕ)). told (lines_text (opened c pick) 1 lack ls)) h.no_lines)
      ∙ script_says lack fit

  over : (with_head : Bool) → answers_in (told_lines with_head (story_over pick with_head (raw_lines bytes) (Ok c))) ≡ said
  over true =
      let head = head_text (raw_lines bytes) in
      behind_head (lack_behind [] head) (lack_later [] head whole) (head_of (raw_lines bytes) (rows_of bytes))
  over false = script_says [] whole

pub story_answers_are_runs : StoryAnswersAreRuns
unfolding story_text
story_answers_are_runs bytes c pick with_head run =
    ap (λ read. answers_in (told_lines with_head (story_over pick with_head (raw_lines bytes) read))) run.cluster
    ∙ over bytes c pick run with_head
    ∙ sym (run_is bytes c pick run)
