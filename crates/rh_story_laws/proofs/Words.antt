-- No line ends in a number, in a name, in a reason or in the line of a course.
use Rattle.std.proofs.Common.{◌≡◌, ◌≢◌, ◌==◌, ◌/◌, ◌%◌, ◌+◌, ℕ, zero, suc, List, [], ◌∷◌, ◌++◌, Bool, true, false, cond, eqb, nat_lt, codes, Option, Some, None, unwrap_or, refl, ap, ◌∙◌, subst, arith}
use Rattle.std.specs.Prelude.{All, slice_get}
use Rattle.std.specs.List.{flat_map}
use Rattle.std.specs.Fmt.{digit_glyph, digits_onto, digits, decimal}
use Rattle.std.proofs.lemmas.Bool.Decides.{nat_tests}
use Rattle.std.proofs.lemmas.List.Elements.{All-head, All-tail}
use Rattle.std.proofs.lemmas.Option.{get_or_from_slice_get, slice_get_within}
use Rattle.rh_model.specs.ClusterView.{ClusterView}
use Rattle.rh_model.specs.declared.node.Node.{Node}
use Rattle.rh_model.specs.declared.node.App.{App}
use Rattle.rh_model.specs.declared.settings.Dep.{Dep}
use Rattle.rh_model.specs.declared.settings.Dep.TheVariants.{Listed, Platform}
use Rattle.rh_calls.specs.Report.{no_name, node_word, app_word, dep_word}
use Rattle.rh_why.specs.declared.reason.Reason.{Reason}
use Rattle.rh_why.specs.declared.reason.Reason.TheVariants.{Needs, Forbidden, RunsAt, LostWith, Quiet}
use Rattle.rh_why.specs.Texts.{reason_text, one_word, until_text, awaited_text}
use Rattle.rh_courses.specs.declared.course.Stay.{Stay}
use Rattle.rh_courses.specs.Courses.{CourseView, runs, away, pieces}
use Rattle.rh_courses.specs.Texts.{place_words, end_words, run_words, runs_words, away_words, piece_words, pieces_words, gaps_words, course_text}
use Rattle.rh_script.specs.Laws.{IsUnbroken, HasUnbroken}
use Rattle.rh_story_laws.proofs.Texts.{free, free_append}

-- ---- numbers
no_lf : (d : ℕ) → eqb (digit_glyph false d) 10 ≡ false
no_lf d = by (nat_lt d 10)
  where
    by : (b : Bool) → eqb (cond b (48 + d) (87 + d)) 10 ≡ false
    by true = grind (arith, nat_tests)
    by false = grind (arith, nat_tests)

one_more : (b : ℕ) (x : List ℕ) → eqb b 10 ≡ false → free x ≡ true → free (b ∷ x) ≡ true
one_more b x other u = ap (λ t. cond t false (free x)) other ∙ u

digits_free : (k n : ℕ) (x : List ℕ) → free x ≡ true → free (digits_onto k 10 false n x) ≡ true
digits_free zero n x u = u
digits_free (suc k) n x u =
    by (n / 10 == 0) (digits_free k (n / 10) (digit_glyph false (n % 10) ∷ x) here)
  where
    here : free (digit_glyph false (n % 10) ∷ x) ≡ true
    here = one_more (digit_glyph false (n % 10)) x (no_lf (n % 10)) u

    by : (b : Bool) → free (digits_onto k 10 false (n / 10) (digit_glyph false (n % 10) ∷ x)) ≡ true
        → free (cond b (digit_glyph false (n % 10) ∷ x) (digits_onto k 10 false (n / 10) (digit_glyph false (n % 10) ∷ x))) ≡ true
    by true others = here
    by false others = others

pub number_free : (n : ℕ) → free (decimal n) ≡ true
unfolding digits
number_free n = digits_free 64 n [] refl

-- ---- several words
pub each_free : {X : Type 0} (f : X → List ℕ) → ((x : X) → free (f x) ≡ true) → (xs : List X) → free (flat_map f xs) ≡ true
each_free f each [] = refl
each_free f each (x ∷ xs) = free_append (f x) (flat_map f xs) (each x) (each_free f each xs)

-- ---- names
abbrev NoEnd : ℕ → Type 0
NoEnd b = (b ≢ 10) × (b ≢ 13)

pub unbroken_free : (x : List ℕ) → IsUnbroken x → free x ≡ true
unbroken_free [] all = refl
unbroken_free (b ∷ x) all =
    let other : (b == 10) ≡ false = grind (arith, nat_tests, (All-head NoEnd b x all).0) in
    one_more b x other (unbroken_free x (All-tail NoEnd b x all))

name_free : (names : List (List ℕ)) (i : ℕ) → All IsUnbroken names → free (unwrap_or (slice_get names i) no_name) ≡ true
name_free names i all = by (slice_get names i) refl
  where
    by : (o : Option (List ℕ)) → slice_get names i ≡ o → free (unwrap_or o no_name) ≡ true
    by None is = refl
    by (Some name) is = unbroken_free name (subst IsUnbroken (get_or_from_slice_get names i name [] is) (all i [] (slice_get_within names i name is)))

module _ (c : ClusterView) (names : HasUnbroken c) (platforms : All IsUnbroken c.platform_names) where
  node_free : (n : Node) → free (node_word c n) ≡ true
  node_free n = name_free c.node_names n.0 names.nodes

  app_free : (a : App) → free (app_word c a) ≡ true
  app_free a = name_free c.app_names a.0 names.apps

  dep_free : (d : Dep) → free (dep_word c d) ≡ true
  dep_free (Listed a) = name_free c.app_names a.0 names.apps
  dep_free (Platform p) = name_free c.platform_names p platforms

  -- ---- reasons
  pub reason_free : (reason : Reason) → free (reason_text c reason) ≡ true
  unfolding reason_text
  reason_free (Needs dep) = dep_free dep
  reason_free Forbidden = refl
  reason_free (RunsAt m) = node_free m
  reason_free (LostWith m due) =
      free_append (codes "lost with " ++ node_word c m ++ codes " until ") (decimal due)
      (free_append (codes "lost with " ++ node_word c m) (codes " until ") (node_free m) refl) (number_free due)
  reason_free Quiet = refl

  until_free : (until : Option ℕ) → free (until_text until) ≡ true
  until_free None = refl
  until_free (Some due) = number_free due

  pub awaited_free : (nodes : List Node) (until : Option ℕ) → free (awaited_text c nodes until) ≡ true
  unfolding awaited_text
  awaited_free nodes until =
      free_append (codes "waits for" ++ flat_map (one_word c) nodes) (until_text until)
      (each_free (one_word c) node_free nodes) (until_free until)

  -- ---- courses
  place_free : (place : Option Node) → free (place_words c place) ≡ true
  place_free None = refl
  place_free (Some n) = node_free n

  end_free : (end : Option ℕ) → free (end_words end) ≡ true
  end_free None = refl
  end_free (Some time) = number_free time

  run_free : (st : Stay) → free (run_words c st) ≡ true
  unfolding run_words
  run_free st =
      let at = codes "at " ++ place_words c st.place in
      free_append (at ++ codes " " ++ decimal st.start ++ codes " to ") (end_words st.end)
      (free_append (at ++ codes " " ++ decimal st.start) (codes " to ")
      (free_append (at ++ codes " ") (decimal st.start) (free_append at (codes " ") (place_free st.place) refl) (number_free st.start)) refl)
      (end_free st.end)

  runs_free : (sts : List Stay) → free (runs_words c sts) ≡ true
  unfolding runs_words
  runs_free [] = refl
  runs_free (st ∷ sts) =
      free_append (codes " ran " ++ run_words c st) (flat_map (λ (later : Stay). codes ", " ++ run_words c later) sts)
      (run_free st) (each_free (λ (later : Stay). codes ", " ++ run_words c later) run_free sts)

  piece_free : (count : ℕ) → free (piece_words count) ≡ true
  piece_free count = by (count == 1)
    where
      by : (b : Bool) → free (cond b (codes "piece") (codes "pieces")) ≡ true
      by true = refl
      by false = refl

  gaps_free : (long count : ℕ) → free (gaps_words long count) ≡ true
  unfolding away_words pieces_words
  gaps_free long count = by (count == 0)
    where
      away_free : free (away_words long) ≡ true
      away_free = free_append (codes "; nowhere for " ++ decimal long) (codes " ms") (number_free long) refl

      counted : free (pieces_words count) ≡ true
      counted = free_append (codes " in " ++ decimal count ++ codes " ") (piece_words count)
          (free_append (codes " in " ++ decimal count) (codes " ") (number_free count) refl) (piece_free count)

      by : (b : Bool) → free (cond b [] (away_words long ++ pieces_words count)) ≡ true
      by true = refl
      by false = free_append (away_words long) (pieces_words count) away_free counted

  pub course_free : (course : CourseView) → free (course_text c course) ≡ true
  course_free course =
      free_append (app_word c course.app ++ runs_words c (runs course)) (gaps_words (away course) (pieces course))
      (free_append (app_word c course.app) (runs_words c (runs course)) (app_free course.app) (runs_free (runs course)))
      (gaps_free (away course) (pieces course))
