-- The head of a story is told again, and the law of whole stories.
use Rattle.std.proofs.Common.{◌≡◌, ℕ, List, [], ◌∷◌, ◌++◌, Bool, true, false, cond, Ok, refl, sym, ap, ◌∙◌, subst, append_assoc}
use Rattle.std.specs.List.{concat}
use Rattle.rh_cluster.specs.ClusterOf.{cluster_of}
use Rattle.rh_cluster.proofs.ReadWithin.{clusters_within}
use Rattle.rh_trail.specs.Lone.{opened}
use Rattle.rh_script.specs.Lines.{raw_lines, is_separator, lines_before, lines_behind, cluster_text}
use Rattle.rh_script.proofs.NameWords.{clusters_have_words}
use Rattle.rh_story.specs.HeadText.{closed, head_text}
use Rattle.rh_story.specs.TableText.{lack_behind}
use Rattle.rh_story.specs.StoryText.{lines_text, story_over, story_text}
use Rattle.rh_story_laws.specs.Again.{StoryOfAStoryIsItself}
use Rattle.rh_story_laws.proofs.Texts.{free, Ended, nothing, line, ended_append, first_line}
use Rattle.rh_story_laws.proofs.Rows.{Rows, none, last, more, rows_of, rows_behind}
use Rattle.rh_story_laws.proofs.Closing.{closed_ended}
use Rattle.rh_story_laws.proofs.Platforms.{platforms_unbroken}
use Rattle.rh_story_laws.proofs.Whole.{none_bad}
use Rattle.rh_story_laws.proofs.Again.{lack_ended, lines_again}

-- ---- the head of a story, and what is behind it
pub record HeadStands (lines : List (List ℕ)) : Type 0 where
  pub ended : Ended (head_text lines)
  pub behind : (text : List ℕ) → lines_behind (raw_lines (head_text lines ++ text)) ≡ raw_lines text
  pub head : (text : List ℕ) → head_text (raw_lines (head_text lines ++ text)) ≡ head_text lines
  pub before : (text : List ℕ) → concat (lines_before (raw_lines (head_text lines ++ text))) ≡ concat (lines_before lines)

-- it ends here
stands_here : (x : List ℕ) (rest : List (List ℕ)) → free x ≡ true → is_separator (x ++ 10 ∷ []) ≡ true → HeadStands ((x ++ 10 ∷ []) ∷ rest)
stands_here x rest u is =
    let l = x ++ 10 ∷ [] in
    let head : head_text (l ∷ rest) ≡ l = ap (λ (b : Bool). cond b l (closed l ++ head_text rest)) is in
    record {
      ended = subst Ended (sym head) (line x [] u nothing);
      behind = λ text. ap lines_behind (first head text) ∙ ap (λ (b : Bool). cond b (raw_lines text) (lines_behind (raw_lines text))) is;
      head = λ text. ap head_text (first head text) ∙ ap (λ (b : Bool). cond b l (closed l ++ head_text (raw_lines text))) is ∙ sym head;
      before = λ text. ap (λ (ls : List (List ℕ)). concat (lines_before ls)) (first head text)
          ∙ ap (λ (b : Bool). concat (cond b [] (l ∷ lines_before (raw_lines text)))) is
          ∙ sym (ap (λ (b : Bool). concat (cond b [] (l ∷ lines_before rest))) is);
    }
  where
    first : head_text ((x ++ 10 ∷ []) ∷ rest) ≡ x ++ 10 ∷ [] → (text : List ℕ)
        → raw_lines (head_text ((x ++ 10 ∷ []) ∷ rest) ++ text) ≡ (x ++ 10 ∷ []) ∷ raw_lines text
    first head text =
        ap (λ (h : List ℕ). raw_lines (h ++ text)) head ∙ ap raw_lines (append_assoc x (10 ∷ []) text) ∙ first_line x text u

-- it goes on
stands_later : (x : List ℕ) (rest : List (List ℕ)) → free x ≡ true → is_separator (x ++ 10 ∷ []) ≡ false → HeadStands rest → HeadStands ((x ++ 10 ∷ []) ∷ rest)
stands_later x rest u is later =
    let l = x ++ 10 ∷ [] in
    let h = head_text rest in
    let head : head_text (l ∷ rest) ≡ l ++ h = ap (λ (b : Bool). cond b l (closed l ++ h)) is ∙ ap (λ (t : List ℕ). t ++ h) (closed_ended x) in
    record {
      ended = subst Ended (sym head) (ended_append l h (line x [] u nothing) later.ended);
      behind = λ text. ap lines_behind (first head text)
          ∙ ap (λ (b : Bool). cond b (raw_lines (h ++ text)) (lines_behind (raw_lines (h ++ text)))) is ∙ later.behind text;
      head = λ text. ap head_text (first head text)
          ∙ ap (λ (b : Bool). cond b l (closed l ++ head_text (raw_lines (h ++ text)))) is
          ∙ (λ i. closed_ended x i ++ later.head text i) ∙ sym head;
      before = λ text. ap (λ (ls : List (List ℕ)). concat (lines_before ls)) (first head text)
          ∙ ap (λ (b : Bool). concat (cond b [] (l ∷ lines_before (raw_lines (h ++ text))))) is
          ∙ ap (λ (t : List ℕ). l ++ t) (later.before text)
          ∙ sym (ap (λ (b : Bool). concat (cond b [] (l ∷ lines_before rest))) is);
    }
  where
    first : head_text ((x ++ 10 ∷ []) ∷ rest) ≡ (x ++ 10 ∷ []) ++ head_text rest → (text : List ℕ)
        → raw_lines (head_text ((x ++ 10 ∷ []) ∷ rest) ++ text) ≡ (x ++ 10 ∷ []) ∷ raw_lines (head_text rest ++ text)
    first head text =
        ap (λ (t : List ℕ). raw_lines (t ++ text)) head
        ∙ ap raw_lines (append_assoc (x ++ 10 ∷ []) (head_text rest) text)
        ∙ ap raw_lines (append_assoc x (10 ∷ []) (head_text rest ++ text))
        ∙ first_line x (head_text rest ++ text) u

pub head_stands : (lines : List (List ℕ)) → Rows lines → (lines_behind lines ≡ [] → ⊥) → HeadStands lines
head_stands _ none some = absurd (some refl)
head_stands _ (last x u more_bytes) some = absurd (some (by (is_separator x)))
  where
    by : (b : Bool) → ◌≡◌ {A = List (List ℕ)} (cond b [] []) []
    by true = refl
    by false = refl
head_stands _ (more x rest u r) some = by (is_separator (x ++ 10 ∷ [])) refl (λ left. head_stands rest r left)
  where
    by : (b : Bool) → is_separator (x ++ 10 ∷ []) ≡ b → ((lines_behind rest ≡ [] → ⊥) → HeadStands rest) → HeadStands ((x ++ 10 ∷ []) ∷ rest)
    by true is others = stands_here x rest u is
    by false is others = stands_later x rest u is (others (λ e. some (ap (λ (b : Bool). cond b rest (lines_behind rest)) is ∙ e)))

-- ---- the whole
pub story_of_a_story_is_itself : StoryOfAStoryIsItself
unfolding story_text
story_of_a_story_is_itself bytes c pick run some =
    let lines = raw_lines bytes in
    let stands = head_stands lines (rows_of bytes) some in
    let head = head_text lines in
    let start = opened c pick in
    let told : List ℕ = lines_text start 1 [] (lines_behind lines) in
    let story : List ℕ = head ++ told in
    let platforms = platforms_unbroken (cluster_text bytes) c run.cluster in
    let names = (clusters_have_words (cluster_text bytes) c run.cluster).1 in
    let again = lines_again c pick (clusters_within (cluster_text bytes) c run.cluster) names platforms (lines_behind lines)
    (rows_behind lines (rows_of bytes)) (none_bad bytes c run) in
    let is : story_over pick true (raw_lines bytes) (cluster_of (cluster_text bytes)) ≡ story =
    ap (story_over pick true lines) run.cluster ∙ ap (λ (lack : List ℕ). head ++ lines_text start 1 lack (lines_behind lines)) (lack_ended head stands.ended) in
    let cluster : cluster_of (cluster_text story) ≡ Ok c = ap cluster_of (stands.before told) ∙ run.cluster in
    let second : story_over pick true (raw_lines story) (cluster_of (cluster_text story)) ≡ story =
    ap (story_over pick true (raw_lines story)) cluster
    ∙ (λ i. stands.head told i ++ lines_text start 1 (lack_behind [] (stands.head told i)) (stands.behind told i))
    ∙ ap (λ (lack : List ℕ). head ++ lines_text start 1 lack (raw_lines told)) (lack_ended head stands.ended)
    ∙ ap (λ (t : List ℕ). head ++ t) again in
    ap (λ (b : List ℕ). story_over pick true (raw_lines b) (cluster_of (cluster_text b))) is ∙ second ∙ sym is
