-- One line of a story, and those behind it.
use Rattle.std.proofs.Common.{◌≡◌, ◌+◌, ℕ, List, [], ◌∷◌, ◌++◌, Bool, true, false, cond, eqb, map, Some, true≢false, refl, sym, ap, ◌∙◌, append_assoc}
use Rattle.std.specs.List.{concat, onto_first}
use Rattle.rh_devices.specs.declared.fault.WriteFault.{WriteFault}
use Rattle.rh_devices.specs.declared.watched.Watched.{Watched}
use Rattle.rh_devices.specs.Devices.{Passed, WroteFront}
use Rattle.rh_devices.proofs.Passing.{passed_more, fault_behind, fault_before}
use Rattle.rh_model.specs.ClusterView.{ClusterView}
use Rattle.rh_script.specs.declared.script.Line.{Line}
use Rattle.rh_script.specs.declared.script.Line.TheVariants.{Nothing, Asks, Bad}
use Rattle.rh_script.specs.Lines.{raw_lines, content}
use Rattle.rh_script.specs.Commands.{line_of}
use Rattle.rh_run.specs.RunText.{bad_line, lines_asked}
use Rattle.rh_story.specs.LineText.{line_by, behind_by, is_bad}
use Rattle.rh_story.specs.TableText.{lack_behind, shown}
use Rattle.rh_story.specs.StoryText.{lines_by}
use Rattle.rh_story.specs.Telling.{Telling}

-- ---- the lines of a text are the text
concat_onto : (b : ℕ) (lines : List (List ℕ)) → concat (onto_first b lines) ≡ b ∷ concat lines
concat_onto b [] = refl
concat_onto b (line ∷ lines) = refl

lines_join_more : (b : ℕ) (lines : List (List ℕ)) (t : Bool) → concat (cond t ((b ∷ []) ∷ lines) (onto_first b lines)) ≡ b ∷ concat lines
lines_join_more b lines true = refl
lines_join_more b lines false = concat_onto b lines

pub lines_join : (bytes : List ℕ) → concat (raw_lines bytes) ≡ bytes
lines_join [] = refl
lines_join (b ∷ bytes) = lines_join_more b (raw_lines bytes) (eqb b 10) ∙ ap (λ l. b ∷ l) (lines_join bytes)

-- ---- one line

-- the number of the first bad line
pub bad_here : (k : ℕ) (asked : Line) (lines : List Line) → is_bad asked ≡ true → bad_line k (asked ∷ lines) ≡ Some k
bad_here k Nothing lines h = absurd (true≢false (sym h))
bad_here k (Asks call) lines h = absurd (true≢false (sym h))
bad_here k Bad lines h = refl

pub bad_later : (k : ℕ) (asked : Line) (lines : List Line) → is_bad asked ≡ false → bad_line k (asked ∷ lines) ≡ bad_line (k + 1) lines
bad_later k Nothing lines h = refl
bad_later k (Asks call) lines h = refl
bad_later k Bad lines h = absurd (true≢false h)

-- its place among all lines: here are this line and those behind it
module _ (c : ClusterView) (k : ℕ) (line : List ℕ) (all here tail : List (List ℕ)) (at : here ≡ line ∷ tail)
    (bad : bad_line 1 (lines_asked c (map content all)) ≡ bad_line k (lines_asked c (map content here))) where
  pub fault_here : is_bad (line_of c (content line)) ≡ true → bad_line 1 (lines_asked c (map content all)) ≡ Some k
  fault_here h = bad ∙ ap (λ ls. bad_line k (lines_asked c (map content ls))) at ∙ bad_here k (line_of c (content line)) (lines_asked c (map content tail)) h

  pub fault_later : is_bad (line_of c (content line)) ≡ false
      → bad_line 1 (lines_asked c (map content all)) ≡ bad_line (k + 1) (lines_asked c (map content tail))
  fault_later h = bad ∙ ap (λ ls. bad_line k (lines_asked c (map content ls))) at ∙ bad_later k (line_of c (content line)) (lines_asked c (map content tail)) h

-- ---- a line in the midst of a story: done was written, and here are this line and those behind it
module _ {K V : Type 0} (takes : K → K → List ℕ → Type 0) (fails : K → K → Type 0)
    (t : Telling V) (start sim : V) (k : ℕ) (first lack line : List ℕ) (all here tail : List (List ℕ)) (a b d : Watched K) (done text : List ℕ)
    (at : here ≡ line ∷ tail) (wrote : Passed takes a.inner b.inner done)
    (so_far : lines_by t start 1 first all ≡ done ++ lines_by t sim k lack here)
    (is : text ≡ shown line tail (line_by t sim k line (line_of (t.cluster sim) (content line)))) where
  all_text : lines_by t start 1 first all ≡ done ++ lines_by t sim k lack (line ∷ tail)
  all_text = so_far ∙ ap (λ ls. done ++ lines_by t sim k lack ls) at

  -- what a story writes behind the line, where it is no command or is one
  abbrev behind : Bool → List ℕ
  behind b = cond b (concat tail) (lines_by t (behind_by t sim (line_of (t.cluster sim) (content line))) (k + 1) (lack_behind lack text) tail)

  -- the same, by the text that it is
  abbrev behind_is : List ℕ → Bool → List ℕ
  behind_is shows b = cond b (concat tail) (lines_by t (behind_by t sim (line_of (t.cluster sim) (content line))) (k + 1) (lack_behind lack shows) tail)

  cut_at : (b : Bool) → is_bad (line_of (t.cluster sim) (content line)) ≡ b → lines_by t start 1 first all ≡ done ++ (text ++ behind b)
  cut_at b h = all_text ∙ (λ i. done ++ (sym is i ++ behind_is (sym is i) (h i)))

  -- its text was not written whole
  pub line_breaks : (f : WriteFault) → WroteFront takes fails f text b d → WroteFront takes fails f (lines_by t start 1 first all) a d
  line_breaks f p =
      let is_bad_here = is_bad (line_of (t.cluster sim) (content line)) in
      rw (cut_at is_bad_here refl)
      (fault_behind takes fails f a b d done (text ++ behind is_bad_here) wrote (fault_before takes fails f b d text (behind is_bad_here) p))

  -- it was, and the line is no command: then the rest is written as it stands, or a front of it
  module _ (bad : is_bad (line_of (t.cluster sim) (content line)) ≡ true) (rest : List ℕ) (left : rest ≡ concat tail)
      (written : Passed takes b.inner d.inner text) (e : Watched K) where
    ends_with_rest : lines_by t start 1 first all ≡ done ++ (text ++ rest)
    ends_with_rest = cut_at true bad ∙ (λ i. done ++ (text ++ sym left i))

    pub rest_breaks : (f : WriteFault) → WroteFront takes fails f rest d e → WroteFront takes fails f (lines_by t start 1 first all) a e
    rest_breaks f p =
        rw ends_with_rest (fault_behind takes fails f a b e done (text ++ rest) wrote (fault_behind takes fails f b d e text rest written p))

    pub story_ends : Passed takes d.inner e.inner rest → Passed takes a.inner e.inner (lines_by t start 1 first all)
    story_ends p =
        rw ends_with_rest (passed_more takes a.inner b.inner e.inner done (text ++ rest) wrote (passed_more takes b.inner d.inner e.inner text rest written p))

  -- it was, and the line is none that is bad: then the others are left
  pub story_goes_on : is_bad (line_of (t.cluster sim) (content line)) ≡ false → (next : V)
      → next ≡ behind_by t sim (line_of (t.cluster sim) (content line)) → (after : List ℕ) → after ≡ lack_behind lack text
      → Passed takes b.inner d.inner text
      → (more : List ℕ) × Passed takes a.inner d.inner more × (lines_by t start 1 first all ≡ more ++ lines_by t next (k + 1) after tail)
  story_goes_on good next same after lacks written = (
    done ++ text,
    passed_more takes a.inner b.inner d.inner done text wrote written,
    cut_at false good ∙ (λ i. done ++ (text ++ lines_by t (sym same i) (k + 1) (sym lacks i) tail)) ∙ sym (append_assoc done text (lines_by t next (k + 1) after tail)),
  )

-- ---- behind the last line: done was written, and what is told at the end is left
module _ {K V : Type 0} (takes : K → K → List ℕ → Type 0) (fails : K → K → Type 0)
    (t : Telling V) (start sim : V) (k : ℕ) (first lack : List ℕ) (all here : List (List ℕ)) (a b d : Watched K) (done : List ℕ)
    (none : here ≡ []) (wrote : Passed takes a.inner b.inner done)
    (so_far : lines_by t start 1 first all ≡ done ++ lines_by t sim k lack here) where
  with_ending : lines_by t start 1 first all ≡ done ++ t.ending lack sim
  with_ending = so_far ∙ ap (λ ls. done ++ lines_by t sim k lack ls) none

  pub ending_breaks : (f : WriteFault) → WroteFront takes fails f (t.ending lack sim) b d → WroteFront takes fails f (lines_by t start 1 first all) a d
  ending_breaks f p = rw with_ending (fault_behind takes fails f a b d done (t.ending lack sim) wrote p)

  pub ending_ends : Passed takes b.inner d.inner (t.ending lack sim) → Passed takes a.inner d.inner (lines_by t start 1 first all)
  ending_ends p = rw with_ending (passed_more takes a.inner b.inner d.inner done (t.ending lack sim) wrote p)
