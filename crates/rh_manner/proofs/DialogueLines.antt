-- One line of a script, and those behind it.
use Rattle.std.proofs.Common.{◌≡◌, ◌∙◌, ◌+◌, ℕ, List, [], ◌∷◌, ◌++◌, length, arith, map, Bool, true, false, cond, Some, refl, sym, ap, append_assoc, append-nil}
use Rattle.rh_model.specs.ClusterView.{ClusterView}
use Rattle.rh_script.specs.Lines.{content}
use Rattle.rh_script.specs.declared.script.Line.{Line}
use Rattle.rh_script.specs.declared.script.Line.TheVariants.{Nothing, Asks, Bad}
use Rattle.rh_script.specs.Commands.{line_of}
use Rattle.rh_run.specs.RunText.{bad_line, lines_asked}
use Rattle.rh_manner.specs.Speech.{Speech, line_said, line_made, is_bad, script_said}
use Rattle.rh_manner.specs.Stages.{script_from, bad_from}

pub no_bytes : (bytes : List ℕ) → length bytes ≡ 0 → bytes ≡ []
no_bytes [] h = refl
no_bytes (b ∷ bytes) h = absurd (omega (arith, h))

bad_on : (k : ℕ) (line : Line) (lines : List Line) → is_bad line ≡ false → bad_line k (line ∷ lines) ≡ bad_line (k + 1) lines
bad_on k Nothing lines h = refl
bad_on k (Asks call) lines h = refl
bad_on k Bad lines h = absurd (cc h)

bad_stops : (k : ℕ) (line : Line) (lines : List Line) → is_bad line ≡ true → bad_line k (line ∷ lines) ≡ Some k
bad_stops k Nothing lines h = absurd (cc h)
bad_stops k (Asks call) lines h = absurd (cc h)
bad_stops k Bad lines h = refl

-- what is said from a line on, which asks this
module _ {V : Type 0} (sp : Speech V) (v : V) (k : ℕ) (text : List ℕ) (lines : List (List ℕ)) where
  abbrev line : Line
  line = line_of (sp.cluster v) text

  pub text_on : is_bad line ≡ false → script_said sp v k (text ∷ lines) ≡ line_said sp v k text line ++ script_said sp (line_made sp v line) (k + 1) lines
  text_on h = ap (λ (b : Bool). line_said sp v k text line ++ cond b [] (script_said sp (line_made sp v line) (k + 1) lines)) h

  pub text_stops : is_bad line ≡ true → script_said sp v k (text ∷ lines) ≡ line_said sp v k text line
  text_stops h =
      ap (λ (b : Bool). line_said sp v k text line ++ cond b [] (script_said sp (line_made sp v line) (k + 1) lines)) h
      ∙ append-nil (line_said sp v k text line)

  -- the answer to the first line is a front of the text
  text_begins : (later : List ℕ) × (script_said sp v k (text ∷ lines) ≡ line_said sp v k text line ++ later)
  text_begins = (cond (is_bad line) [] (script_said sp (line_made sp v line) (k + 1) lines), refl)

-- a line in the midst of a script of this cluster: what is left here is the line, and then tail; done was written before
module _ {V : Type 0} (sp : Speech V) (start v : V) (first k : ℕ) (all here tail : List (List ℕ)) (line done : List ℕ)
    (same : sp.cluster v ≡ sp.cluster start)
    (at : here ≡ line ∷ tail)
    (text : (more : List (List ℕ)) → script_from sp start first (all ++ more) ≡ done ++ script_from sp v k (here ++ more))
    (bad : (more : List (List ℕ)) → bad_from (sp.cluster start) first (all ++ more) ≡ bad_from (sp.cluster start) k (here ++ more)) where
  -- what it asks
  abbrev asked : Line
  asked = line_of (sp.cluster v) (content line)

  -- and what is said of it
  abbrev said : List ℕ
  said = line_said sp v k (content line) asked

  whole : (more : List (List ℕ)) → script_from sp start first (all ++ more) ≡ done ++ script_said sp v k (content line ∷ map content (tail ++ more))
  whole more = text more ∙ ap (λ (ls : List (List ℕ)). done ++ script_from sp v k (ls ++ more)) at

  asked_here : (more : List (List ℕ)) → bad_from (sp.cluster start) first (all ++ more) ≡ bad_line k (asked ∷ lines_asked (sp.cluster start) (map content (tail ++ more)))
  asked_here more =
      bad more ∙ ap (λ (ls : List (List ℕ)). bad_from (sp.cluster start) k (ls ++ more)) at
      ∙ ap (λ (c : ClusterView). bad_line k (line_of c (content line) ∷ lines_asked (sp.cluster start) (map content (tail ++ more)))) (sym same)

  pub text_goes_on : (next : V) → next ≡ line_made sp v asked → is_bad asked ≡ false → (more : List (List ℕ))
      → script_from sp start first (all ++ more) ≡ (done ++ said) ++ script_from sp next (k + 1) (tail ++ more)
  text_goes_on next made good more =
      whole more ∙ ap (λ (t : List ℕ). done ++ t) (text_on sp v k (content line) (map content (tail ++ more)) good)
      ∙ sym (append_assoc done said (script_from sp (line_made sp v asked) (k + 1) (tail ++ more)))
      ∙ ap (λ (w : V). (done ++ said) ++ script_from sp w (k + 1) (tail ++ more)) (sym made)

  pub bad_goes_on : is_bad asked ≡ false → (more : List (List ℕ)) → bad_from (sp.cluster start) first (all ++ more) ≡ bad_from (sp.cluster start) (k + 1) (tail ++ more)
  bad_goes_on good more = asked_here more ∙ bad_on k asked (lines_asked (sp.cluster start) (map content (tail ++ more))) good

  pub text_ends : is_bad asked ≡ true → (more : List (List ℕ)) → script_from sp start first (all ++ more) ≡ done ++ said
  text_ends ends more = whole more ∙ ap (λ (t : List ℕ). done ++ t) (text_stops sp v k (content line) (map content (tail ++ more)) ends)

  pub bad_ends : is_bad asked ≡ true → (more : List (List ℕ)) → bad_from (sp.cluster start) first (all ++ more) ≡ Some k
  bad_ends ends more = asked_here more ∙ bad_stops k asked (lines_asked (sp.cluster start) (map content (tail ++ more))) ends

  pub text_breaks : (more : List (List ℕ)) → (later : List ℕ) × (script_from sp start first (all ++ more) ≡ done ++ (said ++ later))
  text_breaks more =
      let begins = text_begins sp v k (content line) (map content (tail ++ more)) in
      (begins.0, whole more ∙ ap (λ (t : List ℕ). done ++ t) begins.1)
