-- Copied lines of a sweep ask `run` for the same.
use Rattle.std.proofs.Common.{◌≡◌, ℕ, ◌+◌, Bool, true, false, cond, List, [], ◌∷◌, ◌++◌, All, codes, Option, Some, None, refl, sym, ap, ◌∙◌}
use Rattle.std.specs.Str.{is_utf8, chars}
use lib.Utf8.{encode}
use Rattle.std.proofs.lemmas.List.{map-append}
use Rattle.std.proofs.lemmas.List.Elements.{All-head, All-tail}
use Rattle.rh_model.specs.ClusterView.{ClusterView}
use Rattle.rh_rules.specs.declared.event.Event.{Event}
use Rattle.rh_calls.specs.declared.call.Call.TheVariants as call
use Rattle.rh_outcomes.specs.Outcomes.{steps}
use Rattle.rh_script.specs.declared.script.Line.{Line}
use Rattle.rh_script.specs.declared.script.Line.TheVariants as line
use Rattle.rh_script.specs.declared.sweep_lines.SweepLine.{SweepLine}
use Rattle.rh_script.specs.declared.sweep_lines.SweepLine.TheVariants.{Begins, Plain}
use Rattle.rh_script.specs.Lines.{script_lines}
use Rattle.rh_script.specs.Forms.{verb_named}
use Rattle.rh_script.specs.Commands.{words_of, begins_with, command_of, line_of, calls_of}
use Rattle.rh_script.specs.SweepLines.{plan_named, begun_or, sweep_line_of, sweep_lines_asked, fits_base, fits_plan, base_lines, event_in, plan_events}
use Rattle.rh_run.specs.RunText.{bad_line, lines_asked, script_end, end_over, run_end}
use Rattle.rh_text_laws.specs.PlanTexts.{base_calls}
use Rattle.rh_text_laws.specs.PlanLines.{begins_plan, is_of_base, is_of_plan, CopiedLinesAsk}

-- ---- one line
plain_is : (c : ClusterView) (text : List ℕ) → begins_plan (sweep_line_of c text) ≡ false → sweep_line_of c text ≡ Plain (line_of c text)
unfolding sweep_line_of line_of verb_named
plain_is c text = by (begins_with 35 text) (is_utf8 text) (plan_named (words_of text)) (command_of c (words_of text))
  where
    by : (comment utf8 : Bool) (named : Option (List ℕ)) (read : Line)
        → begins_plan (cond comment (Plain line.Nothing) (cond utf8 (begun_or named read) (Plain line.Bad))) ≡ false
        → cond comment (Plain line.Nothing) (cond utf8 (begun_or named read) (Plain line.Bad)) ≡ Plain (cond comment line.Nothing (cond utf8 read line.Bad))
    by true utf8 named read plain = refl
    by false true (Some name) read plain = absurd (cc plain)
    by false true None read plain = refl
    by false false named read plain = refl

base_plain : (asked : SweepLine) → is_of_base asked ≡ true → begins_plan asked ≡ false
base_plain (Begins name) fits = absurd (cc fits)
base_plain (Plain read) fits = refl

plan_plain : (asked : SweepLine) → is_of_plan asked ≡ true → begins_plan asked ≡ false
plan_plain (Begins name) fits = absurd (cc fits)
plan_plain (Plain read) fits = refl

plan_fits : (read : Line) → fits_plan read ≡ true → fits_base read ≡ true
plan_fits line.Nothing fits = refl
plan_fits (line.Asks asked) fits = refl
plan_fits line.Bad fits = absurd (cc fits)

-- ---- lines of which none is bad
abbrev NoneBad : List Line → Type 0
NoneBad [] = Unit {0}
NoneBad (read ∷ lines) = (fits_base read ≡ true) × NoneBad lines

calls-append : (xs ys : List Line) → NoneBad xs → calls_of (xs ++ ys) ≡ calls_of xs ++ calls_of ys
calls-append [] ys fine = refl
calls-append (line.Nothing ∷ xs) ys fine = calls-append xs ys fine.1
calls-append (line.Asks asked ∷ xs) ys fine = ap (λ calls. asked ∷ calls) (calls-append xs ys fine.1)
calls-append (line.Bad ∷ xs) ys fine = absurd (cc fine.0)

bad-append : (k : ℕ) (xs ys : List Line) → NoneBad xs → ((j : ℕ) → bad_line j ys ≡ None) → bad_line k (xs ++ ys) ≡ None
bad-append k [] ys fine rest = rest k
bad-append k (line.Nothing ∷ xs) ys fine rest = bad-append (k + 1) xs ys fine.1 rest
bad-append k (line.Asks asked ∷ xs) ys fine rest = bad-append (k + 1) xs ys fine.1 rest
bad-append k (line.Bad ∷ xs) ys fine rest = absurd (cc fine.0)

module _ (c : ClusterView) where
  -- ---- the lines of a base
  abbrev OfBase : List ℕ → Type 0
  OfBase text = is_of_base (sweep_line_of c text) ≡ true

  base_is : (text : List ℕ) → OfBase text → sweep_line_of c text ≡ Plain (line_of c text)
  base_is text fits = plain_is c text (base_plain (sweep_line_of c text) fits)

  base_fine : (texts : List (List ℕ)) → All OfBase texts → NoneBad (lines_asked c texts)
  base_fine [] fit = tt
  base_fine (text ∷ texts) fit =
      let here = All-head OfBase text texts fit in
      (ap is_of_base (sym (base_is text here)) ∙ here, base_fine texts (All-tail OfBase text texts fit))

  base_asks : (texts : List (List ℕ)) (asked : SweepLine) (others : List SweepLine) → All OfBase texts → begins_plan asked ≡ true
      → base_lines (sweep_lines_asked c texts ++ asked ∷ others) ≡ lines_asked c texts
  base_asks [] (Begins name) others fit begins = refl
  base_asks [] (Plain read) others fit begins = absurd (cc begins)
  base_asks (text ∷ texts) asked others fit begins =
      ap (λ v. base_lines (v ∷ (sweep_lines_asked c texts ++ asked ∷ others))) (base_is text (All-head OfBase text texts fit))
      ∙ ap (λ reads. line_of c text ∷ reads) (base_asks texts asked others (All-tail OfBase text texts fit) begins)

  -- ---- the lines of a plan
  abbrev OfPlan : List ℕ → Type 0
  OfPlan text = is_of_plan (sweep_line_of c text) ≡ true

  plan_is : (text : List ℕ) → OfPlan text → sweep_line_of c text ≡ Plain (line_of c text)
  plan_is text fits = plain_is c text (plan_plain (sweep_line_of c text) fits)

  fits_there : (text : List ℕ) → OfPlan text → fits_plan (line_of c text) ≡ true
  fits_there text fits = ap is_of_plan (sym (plan_is text fits)) ∙ fits

  plan_fine : (texts : List (List ℕ)) → All OfPlan texts → NoneBad (lines_asked c texts)
  plan_fine [] fit = tt
  plan_fine (text ∷ texts) fit =
      (plan_fits (line_of c text) (fits_there text (All-head OfPlan text texts fit)), plan_fine texts (All-tail OfPlan text texts fit))

  event_asked : (read : Line) (reads : List Line) (events : List Event) → fits_plan read ≡ true → calls_of reads ≡ steps events
      → calls_of (read ∷ reads) ≡ steps (event_in read ++ events)
  event_asked line.Nothing reads events fits rest = rest
  event_asked (line.Asks (call.Step e)) reads events fits rest = ap (λ calls. call.Step e ∷ calls) rest
  event_asked (line.Asks call.Undo) reads events fits rest = absurd (cc fits)
  event_asked (line.Asks call.Redo) reads events fits rest = absurd (cc fits)
  event_asked (line.Asks call.UndoAll) reads events fits rest = absurd (cc fits)
  event_asked (line.Asks call.RedoAll) reads events fits rest = absurd (cc fits)
  event_asked (line.Asks call.Look) reads events fits rest = absurd (cc fits)
  event_asked line.Bad reads events fits rest = absurd (cc fits)

  plan_asks : (texts : List (List ℕ)) → All OfPlan texts → calls_of (lines_asked c texts) ≡ steps (plan_events (sweep_lines_asked c texts))
  plan_asks [] fit = refl
  plan_asks (text ∷ texts) fit =
      let here = All-head OfPlan text texts fit in
      event_asked (line_of c text) (lines_asked c texts) (plan_events (sweep_lines_asked c texts)) (fits_there text here)
      (plan_asks texts (All-tail OfPlan text texts fit))
      ∙ ap (λ v. steps (plan_events (v ∷ sweep_lines_asked c texts))) (sym (plan_is text here))

  -- ---- and at last the report
  show_asks : line_of c (codes "show") ≡ line.Asks call.Look
  unfolding line_of verb_named is_utf8 chars encode
  show_asks = refl

  shown : lines_asked c (codes "show" ∷ []) ≡ line.Asks call.Look ∷ []
  shown = ap (λ read. read ∷ []) show_asks

pub copied_lines_ask : CopiedLinesAsk
unfolding run_end
copied_lines_ask bytes input c lines events a is copied asks =
    let front = lines_asked c copied.base in
    let middle = lines_asked c lines in
    let parts : lines_asked c (script_lines input) ≡ front ++ (middle ++ line.Asks call.Look ∷ []) =
    ap (lines_asked c) copied.run
    ∙ map-append (line_of c) copied.base (lines ++ codes "show" ∷ [])
    ∙ ap (λ reads. front ++ reads) (map-append (line_of c) lines (codes "show" ∷ []) ∙ ap (λ reads. middle ++ reads) (shown c)) in
    let based : base_calls c bytes ≡ calls_of front =
    ap (λ texts. calls_of (base_lines (sweep_lines_asked c texts))) copied.swept
    ∙ ap (λ reads. calls_of (base_lines reads)) (map-append (sweep_line_of c) copied.base (copied.first ∷ copied.others))
    ∙ ap calls_of (base_asks c copied.base (sweep_line_of c copied.first) (sweep_lines_asked c copied.others) copied.of_base copied.begins) in
    let front_fine = base_fine c copied.base copied.of_base in
    let middle_fine = plan_fine c lines copied.of_plan in
    record {
      cluster = is;
      ends = ap (end_over (script_lines input)) is
          ∙ ap (λ reads. script_end (bad_line 1 reads)) parts
          ∙ ap script_end (bad-append 1 front (middle ++ line.Asks call.Look ∷ []) front_fine
          (λ j. bad-append j middle (line.Asks call.Look ∷ []) middle_fine (λ k. refl)));
      asks = ap calls_of parts
          ∙ calls-append front (middle ++ line.Asks call.Look ∷ []) front_fine
          ∙ (λ i. sym based i ++ (calls-append middle (line.Asks call.Look ∷ []) middle_fine
          ∙ ap (λ calls. calls ++ call.Look ∷ []) (plan_asks c lines copied.of_plan ∙ ap steps asks)) i);
    }
