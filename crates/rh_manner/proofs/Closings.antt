-- What came of the last lines of an input.
use Rattle.std.proofs.Common.{◌≡◌, ◌∙◌, ℕ, List, [], ◌∷◌, ◌++◌, Option, Some, Result, Ok, Err, refl, sym, ap, subst}
use Rattle.rh_devices.specs.declared.fault.WriteFault.{WriteFault}
use Rattle.rh_devices.specs.declared.watched.Watched.{Watched}
use Rattle.rh_devices.specs.Devices.{Passed, WroteFront}
use Rattle.rh_run.specs.declared.fault.Told.{Told}
use Rattle.rh_run.specs.RunText.{Wrote}
use Rattle.rh_run.proofs.Turns.{wrote_behind}
use Rattle.rh_manner.specs.declared.stage.Stage.{Stage}
use Rattle.rh_manner.specs.declared.stage.Turn.TheVariants as turn
use Rattle.rh_manner.specs.Speech.{Speech, spoken}
use Rattle.rh_manner.specs.Stages.{Takes, text_from, end_from}

pub nothing_more : (lines : List (List ℕ)) → lines ++ [] ≡ lines
nothing_more [] = refl
nothing_more (line ∷ lines) = ap (λ ls. line ∷ ls) (nothing_more lines)

module _ {K : Type 0} (takes : K → K → List ℕ → Type 0) (fails : K → K → Type 0) {R V : Type 0} (sp : Speech V) (see : R → V) (stage : Stage R) (lines : List (List ℕ)) (a b : Watched K) where
  text_whole : text_from sp see stage (lines ++ []) ≡ text_from sp see stage lines
  text_whole = ap (text_from sp see stage) (nothing_more lines)

  end_whole : end_from sp see stage (lines ++ []) ≡ end_from sp see stage lines
  end_whole = ap (end_from sp see stage) (nothing_more lines)

  pub breaks : (f : WriteFault) → Takes takes fails sp see (Err f) stage lines a b → WroteFront takes fails f (text_from sp see stage lines) a b
  breaks f h = subst (λ (t : List ℕ). WroteFront takes fails f t a b) text_whole (h [])

  pub closes : (it : Told) → Takes takes fails sp see (Ok (turn.Ends it)) stage lines a b
      → Wrote takes fails (Ok (Some it)) (text_from sp see stage lines) (end_from sp see stage lines) a b
  closes it h = (
    sym end_whole ∙ h.3.end [],
    subst (λ (t : List ℕ). Passed takes a.inner b.inner t) (sym (h.3.text []) ∙ text_whole) h.1,
    h.2,
  )

  pub goes_on : (after : Stage R) (r : Result (Option Told) WriteFault) (c : Watched K) → Takes takes fails sp see (Ok (turn.Goes after)) stage lines a b
      → Wrote takes fails r (text_from sp see after []) (end_from sp see after []) b c → Wrote takes fails r (text_from sp see stage lines) (end_from sp see stage lines) a c
  goes_on after r c h w =
      subst (λ (t : List ℕ). Wrote takes fails r t (end_from sp see stage lines) a c) (sym (h.3.text []) ∙ text_whole)
      (subst (λ (o : Option Told). Wrote takes fails r (h.0 ++ text_from sp see after []) o a c) (sym (h.3.end []) ∙ end_whole)
      (wrote_behind takes fails r a b c h.0 (text_from sp see after []) (end_from sp see after []) h.1 w))
