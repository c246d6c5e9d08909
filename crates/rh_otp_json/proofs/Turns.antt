-- One line of a script, and those behind it.
use Rattle.std.proofs.Common.{◌≡◌, ◌+◌, ℕ, List, [], ◌∷◌, ◌++◌, Bool, false, Option, Some, None, Result, Ok, Err, refl, sym, ap, subst, ◌∙◌, append_assoc}
use Rattle.rh_model.specs.ClusterView.{ClusterView}
use Rattle.rh_calls.specs.declared.call.Call.{Call}
use Rattle.rh_otp_sim.specs.Calls.{made_by}
use Rattle.rh_otp_sim.specs.Sim.{LiveSimView}
use Rattle.rh_script.specs.declared.script.Line.{Line}
use Rattle.rh_script.specs.declared.script.Line.TheVariants.{Nothing, Asks, Bad}
use Rattle.rh_script.specs.Commands.{line_of}
use Rattle.rh_devices.specs.declared.fault.WriteFault.{WriteFault}
use Rattle.rh_devices.specs.declared.watched.Watched.{Watched}
use Rattle.rh_devices.specs.Devices.{Passed, WroteFront}
use Rattle.rh_devices.proofs.Passing.{passed_more, fault_before}
use Rattle.rh_run.specs.RunText.{bad_line, lines_asked, Wrote, Broke}
use Rattle.rh_run.proofs.Turns.{wrote_behind}
use Rattle.rh_json_lines.specs.AnswerLines.{bad_json}
use Rattle.rh_json.specs.RunJson.{asked_in, before, end_json}
use Rattle.rh_otp_json.specs.LiveJson.{answer_line, answer_lines, script_json, Turns}

-- one line, of which the cluster says what it asks
module _ (c : ClusterView) (sim : LiveSimView) (k : ℕ) (line : List ℕ) (lines : List (List ℕ)) where
  abbrev text_if : Line → List ℕ
  text_if asked = answer_lines sim (before k line asked (asked_in c (k + 1) lines)) ++ end_json (bad_line k (asked ∷ lines_asked c lines))

  abbrev bad_if : Line → Option ℕ
  bad_if asked = bad_line k (asked ∷ lines_asked c lines)

  call_text : (call : Call) → line_of c line ≡ Asks call
      → script_json c sim k (line ∷ lines) ≡ answer_line sim k line call ++ script_json c (made_by call sim) (k + 1) lines
  call_text call is =
      ap text_if is
      ∙ append_assoc (answer_line sim k line call) (answer_lines (made_by call sim) (asked_in c (k + 1) lines))
      (end_json (bad_line (k + 1) (lines_asked c lines)))

  module _ {K : Type 0} (takes : K → K → List ℕ → Type 0) (fails : K → K → Type 0) (later : LiveSimView) (old new : Watched K) where
    pub turn_of_nothing : line_of c line ≡ Nothing → later ≡ sim → new ≡ old → old.failed ≡ false
        → Turns takes fails (Ok None) c sim later k line lines old new
    turn_of_nothing is same kept well = (
      [],
      ([], ap (λ (w : Watched K). w.inner) (sym kept), refl),
      ap text_if is ∙ ap (λ s. script_json c s (k + 1) lines) (sym same),
      ap bad_if is,
      ap (λ (w : Watched K). w.failed) kept ∙ well,
    )

    pub turn_of_call : (call : Call) → line_of c line ≡ Asks call → later ≡ made_by call sim
        → Broke takes fails (Ok tt) (answer_line sim k line call) old new → Turns takes fails (Ok None) c sim later k line lines old new
    turn_of_call call is same broke = (
      answer_line sim k line call,
      broke.0,
      call_text call is ∙ ap (λ s. answer_line sim k line call ++ script_json c s (k + 1) lines) (sym same),
      ap bad_if is,
      broke.1,
    )

    pub call_breaks : (call : Call) → line_of c line ≡ Asks call → (f : WriteFault) → WroteFront takes fails f (answer_line sim k line call) old new
        → Turns takes fails (Err f) c sim later k line lines old new
    call_breaks call is f broke =
        rw (call_text call is) (fault_before takes fails f old new _ (script_json c (made_by call sim) (k + 1) lines) broke)

    pub turn_of_bad : line_of c line ≡ Bad → Broke takes fails (Ok tt) (bad_json k) old new
        → Turns takes fails (Ok (Some k)) c sim later k line lines old new
    turn_of_bad is broke = (
      ap bad_if is,
      subst (λ t. Passed takes old.inner new.inner t) (sym (ap text_if is)) broke.0,
      broke.1,
    )

    pub bad_breaks : line_of c line ≡ Bad → (f : WriteFault) → WroteFront takes fails f (bad_json k) old new
        → Turns takes fails (Err f) c sim later k line lines old new
    bad_breaks is f broke = subst (λ t. WroteFront takes fails f t old new) (sym (ap text_if is)) broke

-- a line in the midst of a run: what is asked here is head, and then tail
module _ {K : Type 0} (takes : K → K → List ℕ → Type 0) (fails : K → K → Type 0)
    (c : ClusterView) (start sim next : LiveSimView) (k : ℕ) (all here tail : List (List ℕ)) (head : List ℕ)
    (a b d : Watched K) (done : List ℕ)
    (at : here ≡ head ∷ tail) (wrote : Passed takes a.inner b.inner done)
    (so_far : script_json c start 1 all ≡ done ++ script_json c sim k here)
    (bad : bad_line 1 (lines_asked c all) ≡ bad_line k (lines_asked c here)) where
  pub ends_here : (r : Result (Option ℕ) WriteFault)
      → Wrote takes fails r (script_json c sim k (head ∷ tail)) (bad_line k (lines_asked c (head ∷ tail))) b d
      → Wrote takes fails r (script_json c start 1 all) (bad_line 1 (lines_asked c all)) a d
  ends_here r turn =
      rw (so_far, bad, at) (wrote_behind takes fails r a b d done (script_json c sim k (head ∷ tail)) (bad_line k (lines_asked c (head ∷ tail))) wrote turn)

  pub text_goes_on : Turns takes fails (Ok None) c sim next k head tail b d
      → (more : List ℕ) × Passed takes a.inner d.inner more × (script_json c start 1 all ≡ more ++ script_json c next (k + 1) tail)
  text_goes_on turn = (
    done ++ turn.0,
    passed_more takes a.inner b.inner d.inner done turn.0 wrote turn.1,
    so_far ∙ ap (λ ls. done ++ script_json c sim k ls) at ∙ ap (λ t. done ++ t) turn.2 ∙ sym (append_assoc done turn.0 (script_json c next (k + 1) tail)),
  )

  pub bad_goes_on : Turns takes fails (Ok None) c sim next k head tail b d → bad_line 1 (lines_asked c all) ≡ bad_line (k + 1) (lines_asked c tail)
  bad_goes_on turn = bad ∙ ap (λ ls. bad_line k (lines_asked c ls)) at ∙ turn.3
