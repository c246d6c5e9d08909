-- One line of a script, and those behind it.
use Rattle.std.proofs.Common.{◌≡◌, ◌+◌, ℕ, List, ◌∷◌, ◌++◌, Bool, Option, None, Result, Ok, Err, refl, sym, ap, ◌∙◌, append_assoc}
use Rattle.std.specs.List.{flat_map}
use Rattle.rh_model.specs.ClusterView.{ClusterView}
use Rattle.rh_calls.specs.declared.call.Call.{Call}
use Rattle.rh_trail.specs.SimView.{SimView}
use Rattle.rh_trail.specs.Lone.{served, replies}
use Rattle.rh_script.specs.declared.script.Line.{Line}
use Rattle.rh_script.specs.declared.script.Line.TheVariants.{Asks}
use Rattle.rh_devices.specs.declared.fault.WriteFault.{WriteFault}
use Rattle.rh_script.specs.Answers.{answer_text}
use Rattle.rh_devices.specs.declared.watched.Watched.{Watched}
use Rattle.rh_devices.specs.Devices.{Passed, WroteFront}
use Rattle.rh_script.specs.Commands.{calls_of}
use Rattle.rh_run.specs.RunText.{bad_line, end_text, script_text, Wrote, Broke, Turns}
use Rattle.rh_devices.proofs.Passing.{passed_more, fault_behind, fault_before}

-- what was written behind other text
pub wrote_behind : {K T : Type 0} (takes : K → K → List ℕ → Type 0) (fails : K → K → Type 0) (r : Result (Option T) WriteFault) (a b c : Watched K)
    (done text : List ℕ) (owed : Option T)
    → Passed takes a.inner b.inner done → Wrote takes fails r text owed b c → Wrote takes fails r (done ++ text) owed a c
wrote_behind takes fails (Ok said) a b c done text owed p q = (q.0, passed_more takes a.inner b.inner c.inner done text p q.1, q.2)
wrote_behind takes fails (Err f) a b c done text owed p q = fault_behind takes fails f a b c done text p q

-- the text of a command, and that of the lines behind it
asks_text : (c : ClusterView) (sim : SimView) (k : ℕ) (call : Call) (lines : List Line)
    → script_text c sim k (Asks call ∷ lines) ≡ answer_text c (served sim call).reply ++ script_text c (served sim call).sim (k + 1) lines
asks_text c sim k call lines =
    append_assoc (answer_text c (served sim call).reply) (flat_map (answer_text c) (replies (served sim call).sim (calls_of lines)))
    (end_text (bad_line (k + 1) lines))

-- a command was answered, or not
module _ {K : Type 0} (takes : K → K → List ℕ → Type 0) (fails : K → K → Type 0)
    (c : ClusterView) (before after : SimView) (k : ℕ) (call : Call) (lines : List Line) (old new : Watched K) where
  pub turn_of_call : after ≡ (served before call).sim → Broke takes fails (Ok tt) (answer_text c (served before call).reply) old new
      → Turns takes fails (Ok None) c before after k (Asks call) lines old new
  turn_of_call same broke = (
    answer_text c (served before call).reply,
    broke.0,
    asks_text c before k call lines ∙ (λ i. answer_text c (served before call).reply ++ script_text c (sym same i) (k + 1) lines),
    refl,
    broke.1,
  )

  pub call_breaks : (f : WriteFault) → WroteFront takes fails f (answer_text c (served before call).reply) old new
      → Turns takes fails (Err f) c before after k (Asks call) lines old new
  call_breaks f broke =
      rw (asks_text c before k call lines) (fault_before takes fails f old new _ (script_text c (served before call).sim (k + 1) lines) broke)

-- a line in the midst of a run: what is asked here is head, and then tail
module _ {K : Type 0} (takes : K → K → List ℕ → Type 0) (fails : K → K → Type 0)
    (c : ClusterView) (start sim next : SimView) (k : ℕ) (all here tail : List Line) (head : Line)
    (a b d : Watched K) (done : List ℕ)
    (at : here ≡ head ∷ tail) (wrote : Passed takes a.inner b.inner done)
    (so_far : script_text c start 1 all ≡ done ++ script_text c sim k here) (bad : bad_line 1 all ≡ bad_line k here) where
  pub ends_here : (r : Result (Option ℕ) WriteFault) → Wrote takes fails r (script_text c sim k (head ∷ tail)) (bad_line k (head ∷ tail)) b d
      → Wrote takes fails r (script_text c start 1 all) (bad_line 1 all) a d
  ends_here r turn =
      rw (so_far, bad, at) (wrote_behind takes fails r a b d done (script_text c sim k (head ∷ tail)) (bad_line k (head ∷ tail)) wrote turn)

  pub text_goes_on : Turns takes fails (Ok None) c sim next k head tail b d
      → (more : List ℕ) × Passed takes a.inner d.inner more × (script_text c start 1 all ≡ more ++ script_text c next (k + 1) tail)
  text_goes_on turn = (
    done ++ turn.0,
    passed_more takes a.inner b.inner d.inner done turn.0 wrote turn.1,
    so_far ∙ ap (λ ls. done ++ script_text c sim k ls) at ∙ ap (λ t. done ++ t) turn.2 ∙ sym (append_assoc done turn.0 (script_text c next (k + 1) tail)),
  )

  pub bad_goes_on : Turns takes fails (Ok None) c sim next k head tail b d → bad_line 1 all ≡ bad_line (k + 1) tail
  bad_goes_on turn = bad ∙ ap (bad_line k) at ∙ turn.3
