-- One line of a script, and those behind it.
use Rattle.std.proofs.Common.{◌≡◌, ◌∙◌, ◌+◌, ◌||◌, ℕ, List, [], ◌∷◌, ◌++◌, Bool, true, false, Option, Some, Result, Ok, Err, refl, sym, ap, ap₂, subst, append_assoc}
use Rattle.rh_model.specs.ClusterView.{ClusterView}
use Rattle.rh_calls.specs.declared.call.Call.{Call}
use Rattle.rh_trail.specs.SimView.{SimView}
use Rattle.rh_trail.specs.Lone.{served}
use Rattle.rh_script.specs.declared.script.Line.TheVariants.{Nothing, Asks, Bad}
use Rattle.rh_script.specs.Answers.{answer_text, bad_text}
use Rattle.rh_run.specs.declared.fault.Told.{Told}
use Rattle.rh_run.specs.declared.fault.Told.TheVariants as told
use Rattle.rh_run.specs.RunText.{bad_line, Wrote, Broke}
use Rattle.rh_devices.specs.declared.fault.WriteFault.{WriteFault}
use Rattle.rh_devices.specs.declared.watched.Watched.{Watched}
use Rattle.rh_devices.specs.Devices.{Passed, WroteFront}
use Rattle.rh_devices.proofs.Passing.{passed_more, passed_none, fault_behind, fault_before}
use Rattle.rh_asked.specs.declared.manner.Manner.{Manner}
use Rattle.rh_manner.specs.declared.running.Turn.TheVariants.{Goes, Ends}
use Rattle.rh_manner.specs.MannerText.{Said, asked, bad_end, command_lines, commands_text, echo_of, end_of, is_refused_step, said_text, script_replies}
use Rattle.rh_manner.specs.Turns.{Turns, WroteCall, any_refused}

-- the text of a command, and that of the lines behind it
asks_text : (m : Manner) (c : ClusterView) (sim : SimView) (k : ℕ) (line : List ℕ) (call : Call) (lines : List Said)
    → said_text m c sim k ((line, Asks call) ∷ lines)
    ≡ (echo_of m line ++ answer_text c (served sim call).reply) ++ said_text m c (served sim call).sim (k + 1) lines
asks_text m c sim k line call lines =
    append_assoc (echo_of m line ++ answer_text c (served sim call).reply)
    (commands_text m c (command_lines lines) (script_replies (served sim call).sim lines)) (bad_end m (k + 1) lines)

module _ {K : Type 0} (takes : K → K → List ℕ → Type 0) (fails : K → K → Type 0)
    (m : Manner) (c : ClusterView) (before after : SimView) (k : ℕ) (line : List ℕ) (lines : List Said) (old new : Watched K) where
  -- a line that asks nothing
  pub turn_of_nothing : after ≡ before → old ≡ new → new.failed ≡ false
      → Turns takes fails (Ok (Goes false)) m c before after k (line, Nothing) lines old new
  turn_of_nothing same kept well = (
    [],
    subst (λ (w : Watched K). Passed takes old.inner w.inner []) kept (passed_none takes old.inner),
    ap (λ (s : SimView). said_text m c s (k + 1) lines) (sym same),
    refl,
    ap (λ (s : SimView). any_refused s lines) (sym same),
    well,
  )

  -- a command that was answered, or wasn't
  pub turn_of_call : (call : Call) (refused : Bool) → after ≡ (served before call).sim → refused ≡ is_refused_step (served before call).reply
      → WroteCall takes fails (Ok refused) (echo_of m line ++ answer_text c (served before call).reply) old new
      → Turns takes fails (Ok (Goes refused)) m c before after k (line, Asks call) lines old new
  turn_of_call call refused same is wrote = (
    echo_of m line ++ answer_text c (served before call).reply,
    wrote.0,
    asks_text m c before k line call lines
        ∙ ap (λ (s : SimView). (echo_of m line ++ answer_text c (served before call).reply) ++ said_text m c s (k + 1) lines) (sym same),
    refl,
    ap₂ (λ (b : Bool) (s : SimView). b || any_refused s lines) (sym is) (sym same),
    wrote.1,
  )

  pub call_breaks : (call : Call) (f : WriteFault) → WroteFront takes fails f (echo_of m line ++ answer_text c (served before call).reply) old new
      → Turns takes fails (Err f) m c before after k (line, Asks call) lines old new
  call_breaks call f broke =
      rw (asks_text m c before k line call lines) (fault_before takes fails f old new _ (said_text m c (served before call).sim (k + 1) lines) broke)

  -- a line that is no command, and that was told, or wasn't
  pub turn_of_bad : Passed takes old.inner new.inner (echo_of m line ++ bad_text k) → new.failed ≡ false
      → Turns takes fails (Ok Ends) m c before after k (line, Bad) lines old new
  turn_of_bad wrote well = (wrote, refl, well)

  pub bad_breaks : (f : WriteFault) → WroteFront takes fails f (echo_of m line ++ bad_text k) old new
      → Turns takes fails (Err f) m c before after k (line, Bad) lines old new
  bad_breaks f broke = broke

-- what was written behind other text
module _ {K : Type 0} (takes : K → K → List ℕ → Type 0) (fails : K → K → Type 0) (a b d : Watched K) (first second : List ℕ) where
  pub call_behind : (r : Result Bool WriteFault) → Passed takes a.inner b.inner first → WroteCall takes fails r second b d
      → WroteCall takes fails r (first ++ second) a d
  call_behind (Ok refused) p q = (passed_more takes a.inner b.inner d.inner first second p q.0, q.1)
  call_behind (Err f) p q = fault_behind takes fails f a b d first second p q

  pub broke_behind : (r : Result (Unit {0}) WriteFault) → Passed takes a.inner b.inner first → Broke takes fails r second b d
      → Broke takes fails r (first ++ second) a d
  broke_behind (Ok x) p q = (passed_more takes a.inner b.inner d.inner first second p q.0, q.1)
  broke_behind (Err f) p q = fault_behind takes fails f a b d first second p q

-- and what wasn't written whole, with more text behind it
pub first_breaks : {K : Type 0} (takes : K → K → List ℕ → Type 0) (fails : K → K → Type 0) (a b : Watched K) (first second : List ℕ) (f : WriteFault)
    → WroteFront takes fails f first a b → WroteFront takes fails f (first ++ second) a b
first_breaks takes fails a b first second f q = fault_before takes fails f a b first second q

-- ---- a line in the midst of a run: what is asked here is head, and then tail

pub or_assoc : (a b c : Bool) → ((a || b) || c) ≡ (a || (b || c))
or_assoc true b c = refl
or_assoc false b c = refl

module _ {K : Type 0} (takes : K → K → List ℕ → Type 0) (fails : K → K → Type 0)
    (m : Manner) (c : ClusterView) (start sim next : SimView) (k : ℕ) (refused : Bool) (all here tail : List Said) (head : Said)
    (a b d : Watched K) (done : List ℕ)
    (at : here ≡ head ∷ tail) (wrote : Passed takes a.inner b.inner done)
    (so_far : said_text m c start 1 all ≡ done ++ said_text m c sim k here) (bad : bad_line 1 (asked all) ≡ bad_line k (asked here))
    (told_so : any_refused start all ≡ (refused || any_refused sim here)) where
  -- all of the text: what was written so far, and that of the lines from here on
  whole : said_text m c start 1 all ≡ done ++ said_text m c sim k (head ∷ tail)
  whole = so_far ∙ ap (λ (ls : List Said). done ++ said_text m c sim k ls) at

  pub breaks_here : (f : WriteFault) (owed : Option Told) → Turns takes fails (Err f) m c sim next k head tail b d
      → Wrote takes fails (Err f) (said_text m c start 1 all) owed a d
  breaks_here f owed turn = rw whole (fault_behind takes fails f a b d done (said_text m c sim k (head ∷ tail)) wrote turn)

  pub ends_here : Turns takes fails (Ok Ends) m c sim next k head tail b d
      → Wrote takes fails (Ok (Some (told.BadLine k))) (said_text m c start 1 all) (end_of m (any_refused start all) (bad_line 1 (asked all))) a d
  ends_here turn = (
    ap (λ (o : Option ℕ). end_of m (any_refused start all) o) (bad ∙ ap (λ (ls : List Said). bad_line k (asked ls)) at ∙ turn.1),
    rw whole (passed_more takes a.inner b.inner d.inner done (said_text m c sim k (head ∷ tail)) wrote turn.0),
    turn.2,
  )

  pub text_goes_on : (was : Bool) → Turns takes fails (Ok (Goes was)) m c sim next k head tail b d
      → (more : List ℕ) × Passed takes a.inner d.inner more × (said_text m c start 1 all ≡ more ++ said_text m c next (k + 1) tail)
  text_goes_on was turn = (
    done ++ turn.0,
    passed_more takes a.inner b.inner d.inner done turn.0 wrote turn.1,
    whole ∙ ap (λ (t : List ℕ). done ++ t) turn.2 ∙ sym (append_assoc done turn.0 (said_text m c next (k + 1) tail)),
  )

  pub bad_goes_on : (was : Bool) → Turns takes fails (Ok (Goes was)) m c sim next k head tail b d → bad_line 1 (asked all) ≡ bad_line (k + 1) (asked tail)
  bad_goes_on was turn = bad ∙ ap (λ (ls : List Said). bad_line k (asked ls)) at ∙ turn.3

  pub refusals_go_on : (was : Bool) → Turns takes fails (Ok (Goes was)) m c sim next k head tail b d
      → any_refused start all ≡ ((refused || was) || any_refused next tail)
  refusals_go_on was turn =
      told_so ∙ ap (λ (ls : List Said). refused || any_refused sim ls) at ∙ ap (λ (x : Bool). refused || x) turn.4
      ∙ sym (or_assoc refused was (any_refused next tail))
