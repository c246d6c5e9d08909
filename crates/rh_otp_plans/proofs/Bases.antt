-- The commands of a base in JSON, line by line.
use Rattle.std.proofs.Common.{◌≡◌, ◌+◌, ℕ, List, [], ◌∷◌, ◌++◌, map, Bool, true, false, Option, Some, None, Result, Ok, Err, refl, sym, ap, subst, ◌∙◌, append_assoc}
use Rattle.std.proofs.lemmas.List.{append-nil}
use Rattle.rh_calls.specs.declared.call.Call.{Call}
use Rattle.rh_devices.specs.declared.fault.WriteFault.{WriteFault}
use Rattle.rh_devices.specs.declared.watched.Watched.{Watched}
use Rattle.rh_devices.specs.Devices.{Passed, WroteFront}
use Rattle.rh_devices.proofs.Passing.{passed_more, fault_before, fault_behind}
use Rattle.rh_json.specs.RunJson.{Asked, asked_in, before}
use Rattle.rh_model.specs.ClusterView.{ClusterView}
use Rattle.rh_otp_json.specs.LiveJson.{answer_line, answer_lines}
use Rattle.rh_otp_sim.specs.Calls.{made_by}
use Rattle.rh_otp_sim.specs.Laws.{behind}
use Rattle.rh_otp_sim.specs.Sim.{LiveSimView}
use Rattle.rh_run.proofs.Turns.{wrote_behind}
use Rattle.rh_run.specs.declared.fault.Told.{Told}
use Rattle.rh_run.specs.RunText.{Wrote, Broke}
use Rattle.rh_script.specs.Commands.{line_of}
use Rattle.rh_script.specs.declared.script.Line.{Line}
use Rattle.rh_script.specs.declared.script.Line.TheVariants.{Nothing, Asks, Bad}
use Rattle.rh_script.specs.SweepLines.{PlanText, sweep_lines_asked, plans_of}
use Rattle.rh_otp_plans.specs.LiveSweep.{why_not_swept, plans_end, lines_end, base_sim}
use Rattle.rh_otp_plans.specs.LiveSweepJson.{calls_in, plans_json, base_json, lines_json, Turns}

-- one line, of which the cluster says what it asks
module _ (c : ClusterView) (sim : LiveSimView) (k : ℕ) (line : List ℕ) (lines : List (List ℕ)) where
  abbrev asked_if : Line → List Asked
  asked_if asked = before k line asked (asked_in c (k + 1) lines)

  module _ {K : Type 0} (takes : K → K → List ℕ → Type 0) (fails : K → K → Type 0) (later : LiveSimView) (old new : Watched K) where
    pub turn_of_nothing : line_of c line ≡ Nothing → later ≡ sim → new ≡ old → old.failed ≡ false
        → Turns takes fails (Ok true) c sim later k line lines old new
    turn_of_nothing is same kept well = (
      [],
      ([], ap (λ (w : Watched K). w.inner) (sym kept), refl),
      ap (λ (l : Line). answer_lines sim (asked_if l)) is ∙ ap (λ (s : LiveSimView). answer_lines s (asked_in c (k + 1) lines)) (sym same),
      ap (λ (l : Line). behind (calls_in (asked_if l)) sim) is
          ∙ ap (λ (s : LiveSimView). behind (calls_in (asked_in c (k + 1) lines)) s) (sym same),
      ap (λ (w : Watched K). w.failed) kept ∙ well,
    )

    pub turn_of_call : (call : Call) → line_of c line ≡ Asks call → later ≡ made_by call sim
        → Broke takes fails (Ok tt) (answer_line sim k line call) old new → Turns takes fails (Ok true) c sim later k line lines old new
    turn_of_call call is same broke = (
      answer_line sim k line call,
      broke.0,
      ap (λ (l : Line). answer_lines sim (asked_if l)) is
          ∙ ap (λ (s : LiveSimView). answer_line sim k line call ++ answer_lines s (asked_in c (k + 1) lines)) (sym same),
      ap (λ (l : Line). behind (calls_in (asked_if l)) sim) is
          ∙ ap (λ (s : LiveSimView). behind (calls_in (asked_in c (k + 1) lines)) s) (sym same),
      broke.1,
    )

    pub call_breaks : (call : Call) → line_of c line ≡ Asks call → (f : WriteFault) → WroteFront takes fails f (answer_line sim k line call) old new
        → Turns takes fails (Err f) c sim later k line lines old new
    call_breaks call is f broke =
        rw (ap (λ (l : Line). answer_lines sim (asked_if l)) is)
        (fault_before takes fails f old new (answer_line sim k line call) (answer_lines (made_by call sim) (asked_in c (k + 1) lines)) broke)

    pub turn_of_bad : line_of c line ≡ Bad → later ≡ sim → new ≡ old → Turns takes fails (Ok false) c sim later k line lines old new
    turn_of_bad is same kept = (ap asked_if is, same, kept)

-- a line in the midst of a base: what is asked here is head, and then tail
module _ {K : Type 0} (takes : K → K → List ℕ → Type 0) (fails : K → K → Type 0)
    (c : ClusterView) (start sim next : LiveSimView) (k : ℕ) (all here tail : List (List ℕ)) (head : List ℕ)
    (a b d : Watched K) (done : List ℕ)
    (at : here ≡ head ∷ tail) (wrote : Passed takes a.inner b.inner done)
    (so_far : answer_lines start (asked_in c 1 all) ≡ done ++ answer_lines sim (asked_in c k here))
    (led : behind (calls_in (asked_in c 1 all)) start ≡ behind (calls_in (asked_in c k here)) sim) where
  pub text_goes_on : Turns takes fails (Ok true) c sim next k head tail b d
      → (more : List ℕ) × Passed takes a.inner d.inner more × (answer_lines start (asked_in c 1 all) ≡ more ++ answer_lines next (asked_in c (k + 1) tail))
  text_goes_on turn = (
    done ++ turn.0,
    passed_more takes a.inner b.inner d.inner done turn.0 wrote turn.1,
    so_far
        ∙ ap (λ (ls : List (List ℕ)). done ++ answer_lines sim (asked_in c k ls)) at
        ∙ ap (λ (t : List ℕ). done ++ t) turn.2
        ∙ sym (append_assoc done turn.0 (answer_lines next (asked_in c (k + 1) tail))),
  )

  pub sim_goes_on : Turns takes fails (Ok true) c sim next k head tail b d
      → behind (calls_in (asked_in c 1 all)) start ≡ behind (calls_in (asked_in c (k + 1) tail)) next
  sim_goes_on turn = led ∙ ap (λ (ls : List (List ℕ)). behind (calls_in (asked_in c k ls)) sim) at ∙ turn.3

  -- no command is left
  none : Turns takes fails (Ok false) c sim next k head tail b d → asked_in c k here ≡ []
  none turn = ap (λ (ls : List (List ℕ)). asked_in c k ls) at ∙ turn.0

  pub sim_ends : Turns takes fails (Ok false) c sim next k head tail b d → next ≡ behind (calls_in (asked_in c 1 all)) start
  sim_ends turn = turn.1 ∙ sym (led ∙ ap (λ (as' : List Asked). behind (calls_in as') sim) (none turn))

  pub text_ends : Turns takes fails (Ok false) c sim next k head tail b d → b.failed ≡ false
      → Broke takes fails (Ok tt) (answer_lines start (asked_in c 1 all)) a d
  text_ends turn well =
      let whole : done ≡ answer_lines start (asked_in c 1 all) =
      sym (so_far ∙ ap (λ (as' : List Asked). done ++ answer_lines sim as') (none turn) ∙ append-nil done) in
      let there : Passed takes a.inner b.inner (answer_lines start (asked_in c 1 all)) = subst (λ (t : List ℕ). Passed takes a.inner b.inner t) whole wrote in (
        subst (λ (w : Watched K). Passed takes a.inner w.inner (answer_lines start (asked_in c 1 all))) (sym turn.2) there,
        ap (λ (w : Watched K). w.failed) turn.2 ∙ well,
      )

  pub breaks_here : (f : WriteFault) → Turns takes fails (Err f) c sim next k head tail b d
      → WroteFront takes fails f (answer_lines start (asked_in c 1 all)) a d
  breaks_here f turn = rw (so_far, at) (fault_behind takes fails f a b d done (answer_lines sim (asked_in c k (head ∷ tail))) wrote turn)

-- ---- the base is answered, and then come the plans
module _ (sim base : LiveSimView) (lines : List (List ℕ)) (bad : Option ℕ) (plans : List PlanText)
    (fits : bad ≡ None) (planned : plans ≡ plans_of (sweep_lines_asked sim.cluster lines))
    (then_base : base ≡ base_sim sim (sweep_lines_asked sim.cluster lines)) where
  whole : lines_json sim lines bad ≡ base_json sim lines ++ plans_json base plans (why_not_swept base plans)
  whole = rw (fits, then_base, planned) refl

  ends : lines_end sim (sweep_lines_asked sim.cluster lines) bad ≡ plans_end base plans
  ends = rw (fits, then_base, planned) refl

  module _ {K : Type 0} (takes : K → K → List ℕ → Type 0) (fails : K → K → Type 0) where
    pub base_breaks : (f : WriteFault) (a b : Watched K) → WroteFront takes fails f (base_json sim lines) a b
        → WroteFront takes fails f (lines_json sim lines bad) a b
    base_breaks f a b h =
        rw whole (fault_before takes fails f a b (base_json sim lines) (plans_json base plans (why_not_swept base plans)) h)

    pub plans_behind : (r : Result (Option Told) WriteFault) (a b d : Watched K) → Passed takes a.inner b.inner (base_json sim lines)
        → Wrote takes fails r (plans_json base plans (why_not_swept base plans)) (plans_end base plans) b d
        → Wrote takes fails r (lines_json sim lines bad) (lines_end sim (sweep_lines_asked sim.cluster lines) bad) a d
    plans_behind r a b d p q =
        rw (whole, ends)
        (wrote_behind takes fails r a b d (base_json sim lines) (plans_json base plans (why_not_swept base plans)) (plans_end base plans) p q)
