-- The texts of a sweep on live nodes, piece by piece.
use Rattle.std.proofs.Common.{◌≡◌, ◌+◌, ◌<◌, ◌&&◌, ℕ, suc, List, [], ◌∷◌, ◌++◌, length, map, drop, get_or, All, Bool, true, false, cond}
use Rattle.std.proofs.Common.{Option, Some, None, Result, Ok, refl, sym, ap, ◌∙◌, append_assoc, arith}
use Rattle.std.specs.List.{list_all}
use Rattle.std.proofs.lemmas.Bool.Decides.{nat_tests}
use Rattle.std.proofs.Math.Seq.{drop-cons}
use Rattle.std.proofs.lemmas.List.{get_or-map}
use Rattle.std.proofs.lemmas.List.Elements.{All-nil, All-cons, All-head, All-tail}
use Rattle.rh_calls.specs.declared.call.Call.{Call}
use Rattle.rh_devices.specs.declared.fault.WriteFault.{WriteFault}
use Rattle.rh_devices.specs.declared.watched.Watched.{Watched}
use Rattle.rh_devices.specs.Devices.{Passed, WroteFront}
use Rattle.rh_devices.proofs.Passing.{passed_more, fault_behind, fault_before}
use Rattle.rh_otp_run.specs.Laws.{answers_text}
use Rattle.rh_otp_sim.specs.Calls.{made_by, reply_to}
use Rattle.rh_otp_sim.specs.Laws.{behind}
use Rattle.rh_otp_sim.specs.Sim.{LiveSimView, can_redo}
use Rattle.rh_otp_sweep.specs.Outcomes.{LiveOutcomeView, outcome_of}
use Rattle.rh_otp_sweep.specs.Sweeping.{HasRoom, MaySweep, WhyNotSwept}
use Rattle.rh_otp_text.specs.Replies.{reply_text}
use Rattle.rh_plans.specs.declared.fault.SweepFault.{SweepFault}
use Rattle.rh_plans.specs.declared.fault.SweepFault.TheVariants.{WorkerCount, BaseNotAtEnd, TrailRoom, OutOfMemory}
use Rattle.rh_plans.specs.declared.plan.Plan.{Plan}
use Rattle.rh_plans.specs.Workers.{AreWorkers}
use Rattle.rh_run.proofs.Turns.{wrote_behind}
use Rattle.rh_run.specs.declared.fault.Told.{Told}
use Rattle.rh_run.specs.RunText.{Wrote, Broke}
use Rattle.rh_script.specs.Commands.{calls_of}
use Rattle.rh_script.specs.declared.sweep_lines.SweepLine.{SweepLine}
use Rattle.rh_script.specs.SweepLines.{PlanText, plan_text, base_lines, plans_of}
use Rattle.rh_otp_plans.specs.LiveSweep.{has_room, why_not_swept, plans_text, plans_end, lines_text, lines_end}

-- ---- calls that are answered one after the other: before this one the simulation is now, and behind it next
abbrev told_of : LiveSimView → Call → List ℕ
told_of sim call = reply_text (made_by call sim) (reply_to call sim)

module _ (start now next : LiveSimView) (calls : List Call) (i : ℕ) (call : Call)
    (at : drop i calls ≡ call ∷ drop (i + 1) calls) (is : next ≡ made_by call now) where
  pub sim_goes_on : behind calls start ≡ behind (drop i calls) now → behind calls start ≡ behind (drop (i + 1) calls) next
  sim_goes_on so_far =
      so_far ∙ ap (λ (cs : List Call). behind cs now) at ∙ ap (λ (s : LiveSimView). behind (drop (i + 1) calls) s) (sym is)

  pub answers_go_on : {K : Type 0} (takes : K → K → List ℕ → Type 0) (fails : K → K → Type 0) (a b d : Watched K) (done : List ℕ)
      → Passed takes a.inner b.inner done
      → answers_text start calls ≡ done ++ answers_text now (drop i calls)
      → Broke takes fails (Ok tt) (told_of now call) b d
      → (more : List ℕ) × Passed takes a.inner d.inner more × (answers_text start calls ≡ more ++ answers_text next (drop (i + 1) calls))
  answers_go_on takes fails a b d done wrote so_far broke = (
    done ++ told_of now call,
    passed_more takes a.inner b.inner d.inner done (told_of now call) wrote broke.0,
    so_far ∙ ap (λ (cs : List Call). done ++ answers_text now cs) at
        ∙ ap (λ (s : LiveSimView). done ++ (told_of now call ++ answers_text s (drop (i + 1) calls))) (sym is)
        ∙ sym (append_assoc done (told_of now call) (answers_text next (drop (i + 1) calls))),
  )

-- an answer was not written whole
pub answer_breaks : (start now : LiveSimView) (calls : List Call) (i : ℕ) (call : Call) → drop i calls ≡ call ∷ drop (i + 1) calls
    → {K : Type 0} (takes : K → K → List ℕ → Type 0) (fails : K → K → Type 0) (a b d : Watched K) (done : List ℕ) → Passed takes a.inner b.inner done
    → answers_text start calls ≡ done ++ answers_text now (drop i calls)
    → (f : WriteFault) → WroteFront takes fails f (told_of now call) b d → WroteFront takes fails f (answers_text start calls) a d
answer_breaks start now calls i call at takes fails a b d done wrote so_far f broke =
    rw (so_far, at) (fault_behind takes fails f a b d done _ wrote
    (fault_before takes fails f b d (told_of now call) (answers_text (made_by call now) (drop (i + 1) calls)) broke))

-- ---- why plans can't be swept
module _ (base : LiveSimView) where
  rooms : (plans : List Plan) → All (HasRoom base) plans → list_all (has_room base) (map plan_text plans) ≡ true
  rooms [] all = refl
  rooms (plan ∷ plans) all =
      let here : has_room base (plan_text plan) ≡ true = grind (arith, nat_tests, All-head (HasRoom base) plan plans all) in
      let later = rooms plans (All-tail (HasRoom base) plan plans all) in
      rw (here, later) refl

  have_rooms : (plans : List Plan) → list_all (has_room base) (map plan_text plans) ≡ true → All (HasRoom base) plans
  have_rooms [] h = All-nil (HasRoom base)
  have_rooms (plan ∷ plans) h = by (has_room base (plan_text plan)) refl h (λ later. have_rooms plans later) where
    by : (b : Bool) → has_room base (plan_text plan) ≡ b → (b && list_all (has_room base) (map plan_text plans)) ≡ true
        → (list_all (has_room base) (map plan_text plans) ≡ true → All (HasRoom base) plans) → All (HasRoom base) (plan ∷ plans)
    by true here later rest = All-cons (HasRoom base) plan plans (grind (arith, nat_tests, here)) (rest later)
    by false here later rest = cc

  -- by whether there is a step to be made again, and whether there is room
  why_by : Bool → Bool → Option SweepFault
  why_by more room = cond more (Some BaseNotAtEnd) (cond room None (Some TrailRoom))

  pub swept : (plans : List Plan) (workers : ℕ) → MaySweep base plans workers → why_not_swept base (map plan_text plans) ≡ None
  unfolding why_by
  swept plans workers may =
      ap (λ (b : Bool). why_by b (list_all (has_room base) (map plan_text plans))) may.1 ∙ ap (why_by false) (rooms plans may.2)

  pub not_swept : (plans : List Plan) (workers : ℕ) (f : SweepFault) → AreWorkers workers → WhyNotSwept base plans workers f
      → (f ≡ OutOfMemory → ⊥) → why_not_swept base (map plan_text plans) ≡ Some f
  not_swept plans workers WorkerCount few why memory = absurd (why few)
  not_swept plans workers BaseNotAtEnd few why memory = by (can_redo base) refl where
    by : (b : Bool) → can_redo base ≡ b
        → cond b (Some BaseNotAtEnd) (cond (list_all (has_room base) (map plan_text plans)) None (Some TrailRoom)) ≡ Some BaseNotAtEnd
    by true end = refl
    by false end = absurd (why.1 end)
  not_swept plans workers TrailRoom few why memory = by (can_redo base) refl (list_all (has_room base) (map plan_text plans)) refl where
    by : (b : Bool) → can_redo base ≡ b → (r : Bool) → list_all (has_room base) (map plan_text plans) ≡ r
        → cond b (Some BaseNotAtEnd) (cond r None (Some TrailRoom)) ≡ Some TrailRoom
    by true end r room = absurd (cc (sym end ∙ why.1))
    by false end true room = absurd (why.2 (have_rooms plans room))
    by false end false room = refl
  not_swept plans workers OutOfMemory few why memory = absurd (memory refl)

-- ---- calls and plans at a place of their lists
pub next_call : (calls : List Call) (i : ℕ) (d : Call) → i < length calls → drop i calls ≡ get_or calls i d ∷ drop (i + 1) calls
next_call calls i d at = let one : suc i ≡ i + 1 = omega arith in drop-cons calls i d at ∙ ap (λ n. get_or calls i d ∷ drop n calls) one

pub outcome_at : (base : LiveSimView) (plans : List Plan) (outcomes : List LiveOutcomeView) (i : ℕ) (plan : Plan) (outcome : LiveOutcomeView)
    → i < length plans → outcomes ≡ map (outcome_of base) plans → outcome ≡ get_or outcomes i outcome → outcome ≡ outcome_of base (get_or plans i plan)
outcome_at base plans outcomes i plan outcome at all there =
    there ∙ ap (λ os. get_or os i outcome) all ∙ get_or-map (outcome_of base) plans i plan outcome at

-- ---- the base is answered, and then come the plans
module _ (sim base : LiveSimView) (lines : List SweepLine) (bad : Option ℕ) (calls : List Call) (plans : List PlanText)
    (none : bad ≡ None) (asked : calls ≡ calls_of (base_lines lines)) (planned : plans ≡ plans_of lines)
    (then_base : base ≡ behind calls sim) where
  whole : lines_text sim lines bad ≡ answers_text sim calls ++ plans_text base plans (why_not_swept base plans)
  whole = rw (none, then_base, asked, planned) refl

  ends : lines_end sim lines bad ≡ plans_end base plans
  ends = rw (none, then_base, asked, planned) refl

  module _ {K : Type 0} (takes : K → K → List ℕ → Type 0) (fails : K → K → Type 0) where
    pub base_breaks : (f : WriteFault) (a b : Watched K) → WroteFront takes fails f (answers_text sim calls) a b
        → WroteFront takes fails f (lines_text sim lines bad) a b
    base_breaks f a b h =
        rw whole (fault_before takes fails f a b (answers_text sim calls) (plans_text base plans (why_not_swept base plans)) h)

    pub plans_behind : (r : Result (Option Told) WriteFault) (a b d : Watched K) → Passed takes a.inner b.inner (answers_text sim calls)
        → Wrote takes fails r (plans_text base plans (why_not_swept base plans)) (plans_end base plans) b d
        → Wrote takes fails r (lines_text sim lines bad) (lines_end sim lines bad) a d
    plans_behind r a b d p q =
        rw (whole, ends)
        (wrote_behind takes fails r a b d (answers_text sim calls) (plans_text base plans (why_not_swept base plans)) (plans_end base plans) p q)
