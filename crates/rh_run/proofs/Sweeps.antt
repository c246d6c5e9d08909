-- The texts of a sweep, piece by piece.
use Rattle.std.proofs.Common.{◌≡◌, ◌+◌, ◌==◌, ◌<◌, ◌&&◌, ℕ, suc, List, [], ◌∷◌, ◌++◌, length, map, drop, get_or, All, Bool, true, false, cond}
use Rattle.std.proofs.Common.{Option, Some, None, Result, Ok, refl, sym, ap, ◌∙◌, append_assoc, arith}
use Rattle.std.specs.List.{list_all}
use Rattle.std.proofs.lemmas.Bool.Decides.{nat_tests}
use Rattle.std.proofs.Math.Seq.{drop-cons}
use Rattle.std.proofs.lemmas.List.{get_or-map}
use Rattle.std.proofs.lemmas.List.Elements.{All-nil, All-cons, All-head, All-tail}
use Rattle.rh_model.specs.ClusterView.{ClusterView}
use Rattle.rh_calls.specs.declared.call.Call.{Call}
use Rattle.rh_trail.specs.SimView.{SimView}
use Rattle.rh_trail.specs.Lone.{opened, served, sim_after}
use Rattle.rh_rules.specs.declared.pick.Pick.{Pick}
use Rattle.rh_plans.specs.declared.fault.SweepFault.{SweepFault}
use Rattle.rh_plans.specs.declared.fault.SweepFault.TheVariants.{WorkerCount, BaseNotAtEnd, TrailRoom, OutOfMemory}
use Rattle.rh_plans.specs.declared.plan.Outcome.{Outcome}
use Rattle.rh_plans.specs.declared.plan.Plan.{Plan}
use Rattle.rh_outcomes.specs.Outcomes.{outcome_of}
use Rattle.rh_plans.specs.Workers.{AreWorkers}
use Rattle.rh_outcomes.specs.Sweeping.{HasRoom, MaySweep, WhyNotSwept}
use Rattle.rh_script.specs.Answers.{answer_text}
use Rattle.rh_script.specs.declared.sweep_lines.SweepLine.{SweepLine}
use Rattle.rh_script.specs.Commands.{calls_of}
use Rattle.rh_script.specs.SweepLines.{PlanText, plan_text, base_lines, plans_of}
use Rattle.rh_run.specs.declared.fault.Told.{Told}
use Rattle.rh_devices.specs.declared.fault.WriteFault.{WriteFault}
use Rattle.rh_devices.specs.declared.watched.Watched.{Watched}
use Rattle.rh_devices.specs.Devices.{Passed, WroteFront}
use Rattle.rh_run.specs.RunText.{answers_text, Wrote, Broke}
use Rattle.rh_run.specs.SweepText.{has_room, why_not_swept, plans_text, plans_end, lines_text, lines_end}
use Rattle.rh_devices.proofs.Passing.{passed_more, fault_behind, fault_before}
use Rattle.rh_run.proofs.Turns.{wrote_behind}

-- ---- calls that are answered one after the other: before this one the simulation is now, and behind it next
module _ (c : ClusterView) (start now next : SimView) (calls : List Call) (i : ℕ) (call : Call)
    (at : drop i calls ≡ call ∷ drop (i + 1) calls) (is : next ≡ (served now call).sim) where
  pub sim_goes_on : sim_after start calls ≡ sim_after now (drop i calls) → sim_after start calls ≡ sim_after next (drop (i + 1) calls)
  sim_goes_on so_far = so_far ∙ ap (sim_after now) at ∙ ap (λ s. sim_after s (drop (i + 1) calls)) (sym is)

  pub answers_go_on : {K : Type 0} (takes : K → K → List ℕ → Type 0) (fails : K → K → Type 0) (a b d : Watched K) (done : List ℕ)
      → Passed takes a.inner b.inner done
      → answers_text c start calls ≡ done ++ answers_text c now (drop i calls)
      → Broke takes fails (Ok tt) (answer_text c (served now call).reply) b d
      → (more : List ℕ) × Passed takes a.inner d.inner more × (answers_text c start calls ≡ more ++ answers_text c next (drop (i + 1) calls))
  answers_go_on takes fails a b d done wrote so_far broke = (
    done ++ answer_text c (served now call).reply,
    passed_more takes a.inner b.inner d.inner done (answer_text c (served now call).reply) wrote broke.0,
    so_far ∙ ap (λ cs. done ++ answers_text c now cs) at
        ∙ ap (λ s. done ++ (answer_text c (served now call).reply ++ answers_text c s (drop (i + 1) calls))) (sym is)
        ∙ sym (append_assoc done (answer_text c (served now call).reply) (answers_text c next (drop (i + 1) calls))),
  )

-- an answer was not written whole
pub answer_breaks : (c : ClusterView) (start now : SimView) (calls : List Call) (i : ℕ) (call : Call) → drop i calls ≡ call ∷ drop (i + 1) calls
    → {K : Type 0} (takes : K → K → List ℕ → Type 0) (fails : K → K → Type 0) (a b d : Watched K) (done : List ℕ) → Passed takes a.inner b.inner done
    → answers_text c start calls ≡ done ++ answers_text c now (drop i calls)
    → (f : WriteFault) → WroteFront takes fails f (answer_text c (served now call).reply) b d → WroteFront takes fails f (answers_text c start calls) a d
answer_breaks c start now calls i call at takes fails a b d done wrote so_far f broke =
    rw (so_far, at) (fault_behind takes fails f a b d done _ wrote
    (fault_before takes fails f b d (answer_text c (served now call).reply) (answers_text c (served now call).sim (drop (i + 1) calls)) broke))

-- ---- why plans can't be swept
module _ (base : SimView) where
  rooms : (plans : List Plan) → All (HasRoom base) plans → list_all (has_room base) (map plan_text plans) ≡ true
  rooms [] all = refl
  rooms (plan ∷ plans) all =
      let here : has_room base (plan_text plan) ≡ true = grind (arith, nat_tests, All-head (HasRoom base) plan plans all) in
      let later = rooms plans (All-tail (HasRoom base) plan plans all) in
      rw (here, later) refl

  have_rooms : (plans : List Plan) → list_all (has_room base) (map plan_text plans) ≡ true → All (HasRoom base) plans
  have_rooms [] h = All-nil (HasRoom base)
  have_rooms (plan ∷ plans) h = by (has_room base (plan_text plan)) refl h (λ later. have_rooms plans later) where
    by : (b : Bool) → has_room base (plan_text plan) ≡ b → (b && list_all (has_room base) (map plan_text plans)) ≡ true
        → (list_all (has_room base) (map plan_text plans) ≡ true → All (HasRoom base) plans) → All (HasRoom base) (plan ∷ plans)
    by true here later rest = All-cons (HasRoom base) plan plans (grind (arith, nat_tests, here)) (rest later)
    by false here later rest = cc

  pub swept : (plans : List Plan) (workers : ℕ) → MaySweep base plans workers → why_not_swept base (map plan_text plans) ≡ None
  swept plans workers may =
      let end : (base.cursor == length base.trail) ≡ true = grind (arith, nat_tests, may.1) in
      rw (end, rooms plans may.2) refl

  pub not_swept : (plans : List Plan) (workers : ℕ) (f : SweepFault) → AreWorkers workers → WhyNotSwept base plans workers f
      → (f ≡ OutOfMemory → ⊥) → why_not_swept base (map plan_text plans) ≡ Some f
  not_swept plans workers WorkerCount few why memory = absurd (why few)
  not_swept plans workers BaseNotAtEnd few why memory = by (base.cursor == length base.trail) refl where
    by : (b : Bool) → (base.cursor == length base.trail) ≡ b
        → cond b (cond (list_all (has_room base) (map plan_text plans)) None (Some TrailRoom)) (Some BaseNotAtEnd) ≡ Some BaseNotAtEnd
    by true end = absurd (why.1 (grind (arith, nat_tests, end)))
    by false end = refl
  not_swept plans workers TrailRoom few why memory =
      let end : (base.cursor == length base.trail) ≡ true = grind (arith, nat_tests, why.1) in
      rw end (by (list_all (has_room base) (map plan_text plans)) refl) where
        by : (b : Bool) → list_all (has_room base) (map plan_text plans) ≡ b → cond b None (Some TrailRoom) ≡ Some TrailRoom
        by true all = absurd (why.2 (have_rooms plans all))
        by false none = refl
  not_swept plans workers OutOfMemory few why memory = absurd (memory refl)

-- ---- calls and plans at a place of their lists
pub next_call : (calls : List Call) (i : ℕ) (d : Call) → i < length calls → drop i calls ≡ get_or calls i d ∷ drop (i + 1) calls
next_call calls i d at = let one : suc i ≡ i + 1 = omega arith in drop-cons calls i d at ∙ ap (λ n. get_or calls i d ∷ drop n calls) one

pub outcome_at : (base : SimView) (plans : List Plan) (outcomes : List Outcome) (i : ℕ) (plan : Plan) (outcome : Outcome) → i < length plans
    → outcomes ≡ map (outcome_of base) plans → outcome ≡ get_or outcomes i outcome → outcome ≡ outcome_of base (get_or plans i plan)
outcome_at base plans outcomes i plan outcome at all there =
    there ∙ ap (λ os. get_or os i outcome) all ∙ get_or-map (outcome_of base) plans i plan outcome at

-- ---- the base is answered, and then come the plans
module _ (c : ClusterView) (pick : Pick) (lines : List SweepLine) (bad : Option ℕ) (sim base : SimView) (calls : List Call) (plans : List PlanText)
    (none : bad ≡ None) (opens : sim ≡ opened c pick) (asked : calls ≡ calls_of (base_lines lines)) (planned : plans ≡ plans_of lines)
    (behind : base ≡ sim_after sim calls) where
  whole : lines_text c pick lines bad ≡ answers_text c sim calls ++ plans_text c base plans (why_not_swept base plans)
  whole = rw (none, behind, opens, asked, planned) refl

  ends : lines_end c pick lines bad ≡ plans_end base plans
  ends = rw (none, behind, opens, asked, planned) refl

  module _ {K : Type 0} (takes : K → K → List ℕ → Type 0) (fails : K → K → Type 0) where
    pub base_breaks : (f : WriteFault) (a b : Watched K) → WroteFront takes fails f (answers_text c sim calls) a b
        → WroteFront takes fails f (lines_text c pick lines bad) a b
    base_breaks f a b h =
        rw whole (fault_before takes fails f a b (answers_text c sim calls) (plans_text c base plans (why_not_swept base plans)) h)

    pub plans_behind : (r : Result (Option Told) WriteFault) (a b d : Watched K) → Passed takes a.inner b.inner (answers_text c sim calls)
        → Wrote takes fails r (plans_text c base plans (why_not_swept base plans)) (plans_end base plans) b d
        → Wrote takes fails r (lines_text c pick lines bad) (lines_end c pick lines bad) a d
    plans_behind r a b d p q =
        rw (whole, ends)
        (wrote_behind takes fails r a b d (answers_text c sim calls) (plans_text c base plans (why_not_swept base plans)) (plans_end base plans) p q)
