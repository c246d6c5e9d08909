-- Lines of a sweep that are read one after the other.
use Rattle.std.proofs.Common.{◌≡◌, ℕ, List, [], ◌∷◌, ◌++◌, refl, sym, ap, ◌∙◌, append-nil, append_assoc}
use Rattle.rh_rules.specs.declared.event.Event.{Event}
use Rattle.rh_calls.specs.declared.call.Call.{Call}
use Rattle.rh_script.specs.declared.script.Line.{Line}
use Rattle.rh_script.specs.declared.sweep_lines.SweepLine.{SweepLine}
use Rattle.rh_script.specs.declared.sweep_lines.SweepLine.TheVariants as asks
use Rattle.rh_script.specs.SweepLines.{PlanText, plan_events, plans_of, event_in}
use Rattle.rh_script.specs.SweepReading.{SweepView, with_events, read_on}

abbrev pub plan_of : List ℕ → List Event → PlanText
plan_of name events = record { name = name; events = events }

abbrev view : List Call → List PlanText → SweepView
view base plans = record { base = base; plans = plans }

with_none : (plans : List PlanText) → with_events plans [] ≡ plans
with_none [] = refl
with_none (plan ∷ []) = ap (λ events. plan_of plan.name events ∷ []) (append-nil plan.events)
with_none (plan ∷ next ∷ plans) = ap (λ ps. plan ∷ ps) (with_none (next ∷ plans))

with_last : (plans : List PlanText) (last : PlanText) (events : List Event)
    → with_events (plans ++ last ∷ []) events ≡ plans ++ plan_of last.name (last.events ++ events) ∷ []
with_last [] last events = refl
with_last (plan ∷ []) last events = refl
with_last (plan ∷ next ∷ plans) last events = ap (λ ps. plan ∷ ps) (with_last (next ∷ plans) last events)

-- some plan was begun
in_last : (base : List Call) (plans : List PlanText) (last : PlanText) (lines : List SweepLine)
    → read_on base (plans ++ last ∷ []) lines ≡ view base ((plans ++ plan_of last.name (last.events ++ plan_events lines) ∷ []) ++ plans_of lines)
in_last base [] last lines = refl
in_last base (plan ∷ plans) last lines = ap (λ ps. view base (ps ++ plans_of lines)) (with_last (plan ∷ plans) last (plan_events lines))

-- a line begins a plan
pub begins_on : (base : List Call) (plans : List PlanText) (name : List ℕ) (lines : List SweepLine)
    → read_on base plans (asks.Begins name ∷ lines) ≡ read_on base (plans ++ plan_of name [] ∷ []) lines
begins_on base [] name lines = ap (λ b. view b (plan_of name (plan_events lines) ∷ plans_of lines)) (append-nil base)
begins_on base (plan ∷ plans) name lines =
    ap (λ ps. view base (ps ++ plan_of name (plan_events lines) ∷ plans_of lines)) (with_none (plan ∷ plans))
    ∙ ap (view base) (sym (append_assoc (plan ∷ plans) (plan_of name (plan_events lines) ∷ []) (plans_of lines)))
    ∙ sym (in_last base (plan ∷ plans) (plan_of name []) lines)

-- a line is one of the last plan
pub goes_on : (base : List Call) (plans : List PlanText) (last : PlanText) (read : Line) (lines : List SweepLine)
    → read_on base (plans ++ last ∷ []) (asks.Plain read ∷ lines) ≡ read_on base (plans ++ plan_of last.name (last.events ++ event_in read) ∷ []) lines
goes_on base plans last read lines =
    in_last base plans last (asks.Plain read ∷ lines)
    ∙ ap (λ events. view base ((plans ++ plan_of last.name events ∷ []) ++ plans_of lines)) (sym (append_assoc last.events (event_in read) (plan_events lines)))
    ∙ sym (in_last base plans (plan_of last.name (last.events ++ event_in read)) lines)

-- all lines were read
pub read_all : (base : List Call) (plans : List PlanText) → read_on base plans [] ≡ view base plans
read_all base [] = ap (λ b. view b []) (append-nil base)
read_all base (plan ∷ plans) = ap (view base) (append-nil (with_events (plan ∷ plans) []) ∙ with_none (plan ∷ plans))
