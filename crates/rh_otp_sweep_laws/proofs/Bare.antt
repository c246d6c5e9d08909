-- What an event comes to, and what it leaves, follows from the cells, where there is room for a step.
use Rattle.std.proofs.Common.{◌≡◌, ◌<◌, ◌≤◌, ◌+◌, ◌||◌, ℕ, nat_le, Bool, true, false, cond, List, Option, Some, None, refl, sym, ap, ◌∙◌, arith}
use Rattle.std.proofs.lemmas.Bool.Decides.{nat_tests}
use Rattle.rh_model.specs.ClusterView.{node_count}
use Rattle.rh_rules.specs.declared.event.Event.{Event}
use Rattle.rh_rules.specs.declared.event.Event.TheVariants as event
use Rattle.rh_rules.specs.declared.refusal.Refusal.{Refusal}
use Rattle.rh_otp_system.specs.declared.cell.Cell.{Cell}
use Rattle.rh_otp_system.specs.Resting.{rested}
use Rattle.rh_otp_system.specs.State.{SystemView}
use Rattle.rh_otp_system.specs.Views.{NetView}
use Rattle.rh_otp_sim.specs.declared.stepping.Outcome.{Outcome}
use Rattle.rh_otp_sim.specs.declared.stepping.Outcome.TheVariants as outcome
use Rattle.rh_otp_sim.specs.Acting.{most_moves, acted_at_once, is_quiet_at_once, acted, is_acted}
use Rattle.rh_otp_sim.specs.Refusing.{refusal_of, or_full, is_full, refused}
use Rattle.rh_otp_sim.specs.Sim.{LiveSimView, net_in, without_past}
use Rattle.rh_otp_sim.specs.Stepping.{begun, happened, cells_behind, system_with, ends_with, outcome_with, with_step, stepped_with, outcome_if, outcome_of, stepped_if, stepped}
use Rattle.rh_otp_sweep.specs.declared.sharing.TheConstants.{STEP_LIMIT}

-- ---- what it does

at_once_bare : (most : ℕ) (e : Event) (sim : LiveSimView) (s : SystemView)
    → acted_at_once most e (without_past sim) s ≡ acted_at_once most e sim s
unfolding acted_at_once
at_once_bare most (event.Tick ms) sim s = refl
at_once_bare most e sim s = refl

quiet_at_once_bare : (most : ℕ) (e : Event) (sim : LiveSimView) (s : SystemView)
    → is_quiet_at_once most e (without_past sim) s ≡ is_quiet_at_once most e sim s
unfolding is_quiet_at_once
quiet_at_once_bare most (event.Tick ms) sim s = refl
quiet_at_once_bare most e sim s = refl

acts_bare : (e : Event) (sim : LiveSimView) (s : SystemView) → acted e (without_past sim) s ≡ acted e sim s
unfolding acted
acts_bare (event.Tick ms) sim s = refl
acts_bare e sim s = at_once_bare most_moves e sim s

quiet_bare : (e : Event) (sim : LiveSimView) (s : SystemView) → is_acted e (without_past sim) s ≡ is_acted e sim s
unfolding is_acted
quiet_bare (event.Tick ms) sim s = refl
quiet_bare e sim s = quiet_at_once_bare most_moves e sim s

module _ (net : NetView) (e : Event) (sim : LiveSimView) where
  ends_bare : ends_with net e (without_past sim) ≡ ends_with net e sim
  ends_bare = quiet_bare e sim (begun net e sim)

  system_bare : system_with net e (without_past sim) ≡ system_with net e sim
  system_bare = ap rested (acts_bare e sim (begun net e sim))

  comes_with : outcome_with net e (without_past sim) ≡ outcome_with net e sim
  comes_with = λ i. cond (ends_bare i) (outcome.Done (happened net (system_bare i))) outcome.Endless

  comes_if : (why : Option Refusal) → outcome_if why net e (without_past sim) ≡ outcome_if why net e sim
  comes_if (Some why) = refl
  comes_if None = comes_with

-- ---- what it leaves

left_by : (b : Bool) (cells : List Cell) (sim : LiveSimView)
    → without_past (cond b (with_step cells (without_past sim)) (without_past sim)) ≡ without_past (cond b (with_step cells sim) sim)
left_by true cells sim = refl
left_by false cells sim = refl

module _ (net : NetView) (e : Event) (sim : LiveSimView) where
  leaves_with : without_past (stepped_with net e (without_past sim)) ≡ without_past (stepped_with net e sim)
  leaves_with =
      (λ i. without_past (cond (ends_bare net e sim i)
      (with_step (cells_behind net (node_count sim.cluster) (system_bare net e sim i)) (without_past sim)) (without_past sim)))
      ∙ left_by (ends_with net e sim) (cells_behind net (node_count sim.cluster) (system_with net e sim)) sim

  leaves_if : (why : Option Refusal) → without_past (stepped_if why net e (without_past sim)) ≡ without_past (stepped_if why net e sim)
  leaves_if (Some why) = refl
  leaves_if None = leaves_with

-- ---- where there is room for a step

refuses_bare : (clock : ℕ) (e : Event) (sim : LiveSimView) → refusal_of clock e (without_past sim) ≡ refusal_of clock e sim
refuses_bare clock (event.Tick ms) sim = refl
refuses_bare clock e sim = refl

few : (k : ℕ) → k < STEP_LIMIT → nat_le 65535 k ≡ false
few k room = grind (arith, nat_tests, room)

module _ (e : Event) (sim : LiveSimView) (room : sim.history.cursor < STEP_LIMIT) where
  full_bare : (last_call : ℕ) → is_full last_call (without_past sim) ≡ is_full last_call sim
  full_bare last_call = ap (λ (b : Bool). b || nat_le 4000000000 last_call) (sym (few sim.history.cursor room))

  refused_bare : (clock last_call : ℕ) → refused clock last_call e (without_past sim) ≡ refused clock last_call e sim
  refused_bare clock last_call = λ i. or_full (full_bare last_call i) (refuses_bare clock e sim i)

  -- the refusal, by what is between the nodes
  why : Option Refusal
  why = refused (net_in sim).clock (net_in sim).last_call e sim

  pub comes_bare : outcome_of e (without_past sim) ≡ outcome_of e sim
  unfolding why
  comes_bare =
      ap (λ (w : Option Refusal). outcome_if w (net_in sim) e (without_past sim)) (refused_bare (net_in sim).clock (net_in sim).last_call)
      ∙ comes_if (net_in sim) e sim why

  pub leaves_bare : without_past (stepped e (without_past sim)) ≡ without_past (stepped e sim)
  unfolding why
  leaves_bare =
      ap (λ (w : Option Refusal). without_past (stepped_if w (net_in sim) e (without_past sim)))
      (refused_bare (net_in sim).clock (net_in sim).last_call)
      ∙ leaves_if (net_in sim) e sim why

-- ---- a step is one at most

one_by : (b : Bool) (cells : List Cell) (sim : LiveSimView) → (cond b (with_step cells sim) sim).history.cursor ≤ sim.history.cursor + 1
one_by true cells sim = omega arith
one_by false cells sim = omega arith

one_if : (why : Option Refusal) (net : NetView) (e : Event) (sim : LiveSimView)
    → (stepped_if why net e sim).history.cursor ≤ sim.history.cursor + 1
one_if (Some why) net e sim = omega arith
one_if None net e sim = one_by (ends_with net e sim) (cells_behind net (node_count sim.cluster) (system_with net e sim)) sim

pub one_more : (e : Event) (sim : LiveSimView) → (stepped e sim).history.cursor ≤ sim.history.cursor + 1
one_more e sim = one_if (refused (net_in sim).clock (net_in sim).last_call e sim) (net_in sim) e sim
