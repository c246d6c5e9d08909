-- A step that isn't refused, and one that comes to an end.
use Rattle.std.proofs.Common.{◌≡◌, Bool, true, false, cond, None, refl, sym, ap, ◌∙◌}
use Rattle.std.proofs.lemmas.Bool.{false≢true}
use Rattle.rh_model.specs.ClusterView.{node_count}
use Rattle.rh_rules.specs.declared.event.Event.{Event}
use Rattle.rh_otp_system.specs.Views.{NetView}
use Rattle.rh_otp_sim.specs.declared.stepping.Outcome.TheVariants.{Done}
use Rattle.rh_rules.specs.declared.refusal.Refusal.{Refusal}
use Rattle.std.specs.Prelude.{Option}
use Rattle.rh_otp_sim.specs.Refusing.{refused}
use Rattle.rh_otp_sim.specs.Sim.{LiveSimView, net_in}
use Rattle.rh_otp_sim.specs.Stepping.{happened, cells_behind, system_with, ends_with, with_step, outcome_with, stepped_with, outcome_if, stepped_if, outcome_of, stepped}

-- what a test chooses, where it holds
chosen : {A : Type 0} (b : Bool) (x y : A) → b ≡ true → cond b x y ≡ x
chosen true x y is = refl
chosen false x y is = absurd (false≢true is)

pub outcome_done : (net : NetView) (e : Event) (sim : LiveSimView) → ends_with net e sim ≡ true
    → outcome_with net e sim ≡ Done (happened net (system_with net e sim))
outcome_done net e sim is = chosen (ends_with net e sim) _ _ is

pub step_done : (net : NetView) (e : Event) (sim : LiveSimView) → ends_with net e sim ≡ true
    → stepped_with net e sim ≡ with_step (cells_behind net (node_count sim.cluster) (system_with net e sim)) sim
step_done net e sim is = chosen (ends_with net e sim) _ _ is

-- what is between the nodes refuses nothing
accepted : (net : NetView) (e : Event) (sim : LiveSimView) → net ≡ net_in sim → refused net.clock net.last_call e sim ≡ None
    → refused (net_in sim).clock (net_in sim).last_call e sim ≡ None
accepted net e sim is none = ap (λ (n : NetView). refused n.clock n.last_call e sim) (sym is) ∙ none

pub outcome_accepted : (net : NetView) (e : Event) (sim : LiveSimView) → net ≡ net_in sim → refused net.clock net.last_call e sim ≡ None
    → outcome_with net e sim ≡ outcome_of e sim
outcome_accepted net e sim is none =
    ap (λ (n : NetView). outcome_with n e sim) is
    ∙ ap (λ (why : Option Refusal). outcome_if why (net_in sim) e sim) (sym (accepted net e sim is none))

pub step_accepted : (net : NetView) (e : Event) (sim : LiveSimView) → net ≡ net_in sim → refused net.clock net.last_call e sim ≡ None
    → stepped_with net e sim ≡ stepped e sim
step_accepted net e sim is none =
    ap (λ (n : NetView). stepped_with n e sim) is
    ∙ ap (λ (why : Option Refusal). stepped_if why (net_in sim) e sim) (sym (accepted net e sim is none))
