-- Live nodes that differ in their past alone.
use Rattle.std.proofs.Common.{◌≡◌, ◌<◌, ℕ, nat_le, ◌&&◌, ◌||◌, not, Bool, Option, Some, None, refl, sym, ap, ◌∙◌}
use Rattle.rh_rules.specs.declared.event.Event.{Event}
use Rattle.rh_explore_text.specs.Asks.{AskView}
use Rattle.rh_otp_report.specs.Report.{report_of}
use Rattle.rh_otp_sim.specs.Sim.{LiveSimView, without_past}
use Rattle.rh_otp_sim.specs.Stepping.{stepped, outcome_of}
use Rattle.rh_otp_sweep.specs.declared.sharing.TheConstants.{STEP_LIMIT}
use Rattle.rh_otp_sweep_laws.proofs.Bare.{comes_bare, leaves_bare}
use Rattle.rh_otp_sweep_laws.proofs.Plans.{report_bare}
use Rattle.rh_otp_explore.specs.Asking.{holds_in, is_met_by, is_empty}
use Rattle.rh_otp_explore.specs.Coming.{after, is_made, not_up_count, comes}
use Rattle.rh_otp_explore.specs.Due.{dues}

abbrev pub SameNow : LiveSimView → LiveSimView → Type 0
SameNow one other = without_past one ≡ without_past other

pub report_same : (one other : LiveSimView) → SameNow one other → report_of one ≡ report_of other
report_same one other same = sym (report_bare one) ∙ ap report_of same ∙ report_bare other

-- ---- what is asked of them

met_bare : (q : AskView) (within : Option ℕ) (sim : LiveSimView) → is_met_by q within (without_past sim) ≡ is_met_by q within sim
unfolding report_of
met_bare q None sim = refl
met_bare q (Some ms) sim = refl

holds_bare : (q : AskView) (sim : LiveSimView) → holds_in q (without_past sim) ≡ holds_in q sim
unfolding report_of
holds_bare q sim = ap (λ (b : Bool). (not q.always && not (is_empty (dues (report_of sim)))) || b) (met_bare q q.within sim)

pub holds_same : (q : AskView) (one other : LiveSimView) → SameNow one other → holds_in q one ≡ holds_in q other
holds_same q one other same = sym (holds_bare q one) ∙ ap (holds_in q) same ∙ holds_bare q other

-- ---- an event, where there is room in the run for a step

module _ (e : Event) (sim run : LiveSimView) (same : SameNow sim run) (room : run.history.cursor < STEP_LIMIT) where
  pub behind_same : SameNow (after e sim) (stepped e run)
  behind_same = ap (λ (s : LiveSimView). without_past (stepped e s)) same ∙ leaves_bare e run room

  made_same : is_made (outcome_of e (without_past sim)) ≡ is_made (outcome_of e run)
  made_same = ap (λ (s : LiveSimView). is_made (outcome_of e s)) same ∙ ap is_made (comes_bare e run room)

  pub comes_same : (down : ℕ)
      → comes down e sim ≡ (is_made (outcome_of e run) && nat_le (not_up_count (report_of (stepped e run)).nodes) down)
  comes_same down =
      λ i. made_same i && nat_le (not_up_count (report_same (after e sim) (stepped e run) behind_same i).nodes) down
