-- The lines of a sweep, copied for `run` (ours).
use Rattle.std.specs.Prelude.{◌≡◌, ℕ, List, [], ◌∷◌, ◌++◌, Bool, true, false, Ok, All, codes}
use Rattle.rh_model.specs.ClusterView.{ClusterView}
use Rattle.rh_cluster.specs.ClusterOf.{cluster_of}
use Rattle.rh_rules.specs.declared.event.Event.{Event}
use Rattle.rh_script.specs.declared.sweep_lines.SweepLine.{SweepLine}
use Rattle.rh_script.specs.declared.sweep_lines.SweepLine.TheVariants.{Begins, Plain}
use Rattle.rh_script.specs.Lines.{cluster_text, script_lines}
use Rattle.rh_script.specs.SweepLines.{sweep_line_of, sweep_lines_asked, fits_base, fits_plan, plan_events}
use Rattle.rh_text_laws.specs.Plans.{AnswersView, events_answered}
use Rattle.rh_text_laws.specs.PlanTexts.{base_calls, AsksForPlan}

-- a line begins a plan
abbrev pub begins_plan : SweepLine → Bool
begins_plan (Begins name) = true
begins_plan (Plain read) = false

-- it begins none, and fits in a base
abbrev pub is_of_base : SweepLine → Bool
is_of_base (Begins name) = false
is_of_base (Plain read) = fits_base read

-- it begins none, and fits in a plan
abbrev pub is_of_plan : SweepLine → Bool
is_of_plan (Begins name) = false
is_of_plan (Plain read) = fits_plan read

-- an input of `run` is copied from that of a sweep: its script has the lines before the first plan,
-- then lines of a plan, and then `show`
pub record IsCopied (c : ClusterView) (bytes input : List ℕ) (lines : List (List ℕ)) : Type 0 where
  pub base : List (List ℕ)
  pub first : List ℕ
  pub others : List (List ℕ)
  pub swept : script_lines bytes ≡ base ++ first ∷ others
  pub begins : begins_plan (sweep_line_of c first) ≡ true
  pub of_base : All (λ line. is_of_base (sweep_line_of c line) ≡ true) base
  pub of_plan : All (λ line. is_of_plan (sweep_line_of c line) ≡ true) lines
  pub run : script_lines input ≡ base ++ (lines ++ codes "show" ∷ [])

-- if these lines ask for the events of a plan up to the refused one, the input asks for that plan
abbrev pub CopiedLinesAsk : Type 0
CopiedLinesAsk =
    (bytes input : List ℕ) (c : ClusterView) (lines : List (List ℕ)) (events : List Event)
    (a : AnswersView) → cluster_of (cluster_text input) ≡ Ok c → IsCopied c bytes input lines
    → plan_events (sweep_lines_asked c lines) ≡ events_answered a events
    → AsksForPlan c (base_calls c bytes) events a input
