-- In each profile `run` writes the same, until a permission is given back (ours).
use Rattle.std.specs.Prelude.{◌≡◌, ℕ, List, ◌++◌, Ok, All}
use Rattle.rh_model.specs.ClusterView.{ClusterView}
use Rattle.rh_cluster.specs.ClusterOf.{cluster_of}
use Rattle.rh_rules.specs.declared.pick.Pick.{Pick}
use Rattle.rh_calls.specs.declared.call.Call.{Call}
use Rattle.rh_trail.specs.SimView.{SimView}
use Rattle.rh_trail.specs.Lone.{opened}
use Rattle.rh_outcomes.specs.Outcomes.{steps}
use Rattle.rh_script.specs.Lines.{cluster_text, script_lines}
use Rattle.rh_script.specs.Commands.{calls_of}
use Rattle.rh_script.specs.SweepLines.{PlanText, sweep_lines_asked, plans_of}
use Rattle.rh_run.specs.SweepText.{sweep_text, sweep_end}
use Rattle.rh_run.specs.RunText.{lines_asked, run_text, run_end}
use Rattle.rh_text_laws.specs.Profiles.{in_profile, NoneGivesBack}
use Rattle.rh_text_laws.specs.PlanTexts.{base_calls, base_of}
use Rattle.rh_text_laws.specs.ProfileFiles.{second_line, NamesNoProfile}

-- the calls of an input's script, on its cluster
abbrev pub calls_in : ClusterView → List ℕ → List Call
calls_in c bytes = calls_of (lines_asked c (script_lines bytes))

-- `run` writes the same for two inputs that have the same script, and the same cluster but for its
-- profile, and ends alike
abbrev pub RunsSameUnderProfiles : Type 0
RunsSameUnderProfiles =
    (bytes other : List ℕ) (c : ClusterView) (profile : ℕ) (pick : Pick)
    → cluster_of (cluster_text bytes) ≡ Ok c
    → cluster_of (cluster_text other) ≡ Ok (in_profile profile c)
    → script_lines other ≡ script_lines bytes → NoneGivesBack (opened c pick) (calls_in c bytes)
    → (run_text other pick ≡ run_text bytes pick) × (run_end other ≡ run_end bytes)

-- with the line of the second profile before it `run` writes the same for an input whose file names no
-- profile, and ends alike
abbrev pub SecondProfileRunsSame : Type 0
SecondProfileRunsSame =
    (bytes : List ℕ) (c : ClusterView) (pick : Pick)
    → cluster_of (cluster_text bytes) ≡ Ok c → NamesNoProfile (cluster_text bytes)
    → NoneGivesBack (opened c pick) (calls_in c bytes)
    → (run_text (second_line ++ bytes) pick ≡ run_text bytes pick)
    × (run_end (second_line ++ bytes) ≡ run_end bytes)

-- ---- sweeps

-- none of the plans gives a permission back, each from the base
abbrev pub NoPlanGivesBack : SimView → List PlanText → Type 0
NoPlanGivesBack base plans = All (λ (plan : PlanText). NoneGivesBack base (steps plan.events)) plans

-- so `sweep` writes the same for an input of which neither the base nor a plan gives a permission back
abbrev pub SecondProfileSweepsSame : Type 0
SecondProfileSweepsSame =
    (bytes : List ℕ) (c : ClusterView) (pick : Pick)
    → cluster_of (cluster_text bytes) ≡ Ok c → NamesNoProfile (cluster_text bytes)
    → NoneGivesBack (opened c pick) (base_calls c bytes)
    → NoPlanGivesBack (base_of c pick bytes) (plans_of (sweep_lines_asked c (script_lines bytes)))
    → (sweep_text (second_line ++ bytes) pick ≡ sweep_text bytes pick)
    × (sweep_end (second_line ++ bytes) pick ≡ sweep_end bytes pick)
