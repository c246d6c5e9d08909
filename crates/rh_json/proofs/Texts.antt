-- The text of a sweep, piece by piece.
use Rattle.std.proofs.Common.{◌≡◌, ℕ, List, false, Option, Some, None, Result, Ok, refl, ap}
use Rattle.rh_model.specs.ClusterView.{ClusterView}
use Rattle.rh_cluster.specs.ClusterOf.{cluster_of}
use Rattle.rh_rules.specs.declared.pick.Pick.{Pick}
use Rattle.rh_trail.specs.SimView.{SimView}
use Rattle.rh_script.specs.Lines.{cluster_text}
use Rattle.rh_script.specs.SweepLines.{PlanText, sweep_lines_asked, plans_of}
use Rattle.rh_devices.specs.declared.fault.WriteFault.{WriteFault}
use Rattle.rh_devices.specs.declared.fault.WriteFault.TheVariants as writing
use Rattle.rh_devices.specs.declared.watched.Watched.{Watched}
use Rattle.rh_devices.specs.Devices.{Passed, WroteFront}
use Rattle.rh_devices.proofs.Passing.{passed_more, fault_behind, fault_before, nothing_yet}
use Rattle.rh_run.specs.declared.fault.Told.{Told}
use Rattle.rh_run.specs.declared.fault.Told.TheVariants as told
use Rattle.rh_run.specs.RunText.{Wrote, Broke}
use Rattle.rh_run.specs.SweepText.{why_not_swept, base_sim, plans_end, lines_end}
use Rattle.rh_run.proofs.Turns.{wrote_behind}
use Rattle.rh_json_lines.specs.ClusterLines.{cluster_line}
use Rattle.rh_json_lines.specs.AnswerLines.{bad_json}
use Rattle.rh_json.specs.CheckJson.{check_json, checked_json}
use Rattle.rh_json.specs.SweepJson.{plans_json, base_json, lines_json}

-- a check of an input with this cluster tells it
pub check_is : (c : ClusterView) (bytes : List ℕ) → cluster_of (cluster_text bytes) ≡ Ok c → check_json bytes ≡ cluster_line c
unfolding check_json
check_is c bytes is = ap checked_json is

module _ {K : Type 0} (takes : K → K → List ℕ → Type 0) (fails : K → K → Type 0)
    (c : ClusterView) (pick : Pick) (lines : List (List ℕ)) (bad : Option ℕ) where
  abbrev Whole : Result (Option Told) WriteFault → Watched K → Watched K → Type 0
  Whole r a b = Wrote takes fails r (lines_json c pick lines bad) (lines_end c pick (sweep_lines_asked c lines) bad) a b

  -- ---- a bad line alone
  module _ (k : ℕ) (is : bad ≡ Some k) where
    pub cluster_breaks : (f : WriteFault) (a b : Watched K) → WroteFront takes fails f (cluster_line c) a b
        → WroteFront takes fails f (lines_json c pick lines bad) a b
    cluster_breaks f a b h = rw is (fault_before takes fails f a b (cluster_line c) (bad_json k) h)

    pub bad_breaks : (f : WriteFault) (a b d : Watched K) → Passed takes a.inner b.inner (cluster_line c) → WroteFront takes fails f (bad_json k) b d
        → WroteFront takes fails f (lines_json c pick lines bad) a d
    bad_breaks f a b d p h = rw is (fault_behind takes fails f a b d (cluster_line c) (bad_json k) p h)

    pub bad_is_told : (a b d : Watched K) → Passed takes a.inner b.inner (cluster_line c) → Broke takes fails (Ok tt) (bad_json k) b d
        → Whole (Ok (Some (told.BadLine k))) a d
    bad_is_told a b d p q = rw is (refl, passed_more takes a.inner b.inner d.inner (cluster_line c) (bad_json k) p q.0, q.1)

  -- ---- the base, and then the plans
  module _ (none : bad ≡ None) where
    abbrev rest : List ℕ
    rest = plans_json c (base_sim c pick (sweep_lines_asked c lines)) (plans_of (sweep_lines_asked c lines))
        (why_not_swept (base_sim c pick (sweep_lines_asked c lines)) (plans_of (sweep_lines_asked c lines)))

    pub base_breaks : (f : WriteFault) (a b : Watched K) → WroteFront takes fails f (base_json c pick lines) a b
        → WroteFront takes fails f (lines_json c pick lines bad) a b
    base_breaks f a b h = rw none (fault_before takes fails f a b (base_json c pick lines) rest h)

    pub no_memory : (a b : Watched K) → Passed takes a.inner b.inner (base_json c pick lines) → b.failed ≡ false
        → WroteFront takes fails writing.OutOfMemory (lines_json c pick lines bad) a b
    no_memory a b p well =
        rw none (fault_behind takes fails writing.OutOfMemory a b b (base_json c pick lines) rest p (nothing_yet takes fails b.inner rest, well))

    pub plans_behind : (base : SimView) (plans : List PlanText) → base ≡ base_sim c pick (sweep_lines_asked c lines)
        → plans ≡ plans_of (sweep_lines_asked c lines) → (r : Result (Option Told) WriteFault) (a b d : Watched K)
        → Passed takes a.inner b.inner (base_json c pick lines)
        → Wrote takes fails r (plans_json c base plans (why_not_swept base plans)) (plans_end base plans) b d → Whole r a d
    plans_behind base plans behind planned r a b d p q =
        rw none
        (wrote_behind takes fails r a b d (base_json c pick lines) rest
        (plans_end (base_sim c pick (sweep_lines_asked c lines)) (plans_of (sweep_lines_asked c lines))) p (rw (behind, planned) at q))
