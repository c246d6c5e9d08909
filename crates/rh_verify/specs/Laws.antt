-- What a verification that finds nothing says, and when it finds nothing (ours).
use Rattle.std.specs.Prelude.{◌≡◌, ◌↔◌, ℕ, List, [], All, false, None, Ok}
use Rattle.rh_model.specs.ClusterView.{ClusterView}
use Rattle.rh_cluster.specs.ClusterOf.{cluster_of}
use Rattle.rh_rules.specs.declared.pick.Pick.{Pick}
use Rattle.rh_trail.specs.Lone.{opened}
use Rattle.rh_script.specs.Lines.{cluster_text, script_lines}
use Rattle.rh_run.specs.RunText.{bad_line, lines_asked}
use Rattle.rh_verify.specs.Manual.{manual}
use Rattle.rh_verify.specs.Expected.{is_expectation}
use Rattle.rh_verify.specs.VerifyText.{first_line, blocks_text, verify_end}

-- a cluster file with a script each line of which is a command, a comment or blank
pub record IsScript (bytes : List ℕ) (c : ClusterView) : Type 0 where
  pub cluster : cluster_of (cluster_text bytes) ≡ Ok c
  pub lines : bad_line 1 (lines_asked c (script_lines bytes)) ≡ None

-- of such an input no block is told exactly if no fault is
abbrev pub DifferencesAreTold : Type 0
DifferencesAreTold =
    (bytes : List ℕ) (c : ClusterView) (pick : Pick) → IsScript bytes c
    → (blocks_text manual (opened c pick) (first_line bytes) (script_lines bytes) ≡ []) ↔ (verify_end bytes pick ≡ None)

-- where nothing is expected, nothing differs
abbrev pub NothingExpectedHolds : Type 0
NothingExpectedHolds =
    (bytes : List ℕ) (c : ClusterView) (pick : Pick) → IsScript bytes c
    → All (λ line. is_expectation line ≡ false) (script_lines bytes) → verify_end bytes pick ≡ None
