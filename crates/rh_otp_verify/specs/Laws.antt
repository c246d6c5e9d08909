-- What a verification on live nodes that finds nothing says, and when it finds nothing (ours).
use Rattle.std.specs.Prelude.{◌≡◌, ◌↔◌, ℕ, List, [], All, false, None}
use Rattle.rh_model.specs.ClusterView.{ClusterView}
use Rattle.rh_script.specs.Lines.{cluster_text, script_lines}
use Rattle.rh_otp_net.specs.declared.order.Order.{Order}
use Rattle.rh_verify.specs.Expected.{is_expectation}
use Rattle.rh_verify.specs.VerifyText.{first_line, blocks_text}
use Rattle.rh_verify.specs.Laws.{IsScript}
use Rattle.rh_otp_verify.specs.LiveVerify.{live, live_nodes, live_verify_end}

-- of a cluster file with a script each line of which is a command, a comment or blank, no block is told exactly if no fault is
abbrev pub LiveDifferencesAreTold : Type 0
LiveDifferencesAreTold =
    (order : Order) (bytes : List ℕ) (c : ClusterView) → IsScript bytes c
    → (blocks_text live (live_nodes order (cluster_text bytes) c) (first_line bytes) (script_lines bytes) ≡ [])
    ↔ (live_verify_end order bytes ≡ None)

-- where nothing is expected, nothing differs
abbrev pub LiveNothingExpectedHolds : Type 0
LiveNothingExpectedHolds =
    (order : Order) (bytes : List ℕ) (c : ClusterView) → IsScript bytes c
    → All (λ line. is_expectation line ≡ false) (script_lines bytes) → live_verify_end order bytes ≡ None
