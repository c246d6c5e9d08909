-- What a verification writes for the bytes that it reads, and how it ends (ours).
use Rattle.std.specs.Prelude.{◌≡◌, ℕ, ◌+◌, List, ◌++◌, length, ◌==◌, if◌then◌else◌, Option, Some, None, Result, Ok, Err}
use Rattle.std.specs.List.{flat_map}
use Rattle.rh_model.specs.ClusterView.{ClusterView}
use Rattle.rh_cluster.specs.ClusterOf.{cluster_of}
use Rattle.rh_cluster.specs.declared.fault.ClusterFault.{ClusterFault}
use Rattle.rh_rules.specs.declared.pick.Pick.{Pick}
use Rattle.rh_trail.specs.Lone.{opened}
use Rattle.rh_script.specs.Lines.{raw_lines, cluster_text, script_lines}
use Rattle.rh_script.specs.Answers.{fault_text, bad_text}
use Rattle.rh_run.specs.declared.fault.Told.{Told}
use Rattle.rh_run.specs.declared.fault.Told.TheVariants as told
use Rattle.rh_run.specs.RunText.{bad_line, lines_asked}
use Rattle.rh_verify.specs.Rules.{Rules}
use Rattle.rh_verify.specs.Manual.{manual}
use Rattle.rh_verify.specs.Expected.{Check, asked_by, checks, stray}
use Rattle.rh_verify.specs.Blocks.{block_text, stray_text}
use Rattle.rh_verify.specs.Counts.{tally_of, with_stray, tally_text}
use Rattle.rh_verify.specs.declared.tally.Tally.{Tally}

-- the number of a script's first line, where it stands behind this text and the line `===`
abbrev pub line_behind : List ℕ → ℕ
line_behind text = length (raw_lines text) + 2

-- its number in the whole input
abbrev pub first_line : List ℕ → ℕ
first_line bytes = line_behind (cluster_text bytes)

-- ---- the script

-- the fault that the last line tells
abbrev pub tally_end : Tally → Option Told
tally_end t = if t.differing == 0 then None else Some told.Differs

-- its commands, of which the first line has number k
abbrev pub script_checks : {V : Type 0} → Rules V → V → ℕ → List (List ℕ) → List Check
script_checks r sim k lines = checks r sim k (asked_by (r.cluster sim) lines)

-- the blocks, those of the expectations without a command first
abbrev pub blocks_text : {V : Type 0} → Rules V → V → ℕ → List (List ℕ) → List ℕ
blocks_text r sim k lines =
    flat_map stray_text (stray k (asked_by (r.cluster sim) lines)) ++ flat_map block_text (script_checks r sim k lines)

abbrev pub script_tally : {V : Type 0} → Rules V → V → ℕ → List (List ℕ) → Tally
script_tally r sim k lines = with_stray (length (stray k (asked_by (r.cluster sim) lines))) (tally_of (script_checks r sim k lines))

-- a line that is no command is told in place of the counts
abbrev pub last_text : Tally → Option ℕ → List ℕ
last_text t None = tally_text t
last_text t (Some k) = bad_text k

abbrev pub last_end : Tally → Option ℕ → Option Told
last_end t None = tally_end t
last_end t (Some k) = Some (told.BadLine k)

-- the blocks, and then the counts or the bad line
abbrev pub script_text : {V : Type 0} → Rules V → V → ℕ → List (List ℕ) → List ℕ
script_text r sim k lines =
    blocks_text r sim k lines ++ last_text (script_tally r sim k lines) (bad_line 1 (lines_asked (r.cluster sim) lines))

-- and the fault that this tells
abbrev pub script_end : {V : Type 0} → Rules V → V → ℕ → List (List ℕ) → Option Told
script_end r sim k lines = last_end (script_tally r sim k lines) (bad_line 1 (lines_asked (r.cluster sim) lines))

-- ---- the whole input, of whose cluster such a rehearsal is opened

-- the text for a cluster and a script, or for the fault of a text that is no cluster
abbrev pub verified_over : {V : Type 0} → Rules V → (ClusterView → V) → ℕ → List (List ℕ) → Result ClusterView ClusterFault → List ℕ
verified_over r start k lines (Ok c) = script_text r (start c) k lines
verified_over r start k lines (Err f) = fault_text f

-- and the fault that it tells
abbrev pub verified_end_over : {V : Type 0} → Rules V → (ClusterView → V) → ℕ → List (List ℕ) → Result ClusterView ClusterFault → Option Told
verified_end_over r start k lines (Ok c) = script_end r (start c) k lines
verified_end_over r start k lines (Err f) = Some (told.Cluster f)

-- what is written of an input
abbrev pub verified_by : {V : Type 0} → Rules V → (ClusterView → V) → List ℕ → List ℕ
verified_by r start bytes = verified_over r start (first_line bytes) (script_lines bytes) (cluster_of (cluster_text bytes))

-- and the fault at the end, if there is one
abbrev pub verified_end_by : {V : Type 0} → Rules V → (ClusterView → V) → List ℕ → Option Told
verified_end_by r start bytes = verified_end_over r start (first_line bytes) (script_lines bytes) (cluster_of (cluster_text bytes))

-- ---- by the rules of the manual

-- what is written
unfoldable pub verify_text : List ℕ → Pick → List ℕ
verify_text bytes pick = verified_by manual (λ c. opened c pick) bytes

-- and the fault at the end, if there is one
unfoldable pub verify_end : List ℕ → Pick → Option Told
verify_end bytes pick = verified_end_by manual (λ c. opened c pick) bytes

-- what a verification owes
abbrev pub OwesVerify : Pick → List ℕ → List ℕ → Option Told → Type 0
OwesVerify pick bytes text owed = (text ≡ verify_text bytes pick) × (owed ≡ verify_end bytes pick)
