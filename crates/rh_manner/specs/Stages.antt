-- A run in its midst: what it writes for the lines that are left (ours).
use Rattle.std.specs.Prelude.{◌≡◌, ◌≤◌, ◌||◌, ℕ, List, [], ◌++◌, map, Bool, true, false, Option, Some, Result, Ok, Err}
use Rattle.std.specs.List.{concat, list_any}
use Rattle.rh_cluster.specs.ClusterOf.{cluster_of}
use Rattle.rh_model.specs.ClusterView.{ClusterView}
use Rattle.rh_devices.specs.declared.fault.WriteFault.{WriteFault}
use Rattle.rh_devices.specs.declared.watched.Watched.{Watched}
use Rattle.rh_devices.specs.Devices.{Passed, WroteFront}
use Rattle.rh_script.specs.Lines.{content, is_separator, lines_before, lines_behind}
use Rattle.rh_run.specs.declared.fault.Told.{Told}
use Rattle.rh_run.specs.RunText.{bad_line, script_end, end_over, lines_asked}
use Rattle.rh_manner.specs.declared.stage.Opened.{Opened}
use Rattle.rh_manner.specs.declared.stage.Opened.TheVariants as opened
use Rattle.rh_manner.specs.declared.stage.Stage.{Stage}
use Rattle.rh_manner.specs.declared.stage.Stage.TheVariants as stage
use Rattle.rh_manner.specs.declared.stage.Turn.{Turn}
use Rattle.rh_manner.specs.declared.stage.Turn.TheVariants as turn
use Rattle.rh_manner.specs.Speech.{Speech, over_said, script_said}
use Rattle.rh_manner.specs.Voices.{fault_in, opening_in}

-- ---- one line of a script

-- its answer was written whole, or a front of it
abbrev pub WroteLine : {K : Type 0} → (K → K → List ℕ → Type 0) → (K → K → Type 0) → Result Bool WriteFault → List ℕ → Watched K → Watched K → Type 0
WroteLine takes fails (Ok bad) text old new = Passed takes old.inner new.inner text × (new.failed ≡ false)
WroteLine takes fails (Err f) text old new = WroteFront takes fails f text old new

-- ---- a run

-- the text of the lines that are left, of a script
abbrev pub script_from : {V : Type 0} → Speech V → V → ℕ → List (List ℕ) → List ℕ
script_from sp v k lines = script_said sp v k (map content lines)

-- and the number of the bad line that ends them
abbrev pub bad_from : ClusterView → ℕ → List (List ℕ) → Option ℕ
bad_from c k lines = bad_line k (lines_asked c (map content lines))

-- the text of a cluster file that began so, where these lines are left
abbrev pub file_from : List ℕ → List (List ℕ) → List ℕ
file_from text lines = text ++ concat (lines_before lines)

-- the text of the lines that are left, of an input whose cluster file began so
abbrev pub opened_from : {V : Type 0} → Speech V → List ℕ → List (List ℕ) → List ℕ
opened_from sp text lines = over_said sp (file_from text lines) (map content (lines_behind lines)) (cluster_of (file_from text lines))

abbrev pub opened_end : List ℕ → List (List ℕ) → Option Told
opened_end text lines = end_over (map content (lines_behind lines)) (cluster_of (file_from text lines))

-- what a run writes from here on, where these lines are left; a rehearsal is known so far as it is seen
abbrev pub text_from : {R V : Type 0} → Speech V → (R → V) → Stage R → List (List ℕ) → List ℕ
text_from sp see (stage.Cluster text) lines = opened_from sp text.items lines
text_from sp see (stage.Script r k) lines = script_from sp (see r) k lines

-- and the fault that it tells at its end
abbrev pub end_from : {R V : Type 0} → Speech V → (R → V) → Stage R → List (List ℕ) → Option Told
end_from sp see (stage.Cluster text) lines = opened_end text.items lines
end_from sp see (stage.Script r k) lines = script_end (bad_from (sp.cluster (see r)) k lines)

-- has the line `===` come?
abbrev pub is_parted : {R : Type 0} → Stage R → Bool
is_parted (stage.Cluster text) = false
is_parted (stage.Script r k) = true

-- the number that the next line of the script has
abbrev pub next_number : {R : Type 0} → Stage R → ℕ
next_number (stage.Cluster text) = 1
next_number (stage.Script r k) = k

-- these lines led from one stage to another, and this was written for them, whatever comes behind
pub record Leads {R V : Type 0} (sp : Speech V) (see : R → V) (before after : Stage R) (lines : List (List ℕ)) (piece : List ℕ) : Type 0 where
  pub text : (more : List (List ℕ)) → text_from sp see before (lines ++ more) ≡ piece ++ text_from sp see after more
  pub end : (more : List (List ℕ)) → end_from sp see before (lines ++ more) ≡ end_from sp see after more
  pub parted : is_parted after ≡ (is_parted before || list_any is_separator lines)
  pub silent : is_parted after ≡ false → piece ≡ []

-- these lines end the run, which tells this; and this was written for them
pub record Closes {R V : Type 0} (sp : Speech V) (see : R → V) (before : Stage R) (lines : List (List ℕ)) (piece : List ℕ) (told : Told) : Type 0 where
  pub text : (more : List (List ℕ)) → text_from sp see before (lines ++ more) ≡ piece
  pub end : (more : List (List ℕ)) → end_from sp see before (lines ++ more) ≡ Some told

-- what came of some lines
abbrev pub Takes : {K R V : Type 0} → (K → K → List ℕ → Type 0) → (K → K → Type 0) → Speech V → (R → V)
    → Result (Turn R) WriteFault → Stage R → List (List ℕ) → Watched K → Watched K → Type 0
Takes takes fails sp see (Ok (turn.Goes after)) before lines old new =
    (piece : List ℕ) × Passed takes old.inner new.inner piece × (new.failed ≡ false) × Leads sp see before after lines piece
Takes takes fails sp see (Ok (turn.Ends told)) before lines old new =
    (piece : List ℕ) × Passed takes old.inner new.inner piece × (new.failed ≡ false) × Closes sp see before lines piece told
Takes takes fails sp see (Err f) before lines old new = (more : List (List ℕ)) → WroteFront takes fails f (text_from sp see before (lines ++ more)) old new

-- the whole cluster file was read: it is one, or it was written why it is none
abbrev pub Opens : {K R V : Type 0} → (K → K → List ℕ → Type 0) → (K → K → Type 0) → Speech V → (R → V)
    → Result (Opened R) WriteFault → List ℕ → Watched K → Watched K → Type 0
Opens takes fails sp see (Ok (opened.Script r)) text old new =
    (cluster_of text ≡ Ok (sp.cluster (see r))) × (see r ≡ sp.begun (sp.cluster (see r)) text)
    × Passed takes old.inner new.inner (opening_in sp.form (sp.cluster (see r))) × (new.failed ≡ false)
Opens takes fails sp see (Ok (opened.Refused f)) text old new =
    (cluster_of text ≡ Err f) × Passed takes old.inner new.inner (fault_in sp.form f) × (new.failed ≡ false)
Opens takes fails sp see (Err f) text old new = (lines : List (List ℕ)) → WroteFront takes fails f (over_said sp text lines (cluster_of text)) old new

-- how far the numbers of lines have come
abbrev pub NumbersWithin : {R : Type 0} → Result (Turn R) WriteFault → ℕ → Type 0
NumbersWithin (Ok (turn.Goes after)) n = next_number after ≤ n
NumbersWithin (Ok (turn.Ends told)) n = Unit {0}
NumbersWithin (Err f) n = Unit {0}
