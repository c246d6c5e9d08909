-- How the text of such a run is written, line by line (ours).
use Rattle.std.specs.Prelude.{◌≡◌, ℕ, ◌+◌, List, ◌∷◌, ◌++◌, Bool, ◌||◌, false, Some, Result, Ok, Err}
use Rattle.std.specs.List.{list_any}
use Rattle.rh_model.specs.ClusterView.{ClusterView}
use Rattle.rh_trail.specs.SimView.{SimView}
use Rattle.rh_devices.specs.declared.fault.WriteFault.{WriteFault}
use Rattle.rh_devices.specs.declared.watched.Watched.{Watched}
use Rattle.rh_devices.specs.Devices.{Passed, WroteFront}
use Rattle.rh_run.specs.RunText.{bad_line}
use Rattle.rh_asked.specs.declared.manner.Manner.{Manner}
use Rattle.rh_manner.specs.declared.running.Turn.{Turn}
use Rattle.rh_manner.specs.declared.running.Turn.TheVariants.{Goes, Ends}
use Rattle.rh_manner.specs.MannerText.{Said, asked, is_refused_step, said_text, script_replies}

-- a text was written whole, or a front of it
abbrev pub WroteCall : {K : Type 0} → (K → K → List ℕ → Type 0) → (K → K → Type 0) → Result Bool WriteFault → List ℕ → Watched K → Watched K → Type 0
WroteCall takes fails (Ok refused) text old new = Passed takes old.inner new.inner text × (new.failed ≡ false)
WroteCall takes fails (Err f) text old new = WroteFront takes fails f text old new

-- is a step refused among the answers to these lines?
abbrev pub any_refused : SimView → List Said → Bool
any_refused sim lines = list_any is_refused_step (script_replies sim lines)

-- one line was answered, and the other lines are left; or the run ends there
abbrev pub Turns : {K : Type 0} → (K → K → List ℕ → Type 0) → (K → K → Type 0) → Result Turn WriteFault
    → Manner → ClusterView → SimView → SimView → ℕ → Said → List Said → Watched K → Watched K → Type 0
Turns takes fails (Ok (Goes refused)) m c before after k said lines old new =
    (piece : List ℕ) × Passed takes old.inner new.inner piece
    × (said_text m c before k (said ∷ lines) ≡ piece ++ said_text m c after (k + 1) lines)
    × (bad_line k (asked (said ∷ lines)) ≡ bad_line (k + 1) (asked lines))
    × (any_refused before (said ∷ lines) ≡ (refused || any_refused after lines)) × (new.failed ≡ false)
Turns takes fails (Ok Ends) m c before after k said lines old new =
    Passed takes old.inner new.inner (said_text m c before k (said ∷ lines)) × (bad_line k (asked (said ∷ lines)) ≡ Some k) × (new.failed ≡ false)
Turns takes fails (Err f) m c before after k said lines old new = WroteFront takes fails f (said_text m c before k (said ∷ lines)) old new
