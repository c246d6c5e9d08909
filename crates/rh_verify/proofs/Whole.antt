-- The parts of what is told of a script.
use Rattle.std.proofs.Common.{ℕ, List, ◌++◌, Option, Result}
use Rattle.std.specs.List.{flat_map}
use Rattle.rh_devices.specs.declared.fault.WriteFault.{WriteFault}
use Rattle.rh_devices.specs.declared.watched.Watched.{Watched}
use Rattle.rh_devices.specs.Devices.{Passed, WroteFront}
use Rattle.rh_devices.proofs.Passing.{passed_more, fault_behind, fault_before}
use Rattle.rh_run.specs.declared.fault.Told.{Told}
use Rattle.rh_run.specs.RunText.{bad_line, lines_asked, Wrote}
use Rattle.rh_run.proofs.Turns.{wrote_behind}
use Rattle.rh_verify.specs.Rules.{Rules}
use Rattle.rh_verify.specs.Expected.{asked_by, stray}
use Rattle.rh_verify.specs.Blocks.{block_text, stray_text}
use Rattle.rh_verify.specs.VerifyText.{script_checks, script_tally, last_text, script_text, script_end}

module _ {K V : Type 0} (takes : K → K → List ℕ → Type 0) (fails : K → K → Type 0) (r : Rules V) (sim : V) (k : ℕ) (lines : List (List ℕ)) where
  -- the blocks of expectations without a command, those of commands, and the last line
  abbrev pub strays : List ℕ
  strays = flat_map stray_text (stray k (asked_by (r.cluster sim) lines))

  abbrev pub blocks : List ℕ
  blocks = flat_map block_text (script_checks r sim k lines)

  abbrev pub last : List ℕ
  last = last_text (script_tally r sim k lines) (bad_line 1 (lines_asked (r.cluster sim) lines))

  pub strays_fail : (f : WriteFault) (a b : Watched K) → WroteFront takes fails f strays a b → WroteFront takes fails f (script_text r sim k lines) a b
  strays_fail f a b h = fault_before takes fails f a b (strays ++ blocks) last (fault_before takes fails f a b strays blocks h)

  pub blocks_fail : (f : WriteFault) (a b d : Watched K) → Passed takes a.inner b.inner strays → WroteFront takes fails f blocks b d
      → WroteFront takes fails f (script_text r sim k lines) a d
  blocks_fail f a b d p h = fault_before takes fails f a d (strays ++ blocks) last (fault_behind takes fails f a b d strays blocks p h)

  pub last_behind : (result : Result (Option Told) WriteFault) (a b d e : Watched K) → Passed takes a.inner b.inner strays → Passed takes b.inner d.inner blocks
      → Wrote takes fails result last (script_end r sim k lines) d e → Wrote takes fails result (script_text r sim k lines) (script_end r sim k lines) a e
  last_behind result a b d e p q w =
      wrote_behind takes fails result a d e (strays ++ blocks) last (script_end r sim k lines) (passed_more takes a.inner b.inner d.inner strays blocks p q) w
