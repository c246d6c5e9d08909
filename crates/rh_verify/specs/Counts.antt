-- How many commands a script has, and how many of them differ (ours).
use Rattle.std.specs.Prelude.{ℕ, ◌+◌, List, ◌++◌, length, not, ◌==◌, codes, if◌then◌else◌}
use Rattle.std.specs.List.{filter}
use Rattle.std.specs.Fmt.{decimal}
use Rattle.rh_verify.specs.declared.tally.Tally.{Tally}
use Rattle.rh_verify.specs.Expected.{Check, is_checked}
use Rattle.rh_verify.specs.Blocks.{holds}

-- how many commands there are, of how many something is expected, and of how many something doesn't hold
abbrev pub tally_of : List Check → Tally
tally_of xs = record {
  commands = length xs;
  checked = length (filter is_checked xs);
  differing = length (filter (λ x. not (holds x)) xs);
}

-- an expectation without a command is one that was checked, and that differs
abbrev pub with_stray : ℕ → Tally → Tally
with_stray count t = record t { checked = count + t.checked; differing = count + t.differing }

-- the last line
unfoldable pub tally_text : Tally → List ℕ
tally_text t =
    if t.differing == 0 then codes "ok " ++ decimal t.checked ++ codes " of " ++ decimal t.commands ++ codes " commands checked\n"
    else codes "differs " ++ decimal t.differing ++ codes " of " ++ decimal t.checked ++ codes "\n"
