use Rattle.std.proofs.Common.{◌≡◌, ◌++◌, take}
use Rattle.std.specs.List.{flat_map}
use Rattle.std.specs.String.{string_bytes}
use Rattle.rh_script.specs.Answers.{notice_line}
use Rattle.rh_script.proofs.answers.push_notices.Given as goal

abbrev pub invariant-loop-notice : goal.invariant-loop-notice
invariant-loop-notice l = string_bytes l.text ≡ string_bytes l.fn.text ++ flat_map (notice_line l.cluster) (take l.notice-index l.notices)
