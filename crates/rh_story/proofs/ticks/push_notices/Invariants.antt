use Rattle.std.proofs.Common.{◌≡◌, ◌++◌, take}
use Rattle.std.specs.List.{flat_map}
use Rattle.rh_state.specs.Stored.{read}
use Rattle.rh_story.specs.LineText.{notice_lines}
use Rattle.rh_story.proofs.ticks.push_notices.Given as goal

abbrev pub invariant-loop-notice : goal.invariant-loop-notice
invariant-loop-notice l = l.text.items ≡ l.fn.text.items ++ flat_map (notice_lines (read l.state)) (take l.notice-index l.notices)
