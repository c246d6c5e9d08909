use Rattle.std.proofs.Common.{◌≡◌, take}
use Rattle.std.specs.List.{flat_map}
use Rattle.std.specs.String.{string_bytes}
use Rattle.rh_otp_text.specs.ReportText.{place_words}
use Rattle.rh_otp_lint.proofs.twice.places.Given as goal

abbrev pub invariant-loop-node : goal.invariant-loop-node
invariant-loop-node l = string_bytes l.text ≡ flat_map (place_words l.cluster) (take l.node-index l.nodes)
