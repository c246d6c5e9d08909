use Rattle.std.proofs.Common.{codes}
use Rattle.rh_json_text.specs.Json.{json_array}
use Rattle.rh_json_text.proofs.Arrays.{rest_behind_front}
use Rattle.rh_explore_text.specs.FoundLines.{event_json}
use Rattle.rh_otp_explore_text.specs.FoundLines.{events_field}
use Rattle.rh_otp_explore_text.proofs.found_lines.push_events_at.Goals as goal

pub returns : goal.returns
unfolding events_field
returns c =
    rest_behind_front c.push_events_array.result c.args.out.now.items (codes ",\"holds\":false,\"events\":")
    (json_array (event_json c.args.cluster.now) c.args.events.now) c.push_text.new.out.items c.push_events_array.new.out.items
    c.in_ok-push_text.ensures c.push_events_array.ensures
