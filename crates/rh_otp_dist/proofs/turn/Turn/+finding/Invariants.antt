use Rattle.std.proofs.Common.{◌+◌, ◌-◌, ◌*◌, length}
use Rattle.rh_otp_dist.specs.Choosing.{places_of}
use Rattle.rh_otp_dist.proofs.turn.Turn.+finding.Given as goal

-- the places that are left, and the steps from one to the next
abbrev pub decreases-find_start_node : goal.decreases-find_start_node
decreases-find_start_node l = 5 * (length (places_of l.self.now.own l.attempt.app) - l.place) + 4

abbrev pub decreases-at_tuple : goal.decreases-at_tuple
decreases-at_tuple l = 5 * (length (places_of l.self.now.own l.attempt.app) - l.place) + 3

abbrev pub decreases-ask_weights : goal.decreases-ask_weights
decreases-ask_weights l = 5 * (length (places_of l.self.now.own l.attempt.app) - l.place) + 2

abbrev pub decreases-weigh : goal.decreases-weigh
decreases-weigh l = 5 * (length (places_of l.self.now.own l.stand.attempt.app) - l.stand.place) + 1

abbrev pub decreases-behind_place : goal.decreases-behind_place
decreases-behind_place l = 5 * (length (places_of l.self.now.own l.attempt.app) - l.place)
