use Rattle.std.proofs.Common.{List, Some}
use Rattle.rh_state.specs.Numbers.{nodes_of, apps_of}
use Rattle.rh_base.specs.Lists.{first_given, or_else}
use Rattle.rh_rules.specs.declared.notice.Move.{Move}
use Rattle.rh_rules.specs.Moves.{local_moves, placements, takeovers}
use Rattle.rh_rules.specs.Settling.{next_moves}
use Rattle.rh_settle.proofs.Searches.{either_some, either_none}
use Rattle.rh_state.specs.Stored.{read}
use Rattle.rh_settle.proofs.search.next_on.Goals as goal

pub returns-in-Some-next_placement : goal.returns-in-Some-next_placement
unfolding next_moves
returns-in-Some-next_placement c = λ fresh h.
    let s = read c.args.state.now in
    let locals : List Move = first_given (local_moves s) (nodes_of s.cluster) in
    let places : List Move = first_given (placements s) (apps_of s.cluster) in
    let takes : List Move = first_given (takeovers s fresh) (apps_of s.cluster) in
    either_none c.args.pick locals (or_else places takes) (Some c.in-Some-next_placement.next) (c.in_default.ensures c.args.pick)
    (either_some c.args.pick places takes c.in-Some-next_placement.next c.in-Some-next_placement.ensures)

pub returns : goal.returns
unfolding next_moves
returns c = λ fresh h.
    let s = read c.args.state.now in
    let locals : List Move = first_given (local_moves s) (nodes_of s.cluster) in
    let places : List Move = first_given (placements s) (apps_of s.cluster) in
    let takes : List Move = first_given (takeovers s fresh) (apps_of s.cluster) in
    either_none c.args.pick locals (or_else places takes) c.next_takeover.result (c.in_default.ensures c.args.pick)
    (either_none c.args.pick places takes c.next_takeover.result c.in_default-next_placement.ensures (c.next_takeover.ensures fresh h))

pub returns-in-Some : goal.returns-in-Some
unfolding next_moves
returns-in-Some c = λ fresh h.
    let s = read c.args.state.now in
    let locals : List Move = first_given (local_moves s) (nodes_of s.cluster) in
    let places : List Move = first_given (placements s) (apps_of s.cluster) in
    let takes : List Move = first_given (takeovers s fresh) (apps_of s.cluster) in
    either_some c.args.pick locals (or_else places takes) c.in-Some.next (c.in-Some.ensures c.args.pick)
