use Rattle.std.proofs.Common.{ap, sym, ◌∙◌}
use Rattle.std.specs.Option.{option_map}
use Rattle.std.proofs.lemmas.Option.{slice_get-map}
use Rattle.rh_arena.specs.Lists.{listed}
use Rattle.rh_state.specs.Pairs.{app_of_pair, running_list}
use Rattle.rh_state.specs.Stored.{read}
use Rattle.rh_state.proofs.Links.{running_listed}
use Rattle.rh_state.proofs.state.State.first_running.Goals as goal

pub returns-clause-first : goal.returns-clause-first
unfolding read
returns-clause-first c =
    let cluster = c.self.inside.cluster.value in
    let words = c.self.inside.links in
    let node = rw (← c.self.view_is) at c.requires in
    let app = rw (← c.self.view_is) at c.app_at.ensures.app in
    rw (← c.self.view_is, running_listed cluster words c.args.node node)
    (app ∙ ap (option_map (app_of_pair cluster c.args.node)) c.first.ensures.first
    ∙ sym (slice_get-map (app_of_pair cluster c.args.node) (listed words (running_list c.args.node)) 0))
