use Rattle.std.proofs.Common.{rules, ◌≡◌, get_or}
use Rattle.rh_wheel.proofs.Exchanging.{set-back}
use Rattle.rh_state.specs.Edits.{exchange}
use Rattle.rh_state.proofs.state.State.set_standing.Goals as goal

pub returns-clause-exact : goal.returns-clause-exact
unfolding exchange
returns-clause-exact c =
    let had : get_or c.self.inside.standings.items c.args.app.0 c.index-before.result.now ≡ c.index-before.result.now = search rules in
    rw (set-back c.self.inside.standings.items c.args.app.0 c.args.standing c.index-before.result.now c.index-before.result.now had) c.self.view_is
