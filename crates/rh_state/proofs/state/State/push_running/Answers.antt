use Rattle.std.proofs.Common.{inl, refl}
use Rattle.rh_state.specs.Pairs.{pair_number, running_list}
use Rattle.rh_state.specs.Stored.{read}
use Rattle.rh_state.proofs.Formed.{IsFormed-links}
use Rattle.rh_state.proofs.Links.{IsPushed, AreOfPairs-pushed, running-pushed, waiting-kept}
use Rattle.rh_state.proofs.Places.{unowned_off}
use Rattle.rh_state.proofs.state.State.push_running.Goals as goal

pub push_back-edit-requires-clause-free : goal.push_back-edit-requires-clause-free
unfolding read
push_back-edit-requires-clause-free c =
    let node = rw (← c.self.view_is) at c.requires.node in
    let app = rw (← c.self.view_is) at c.requires.app in
    let off = rw (← c.self.view_is) at c.requires.off in
    let number = rw (← c.self.view_is) at c.pair-pair.ensures.pair in
    rw number (unowned_off c.self.inside.cluster.value c.self.inside.links c.args.node c.args.app c.self.invariant.links node app off)

pushed : (c : goal.After-formed)
    → IsPushed c.self.inside.links c.push_back-edit.new.self (running_list c.args.node) (pair_number c.self.inside.cluster.value c.args.node c.args.app)
pushed c =
    let number = rw (← c.self.view_is) at c.pair-pair.ensures.pair in
    record {
      formed = c.formed.ensures;
      list = rw number at c.push_back-edit.ensures.list;
      others = c.push_back-edit.ensures.others;
      entries = c.push_back-edit.ensures.entry_count;
      lists = c.push_back-edit.ensures.list_count;
    }

pub invariant_of-self : goal.invariant_of-self
unfolding read
invariant_of-self c =
    let node = rw (← c.self.view_is) at c.requires.node in
    let app = rw (← c.self.view_is) at c.requires.app in
    IsFormed-links _ _ c.self.invariant (AreOfPairs-pushed _ _ _ _ _ _ c.self.invariant.links node app (inl refl) (pushed c))

pub returns-clause-part : goal.returns-clause-part
unfolding read
returns-clause-part c =
    let node = rw (← c.self.view_is) at c.requires.node in
    let cluster = c.self.inside.cluster.value in
    let words = c.self.inside.links in
    let more = running-pushed cluster words c.push_back-edit.new.self c.args.node c.args.app node (pushed c) in
    let kept = waiting-kept cluster words c.push_back-edit.new.self c.args.node (pair_number cluster c.args.node c.args.app) node (pushed c) in
    rw (← c.self.view_is, more, kept)
