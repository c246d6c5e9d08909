use Rattle.rh_state.specs.Pairs.{pair_number}
use Rattle.rh_state.specs.Stored.{read}
use Rattle.rh_state.proofs.Formed.{IsFormed-links}
use Rattle.rh_state.proofs.Links.{IsRemoved, AreOfPairs-removed, running-removed, waiting-removed, without_each}
use Rattle.rh_state.proofs.Places.{IsSome-owner}
use Rattle.rh_state.proofs.state.State.unlink.Goals as goal

pub remove-edit-requires : goal.remove-edit-requires
unfolding read
remove-edit-requires c =
    let node = rw (← c.self.view_is) at c.requires.node in
    let on = rw (← c.self.view_is) at c.requires.on in
    let number = rw (← c.self.view_is) at c.pair-pair.ensures.pair in
    rw number (IsSome-owner c.self.inside.cluster.value c.self.inside.links c.args.node c.args.app c.self.invariant.links node on)

removed : (c : goal.After-formed) → IsRemoved c.self.inside.links c.remove-edit.new.self (pair_number c.self.inside.cluster.value c.args.node c.args.app)
removed c =
    let number = rw (← c.self.view_is) at c.pair-pair.ensures.pair in
    record {
      formed = c.formed.ensures;
      each = without_each _ _ _ c.self.invariant.links.formed (rw number at c.remove-edit.ensures.list) (rw number at c.remove-edit.ensures.others);
      entries = c.remove-edit.ensures.entry_count;
      lists = c.remove-edit.ensures.list_count;
    }

pub invariant_of-self : goal.invariant_of-self
invariant_of-self c = IsFormed-links _ _ c.self.invariant (AreOfPairs-removed _ _ _ _ c.self.invariant.links (removed c))

pub returns-clause-part : goal.returns-clause-part
unfolding read
returns-clause-part c =
    let node = rw (← c.self.view_is) at c.requires.node in
    let app = rw (← c.self.view_is) at c.requires.app in
    let cluster = c.self.inside.cluster.value in
    let words = c.self.inside.links in
    let run = running-removed cluster words c.remove-edit.new.self c.args.node c.args.app c.self.invariant.links node app (removed c) in
    let wait = waiting-removed cluster words c.remove-edit.new.self c.args.node c.args.app c.self.invariant.links node app (removed c) in
    rw (← c.self.view_is, run, wait)
