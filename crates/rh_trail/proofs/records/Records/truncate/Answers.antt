use Rattle.std.proofs.Common.{List, ℕ, ap, ◌∙◌}
use Rattle.rh_trail.specs.Records.{cut_at, begin_at}
use Rattle.rh_trail.proofs.Cuts.{fewer_keep, fewer_are, cut_reach}
use Rattle.rh_trail.proofs.records.Records.truncate.Goals as goal

pub start_of-end-requires : goal.start_of-end-requires
start_of-end-requires c =
    cut_reach c.self.inside.ends.items c.as_slice.result.now c.self.inside.edits.items c.args.self.now c.args.count c.self.view_is c.as_slice.ensures.value
    c.requires

pub invariant_of-self : goal.invariant_of-self
invariant_of-self c = rw (c.truncate.ensures.items, c.truncate-2.ensures.items)
    (fewer_keep c.self.inside.ends.items c.self.inside.edits.items c.args.self.now c.args.count c.start_of-end.result c.self.invariant c.self.view_is
    (c.start_of-end.ensures ∙ ap (λ (ns : List ℕ). begin_at 0 ns c.args.count) c.as_slice.ensures.value))

pub returns : goal.returns
returns c =
    (λ i. cut_at 0 (c.truncate-2.ensures.items i) (c.truncate.ensures.items i))
    ∙ fewer_are c.self.inside.ends.items c.self.inside.edits.items c.args.self.now c.args.count c.start_of-end.result c.self.invariant c.self.view_is
    (c.start_of-end.ensures ∙ ap (λ (ns : List ℕ). begin_at 0 ns c.args.count) c.as_slice.ensures.value)
