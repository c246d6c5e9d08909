use Rattle.std.proofs.Common.{[], Some, sym, ap, ◌∙◌, arith}
use Rattle.std.proofs.lemmas.Option.{slice_get-get_or}
use Rattle.rh_trail.proofs.Cuts.{slot, cut_inside, cut_reach}
use Rattle.rh_trail.proofs.records.Records.at.Goals as goal

pub start_of-start-requires : goal.start_of-start-requires
start_of-start-requires c =
    cut_reach c.self.inside.ends.items c.as_slice.result.now c.self.inside.edits.items c.args.self.now c.args.index c.self.view_is c.as_slice.ensures.value
    (omega (arith, c.requires))

pub index-requires : goal.index-requires
index-requires c =
    let inside = cut_inside c.self.inside.ends.items c.as_slice.result.now c.self.inside.edits.items c.args.self.now c.args.index c.self.view_is
    c.as_slice.ensures.value
    c.requires in
    omega (arith, inside, c.as_slice.ensures.len)

pub offset_bounds-deref-start : goal.offset_bounds-deref-start
offset_bounds-deref-start c =
    let s = slot c.self.inside.ends.items c.as_slice.result.now c.self.inside.edits.items c.deref.result.now c.args.self.now c.args.index c.index.result.now
    c.start_of-start.result c.index.result.now c.self.invariant c.self.view_is c.requires c.as_slice.ensures.value c.start_of-start.ensures c.index.ensures
    c.deref.ensures.value in
    omega (arith, s.order, s.within, c.deref.type_inv.1)

pub slice_bounds-result-count : goal.slice_bounds-result-count
slice_bounds-result-count c =
    let s = slot c.self.inside.ends.items c.as_slice.result.now c.self.inside.edits.items c.deref.result.now c.args.self.now c.args.index c.index.result.now
    c.start_of-start.result c.index.result.now c.self.invariant c.self.view_is c.requires c.as_slice.ensures.value c.start_of-start.ensures c.index.ensures
    c.deref.ensures.value in
    s.order

pub slice_bounds-result-start : goal.slice_bounds-result-start
slice_bounds-result-start c =
    let s = slot c.self.inside.ends.items c.as_slice.result.now c.self.inside.edits.items c.deref.result.now c.args.self.now c.args.index c.index.result.now
    c.start_of-start.result c.index.result.now c.self.invariant c.self.view_is c.requires c.as_slice.ensures.value c.start_of-start.ensures c.index.ensures
    c.deref.ensures.value in
    s.order

pub slice_bounds-result-end : goal.slice_bounds-result-end
slice_bounds-result-end c =
    let s = slot c.self.inside.ends.items c.as_slice.result.now c.self.inside.edits.items c.deref.result.now c.args.self.now c.args.index c.index.result.now
    c.start_of-start.result c.index.result.now c.self.invariant c.self.view_is c.requires c.as_slice.ensures.value c.start_of-start.ensures c.index.ensures
    c.deref.ensures.value in
    s.within

pub returns : goal.returns
returns c =
    let s = slot c.self.inside.ends.items c.as_slice.result.now c.self.inside.edits.items c.deref.result.now c.args.self.now c.args.index c.index.result.now
    c.start_of-start.result c.index.result.now c.self.invariant c.self.view_is c.requires c.as_slice.ensures.value c.start_of-start.ensures c.index.ensures
    c.deref.ensures.value in
    slice_get-get_or c.args.self.now c.args.index [] c.requires ∙ ap Some (sym s.is)
