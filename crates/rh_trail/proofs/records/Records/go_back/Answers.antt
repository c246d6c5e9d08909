use Rattle.std.proofs.Common.{◌++◌, ◌-◌, length, take, drop, set, List, sym, ap, subst, ◌∙◌, arith}
use Rattle.std.proofs.lemmas.List.{with_items_is}
use Rattle.rh_base.specs.Exchanges.{back, backed, AllBack}
use Rattle.rh_base.proofs.Exchanges.{length-backed}
use Rattle.rh_state.specs.declared.edit.Edit.{Edit}
use Rattle.rh_state.specs.Edits.{exchange, turned}
use Rattle.rh_state.specs.Records.{CanGoBack}
use Rattle.rh_trail.specs.Records.{cut_at, AreEnds}
use Rattle.rh_trail.proofs.Cuts.{slot, cut_inside, cut_reach}
use Rattle.rh_trail.proofs.records.Records.go_back.Goals as goal

pub start_of-start-requires : goal.start_of-start-requires
start_of-start-requires c =
    cut_reach c.self.inside.ends.items c.as_slice.result.now c.self.inside.edits.items c.args.self.now c.args.index c.self.view_is c.as_slice.ensures.value
    (omega (arith, c.requires.index))

pub index-end-requires : goal.index-end-requires
index-end-requires c =
    let inside = cut_inside c.self.inside.ends.items c.as_slice.result.now c.self.inside.edits.items c.args.self.now c.args.index c.self.view_is
    c.as_slice.ensures.value
    c.requires.index in
    omega (arith, inside, c.as_slice.ensures.len)

pub offset_bounds-deref_mut-start : goal.offset_bounds-deref_mut-start
offset_bounds-deref_mut-start c =
    let s = slot c.self.inside.ends.items c.as_slice.result.now c.self.inside.edits.items c.deref_mut.result.now c.args.self.now c.args.index
    c.index-end.result.now
    c.start_of-start.result c.index-end.result.now c.self.invariant c.self.view_is c.requires.index c.as_slice.ensures.value c.start_of-start.ensures
    c.index-end.ensures
    c.deref_mut.ensures.value in
    omega (arith, s.order, s.within, c.deref_mut.type_inv.1)

pub slice_bounds-go_back-count : goal.slice_bounds-go_back-count
slice_bounds-go_back-count c =
    let s = slot c.self.inside.ends.items c.as_slice.result.now c.self.inside.edits.items c.deref_mut.result.now c.args.self.now c.args.index
    c.index-end.result.now
    c.start_of-start.result c.index-end.result.now c.self.invariant c.self.view_is c.requires.index c.as_slice.ensures.value c.start_of-start.ensures
    c.index-end.ensures
    c.deref_mut.ensures.value in
    s.order

pub slice_bounds-go_back-start : goal.slice_bounds-go_back-start
slice_bounds-go_back-start c =
    let s = slot c.self.inside.ends.items c.as_slice.result.now c.self.inside.edits.items c.deref_mut.result.now c.args.self.now c.args.index
    c.index-end.result.now
    c.start_of-start.result c.index-end.result.now c.self.invariant c.self.view_is c.requires.index c.as_slice.ensures.value c.start_of-start.ensures
    c.index-end.ensures
    c.deref_mut.ensures.value in
    s.order

pub slice_bounds-go_back-end : goal.slice_bounds-go_back-end
slice_bounds-go_back-end c =
    let s = slot c.self.inside.ends.items c.as_slice.result.now c.self.inside.edits.items c.deref_mut.result.now c.args.self.now c.args.index
    c.index-end.result.now
    c.start_of-start.result c.index-end.result.now c.self.invariant c.self.view_is c.requires.index c.as_slice.ensures.value c.start_of-start.ensures
    c.index-end.ensures
    c.deref_mut.ensures.value in
    s.within

pub go_back-requires : goal.go_back-requires
go_back-requires c =
    let s = slot c.self.inside.ends.items c.as_slice.result.now c.self.inside.edits.items c.deref_mut.result.now c.args.self.now c.args.index
    c.index-end.result.now
    c.start_of-start.result c.index-end.result.now c.self.invariant c.self.view_is c.requires.index c.as_slice.ensures.value c.start_of-start.ensures
    c.index-end.ensures
    c.deref_mut.ensures.value in
    subst (λ (es : List Edit). AllBack exchange CanGoBack c.args.state.now es) (sym s.is) c.requires.all

pub overflow_sub-result : goal.overflow_sub-result
overflow_sub-result c =
    let s = slot c.self.inside.ends.items c.as_slice.result.now c.self.inside.edits.items c.deref_mut.result.now c.args.self.now c.args.index
    c.index-end.result.now
    c.start_of-start.result c.index-end.result.now c.self.invariant c.self.view_is c.requires.index c.as_slice.ensures.value c.start_of-start.ensures
    c.index-end.ensures
    c.deref_mut.ensures.value in
    s.order

pub invariant_of-self : goal.invariant_of-self
invariant_of-self c =
    let s = slot c.self.inside.ends.items c.as_slice.result.now c.self.inside.edits.items c.deref_mut.result.now c.args.self.now c.args.index
    c.index-end.result.now
    c.start_of-start.result c.index-end.result.now c.self.invariant c.self.view_is c.requires.index c.as_slice.ensures.value c.start_of-start.ensures
    c.index-end.ensures
    c.deref_mut.ensures.value in
    let many = (ap length c.go_back.ensures.edits ∙ length-backed exchange turned c.args.state.now _) in
    subst (λ (es : List Edit). AreEnds 0 c.self.inside.ends.items es)
    (sym (with_items_is c.self.inside.edits (take c.start_of-start.result c.deref_mut.result.now ++ (c.go_back.new.edits
    ++ drop (c.index-end.result.now - c.start_of-start.result) (drop c.start_of-start.result c.deref_mut.result.now))) (s.long c.go_back.new.edits many
    ∙ c.deref_mut.ensures.len)))
    (s.keeps c.go_back.new.edits many)

pub returns-clause-words : goal.returns-clause-words
returns-clause-words c =
    let s = slot c.self.inside.ends.items c.as_slice.result.now c.self.inside.edits.items c.deref_mut.result.now c.args.self.now c.args.index
    c.index-end.result.now
    c.start_of-start.result c.index-end.result.now c.self.invariant c.self.view_is c.requires.index c.as_slice.ensures.value c.start_of-start.ensures
    c.index-end.ensures
    c.deref_mut.ensures.value in
    c.go_back.ensures.words ∙ ap (back exchange c.args.state.now) s.is

pub returns-clause-records : goal.returns-clause-records
returns-clause-records c =
    let s = slot c.self.inside.ends.items c.as_slice.result.now c.self.inside.edits.items c.deref_mut.result.now c.args.self.now c.args.index
    c.index-end.result.now
    c.start_of-start.result c.index-end.result.now c.self.invariant c.self.view_is c.requires.index c.as_slice.ensures.value c.start_of-start.ensures
    c.index-end.ensures
    c.deref_mut.ensures.value in
    let many = (ap length c.go_back.ensures.edits ∙ length-backed exchange turned c.args.state.now _) in
    ap (cut_at 0 c.self.inside.ends.items) (with_items_is c.self.inside.edits (take c.start_of-start.result c.deref_mut.result.now ++ (c.go_back.new.edits
    ++ drop (c.index-end.result.now - c.start_of-start.result) (drop c.start_of-start.result c.deref_mut.result.now))) (s.long c.go_back.new.edits many
    ∙ c.deref_mut.ensures.len))
    ∙ s.makes c.go_back.new.edits many
    ∙ ap (set c.args.self.now c.args.index) (c.go_back.ensures.edits ∙ ap (backed exchange turned c.args.state.now) s.is)

pub returns-clause-count : goal.returns-clause-count
returns-clause-count c =
    let s = slot c.self.inside.ends.items c.as_slice.result.now c.self.inside.edits.items c.deref_mut.result.now c.args.self.now c.args.index
    c.index-end.result.now
    c.start_of-start.result c.index-end.result.now c.self.invariant c.self.view_is c.requires.index c.as_slice.ensures.value c.start_of-start.ensures
    c.index-end.ensures
    c.deref_mut.ensures.value in
    sym s.many ∙ ap length s.is
