use Rattle.std.proofs.Common.{◌++◌, ◌-◌, length, take, drop, set, List, All, sym, ap, subst, ◌∙◌, arith}
use Rattle.std.proofs.lemmas.List.{with_items_is}
use Rattle.rh_base.specs.Exchanges.{forth, forthed}
use Rattle.rh_base.proofs.Exchanges.{length-forthed}
use Rattle.rh_history.specs.Change.{put, had, IsAmong}
use Rattle.rh_history.specs.declared.change.Change.{Change}
use Rattle.rh_history.specs.Records.{cut_at, AreEnds}
use Rattle.rh_history.proofs.Cuts.{IsSlot, slot, place_fits, cut_inside, cut_reach}
use Rattle.rh_history.proofs.records.Records.go_forth.Given.{Over}
use Rattle.rh_history.proofs.records.Records.go_forth.Goals as goal

pub start_of-start-requires : goal.start_of-start-requires
start_of-start-requires g c =
    cut_reach c.self.inside.ends.items c.as_slice.result.now c.self.inside.changes.items c.args.self.now c.args.index c.self.view_is c.as_slice.ensures.value
    (omega (arith, c.requires.index))

pub index-end-requires : goal.index-end-requires
index-end-requires g c =
    let inside = cut_inside c.self.inside.ends.items c.as_slice.result.now c.self.inside.changes.items c.args.self.now c.args.index c.self.view_is
    c.as_slice.ensures.value
    c.requires.index in
    omega (arith, inside, c.as_slice.ensures.len)

-- the changes of the record, among those of all
before : (g : Over) (c : goal.After-deref_mut g)
    → IsSlot c.args.self.now c.args.index c.self.inside.ends.items c.deref_mut.result.now c.start_of-start.result c.index-end.result.now
before g c =
    slot c.self.inside.ends.items c.as_slice.result.now c.self.inside.changes.items c.deref_mut.result.now c.args.self.now c.args.index c.index-end.result.now
    c.start_of-start.result c.index-end.result.now c.self.invariant c.self.view_is c.requires.index c.as_slice.ensures.value c.start_of-start.ensures
    c.index-end.ensures
    c.deref_mut.ensures.value

pub offset_bounds-deref_mut-start : goal.offset_bounds-deref_mut-start
offset_bounds-deref_mut-start g c = place_fits _ _ _ (omega (arith, (before g c).order, (before g c).within)) c.deref_mut.type_inv.1

pub slice_bounds-go_forth-count : goal.slice_bounds-go_forth-count
slice_bounds-go_forth-count g c = (before g c).order

pub slice_bounds-go_forth-start : goal.slice_bounds-go_forth-start
slice_bounds-go_forth-start g c = (before g c).order

pub slice_bounds-go_forth-end : goal.slice_bounds-go_forth-end
slice_bounds-go_forth-end g c = (before g c).within

pub go_forth-requires : goal.go_forth-requires
go_forth-requires g c =
    let s = slot c.self.inside.ends.items c.as_slice.result.now c.self.inside.changes.items c.deref_mut.result.now c.args.self.now c.args.index
    c.index-end.result.now
    c.start_of-start.result c.index-end.result.now c.self.invariant c.self.view_is c.requires.index c.as_slice.ensures.value c.start_of-start.ensures
    c.index-end.ensures
    c.deref_mut.ensures.value in
    subst (λ (es : List (Change g.row.T.Denot)). All (IsAmong (length c.args.cells.now)) es) (sym s.is) c.requires.among

-- the same, once they were exchanged
behind : (g : Over) (c : goal.After-cells-1 g)
    → IsSlot c.args.self.now c.args.index c.self.inside.ends.items c.deref_mut.result.now c.start_of-start.result c.index-end.result.now
behind g c =
    slot c.self.inside.ends.items c.as_slice.result.now c.self.inside.changes.items c.deref_mut.result.now c.args.self.now c.args.index c.index-end.result.now
    c.start_of-start.result c.index-end.result.now c.self.invariant c.self.view_is c.requires.index c.as_slice.ensures.value c.start_of-start.ensures
    c.index-end.ensures
    c.deref_mut.ensures.value

pub invariant_of-self : goal.invariant_of-self
invariant_of-self g c =
    let many = (ap length c.go_forth.ensures.changes ∙ length-forthed put had c.args.cells.now _) in
    subst (λ (es : List (Change g.row.T.Denot)). AreEnds 0 c.self.inside.ends.items es)
    (sym (with_items_is c.self.inside.changes (take c.start_of-start.result c.deref_mut.result.now ++ (c.go_forth.new.changes
    ++ drop (c.index-end.result.now - c.start_of-start.result) (drop c.start_of-start.result c.deref_mut.result.now)))
    ((behind g c).long c.go_forth.new.changes many ∙ c.deref_mut.ensures.len)))
    ((behind g c).keeps c.go_forth.new.changes many)

pub returns-clause-cells : goal.returns-clause-cells
returns-clause-cells g c = c.go_forth.ensures.cells ∙ ap (forth put c.args.cells.now) (behind g c).is

pub returns-clause-records : goal.returns-clause-records
returns-clause-records g c =
    let many = (ap length c.go_forth.ensures.changes ∙ length-forthed put had c.args.cells.now _) in
    ap (cut_at 0 c.self.inside.ends.items) (with_items_is c.self.inside.changes (take c.start_of-start.result c.deref_mut.result.now ++ (c.go_forth.new.changes
    ++ drop (c.index-end.result.now - c.start_of-start.result) (drop c.start_of-start.result c.deref_mut.result.now)))
    ((behind g c).long c.go_forth.new.changes many ∙ c.deref_mut.ensures.len))
    ∙ (behind g c).makes c.go_forth.new.changes many
    ∙ ap (set c.args.self.now c.args.index) (c.go_forth.ensures.changes ∙ ap (forthed put had c.args.cells.now) (behind g c).is)
