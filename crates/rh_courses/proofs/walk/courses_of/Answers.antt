use Rattle.std.proofs.Common.{◌≡◌, ◌≤◌, ◌∙◌, length, IfOk, ap, sym, subst, arith}
use Rattle.rh_trail.specs.Chain.{chain}
use Rattle.rh_trail.specs.Lone.{Served}
use Rattle.rh_trail.specs.SimView.{SimView, Held}
use Rattle.rh_trail.proofs.Chains.{chain_here}
use Rattle.rh_courses.specs.Courses.{courses_in}
use Rattle.rh_courses.proofs.walk.courses_of.Goals as goal

pub courses_along-courses-requires-clause-start : goal.courses_along-courses-requires-clause-start
courses_along-courses-requires-clause-start c = sym (ap (λ (a : Served). a.sim.cursor) c.undo_all.ensures.answer)

pub courses_along-courses-requires-clause-end : goal.courses_along-courses-requires-clause-end
courses_along-courses-requires-clause-end c =
    let trail = ap (λ (a : Served). length a.sim.trail) c.undo_all.ensures.answer in
    omega (arith, trail, c.cursor-end.ensures.cursor, c.cursor-end.ensures.within)

pub go_forth-requires-clause-within : goal.go_forth-requires-clause-within
go_forth-requires-clause-within c =
    let first = ap (λ (a : Served). length a.sim.trail) c.undo_all.ensures.answer in
    let trail = ap (λ (v : SimView). length v.trail) c.courses_along-courses.ensures.seen in
    omega (arith, trail, first, c.cursor-end.ensures.cursor, c.cursor-end.ensures.within)

pub returns-clause-courses : goal.returns-clause-courses
returns-clause-courses c =
    let s : SimView = c.args.sim.now.seen in
    let end : c.cursor-end.result ≡ s.cursor = c.cursor-end.ensures.cursor in
    let back : record s { cursor = 0 } ≡ c.undo_all.new.self.seen = ap (λ (a : Served). a.sim) c.undo_all.ensures.answer in
    let there : record c.undo_all.new.self.seen { cursor = c.cursor-end.result } ≡ s =
    sym (ap (λ (v : SimView). record v { cursor = c.cursor-end.result }) back) ∙ ap (λ n. record s { cursor = n }) end in
    subst (λ (v : SimView). IfOk c.courses_along-courses.result (λ courses. courses.items ≡ courses_in v)) there c.courses_along-courses.ensures.courses

pub returns-clause-seen : goal.returns-clause-seen
returns-clause-seen c =
    let s : SimView = c.args.sim.now.seen in
    let end : c.cursor-end.result ≡ s.cursor = c.cursor-end.ensures.cursor in
    let back : record s { cursor = 0 } ≡ c.undo_all.new.self.seen = ap (λ (a : Served). a.sim) c.undo_all.ensures.answer in
    c.go_forth.ensures.seen
    ∙ ap (λ (v : SimView). record v { cursor = c.cursor-end.result }) (c.courses_along-courses.ensures.seen)
    ∙ sym (ap (λ (v : SimView). record v { cursor = c.cursor-end.result }) back)
    ∙ ap (λ n. record s { cursor = n }) end

pub returns-clause-chain : goal.returns-clause-chain
returns-clause-chain c = λ k bound.
    let first = ap (λ (a : Served). length a.sim.trail) c.undo_all.ensures.answer in
    let trail = ap (λ (v : SimView). length v.trail) c.courses_along-courses.ensures.seen in
    c.go_forth.ensures.chain k (omega (arith, bound, trail, first))
    ∙ c.courses_along-courses.ensures.chain k (omega (arith, bound, first))
    ∙ c.undo_all.ensures.chain k bound

pub returns-clause-words : goal.returns-clause-words
returns-clause-words c =
    let s : Held = c.args.sim.now in
    let t : Held = c.go_forth.new.sim in
    let end : c.cursor-end.result ≡ s.seen.cursor = c.cursor-end.ensures.cursor in
    let here : t.seen.cursor ≡ s.seen.cursor = ap (λ (v : SimView). v.cursor) c.go_forth.ensures.seen ∙ end in
    let first = ap (λ (a : Served). length a.sim.trail) c.undo_all.ensures.answer in
    let trail = ap (λ (v : SimView). length v.trail) c.courses_along-courses.ensures.seen in
    let within : s.seen.cursor ≤ length s.seen.trail = c.is_chained.ensures.within in
    let same : chain t s.seen.cursor ≡ chain s s.seen.cursor =
    c.go_forth.ensures.chain s.seen.cursor (omega (arith, within, trail, first))
    ∙ c.courses_along-courses.ensures.chain s.seen.cursor (omega (arith, within, first))
    ∙ c.undo_all.ensures.chain s.seen.cursor within in
    sym (chain_here t.words t.records t.seen.cursor (omega (arith, c.is_chained-2.ensures.count, c.is_chained-2.ensures.within)))
    ∙ ap (chain t) here
    ∙ same
    ∙ chain_here s.words s.records s.seen.cursor (omega (arith, c.is_chained.ensures.count, within))
