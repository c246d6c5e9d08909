use Rattle.std.proofs.Common.{◌≡◌, ◌<◌, ◌≤◌, ◌+◌, suc, List, length, get_or, ap, sym, subst, ◌∙◌, arith}
use Rattle.std.proofs.Math.ListN.{set}
use Rattle.rh_state.specs.Stored.{read}
use Rattle.rh_courses.specs.Courses.{CourseView}
use Rattle.rh_courses.specs.Working.{noted, AreOf}
use Rattle.rh_courses.proofs.Noting.{so_far, next_stands, next_notes, all_note, still_of}
use Rattle.rh_courses.proofs.walk.note.Goals as goal

pub courses-preserved : goal.courses-preserved
courses-preserved c =
    let s = read c.args.state.now in
    let cs = c.args.courses.now.items in
    let i = c.courses.index in
    let d = c.index_mut.result.now in
    let inside : i < length cs = omega (arith, c.courses-test.true, c.len-index-end.ensures) in
    let here : d ≡ get_or cs i d =
    c.index_mut.ensures.value ∙ ap (λ (ks : List CourseView). get_or ks i d) c.courses.invariant ∙ next_stands s cs i d inside in
    let one : suc i ≡ i + 1 = omega arith in
    ap (λ (ks : List CourseView). set ks i c.note.new.self) c.courses.invariant
    ∙ ap (set (so_far s i cs) i) (c.in_ok-note.ensures.noted ∙ ap (λ k. noted k s) here)
    ∙ next_notes s cs i d inside
    ∙ ap (λ k. so_far s k cs) one

pub returns-clause-apps : goal.returns-clause-apps
returns-clause-apps c = λ v are.
    let s = read c.args.state.now in
    let cs = c.args.courses.now.items in
    let all : length cs ≤ c.courses.index = omega (arith, c.courses-test.false, c.len-index-end.ensures) in
    subst (AreOf v) (sym (c.courses.invariant ∙ all_note s cs c.courses.index all)) (still_of v cs s are)
