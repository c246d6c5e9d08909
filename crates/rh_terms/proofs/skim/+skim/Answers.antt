use Rattle.std.proofs.Common.{◌≡◌, ◌<◌, ◌-◌, ℕ, List, take, drop, length, true, false, Result, Ok, sym, ap, subst, ◌∙◌, arith}
use Rattle.std.specs.Prelude.{◌==◌}
use Rattle.std.specs.Borrow.{Bor}
use Rattle.std.proofs.lemmas.List.{take_rest}
use Rattle.std.proofs.lemmas.Bool.Decides.{nat_tests}
use Rattle.std.proofs.lemmas.Result.{err_from_is_err_and}
use Rattle.rh_terms.specs.declared.fault.Fault.{Fault}
use Rattle.rh_terms.specs.Bytes.{past_blank, begins}
use Rattle.rh_terms.specs.Faults.{Read, Fails, ReadsAs}
use Rattle.rh_terms.specs.Grammar.{next_at, inside}
use Rattle.rh_terms.specs.Kept.{behind}
use Rattle.rh_base.specs.Tree.{Trees, list, tuple}
use Rattle.rh_terms.proofs.Ahead.{list_at, tuple_at, word_term, too_deep, inside_none, inside_some, behind_under}
use Rattle.rh_terms.proofs.Ahead.{behind_goes_on, behind_closes, behind_fails_term, behind_fails_next, behind_shorter}
use Rattle.rh_terms.proofs.skim.+skim.Goals as goal

pub behind_elements-returns-in_err-after_term : goal.behind_elements-returns-in_err-after_term
behind_elements-returns-in_err-after_term t c =
    let p = err_from_is_err_and c.from_residual.result c.from_residual.ensures.1 in
    let e = c.in_err-after_term.field-0.0 in
    let P : Result (List ℕ) Fault → Type 0 = λ r. Fails e r in
    rw (p.1, p.2) (subst P c.elements.invariant (behind_fails_term e c.args.room c.args.close c.elements.rest.now c.in_err-after_term.ensures))

pub behind_elements-returns-in_err-goes_on : goal.behind_elements-returns-in_err-goes_on
behind_elements-returns-in_err-goes_on t c =
    let p = err_from_is_err_and c.from_residual-in_err-goes_on.result c.from_residual-in_err-goes_on.ensures.1 in
    let e = c.in_err-goes_on.field-0.0 in
    let P : Result (List ℕ) Fault → Type 0 = λ r. Fails e r in
    let next : Fails e (next_at c.args.close (past_blank c.in_ok-after_term.after_term.now)) = rw (← c.skip_blank.ensures.behind) c.in_err-goes_on.ensures in
    rw (p.1, p.2) (subst P c.elements.invariant
    (behind_fails_next e c.args.room c.args.close c.elements.rest.now c.in_ok-after_term.after_term.now c.in_ok-after_term.ensures next))

pub behind_elements-returns-then-not-goes_on : goal.behind_elements-returns-then-not-goes_on
behind_elements-returns-then-not-goes_on t c =
    let next : next_at c.args.close (past_blank c.in_ok-after_term.after_term.now) ≡ Ok (false, c.in_ok-goes_on.after.now) =
    cc (c.in_ok-goes_on.ensures, c.skip_blank.ensures.behind, c.if-not-goes_on.true) in
    sym c.elements.invariant ∙ behind_closes c.args.room c.args.close c.elements.rest.now c.in_ok-after_term.after_term.now c.in_ok-goes_on.after.now
    c.in_ok-after_term.ensures next

pub behind_elements-elements-smaller : goal.behind_elements-elements-smaller
behind_elements-elements-smaller t c =
    let next : next_at c.args.close (past_blank c.in_ok-after_term.after_term.now) ≡ Ok (true, c.in_ok-goes_on.after.now) =
    cc (c.in_ok-goes_on.ensures, c.skip_blank.ensures.behind, c.if-not-goes_on.false) in
    behind_shorter c.args.room c.args.close c.elements.rest.now c.in_ok-after_term.after_term.now c.in_ok-goes_on.after.now true c.in_ok-after_term.ensures next

pub behind_elements-elements-preserved : goal.behind_elements-elements-preserved
behind_elements-elements-preserved t c =
    let next : next_at c.args.close (past_blank c.in_ok-after_term.after_term.now) ≡ Ok (true, c.in_ok-goes_on.after.now) =
    cc (c.in_ok-goes_on.ensures, c.skip_blank.ensures.behind, c.if-not-goes_on.false) in
    behind_goes_on c.args.room c.args.close c.elements.rest.now c.in_ok-after_term.after_term.now c.in_ok-goes_on.after.now c.in_ok-after_term.ensures next
    ∙ c.elements.invariant

pub behind_inside-returns-then-room-eq0 : goal.behind_inside-returns-then-room-eq0
behind_inside-returns-then-room-eq0 t c =
    ap (λ (r : Read Trees). behind r) (too_deep c.args.room c.args.close c.args.bytes.now (grind (arith, nat_tests)))

pub behind_inside-returns-then-begins_with : goal.behind_inside-returns-then-begins_with
behind_inside-returns-then-begins_with t c =
    let room : 0 < c.args.room = grind (arith, nat_tests) in
    let test : begins (λ b. b == c.args.close) (past_blank c.args.bytes.now) ≡ true =
    rw c.skip_blank-first.ensures.behind at (sym c.begins_with.ensures.begins ∙ c.if-begins_with.true) in
    let rest : take (length c.skip_blank-first.result.now - 1) (drop 1 c.skip_blank-first.result.now) ≡ drop 1 (past_blank c.args.bytes.now) =
    take_rest c.skip_blank-first.result.now 1 ∙ ap (λ (l : List ℕ). drop 1 l) c.skip_blank-first.ensures.behind in
    rw rest (ap (λ (r : Read Trees). behind r) (inside_none c.args.room c.args.close c.args.bytes.now room test))

pub behind_inside-returns : goal.behind_inside-returns
behind_inside-returns t c =
    let room : 0 < c.args.room = grind (arith, nat_tests) in
    let test : begins (λ b. b == c.args.close) (past_blank c.args.bytes.now) ≡ false =
    rw c.skip_blank-first.ensures.behind at (sym c.begins_with.ensures.begins ∙ c.if-begins_with.false) in
    rw (inside_some c.args.room c.args.close c.args.bytes.now room test, ← c.skip_blank-first.ensures.behind) c.behind_elements.ensures

pub behind_term-returns-then-begins_with : goal.behind_term-returns-then-begins_with
behind_term-returns-then-begins_with t c =
    let here = list_at c.args.room c.args.bytes.now (sym c.begins_with.ensures.begins ∙ c.if-begins_with.true) in
    let inner : ReadsAs (λ (rest : Bor (List ℕ)). rest.now) c.behind_inside.result (behind (inside c.args.room 93 (drop 1 c.args.bytes.now))) =
    rw (take_rest c.args.bytes.now 1) at c.behind_inside.ensures in
    rw (here, behind_under list (inside c.args.room 93 (drop 1 c.args.bytes.now))) inner

pub behind_term-returns-then-begins_with-2 : goal.behind_term-returns-then-begins_with-2
behind_term-returns-then-begins_with-2 t c =
    let here = tuple_at c.args.room c.args.bytes.now (sym c.begins_with.ensures.begins ∙ c.if-begins_with.false)
    (sym c.begins_with-else-begins_with.ensures.begins ∙ c.if-begins_with-2.true) in
    let inner : ReadsAs (λ (rest : Bor (List ℕ)). rest.now) c.behind_inside-then-begins_with-2.result
    (behind (inside c.args.room 125 (drop 1 c.args.bytes.now))) = rw (take_rest c.args.bytes.now 1) at c.behind_inside-then-begins_with-2.ensures in
    rw (here, behind_under tuple (inside c.args.room 125 (drop 1 c.args.bytes.now))) inner

pub behind_term-returns-else-begins_with-2 : goal.behind_term-returns-else-begins_with-2
behind_term-returns-else-begins_with-2 t c =
    rw (word_term c.args.room c.args.bytes.now (sym c.begins_with.ensures.begins ∙ c.if-begins_with.false)
    (sym c.begins_with-else-begins_with.ensures.begins ∙ c.if-begins_with-2.false)) c.behind_word.ensures
