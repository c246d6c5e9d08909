use Rattle.std.proofs.Common.{◌≡◌, ◌<◌, ◌-◌, ◌∷◌, [], ◌++◌, ℕ, List, take, drop, length, true, false, Bor, Ok, Err, sym, ap, subst, ◌∙◌, arith, rules}
use Rattle.std.specs.Prelude.{◌==◌}
use Rattle.std.proofs.lemmas.List.{take_rest}
use Rattle.std.proofs.lemmas.Bool.Decides.{nat_tests}
use Rattle.std.proofs.lemmas.Result.{err_from_is_err_and}
use Rattle.rh_terms.specs.declared.keep.Next.TheVariants.{First}
use Rattle.rh_base.specs.declared.term.Term.{Term}
use Rattle.rh_base.specs.declared.term.Terms.{Terms}
use Rattle.rh_base.specs.Tree.{Tree, Trees, list, tuple, none, tree_of, trees_of, items_of}
use Rattle.rh_base.proofs.Trees.{tree_of-list, tree_of-tuple}
use Rattle.rh_terms.specs.Bytes.{past_blank, begins}
use Rattle.rh_terms.specs.Faults.{Read, ReadsAs, Fails, under}
use Rattle.rh_terms.specs.Grammar.{next_at, inside, term_at}
use Rattle.rh_terms.specs.Kept.{kept_trees, kept_next}
use Rattle.rh_terms.proofs.Ahead.{fails_with, too_deep, inside_none, inside_some, inside_past}
use Rattle.rh_terms.proofs.Cut.{behind_first, blank_text, next_text}
use Rattle.rh_terms.proofs.Kept.{kept_none, kept_goes_on, kept_closes, kept_fails_term, kept_fails_next, kept_list, kept_tuple_at, kept_word}
use Rattle.rh_terms.proofs.Kept.{kept_text, kept_shorter, whole_read}
use Rattle.rh_terms.proofs.Joined.{pushed_above}
use Rattle.rh_terms.proofs.nest.+nest.Goals as goal

-- what is seen of a list's elements that were read
abbrev elements_seen : Terms × Bor (List ℕ) → Trees × List ℕ
elements_seen x = (trees_of (items_of x.0), x.1.now)

-- ---- elements

pub elements_of-returns-in_err-term-clause-read : goal.elements_of-returns-in_err-term-clause-read
elements_of-returns-in_err-term-clause-read g t c =
    let p = err_from_is_err_and c.from_residual.result c.from_residual.ensures.1 in
    let e = c.in_err-term.field-0.0 in
    let P : Read Trees → Type 0 = λ r. Fails e r in
    rw (p.1, p.2) (subst P c.elements.invariant.so_far
    (kept_fails_term g.K.Keep.behind_key c.elements.next e c.args.room c.args.close (drop c.len-below.result c.elements.stack.items)
    c.elements.rest.now c.in_err-term.ensures.read))

pub elements_of-returns-in_err-goes_on-clause-read : goal.elements_of-returns-in_err-goes_on-clause-read
elements_of-returns-in_err-goes_on-clause-read g t c =
    let p = err_from_is_err_and c.from_residual-in_err-goes_on.result c.from_residual-in_err-goes_on.ensures.1 in
    let e = c.in_err-goes_on.field-0.0 in
    let P : Read Trees → Type 0 = λ r. Fails e r in
    let next : Fails e (next_at c.args.close (past_blank c.in_ok-term.after_term.now)) = rw (← c.skip_blank.ensures.behind) c.in_err-goes_on.ensures in
    rw (p.1, p.2) (subst P c.elements.invariant.so_far
    (kept_fails_next g.K.Keep.behind_key c.elements.next e c.args.room c.args.close (drop c.len-below.result c.elements.stack.items)
    c.in_ok-term.term c.elements.rest.now c.in_ok-term.after_term.now c.in_ok-term.ensures.read next))

pub elements_of-returns-then-not-goes_on-clause-read : goal.elements_of-returns-then-not-goes_on-clause-read
elements_of-returns-then-not-goes_on-clause-read g t c =
    let next : next_at c.args.close (past_blank c.in_ok-term.after_term.now) ≡ Ok (false, c.in_ok-goes_on.after.now) =
    cc (c.in_ok-goes_on.ensures, c.skip_blank.ensures.behind, c.if-not-goes_on.true) in
    let all : items_of c.of.result ≡ drop c.len-below.result c.elements.stack.items ++ c.in_ok-term.term ∷ [] =
    c.of.ensures ∙ c.in_ok-items.ensures.tail
    ∙ (pushed_above c.len-below.result c.elements.stack.items c.push.new.self.items c.in_ok-term.term c.elements.invariant.above
    (c.in_ok-push.ensures.items ∙ ap (λ (l : List Term). l ++ c.in_ok-term.term ∷ []) c.in_ok-term.ensures.stack)).1 in
    sym c.elements.invariant.so_far ∙ kept_closes g.K.Keep.behind_key c.elements.next c.args.room c.args.close (drop c.len-below.result c.elements.stack.items)
    (items_of c.of.result) c.in_ok-term.term c.elements.rest.now c.in_ok-term.after_term.now c.in_ok-goes_on.after.now c.in_ok-term.ensures.read next all

pub elements_of-returns-then-not-goes_on-clause-stack : goal.elements_of-returns-then-not-goes_on-clause-stack
elements_of-returns-then-not-goes_on-clause-stack g t c =
    c.in_ok-items.ensures.items
    ∙ (pushed_above c.len-below.result c.elements.stack.items c.push.new.self.items c.in_ok-term.term c.elements.invariant.above
    (c.in_ok-push.ensures.items ∙ ap (λ (l : List Term). l ++ c.in_ok-term.term ∷ []) c.in_ok-term.ensures.stack)).0
    ∙ c.elements.invariant.below

pub elements_of-elements-smaller : goal.elements_of-elements-smaller
elements_of-elements-smaller g t c =
    let next : next_at c.args.close (past_blank c.in_ok-term.after_term.now) ≡ Ok (true, c.in_ok-goes_on.after.now) =
    cc (c.in_ok-goes_on.ensures, c.skip_blank.ensures.behind, c.if-not-goes_on.false) in
    kept_shorter (kept_next g.K.Keep.behind_key c.elements.next) c.args.room c.args.close (tree_of c.in_ok-term.term) c.elements.rest.now
    c.in_ok-term.after_term.now c.in_ok-goes_on.after.now true c.in_ok-term.ensures.read next

pub elements_of-elements-preserved : goal.elements_of-elements-preserved
elements_of-elements-preserved g t c =
    let next : next_at c.args.close (past_blank c.in_ok-term.after_term.now) ≡ Ok (true, c.in_ok-goes_on.after.now) =
    cc (c.in_ok-goes_on.ensures, c.skip_blank.ensures.behind, c.if-not-goes_on.false) in
    let text = kept_text (kept_next g.K.Keep.behind_key c.elements.next) c.args.room (tree_of c.in_ok-term.term) c.elements.rest.now
    c.in_ok-term.after_term.now c.in_ok-term.ensures.read c.elements.invariant.text in
    let pushed = c.in_ok-push.ensures.items ∙ ap (λ (l : List Term). l ++ c.in_ok-term.term ∷ []) c.in_ok-term.ensures.stack in
    let above = pushed_above c.len-below.result c.elements.stack.items c.push.new.self.items c.in_ok-term.term c.elements.invariant.above pushed in
    record {
      so_far = rw c.next_behind-next.ensures (kept_goes_on g.K.Keep.behind_key c.elements.next c.args.room c.args.close
          (drop c.len-below.result c.elements.stack.items) _ c.in_ok-term.term c.elements.rest.now c.in_ok-term.after_term.now c.in_ok-goes_on.after.now c.in_ok-term.ensures.read next
          above.1 ∙ c.elements.invariant.so_far);
      text = next_text c.args.close (past_blank c.in_ok-term.after_term.now) true c.in_ok-goes_on.after.now c.requires.ascii next
          (blank_text c.in_ok-term.after_term.now text);
      known = c.in_ok-term.ensures.known;
      below = above.0 ∙ c.elements.invariant.below;
      above = above.2;
    }

-- a long list
pub elements_of-further_elements_of-requires : goal.elements_of-further_elements_of-requires
elements_of-further_elements_of-requires g t c =
    let next : next_at c.args.close (past_blank c.in_ok-term.after_term.now) ≡ Ok (true, c.in_ok-goes_on.after.now) =
    cc (c.in_ok-goes_on.ensures, c.skip_blank.ensures.behind, c.if-not-goes_on.false) in
    let text = kept_text (kept_next g.K.Keep.behind_key c.elements.next) c.args.room (tree_of c.in_ok-term.term) c.elements.rest.now
    c.in_ok-term.after_term.now c.in_ok-term.ensures.read c.elements.invariant.text in
    let after = next_text c.args.close (past_blank c.in_ok-term.after_term.now) true c.in_ok-goes_on.after.now c.requires.ascii next
    (blank_text c.in_ok-term.after_term.now text) in
    λ κs h. (search rules, (h, (after, (c.requires.ascii, c.in_ok-term.ensures.known))))

pub elements_of-returns-then-len-below-ge-MOST_ON_STACK-clause-read : goal.elements_of-returns-then-len-below-ge-MOST_ON_STACK-clause-read
elements_of-returns-then-len-below-ge-MOST_ON_STACK-clause-read g t c =
    let next : next_at c.args.close (past_blank c.in_ok-term.after_term.now) ≡ Ok (true, c.in_ok-goes_on.after.now) =
    cc (c.in_ok-goes_on.ensures, c.skip_blank.ensures.behind, c.if-not-goes_on.false) in
    let all : c.in_ok-many.many.items ≡ drop c.len-below.result c.elements.stack.items ++ c.in_ok-term.term ∷ [] =
    c.in_ok-many.ensures.tail
    ∙ (pushed_above c.len-below.result c.elements.stack.items c.push.new.self.items c.in_ok-term.term c.elements.invariant.above
    (c.in_ok-push.ensures.items ∙ ap (λ (l : List Term). l ++ c.in_ok-term.term ∷ []) c.in_ok-term.ensures.stack)).1 in
    subst (λ (r : Read Trees). ReadsAs elements_seen c.further_elements_of.result r)
    (kept_goes_on g.K.Keep.behind_key c.elements.next c.args.room c.args.close (drop c.len-below.result c.elements.stack.items)
    _ c.in_ok-term.term c.elements.rest.now c.in_ok-term.after_term.now c.in_ok-goes_on.after.now c.in_ok-term.ensures.read next all
    ∙ c.elements.invariant.so_far) (rw c.next_behind-next.ensures at c.further_elements_of.ensures.read)

-- ---- further elements

pub further_elements_of-returns-in_err-term-clause-read : goal.further_elements_of-returns-in_err-term-clause-read
further_elements_of-returns-in_err-term-clause-read g t c =
    let p = err_from_is_err_and c.from_residual.result c.from_residual.ensures.1 in
    let e = c.in_err-term.field-0.0 in
    let P : Read Trees → Type 0 = λ r. Fails e r in
    rw (p.1, p.2) (subst P c.elements.invariant.so_far
    (kept_fails_term g.K.Keep.behind_key c.elements.next e c.args.room c.args.close c.elements.items.items c.elements.rest.now c.in_err-term.ensures.read))

pub further_elements_of-returns-in_err-goes_on-clause-read : goal.further_elements_of-returns-in_err-goes_on-clause-read
further_elements_of-returns-in_err-goes_on-clause-read g t c =
    let p = err_from_is_err_and c.from_residual-in_err-goes_on.result c.from_residual-in_err-goes_on.ensures.1 in
    let e = c.in_err-goes_on.field-0.0 in
    let P : Read Trees → Type 0 = λ r. Fails e r in
    let next : Fails e (next_at c.args.close (past_blank c.in_ok-term.after_term.now)) = rw (← c.skip_blank.ensures.behind) c.in_err-goes_on.ensures in
    rw (p.1, p.2) (subst P c.elements.invariant.so_far
    (kept_fails_next g.K.Keep.behind_key c.elements.next e c.args.room c.args.close c.elements.items.items c.in_ok-term.term c.elements.rest.now
    c.in_ok-term.after_term.now c.in_ok-term.ensures.read next))

pub further_elements_of-returns-then-not-goes_on-clause-read : goal.further_elements_of-returns-then-not-goes_on-clause-read
further_elements_of-returns-then-not-goes_on-clause-read g t c =
    let next : next_at c.args.close (past_blank c.in_ok-term.after_term.now) ≡ Ok (false, c.in_ok-goes_on.after.now) =
    cc (c.in_ok-goes_on.ensures, c.skip_blank.ensures.behind, c.if-not-goes_on.true) in
    let all : items_of c.of.result ≡ c.elements.items.items ++ c.in_ok-term.term ∷ [] =
    cc (c.of.ensures, c.shrink_to_fit.ensures.items, c.in_ok-push.ensures.items) in
    sym c.elements.invariant.so_far ∙ kept_closes g.K.Keep.behind_key c.elements.next c.args.room c.args.close c.elements.items.items
    (items_of c.of.result) c.in_ok-term.term c.elements.rest.now c.in_ok-term.after_term.now c.in_ok-goes_on.after.now c.in_ok-term.ensures.read next all

pub further_elements_of-elements-smaller : goal.further_elements_of-elements-smaller
further_elements_of-elements-smaller g t c =
    let next : next_at c.args.close (past_blank c.in_ok-term.after_term.now) ≡ Ok (true, c.in_ok-goes_on.after.now) =
    cc (c.in_ok-goes_on.ensures, c.skip_blank.ensures.behind, c.if-not-goes_on.false) in
    kept_shorter (kept_next g.K.Keep.behind_key c.elements.next) c.args.room c.args.close (tree_of c.in_ok-term.term) c.elements.rest.now
    c.in_ok-term.after_term.now c.in_ok-goes_on.after.now true c.in_ok-term.ensures.read next

pub further_elements_of-elements-preserved : goal.further_elements_of-elements-preserved
further_elements_of-elements-preserved g t c =
    let next : next_at c.args.close (past_blank c.in_ok-term.after_term.now) ≡ Ok (true, c.in_ok-goes_on.after.now) =
    cc (c.in_ok-goes_on.ensures, c.skip_blank.ensures.behind, c.if-not-goes_on.false) in
    let text = kept_text (kept_next g.K.Keep.behind_key c.elements.next) c.args.room (tree_of c.in_ok-term.term) c.elements.rest.now
    c.in_ok-term.after_term.now c.in_ok-term.ensures.read c.elements.invariant.text in
    record {
      so_far = rw c.next_behind-next.ensures (kept_goes_on g.K.Keep.behind_key c.elements.next c.args.room c.args.close c.elements.items.items
          _ c.in_ok-term.term c.elements.rest.now c.in_ok-term.after_term.now c.in_ok-goes_on.after.now c.in_ok-term.ensures.read next
          c.in_ok-push.ensures.items ∙ c.elements.invariant.so_far);
      text = next_text c.args.close (past_blank c.in_ok-term.after_term.now) true c.in_ok-goes_on.after.now c.requires.ascii next
          (blank_text c.in_ok-term.after_term.now text);
      known = c.in_ok-term.ensures.known;
      stack = c.in_ok-term.ensures.stack ∙ c.elements.invariant.stack;
    }

-- ---- what stands in a list or a tuple

pub terms_inside-returns-then-room-eq0-clause-read : goal.terms_inside-returns-then-room-eq0-clause-read
terms_inside-returns-then-room-eq0-clause-read g t c =
    ap (λ (r : Read Trees). under (kept_trees g.K.Keep.behind_key c.args.next) r)
    (too_deep c.args.room c.args.close c.args.bytes.now (grind (arith, nat_tests)))

pub terms_inside-returns-then-begins_with-clause-read : goal.terms_inside-returns-then-begins_with-clause-read
terms_inside-returns-then-begins_with-clause-read g t c =
    let room : 0 < c.args.room = grind (arith, nat_tests) in
    let test : begins (λ b. b == c.args.close) (past_blank c.args.bytes.now) ≡ true =
    rw c.skip_blank-first.ensures.behind at (sym c.begins_with.ensures.begins ∙ c.if-begins_with.true) in
    let rest : take (length c.skip_blank-first.result.now - 1) (drop 1 c.skip_blank-first.result.now) ≡ drop 1 (past_blank c.args.bytes.now) =
    take_rest c.skip_blank-first.result.now 1 ∙ ap (λ (l : List ℕ). drop 1 l) c.skip_blank-first.ensures.behind in
    let nothing : trees_of (items_of c.of.result) ≡ kept_trees g.K.Keep.behind_key c.args.next none =
    ap trees_of (c.of.ensures ∙ c.new.ensures.items) ∙ sym (kept_none g.K.Keep.behind_key c.args.next) in
    rw (rest, nothing) (ap (λ (r : Read Trees). under (kept_trees g.K.Keep.behind_key c.args.next) r)
    (inside_none c.args.room c.args.close c.args.bytes.now room test))

pub terms_inside-elements_of-requires : goal.terms_inside-elements_of-requires
terms_inside-elements_of-requires g t c =
    λ κs h. (search rules, (h, (rw c.skip_blank-first.ensures.behind (blank_text c.args.bytes.now c.requires.text), (c.requires.ascii, c.requires.known))))

pub terms_inside-returns-clause-read : goal.terms_inside-returns-clause-read
terms_inside-returns-clause-read g t c =
    let room : 0 < c.args.room = grind (arith, nat_tests) in
    let test : begins (λ b. b == c.args.close) (past_blank c.args.bytes.now) ≡ false =
    rw c.skip_blank-first.ensures.behind at (sym c.begins_with.ensures.begins ∙ c.if-begins_with.false) in
    rw (inside_some c.args.room c.args.close c.args.bytes.now room test, ← c.skip_blank-first.ensures.behind) c.elements_of.ensures.read

-- ---- a list

pub list_of-terms_inside-requires : goal.list_of-terms_inside-requires
list_of-terms_inside-requires g t c =
    λ κs h. (search rules, (h, (behind_first c.args.bytes.now 91 c.requires.opens (omega arith) c.requires.text, (omega arith, c.requires.known))))

pub list_of-returns-else-again-clause-read : goal.list_of-returns-else-again-clause-read
list_of-returns-else-again-clause-read g t c =
    kept_list g.K.Keep.behind_key c.args.keep c.args.room c.args.bytes.now _ c.requires.opens (ap (inside c.args.room 93) (take_rest c.args.bytes.now 1)) elements_seen
    c.terms_inside.result c.terms_inside.ensures.read

-- its first element, or its end, is looked for before it is read
inner_is : (room : ℕ) (bs first inner : List ℕ) → first ≡ drop 1 bs → inner ≡ past_blank first → inside room 93 inner ≡ inside room 93 (drop 1 bs)
inner_is room bs first inner is at = ap (inside room 93) at ∙ inside_past room 93 first ∙ ap (inside room 93) is

pub outermost_list_of-terms_inside-requires : goal.outermost_list_of-terms_inside-requires
outermost_list_of-terms_inside-requires g t c =
    let text = blank_text _ (behind_first c.args.bytes.now 91 c.requires.opens (omega arith) c.requires.text) in
    λ κs h. (search rules, (h, (rw c.skip_blank-inner.ensures.behind text, (omega arith, c.requires.known))))

pub outermost_list_of-returns-then-begins_with-clause-read : goal.outermost_list_of-returns-then-begins_with-clause-read
outermost_list_of-returns-then-begins_with-clause-read g t c =
    kept_list g.K.Keep.behind_key c.args.keep c.args.room c.args.bytes.now _ c.requires.opens
    (inner_is c.args.room c.args.bytes.now _ _ (take_rest c.args.bytes.now 1) c.skip_blank-inner.ensures.behind) elements_seen
    c.terms_inside.result c.terms_inside.ensures.read

pub outermost_list_of-returns-in-Some-clause-read : goal.outermost_list_of-returns-in-Some-clause-read
outermost_list_of-returns-in-Some-clause-read g t c =
    whole_read g.K.Keep.behind_key c.args.keep c.requires.whole (term_at c.args.room c.args.bytes.now) ∙ c.in-Some.ensures

pub outermost_list_of-terms_inside-requires-2 : goal.outermost_list_of-terms_inside-requires-2
outermost_list_of-terms_inside-requires-2 g t c =
    let text = blank_text _ (behind_first c.args.bytes.now 91 c.requires.opens (omega arith) c.requires.text) in
    λ κs h. (
      search rules,
      (h, (rw c.skip_blank-inner.ensures.behind text, (omega arith, record { kept = c.requires.known.kept; skipped = c.requires.known.skipped }))),
    )

pub outermost_list_of-returns-in_err-terms-clause-read : goal.outermost_list_of-returns-in_err-terms-clause-read
outermost_list_of-returns-in_err-terms-clause-read g t c =
    let p = err_from_is_err_and c.from_residual.result c.from_residual.ensures.1 in
    rw (p.1, p.2) (kept_list g.K.Keep.behind_key c.args.keep c.args.room c.args.bytes.now _ c.requires.opens
    (inner_is c.args.room c.args.bytes.now _ _ (take_rest c.args.bytes.now 1) c.skip_blank-inner.ensures.behind) elements_seen
    (Err c.in_err-terms.field-0.0) c.in_err-terms.ensures.read)

pub outermost_list_of-remember-requires-clause-read : goal.outermost_list_of-remember-requires-clause-read
outermost_list_of-remember-requires-clause-read g t c =
    sym (whole_read g.K.Keep.behind_key c.args.keep c.requires.whole (term_at c.args.room c.args.bytes.now))
    ∙ kept_list g.K.Keep.behind_key c.args.keep c.args.room c.args.bytes.now _ c.requires.opens
    (inner_is c.args.room c.args.bytes.now _ _ (take_rest c.args.bytes.now 1) c.skip_blank-inner.ensures.behind) elements_seen
    (Ok (c.in_ok-terms.terms, c.in_ok-terms.rest)) c.in_ok-terms.ensures.read

pub outermost_list_of-returns-clause-read : goal.outermost_list_of-returns-clause-read
outermost_list_of-returns-clause-read g t c =
    kept_list g.K.Keep.behind_key c.args.keep c.args.room c.args.bytes.now _ c.requires.opens
    (inner_is c.args.room c.args.bytes.now _ _ (take_rest c.args.bytes.now 1) c.skip_blank-inner.ensures.behind) elements_seen
    (Ok (c.in_ok-terms.terms, c.in_ok-terms.rest)) c.in_ok-terms.ensures.read
    ∙ ap (λ (us : Trees). Ok (list us, c.in_ok-terms.rest.now)) (sym c.remember.ensures.list)

-- ---- a term

pub term_of-terms_inside-requires : goal.term_of-terms_inside-requires
term_of-terms_inside-requires g t c =
    λ κs h. (
      search rules,
      (
        h,
        (
          behind_first c.args.bytes.now 123 (sym c.begins_with-else-begins_with.ensures.begins ∙ c.if-begins_with-2.true) (omega arith) c.requires.text,
          (omega arith, c.requires.known),
        ),
      ),
    )

pub term_of-returns-in_err-terms-clause-read : goal.term_of-returns-in_err-terms-clause-read
term_of-returns-in_err-terms-clause-read g t c =
    let p = err_from_is_err_and c.from_residual.result c.from_residual.ensures.1 in
    rw (p.1, p.2) c.in_err-terms.ensures.read

pub term_of-returns-in_err-terms-2-clause-read : goal.term_of-returns-in_err-terms-2-clause-read
term_of-returns-in_err-terms-2-clause-read g t c =
    let p = err_from_is_err_and c.from_residual-in_err-terms-2.result c.from_residual-in_err-terms-2.ensures.1 in
    let e = c.in_err-terms-2.field-0.0 in
    let here = kept_tuple_at g.K.Keep.behind_key c.args.keep c.args.room c.args.bytes.now (sym c.begins_with.ensures.begins ∙ c.if-begins_with.false)
    (sym c.begins_with-else-begins_with.ensures.begins ∙ c.if-begins_with-2.true) in
    let read : Read Trees = under (kept_trees g.K.Keep.behind_key (First c.args.keep)) (inside c.args.room 125 (drop 1 c.args.bytes.now)) in
    let inner : Fails e read = rw (take_rest c.args.bytes.now 1) at c.in_err-terms-2.ensures.read in
    rw (p.1, p.2, here) (fails_with e read (λ (x : Trees × List ℕ). (tuple x.0, x.1)) inner)

pub term_of-returns-in_ok-terms-clause-read : goal.term_of-returns-in_ok-terms-clause-read
term_of-returns-in_ok-terms-clause-read g t c =
    c.in_ok-terms.ensures.read ∙ ap (λ (u : Tree). Ok (u, c.in_ok-terms.rest.now)) (sym (tree_of-list c.in_ok-terms.terms))

pub term_of-returns-in_ok-terms-2-clause-read : goal.term_of-returns-in_ok-terms-2-clause-read
term_of-returns-in_ok-terms-2-clause-read g t c =
    let here = kept_tuple_at g.K.Keep.behind_key c.args.keep c.args.room c.args.bytes.now (sym c.begins_with.ensures.begins ∙ c.if-begins_with.false)
    (sym c.begins_with-else-begins_with.ensures.begins ∙ c.if-begins_with-2.true) in
    let read : Read Trees = under (kept_trees g.K.Keep.behind_key (First c.args.keep)) (inside c.args.room 125 (drop 1 c.args.bytes.now)) in
    let inner : read ≡ Ok (trees_of (items_of c.in_ok-terms-2.terms), c.in_ok-terms-2.rest.now) =
    rw (take_rest c.args.bytes.now 1) at c.in_ok-terms-2.ensures.read in
    here ∙ ap (λ (r : Read Trees). under tuple r) inner ∙ ap (λ (u : Tree). Ok (u, c.in_ok-terms-2.rest.now)) (sym (tree_of-tuple c.in_ok-terms-2.terms))

pub term_of-returns-else-begins_with-2-clause-read : goal.term_of-returns-else-begins_with-2-clause-read
term_of-returns-else-begins_with-2-clause-read g t c =
    rw (kept_word g.K.Keep.behind_key c.args.keep c.args.room c.args.bytes.now (sym c.begins_with.ensures.begins ∙ c.if-begins_with.false)
    (sym c.begins_with-else-begins_with.ensures.begins ∙ c.if-begins_with-2.false)) c.word_of.ensures
