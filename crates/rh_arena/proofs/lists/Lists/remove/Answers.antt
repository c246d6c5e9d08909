use Rattle.std.proofs.Common.{◌≡◌, ◌<◌, ◌≤◌, ◌-◌, ℕ, length, Some, None, not, ap, sym, subst, ◌∙◌, arith}
use Rattle.std.specs.List.{Contains}
use Rattle.std.proofs.lemmas.List.{get_or_default}
use Rattle.rh_arena.specs.Words.{Words, entry_count, list_count, prev_of, next_of, count_of, owner_of}
use Rattle.rh_arena.specs.Lists.{listed}
use Rattle.rh_arena.specs.Linking.{removed}
use Rattle.rh_arena.specs.Exchange.{exchange, turned, puts}
use Rattle.rh_arena.specs.Spots.{changes_at, entry_in, list_in}
use Rattle.rh_arena.specs.WellFormed.{IsWellFormed}
use Rattle.rh_arena.proofs.Linking.{entry_count-removed, list_count-removed}
use Rattle.rh_arena.proofs.Reading.{owner_inside, entry_inside, count_listed, not_own_prev, not_own_next}
use Rattle.rh_arena.proofs.Removes.{removed_formed, removed_listed, removed_others}
use Rattle.rh_arena.proofs.Spots.{puts_removed}
use Rattle.rh_arena.proofs.lists.Lists.remove.Goals as goal

pub list-count-requires : goal.list-count-requires
list-count-requires c =
    let formed : IsWellFormed c.args.self.now = subst IsWellFormed c.self.view_is c.self.invariant.formed in
    let owner : owner_of c.args.self.now c.args.entry ≡ Some c.in-Some.list =
    sym (c.entry-there.ensures.owner ∙ ap (λ w. owner_of w c.args.entry) c.self.view_is) ∙ sym c.get.ensures ∙ c.in-Some.is in
    subst (λ w. c.in-Some.list < list_count w) (sym c.self.view_is) (owner_inside c.args.self.now c.in-Some.list c.args.entry formed owner)

pub overflow_sub-values : goal.overflow_sub-values
overflow_sub-values c =
    let w : Words = c.args.self.now in
    let l : ℕ = c.in-Some.list in
    let formed : IsWellFormed w = subst IsWellFormed c.self.view_is c.self.invariant.formed in
    let owner : owner_of w c.args.entry ≡ Some l =
    sym (c.entry-there.ensures.owner ∙ ap (λ w. owner_of w c.args.entry) c.self.view_is) ∙ sym c.get.ensures ∙ c.in-Some.is in
    let inside : l < list_count w = owner_inside w l c.args.entry formed owner in
    let is : count_of w l ≡ length (listed w l) = count_listed w l formed inside in
    let same : c.list-count.result.count ≡ count_of w l = c.list-count.ensures.count ∙ ap (λ w. count_of w l) c.self.view_is in
    let there : Contains (listed w l) c.args.entry = (formed.owners c.args.entry l).0 owner in
    omega (arith, same, is, there.1)

pub new-edit-requires : goal.new-edit-requires
new-edit-requires c =
    let w : Words = c.args.self.now in
    let l : ℕ = c.in-Some.list in
    let i : ℕ = c.args.entry in
    let formed : IsWellFormed w = subst IsWellFormed c.self.view_is c.self.invariant.formed in
    let owner : owner_of w i ≡ Some l = sym (c.entry-there.ensures.owner ∙ ap (λ w. owner_of w i) c.self.view_is) ∙ sym c.get.ensures ∙ c.in-Some.is in
    let p : c.entry-there.result.prev ≡ prev_of w i = c.entry-there.ensures.prev ∙ ap (λ w. prev_of w i) c.self.view_is in
    let n : c.entry-there.result.next ≡ next_of w i = c.entry-there.ensures.next ∙ ap (λ w. next_of w i) c.self.view_is in
    record { before = λ e. not_own_prev w l i formed owner (sym p ∙ e); after = λ e. not_own_next w l i formed owner (sym n ∙ e) }

owner_is : (c : goal.After-exchange) → owner_of c.args.self.now c.args.entry ≡ Some c.in-Some.list
owner_is c = sym (c.entry-there.ensures.owner ∙ ap (λ w. owner_of w c.args.entry) c.self.view_is) ∙ sym c.get.ensures ∙ c.in-Some.is

words_are : (c : goal.After-exchange) → c.exchange.new.links ≡ removed c.args.self.now c.in-Some.list c.args.entry
unfolding exchange
words_are c =
    let w : Words = c.args.self.now in
    let l : ℕ = c.in-Some.list in
    let i : ℕ = c.args.entry in
    let count : c.list-count.result.count ≡ count_of w l = c.list-count.ensures.count ∙ ap (λ w. count_of w l) c.self.view_is in
    let p : c.entry-there.result.prev ≡ prev_of w i = c.entry-there.ensures.prev ∙ ap (λ w. prev_of w i) c.self.view_is in
    let n : c.entry-there.result.next ≡ next_of w i = c.entry-there.ensures.next ∙ ap (λ w. next_of w i) c.self.view_is in
    c.exchange.ensures.words ∙ (λ k. exchange (c.self.view_is k) (c.new-edit.ensures k))
    ∙ (λ k. puts w (changes_at (record { entry = i; list = l; before = p k; after = n k }) (record {
      prev = p k;
      next = n k;
      owner = c.none.ensures k;
      count = count k - 1;
      from_before = n k;
      from_behind = p k;
    })))
    ∙ puts_removed w l i

-- the list is the one that the entry is in
list_is : (c : goal.After-exchange) (l : ℕ) → owner_of c.args.self.now c.args.entry ≡ Some l → c.in-Some.list ≡ l
list_is c l e = let q : Some c.in-Some.list ≡ Some l = sym (owner_is c) ∙ e in cc

formed : (c : goal.After-exchange) → IsWellFormed c.args.self.now
formed c = subst IsWellFormed c.self.view_is c.self.invariant.formed

pub invariant_of-self : goal.invariant_of-self
invariant_of-self c = record {
  formed = subst IsWellFormed (sym (words_are c)) (removed_formed c.args.self.now c.in-Some.list c.args.entry (formed c) (owner_is c));
  entries = subst (λ n. n ≤ 65535)
      (sym (ap entry_count (words_are c) ∙ entry_count-removed c.args.self.now c.in-Some.list c.args.entry ∙ sym (ap entry_count c.self.view_is)))
      c.self.invariant.entries;
  lists = subst (λ n. n ≤ 65535)
      (sym (ap list_count (words_are c) ∙ list_count-removed c.args.self.now c.in-Some.list c.args.entry ∙ sym (ap list_count c.self.view_is)))
      c.self.invariant.lists;
}

pub returns-clause-words : goal.returns-clause-words
returns-clause-words c = λ l e. words_are c ∙ ap (λ (l : ℕ). removed c.args.self.now l c.args.entry) (list_is c l e)

pub returns-clause-list : goal.returns-clause-list
returns-clause-list c = λ l e. ap (λ w. listed w l) (returns-clause-words c l e) ∙ removed_listed c.args.self.now l c.args.entry (formed c) e

pub returns-clause-others : goal.returns-clause-others
returns-clause-others c = λ m n. ap (λ w. listed w m) (words_are c)
    ∙ removed_others c.args.self.now c.in-Some.list c.args.entry (formed c) (owner_is c) m (λ e. n (owner_is c ∙ ap Some (sym e)))

pub returns-clause-entry_count : goal.returns-clause-entry_count
returns-clause-entry_count c = ap entry_count (words_are c) ∙ entry_count-removed c.args.self.now c.in-Some.list c.args.entry

pub returns-clause-list_count : goal.returns-clause-list_count
returns-clause-list_count c = ap list_count (words_are c) ∙ list_count-removed c.args.self.now c.in-Some.list c.args.entry

pub returns-clause-done : goal.returns-clause-done
unfolding turned
returns-clause-done c = ap (λ e. e.is_done) c.exchange.ensures.edit ∙ ap (λ e. not e.is_done) c.new-edit.ensures

-- the edit has the words of the same entry, with what they had
pub returns-clause-entry : goal.returns-clause-entry
unfolding turned
returns-clause-entry c = ap (λ e. entry_in e.changes) c.exchange.ensures.edit
    ∙ (λ k. entry_in (turned (c.self.view_is k) (c.new-edit.ensures k)).changes)

pub returns-clause-taken_from : goal.returns-clause-taken_from
unfolding turned
returns-clause-taken_from c =
    let w : Words = c.args.self.now in
    let inside = entry_inside w c.in-Some.list c.args.entry (formed c) (owner_is c) in
    ap (λ e. list_in e.changes) c.exchange.ensures.edit
    ∙ (λ k. list_in (turned (c.self.view_is k) (c.new-edit.ensures k)).changes)
    ∙ get_or_default w.owner c.args.entry _ None (omega (arith, inside, (formed c).owner))
