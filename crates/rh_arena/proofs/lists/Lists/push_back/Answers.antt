use Rattle.std.proofs.Common.{◌≡◌, ◌<◌, ◌≤◌, ◌+◌, ℕ, None, not, ap, sym, subst, ◌∙◌, arith}
use Rattle.std.proofs.lemmas.List.{get_or_default}
use Rattle.rh_arena.specs.Words.{Words, entry_count, list_count, count_of, tail_of}
use Rattle.rh_arena.specs.Lists.{listed}
use Rattle.rh_arena.specs.Linking.{pushed}
use Rattle.rh_arena.specs.Exchange.{exchange, turned, puts}
use Rattle.rh_arena.specs.Spots.{changes_at, entry_in, list_in}
use Rattle.rh_arena.specs.WellFormed.{IsWellFormed}
use Rattle.rh_arena.proofs.Linking.{entry_count-pushed, list_count-pushed}
use Rattle.rh_arena.proofs.Pushes.{pushed_formed, pushed_listed, pushed_others, room_for_one}
use Rattle.rh_arena.proofs.Spots.{puts_pushed}
use Rattle.rh_arena.proofs.lists.Lists.push_back.Goals as goal

pub overflow_add-values : goal.overflow_add-values
overflow_add-values c =
    let h : c.list-there.result.count ≡ count_of c.args.self.now c.args.list =
    c.list-there.ensures.count ∙ ap (λ w. count_of w c.args.list) c.self.view_is in
    let formed : IsWellFormed c.args.self.now = subst IsWellFormed c.self.view_is c.self.invariant.formed in
    let few : entry_count c.args.self.now ≤ 65535 = subst (λ w. entry_count w ≤ 65535) c.self.view_is c.self.invariant.entries in
    let room : count_of c.args.self.now c.args.list < entry_count c.args.self.now =
    room_for_one c.args.self.now c.args.list c.args.entry formed c.requires.list c.requires.entry c.requires.free in
    omega (arith, h, few, room)

words_are : (c : goal.After-exchange) → c.exchange.new.links ≡ pushed c.args.self.now c.args.list c.args.entry
unfolding exchange
words_are c =
    let w : Words = c.args.self.now in
    let l : ℕ = c.args.list in
    let i : ℕ = c.args.entry in
    let last : c.list-there.result.tail ≡ tail_of w l = c.list-there.ensures.tail ∙ ap (λ w. tail_of w l) c.self.view_is in
    let count : c.list-there.result.count ≡ count_of w l = c.list-there.ensures.count ∙ ap (λ w. count_of w l) c.self.view_is in
    c.exchange.ensures.words ∙ (λ k. exchange (c.self.view_is k) (c.new-edit.ensures k))
    ∙ (λ k. puts w (changes_at (record { entry = i; list = l; before = last k; after = c.none.ensures k }) (record {
      prev = last k;
      next = c.none-2.ensures k;
      owner = c.to.ensures k;
      count = count k + 1;
      from_before = c.to-2.ensures k;
      from_behind = c.to-3.ensures k;
    })))
    ∙ puts_pushed w l i

formed : (c : goal.After-exchange) → IsWellFormed c.args.self.now
formed c = subst IsWellFormed c.self.view_is c.self.invariant.formed

pub invariant_of-self : goal.invariant_of-self
invariant_of-self c = record {
  formed = subst IsWellFormed (sym (words_are c))
      (pushed_formed c.args.self.now c.args.list c.args.entry (formed c) c.requires.list c.requires.entry c.requires.free);
  entries = subst (λ n. n ≤ 65535)
      (sym (ap entry_count (words_are c) ∙ entry_count-pushed c.args.self.now c.args.list c.args.entry ∙ sym (ap entry_count c.self.view_is)))
      c.self.invariant.entries;
  lists = subst (λ n. n ≤ 65535)
      (sym (ap list_count (words_are c) ∙ list_count-pushed c.args.self.now c.args.list c.args.entry ∙ sym (ap list_count c.self.view_is)))
      c.self.invariant.lists;
}

pub returns-clause-list : goal.returns-clause-list
returns-clause-list c = ap (λ w. listed w c.args.list) (words_are c)
    ∙ pushed_listed c.args.self.now c.args.list c.args.entry (formed c) c.requires.list c.requires.entry c.requires.free

pub returns-clause-others : goal.returns-clause-others
returns-clause-others c = λ m n. ap (λ w. listed w m) (words_are c)
    ∙ pushed_others c.args.self.now c.args.list c.args.entry (formed c) c.requires.list c.requires.entry c.requires.free m n

pub returns-clause-words : goal.returns-clause-words
returns-clause-words c = words_are c

pub returns-clause-entry_count : goal.returns-clause-entry_count
returns-clause-entry_count c = ap entry_count (words_are c) ∙ entry_count-pushed c.args.self.now c.args.list c.args.entry

pub returns-clause-list_count : goal.returns-clause-list_count
returns-clause-list_count c = ap list_count (words_are c) ∙ list_count-pushed c.args.self.now c.args.list c.args.entry

pub returns-clause-done : goal.returns-clause-done
unfolding turned
returns-clause-done c = ap (λ e. e.is_done) c.exchange.ensures.edit ∙ ap (λ e. not e.is_done) c.new-edit.ensures

-- the edit has the words of the same entry, with what they had
pub returns-clause-entry : goal.returns-clause-entry
unfolding turned
returns-clause-entry c = ap (λ e. entry_in e.changes) c.exchange.ensures.edit
    ∙ (λ k. entry_in (turned (c.self.view_is k) (c.new-edit.ensures k)).changes)

pub returns-clause-taken_from : goal.returns-clause-taken_from
unfolding turned
returns-clause-taken_from c =
    let w : Words = c.args.self.now in
    let inside : c.args.entry < entry_count w = c.requires.entry in
    ap (λ e. list_in e.changes) c.exchange.ensures.edit
    ∙ (λ k. list_in (turned (c.self.view_is k) (c.new-edit.ensures k)).changes)
    ∙ get_or_default w.owner c.args.entry _ None (omega (arith, inside, (formed c).owner))
    ∙ c.requires.free
