use Rattle.std.proofs.Common.{◌≡◌, ◌≤◌, ℕ, Option, length, get_or, set, ap, ◌∙◌, arith}
use Rattle.std.proofs.lemmas.List.{map-set}
use Rattle.rh_arena.specs.Words.{Words}
use Rattle.rh_arena.specs.SideBySide.{words_of}
use Rattle.rh_arena.specs.declared.words.EntryWords.{EntryWords}
use Rattle.rh_arena.proofs.SideBySide.{past_end, map-past, map-set_own}
use Rattle.rh_arena.proofs.links.Links.exchange_next.Goals as goal
use Rattle.rh_arena.proofs.links.Links.exchange_next.Goals.{in-Some, in_default}

-- the words, with a value for what is behind an entry
abbrev with_next : Words → ℕ → Option ℕ → Words
with_next w i v = record w { next = set w.next i v }

pub returns-clause-words : goal.returns-clause-words
returns-clause-words c =
    let entries = c.self.inside.entries.items in
    let lists = c.self.inside.lists.items in
    let i : ℕ = c.from.result in
    let v : Option ℕ = c.args.value.now in
    elim c.match-get_mut.branch [
      | in-Some w ↦ (let had : EntryWords = w.in-Some.there.now in
          let is : had ≡ get_or entries i had = w.in-Some.ensures.value in
          let now : EntryWords = record had { next = w.swap.new.x } in
          (λ k. words_of (w.self-inside-is k).entries.items (w.self-inside-is k).lists.items)
          ∙ (λ k. record (words_of entries lists) {
            prev = map-set_own (λ e. e.prev) entries i now had (ap (λ e. e.prev) is) k;
            next = map-set (λ e. e.next) entries i now k;
            owner = map-set_own (λ e. e.owner) entries i now had (ap (λ e. e.owner) is) k;
          })
          ∙ (λ k. with_next (c.self.view_is k) (c.from.ensures k) (w.swap.ensures.x_after k)))
      | in_default w ↦ (let past : length entries ≤ i = let end : c.self.inside.entries.len ≤ i = past_end _ i w.in_default.ensures.variant.1 in omega (arith, end, c.self.inside.entries.ok) in
          (λ k. words_of (w.self-inside-is k).entries.items (w.self-inside-is k).lists.items)
          ∙ (λ k. record (words_of entries lists) { next = map-past (λ e. e.next) entries i v past k })
          ∙ (λ k. with_next (c.self.view_is k) (c.from.ensures k) v))
    ]
