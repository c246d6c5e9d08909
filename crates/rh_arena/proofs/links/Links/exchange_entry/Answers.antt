use Rattle.std.proofs.Common.{◌≤◌, ℕ, length, set, ◌∙◌, arith}
use Rattle.std.proofs.lemmas.List.{map-set}
use Rattle.rh_arena.specs.Words.{Words}
use Rattle.rh_arena.specs.SideBySide.{words_of}
use Rattle.rh_arena.specs.declared.spot.Values.{Values}
use Rattle.rh_arena.specs.declared.words.EntryWords.{EntryWords}
use Rattle.rh_arena.proofs.SideBySide.{past_end, map-past}
use Rattle.rh_arena.proofs.links.Links.exchange_entry.Goals as goal
use Rattle.rh_arena.proofs.links.Links.exchange_entry.Goals.{in-Some, in_default}

-- the words, of which those of an entry are these
abbrev with_entry : Words → ℕ → EntryWords → Words
with_entry w i x = record w { prev = set w.prev i x.prev; next = set w.next i x.next; owner = set w.owner i x.owner }

pub returns-clause-words : goal.returns-clause-words
returns-clause-words c =
    let entries = c.self.inside.entries.items in
    let lists = c.self.inside.lists.items in
    let i : ℕ = c.from.result in
    let v : Values = c.args.values.now in
    let x : EntryWords = record { prev = v.prev; next = v.next; owner = v.owner } in
    elim c.match-get_mut.branch [
      | in-Some w ↦ (λ k. words_of (w.self-inside-is k).entries.items (w.self-inside-is k).lists.items)
          ∙ (λ k. record (words_of entries lists) {
            prev = map-set (λ e. e.prev) entries i x k;
            next = map-set (λ e. e.next) entries i x k;
            owner = map-set (λ e. e.owner) entries i x k;
          })
          ∙ (λ k. with_entry (c.self.view_is k) (c.from.ensures k) x)
      | in_default w ↦ (let past : length entries ≤ i = let end : c.self.inside.entries.len ≤ i = past_end _ i w.in_default.ensures.variant.1 in omega (arith, end, c.self.inside.entries.ok) in
          (λ k. words_of (w.self-inside-is k).entries.items (w.self-inside-is k).lists.items)
          ∙ (λ k. record (words_of entries lists) {
            prev = map-past (λ e. e.prev) entries i x.prev past k;
            next = map-past (λ e. e.next) entries i x.next past k;
            owner = map-past (λ e. e.owner) entries i x.owner past k;
          })
          ∙ (λ k. with_entry (c.self.view_is k) (c.from.ensures k) x))
    ]
