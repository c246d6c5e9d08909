use Rattle.std.proofs.Common.{◌≡◌, ◌≤◌, ℕ, Option, length, get_or, set, ap, ◌∙◌, arith}
use Rattle.std.proofs.lemmas.List.{map-set}
use Rattle.rh_arena.specs.Words.{Words}
use Rattle.rh_arena.specs.SideBySide.{words_of}
use Rattle.rh_arena.specs.declared.words.ListWords.{ListWords}
use Rattle.rh_arena.proofs.SideBySide.{past_end, map-past, map-set_own}
use Rattle.rh_arena.proofs.links.Links.exchange_tail.Goals as goal
use Rattle.rh_arena.proofs.links.Links.exchange_tail.Goals.{in-Some, in_default}

-- the words, with a value for the last entry of a list
abbrev with_tail : Words → ℕ → Option ℕ → Words
with_tail w i v = record w { tail = set w.tail i v }

pub returns-clause-words : goal.returns-clause-words
returns-clause-words c =
    let entries = c.self.inside.entries.items in
    let lists = c.self.inside.lists.items in
    let i : ℕ = c.from.result in
    let v : Option ℕ = c.args.value.now in
    elim c.match-get_mut.branch [
      | in-Some w ↦ (let had : ListWords = w.in-Some.there.now in
          let is : had ≡ get_or lists i had = w.in-Some.ensures.value in
          let now : ListWords = record had { tail = w.swap.new.x } in
          (λ k. words_of (w.self-inside-is k).entries.items (w.self-inside-is k).lists.items)
          ∙ (λ k. record (words_of entries lists) {
            head = map-set_own (λ e. e.head) lists i now had (ap (λ e. e.head) is) k;
            tail = map-set (λ e. e.tail) lists i now k;
            count = map-set_own (λ e. e.count) lists i now had (ap (λ e. e.count) is) k;
          })
          ∙ (λ k. with_tail (c.self.view_is k) (c.from.ensures k) (w.swap.ensures.x_after k)))
      | in_default w ↦ (let past : length lists ≤ i = let end : c.self.inside.lists.len ≤ i = past_end _ i w.in_default.ensures.variant.1 in omega (arith, end, c.self.inside.lists.ok) in
          (λ k. words_of (w.self-inside-is k).entries.items (w.self-inside-is k).lists.items)
          ∙ (λ k. record (words_of entries lists) { tail = map-past (λ e. e.tail) lists i v past k })
          ∙ (λ k. with_tail (c.self.view_is k) (c.from.ensures k) v))
    ]
