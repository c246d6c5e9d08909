use Rattle.std.proofs.Common.{◌≡◌, true, false, List, refl, sym, ◌∙◌}
use Rattle.rh_arena.specs.SideBySide.{words_of}
use Rattle.rh_arena.specs.declared.words.EntryWords.{EntryWords}
use Rattle.rh_arena.specs.declared.words.ListWords.{ListWords}
use Rattle.rh_arena.proofs.SideBySide.{entries_from_words, lists_from_words}
use Rattle.rh_arena.proofs.links.Links.same.Goals as goal

-- equal words are of equal entries and equal lists
same_entries : (xs ys : List EntryWords) (ls ms : List ListWords) → words_of xs ls ≡ words_of ys ms → xs ≡ ys
same_entries xs ys ls ms e = entries_from_words xs ys (λ k. (e k).prev) (λ k. (e k).next) (λ k. (e k).owner)

same_lists : (xs ys : List EntryWords) (ls ms : List ListWords) → words_of xs ls ≡ words_of ys ms → ls ≡ ms
same_lists xs ys ls ms e = lists_from_words ls ms (λ k. (e k).head) (λ k. (e k).tail) (λ k. (e k).count)

pub returns-then-are_entries_same : goal.returns-then-are_entries_same
returns-then-are_entries_same c =
    let es : c.self.inside.entries.items ≡ c.other.inside.entries.items =
    sym c.deref.ensures.value ∙ c.if-are_entries_same.ensures.0 refl ∙ c.deref-2.ensures.value in (
      λ t. sym c.self.view_is
          ∙ (λ k. words_of (es k) ((sym c.deref-then-are_entries_same.ensures.value ∙ c.are_lists_same.ensures.0 t ∙ c.deref-then-are_entries_same-2.ensures.value) k))
          ∙ c.other.view_is,
      λ e. c.are_lists_same.ensures.1
          (c.deref-then-are_entries_same.ensures.value
          ∙ same_lists c.self.inside.entries.items c.other.inside.entries.items c.self.inside.lists.items c.other.inside.lists.items
          (c.self.view_is ∙ e ∙ sym c.other.view_is)
          ∙ sym c.deref-then-are_entries_same-2.ensures.value),
    )

pub returns-else-are_entries_same : goal.returns-else-are_entries_same
returns-else-are_entries_same c = (
  λ t. absurd (let no : false ≡ true = sym c.if-are_entries_same.false ∙ t in cc),
  λ e. c.are_entries_same.ensures.1
      (c.deref.ensures.value
      ∙ same_entries c.self.inside.entries.items c.other.inside.entries.items c.self.inside.lists.items c.other.inside.lists.items
      (c.self.view_is ∙ e ∙ sym c.other.view_is)
      ∙ sym c.deref-2.ensures.value),
)
