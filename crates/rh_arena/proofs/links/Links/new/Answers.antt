use Rattle.std.proofs.Common.{◌≡◌, None, replicate, ◌∙◌, arith}
use Rattle.std.proofs.lemmas.Grind.{common_steps}
use Rattle.rh_arena.proofs.SideBySide.{map-replicate}
use Rattle.rh_arena.specs.SideBySide.{words_of}
use Rattle.rh_arena.specs.declared.words.EntryWords.{EntryWords}
use Rattle.rh_arena.specs.declared.words.ListWords.{ListWords}
use Rattle.rh_arena.proofs.links.Links.new.Goals as goal

pub returns : goal.returns
returns c =
    let none : EntryWords = record { prev = None; next = None; owner = None } in
    let empty : ListWords = record { head = None; tail = None; count = 0 } in
    let entries : c.in_ok-vec.field-0.items ≡ replicate c.args.entries none =
    grind (arith, common_steps) in
    let lists : c.in_ok-vec-2.field-0.items ≡ replicate c.args.lists empty =
    grind (arith, common_steps) in
    (λ k. words_of (entries k) (lists k))
    ∙ (λ k. record {
      prev = map-replicate (λ e. e.prev) c.args.entries none k;
      next = map-replicate (λ e. e.next) c.args.entries none k;
      owner = map-replicate (λ e. e.owner) c.args.entries none k;
      head = map-replicate (λ e. e.head) c.args.lists empty k;
      tail = map-replicate (λ e. e.tail) c.args.lists empty k;
      count = map-replicate (λ e. e.count) c.args.lists empty k;
    })
