use Rattle.std.proofs.Common.{◌≡◌, ◌-◌, ℕ, List, true, length, map, take, if◌then◌else◌, sym, ap, ◌∙◌}
use Rattle.std.specs.Borrow.{Bor}
use Rattle.std.proofs.lemmas.List.{length-map, take-map}
use Rattle.rh_explore_text.specs.Asks.{at_once_named, ends_within, time_named, soon}
use Rattle.rh_explore_text.proofs.asks.ask_named.Goals as goal

pub returns : goal.returns
returns c =
    let k = c.args.cluster.now in
    let words = c.args.words.now in
    let text = λ (w : Bor (List ℕ)). w.now in
    let texts = map text words in
    let yes : ends_within texts ≡ true = sym c.ends_within.ensures.within ∙ c.if-not-ends_within.false in
    let front : map text (take (length words - 2) words) ≡ take (length texts - 2) texts =
    sym (take-map text (length words - 2) words) ∙ ap (λ n. take (n - 2) texts) (sym (length-map words text)) in
    c.soon.ensures
    ∙ (λ i. soon (c.time_named.ensures i) (c.in_ok-asked.ensures i))
    ∙ ap (λ ws. soon (time_named texts) (at_once_named k ws)) front
    ∙ sym (ap (λ b. if b then soon (time_named texts) (at_once_named k (take (length texts - 2) texts)) else at_once_named k texts) yes)
