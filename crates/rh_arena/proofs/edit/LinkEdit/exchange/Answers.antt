use Rattle.std.proofs.Common.{◌≡◌, Bool, true, false, not, map, refl, ◌∙◌}
use Rattle.rh_arena.specs.Exchange.{exchange, turned, puts, had}
use Rattle.rh_arena.specs.Spots.{changes_at}
use Rattle.rh_arena.proofs.Exchanges.{puts_twice, had_twice}
use Rattle.rh_arena.proofs.Spots.{AreApart-at_spot}
use Rattle.rh_arena.proofs.edit.LinkEdit.exchange.Goals as goal

not_not : (b : Bool) → not (not b) ≡ b
not_not true = refl
not_not false = refl

pub returns-clause-exact : goal.returns-clause-exact
unfolding exchange
returns-clause-exact c =
    (λ k. puts (c.exchange.ensures.words k) (c.exchange.ensures.values k))
    ∙ puts_twice (changes_at c.self.inside.spot c.self.inside.values) c.args.links.now

pub returns-clause-again : goal.returns-clause-again
unfolding turned
returns-clause-again c =
    let different = AreApart-at_spot c.self.inside.spot c.self.inside.values c.self.invariant in
    (λ k. record {
      is_done = not_not c.self.inside.is_done k;
      changes = map (had (c.exchange.ensures.words k)) (c.exchange.ensures.values k);
    })
    ∙ (λ k. record {
      is_done = c.self.inside.is_done;
      changes = had_twice (changes_at c.self.inside.spot c.self.inside.values) c.args.links.now different k;
    })
    ∙ c.self.view_is
