use Rattle.std.proofs.Common.{◌≡◌, ◌∙◌, true, sym, ap}
use Rattle.rh_state.specs.declared.edit.Edit.TheVariants.{Part}
use Rattle.rh_state.specs.Edits.{exchange, turned, is_done}
use Rattle.rh_state.proofs.Twice.{put-had, had-put}
use Rattle.rh_state.proofs.state.State.back.Goals as goal

pub returns-in-Part-clause-exact : goal.returns-in-Part-clause-exact
unfolding exchange
returns-in-Part-clause-exact c = rw (c.exchange_part.ensures.words, c.exchange_part.ensures.change) (put-had _ _)

pub returns-in-Part-clause-again : goal.returns-in-Part-clause-again
unfolding turned
returns-in-Part-clause-again c =
    let side : c.in-Part.side ≡ true = ap is_done (sym c.in-Part.is) ∙ c.requires.done in
    rw (c.exchange_part.ensures.words, c.exchange_part.ensures.change, had-put) (ap (λ s. Part s c.in-Part.change) (sym side) ∙ sym c.in-Part.is)
