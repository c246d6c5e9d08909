use Rattle.std.proofs.Common.{◌≡◌, ◌<◌, Some, length, refl, ap, sym, ◌∙◌, arith}
use Rattle.std.proofs.lemmas.Option.{slice_get_read, slice_get-get_or}
use Rattle.std.specs.List.{slice_get}
use Rattle.rh_history.proofs.Overlays.{none_held, own_held, base_held, cell-reset, always_on_ok}
use Rattle.rh_history.proofs.draft.Draft.take.Given.{Over}
use Rattle.rh_history.proofs.draft.Draft.take.Goals as goal
use Rattle.rh_history.proofs.draft.Draft.take.Goals.{in-Some, in-None+in_ok-copy-in-None}

pub returns-then-at-len-clause-found : goal.returns-then-at-len-clause-found
returns-then-at-len-clause-found g c =
    let d = c.self.inside in
    none_held d.base.now d.own.items c.args.self.now c.self.invariant c.self.view_is c.args.at (omega (arith, c.if-at-len.true, c.len.ensures, d.own.ok.0))

-- what stands in the place of the cell
held : (g : Over) (c : goal.Joined-take g) → slice_get c.self.inside.own.items c.args.at ≡ Some c.take.result
held g c =
    let own = c.self.inside.own in
    slice_get_read own.items (length own.items) c.args.at c.index_mut.result.now refl (omega (arith, c.if-at-len.false, c.len.ensures, own.ok.0))
    c.index_mut.ensures.value
    ∙ ap Some (sym c.take.ensures.value)

pub returns-clause-found : goal.returns-clause-found
returns-clause-found g c =
    let d = c.self.inside in
    elim c.match-take.branch [
      | in-Some w ↦ rw w.result-is
          (own_held d.base.now d.own.items c.args.self.now c.self.invariant c.self.view_is c.args.at w.in-Some.value (held g c ∙ ap Some w.in-Some.is))
      | in-None+in_ok-copy-in-None w ↦
          let inside : c.args.at < length d.base.now = omega (arith, c.if-at-len.false, c.len.ensures, d.own.ok.0, c.self.invariant) in
          rw w.result-is
          (ap Some w.in_ok-copy-in-None.ensures
          ∙ sym (slice_get-get_or d.base.now c.args.at w.index-self-at.result inside)
          ∙ base_held d.base.now d.own.items c.args.self.now c.self.invariant c.self.view_is c.args.at (held g c ∙ ap Some w.in-None.is))
    ]

pub returns-clause-set : goal.returns-clause-set
returns-clause-set g c =
    let d = c.self.inside in
    always_on_ok c.match-take.result
    (λ value. cell-reset d.base.now d.own.items c.args.self.now c.self.invariant c.self.view_is c.args.at c.take.new.self value)
