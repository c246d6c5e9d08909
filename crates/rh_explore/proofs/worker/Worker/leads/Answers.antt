use Rattle.std.proofs.Common.{[], List, refl, sym, ◌∙◌, subst, arith}
use Rattle.std.proofs.lemmas.List.{take_all}
use Rattle.rh_state.specs.Stored.{Stored, read}
use Rattle.rh_trace.specs.Validity.{IsValid}
use Rattle.rh_explore.specs.declared.moves.Move.{Move}
use Rattle.rh_explore.specs.Exploring.{scope_of}
use Rattle.rh_explore.specs.Families.{knowing, LeadsSo, AreLeads}
use Rattle.rh_explore.proofs.Leading.{told_more, is_added, is_left_out}
use Rattle.rh_explore.proofs.worker.Worker.leads.Goals as goal

pub moves-init : goal.moves-init
moves-init c = record {
  state = refl;
  idle = c.requires.idle;
  entered = refl;
  leads = ([], tt, c.new-leads.ensures.items);
}

pub lead-requires-clause-valid : goal.lead-requires-clause-valid
lead-requires-clause-valid c = subst (λ (z : Stored). IsValid (read z)) (sym c.moves.invariant.state) c.requires.valid

pub moves-preserved-then-not-is_told : goal.moves-preserved-then-not-is_told
moves-preserved-then-not-is_told c =
    let s = c.args.search.now in
    let i = c.moves.invariant in
    let l = c.in_ok-lead.lead in
    record {
      state = c.in_ok-lead.ensures.state ∙ i.state;
      idle = c.in_ok-lead.ensures.idle;
      entered = c.in_ok-lead.ensures.entered ∙ i.entered;
      leads = told_more (scope_of s) s.asks.now (knowing c.args.known.now) c.args.state.now c.moves.state s.moves.now c.moves.one-index _ c.moves.leads.items
          c.moves.leads.items l i.state c.moves-test.true i.leads c.in_ok-lead.ensures.lead
          (is_left_out c.moves.leads.items l (sym c.is_told.ensures ∙ c.if-not-is_told.true));
    }

pub moves-preserved : goal.moves-preserved
moves-preserved c =
    let s = c.args.search.now in
    let i = c.moves.invariant in
    let l = c.in_ok-lead.lead in
    record {
      state = c.in_ok-lead.ensures.state ∙ i.state;
      idle = c.in_ok-lead.ensures.idle;
      entered = c.in_ok-lead.ensures.entered ∙ i.entered;
      leads = told_more (scope_of s) s.asks.now (knowing c.args.known.now) c.args.state.now c.moves.state s.moves.now c.moves.one-index _ c.moves.leads.items
          c.push.new.self.items l i.state c.moves-test.true i.leads c.in_ok-lead.ensures.lead
          (c.in_ok-push.ensures.items ∙ is_added c.moves.leads.items l (sym c.is_told.ensures ∙ c.if-not-is_told.false));
    }

pub returns-clause-leads : goal.returns-clause-leads
returns-clause-leads c =
    let s = c.args.search.now in
    let R = LeadsSo (scope_of s) s.asks.now (knowing c.args.known.now) (read c.args.state.now) in
    subst (λ (ms : List Move). AreLeads R ms c.moves.leads.items) (take_all c.moves.one-index s.moves.now (omega (arith, c.moves-test.false)))
    c.moves.invariant.leads
