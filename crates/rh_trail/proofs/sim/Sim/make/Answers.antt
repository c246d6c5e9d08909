use Rattle.std.proofs.Common.{length, ◌≡◌, ◌<◌, ◌≤◌, List, None, refl, sym, ap, subst, ◌∙◌}
use Rattle.rh_rules.specs.Refusals.{refused}
use Rattle.rh_rules.specs.declared.notice.Notice.{Notice}
use Rattle.rh_trace.specs.Validity.{IsValid}
use Rattle.rh_state.specs.Records.{LedBy}
use Rattle.rh_state.specs.StateView.{StateView}
use Rattle.rh_state.specs.Stored.{Stored, read}
use Rattle.rh_step.specs.Counts.{most_edits}
use Rattle.rh_rules.specs.Steps.{next}
use Rattle.rh_calls.specs.declared.call.Call.TheVariants as call
use Rattle.rh_trail.specs.Chain.{chain}
use Rattle.rh_trail.specs.Lone.{served, trail_limit}
use Rattle.rh_trail.specs.SimView.{Held, state_of}
use Rattle.rh_trail.proofs.Chains.{chain_reads}
use Rattle.rh_trail.proofs.Moves.{made_keeps, made_chains, made_serves}
use Rattle.rh_trail.proofs.sim.Sim.make.Given.{Over}
use Rattle.rh_trail.proofs.sim.Sim.make.Goals as goal

pub perform_told-requires-clause-accepted : goal.perform_told-requires-clause-accepted
perform_told-requires-clause-accepted g c =
    let s = c.self.inside in
    ap (λ (x : StateView). refused x c.args.event)
    (chain_reads s.state.cluster s.pick s.trail.items s.state s.records s.cursor c.self.invariant.chain ∙ (λ i. state_of (c.self.view_is i).seen))
    ∙ c.requires.fine

pub perform_told-requires-clause-valid : goal.perform_told-requires-clause-valid
perform_told-requires-clause-valid g c =
    let s = c.self.inside in
    subst IsValid (sym (chain_reads s.state.cluster s.pick s.trail.items s.state s.records s.cursor c.self.invariant.chain))
    (c.self.invariant.chain.valid s.cursor c.self.invariant.chain.within)

-- the words and the edits of the step
led : (g : Over) (c : goal.Joined-self g) → LedBy c.self.inside.state c.perform_told.new.edits.items c.keep.new.state
led g c = subst (λ (w : Stored). LedBy c.self.inside.state c.perform_told.new.edits.items w) (sym c.in_ok-keep.ensures.state)
    (c.in_ok-told.ensures.led)

room : (g : Over) (c : goal.Joined-self g) → c.self.inside.cursor < trail_limit
room g c = subst (λ (v : Held). v.seen.cursor < trail_limit) (sym c.self.view_is) c.requires.room

reads : (g : Over) (c : goal.Joined-self g) → read c.keep.new.state ≡ (next (read c.self.inside.state) c.args.event c.self.inside.pick).state
reads g c = ap read c.in_ok-keep.ensures.state ∙ c.in_ok-told.ensures.state

valid : (g : Over) (c : goal.Joined-self g) → IsValid (read c.keep.new.state)
valid g c = subst (λ (w : Stored). IsValid (read w)) (sym c.in_ok-keep.ensures.state) c.in_ok-told.ensures.valid

few : (g : Over) (c : goal.Joined-self g)
    → length c.perform_told.new.edits.items ≤ most_edits (read c.self.inside.state) c.args.event (next (read c.self.inside.state) c.args.event c.self.inside.pick)
few g c = c.in_ok-told.ensures.few

pub invariant_of-self-2 : goal.invariant_of-self-2
invariant_of-self-2 g c =
    let s = c.self.inside in
    record {
      chain = made_keeps s.pick s.trail.items c.keep.new.trail.items s.state c.keep.new.state s.records c.keep.new.records s.cursor c.args.event
          c.perform_told.new.edits.items c.self.invariant.chain (room g c) (led g c) (reads g c) (valid g c) (few g c) c.in_ok-keep.ensures.trail c.in_ok-keep.ensures.records;
      spare = c.keep.ensures.edits;
      shown = tt;
    }

pub returns-clause-done : goal.returns-clause-done
returns-clause-done g c =
    let s = c.self.inside in
    let fine : refused (read s.state) c.args.event ≡ None =
    ap (λ (x : StateView). refused x c.args.event)
    (chain_reads s.state.cluster s.pick s.trail.items s.state s.records s.cursor c.self.invariant.chain ∙ (λ i. state_of (c.self.view_is i).seen))
    ∙ c.requires.fine in
    let told : List Notice = (next (read s.state) c.args.event s.pick).notices in (
      told,
      c.in_ok-told.ensures.told,
      (λ i. served (sym c.self.view_is i).seen (call.Step c.args.event))
          ∙ made_serves s.pick s.trail.items c.keep.new.trail.items s.state c.keep.new.state s.records c.keep.new.records s.cursor c.args.event
          c.perform_told.new.edits.items c.self.invariant.chain (room g c) (led g c) (reads g c) (valid g c) (few g c) c.in_ok-keep.ensures.trail c.in_ok-keep.ensures.records
          told fine refl,
    )

pub returns-clause-chain : goal.returns-clause-chain
returns-clause-chain g c = λ k bound.
    let s = c.self.inside in
    made_chains s.pick s.trail.items c.keep.new.trail.items s.state c.keep.new.state s.records c.keep.new.records s.cursor c.args.event
    c.perform_told.new.edits.items c.self.invariant.chain (room g c) (led g c) (reads g c) (valid g c) (few g c) c.in_ok-keep.ensures.trail c.in_ok-keep.ensures.records
    k (subst (λ (v : Held). k ≤ v.seen.cursor) (sym c.self.view_is) bound)
    ∙ (λ i. chain (c.self.view_is i) k)
