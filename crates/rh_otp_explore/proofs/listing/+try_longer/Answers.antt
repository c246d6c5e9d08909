use Rattle.std.proofs.Common.{◌≡◌, ◌-◌, ◌++◌, ℕ, List, [], ◌∷◌, Option, Some, None, length, take, vec_len, sym, ap, ◌∙◌, arith}
use Rattle.std.specs.List.{flat_map, filter_map}
use Rattle.std.specs.Option.{option_map}
use Rattle.rh_rules.specs.declared.event.Event.{Event}
use Rattle.rh_explore.specs.declared.moves.Move.{Move}
use Rattle.rh_otp_sim.specs.Sim.{LiveSimView}
use Rattle.rh_otp_explore.specs.Listing.{Scope, Behind, level, next, scope_of, with_event}
use Rattle.rh_otp_explore.specs.Tallying.{TallyView, all_tallied}
use Rattle.rh_otp_explore.proofs.Lists.{popped, goes_past, goes_on}
use Rattle.rh_otp_explore.proofs.Tallies.{all_stay, all_on}
use Rattle.rh_otp_explore.proofs.listing.+try_longer.Goals as goal
use Rattle.rh_otp_explore.proofs.listing.+try_longer.Goals.{in-Some+in_ok-push+in_ok-try_longer, in_default}

pub returns-then-is_over-clause-tally : goal.returns-then-is_over-clause-tally
returns-then-is_over-clause-tally t c =
    sym (all_stay c.args.bounds.states c.args.tally.now
    (level (scope_of c.args.bounds) c.args.left (record { events = c.args.events.now.items; sim = c.args.stand.now }))
    (sym c.is_over.ensures ∙ c.if-is_over.true))

pub loop-may-preserved : goal.loop-may-preserved
loop-may-preserved t c =
    let w : Scope = scope_of c.args.bounds in
    let states = c.args.bounds.states in
    let first : TallyView = c.args.tally.now in
    let here : Behind = record { events = c.args.events.now.items; sim = c.args.stand.now } in
    let n = c.args.left - 1 in
    let moves = c.args.bounds.moves.now in
    let i = c.loop-may.may-index in
    let done = flat_map (level w n) (filter_map (next w here) (take i moves)) in
    let next_is = λ (o : Option (Event × LiveSimView)) (is : c.in_ok-event.field-0 ≡ o).
    ap (option_map (with_event here)) (sym c.in_ok-event.ensures ∙ is) in
    elim c.match-branch-2.branch [
      | in-Some+in_ok-push+in_ok-try_longer b ↦
          let e : Event = b.in-Some.event in
          let longer : Behind = with_event here (e, b.in-Some.next) in
          let there = b.try_longer.new.events in
          let count : vec_len there ≡ length there.items = omega (arith, there.ok.0) in
          let pushed : b.push.new.self.items ≡ c.args.events.now.items ++ e ∷ [] =
          b.in_ok-push.ensures.items ∙ ap (λ (es : List Event). es ++ e ∷ []) c.loop-may.invariant.events in
          record {
            events =
                ap (λ v. v.items) b.events-is
                ∙ b.pop.ensures.rest
                ∙ ap (λ (k : ℕ). take (k - 1) there.items) count
                ∙ popped c.args.events.now.items there.items e (b.in_ok-try_longer.ensures.events ∙ pushed);
            tally =
                b.tally-is
                ∙ b.in_ok-try_longer.ensures.tally
                ∙ ap (λ (es : List Event). all_tallied states c.loop-may.tally (level w n (record { events = es; sim = b.in-Some.next }))) pushed
                ∙ ap (λ (u : TallyView). all_tallied states u (level w n longer)) c.loop-may.invariant.tally
                ∙ sym (all_on states first done (level w n longer))
                ∙ ap (all_tallied states first) (sym (goes_on w n here moves i _ c.loop-may-test.true longer (next_is (Some (e, b.in-Some.next)) b.in-Some.is)));
          }
      | in_default b ↦ record {
        events = ap (λ v. v.items) b.events-is ∙ c.loop-may.invariant.events;
        tally =
            b.tally-is ∙ c.loop-may.invariant.tally
            ∙ ap (all_tallied states first) (sym (goes_past w n here moves i _ c.loop-may-test.true (next_is None b.in_default.is)));
      }
    ]
