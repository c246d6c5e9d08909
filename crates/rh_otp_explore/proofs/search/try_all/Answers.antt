use Rattle.std.proofs.Common.{◌≡◌, ℕ, List, [], sym, ap, subst, ◌∙◌, arith}
use Rattle.rh_rules.specs.declared.event.Event.{Event}
use Rattle.rh_explore.specs.declared.bounds.Covered.TheVariants as covered
use Rattle.rh_otp_explore.specs.Listing.{Scope, Behind, level, scope_of}
use Rattle.rh_otp_explore.specs.Tallying.{TallyView, all_tallied}
use Rattle.rh_otp_explore.specs.Working.{AreTried}
use Rattle.rh_otp_explore.proofs.Lengths.{IsAt, ends_over, ends_none, ends_full, goes_on}
use Rattle.rh_otp_explore.proofs.search.try_all.Goals as goal

pub returns-then-is_over : goal.returns-then-is_over
returns-then-is_over c =
    let w : Scope = scope_of c.args.bounds in
    let start : Behind = record { events = []; sim = c.args.stand.now } in
    let at : IsAt w c.args.steps c.args.bounds.states start c.args.tally.now c.lengths.length c.lengths.tally =
    record {
      short = c.lengths.invariant.short;
      tally = c.lengths.invariant.tally;
      all = c.lengths.invariant.all;
      left = c.lengths.invariant.left;
    } in
    let tried : c.try_longer.new.tally ≡ all_tallied c.args.bounds.states c.lengths.tally (level w c.lengths.length start) =
    c.in_ok-try_longer.ensures.tally
    ∙ ap (λ (es : List Event). all_tallied c.args.bounds.states c.lengths.tally (level w c.lengths.length (record { events = es; sim = c.args.stand.now })))
    c.lengths.invariant.events in
    subst (λ (n : ℕ). AreTried w c.args.steps c.args.bounds.states start c.args.tally.now c.try_longer.new.tally (covered.UpTo n))
    (sym c.saturating_sub.ensures)
    (ends_over w c.args.steps c.args.bounds.states start c.args.tally.now c.lengths.length c.lengths.tally c.try_longer.new.tally at tried (sym c.is_over.ensures ∙ c.if-is_over.true))

pub returns-then-tally-before : goal.returns-then-tally-before
returns-then-tally-before c =
    let w : Scope = scope_of c.args.bounds in
    let start : Behind = record { events = []; sim = c.args.stand.now } in
    let at : IsAt w c.args.steps c.args.bounds.states start c.args.tally.now c.lengths.length c.lengths.tally =
    record {
      short = c.lengths.invariant.short;
      tally = c.lengths.invariant.tally;
      all = c.lengths.invariant.all;
      left = c.lengths.invariant.left;
    } in
    let tried : c.try_longer.new.tally ≡ all_tallied c.args.bounds.states c.lengths.tally (level w c.lengths.length start) =
    c.in_ok-try_longer.ensures.tally
    ∙ ap (λ (es : List Event). all_tallied c.args.bounds.states c.lengths.tally (level w c.lengths.length (record { events = es; sim = c.args.stand.now })))
    c.lengths.invariant.events in
    let same : c.try_longer.new.tally.lists ≡ c.lengths.tally.lists =
    sym (ap (λ (u : TallyView). u.lists) c.tally-in-lengths.view_is)
    ∙ c.if-tally-before.true ∙ ap (λ (u : TallyView). u.lists) c.tally.view_is in
    ends_none w c.args.steps c.args.bounds.states start c.args.tally.now c.lengths.length c.lengths.tally c.try_longer.new.tally at tried (sym c.is_over.ensures ∙ c.if-is_over.false) same

pub returns-then-length-steps : goal.returns-then-length-steps
returns-then-length-steps c =
    let w : Scope = scope_of c.args.bounds in
    let start : Behind = record { events = []; sim = c.args.stand.now } in
    let at : IsAt w c.args.steps c.args.bounds.states start c.args.tally.now c.lengths.length c.lengths.tally =
    record {
      short = c.lengths.invariant.short;
      tally = c.lengths.invariant.tally;
      all = c.lengths.invariant.all;
      left = c.lengths.invariant.left;
    } in
    let tried : c.try_longer.new.tally ≡ all_tallied c.args.bounds.states c.lengths.tally (level w c.lengths.length start) =
    c.in_ok-try_longer.ensures.tally
    ∙ ap (λ (es : List Event). all_tallied c.args.bounds.states c.lengths.tally (level w c.lengths.length (record { events = es; sim = c.args.stand.now })))
    c.lengths.invariant.events in
    ends_full w c.args.steps c.args.bounds.states start c.args.tally.now c.lengths.length c.lengths.tally c.try_longer.new.tally at tried (sym c.is_over.ensures ∙ c.if-is_over.false)
    (omega (arith, c.if-length-steps.true))

pub lengths-preserved : goal.lengths-preserved
lengths-preserved c =
    let w : Scope = scope_of c.args.bounds in
    let start : Behind = record { events = []; sim = c.args.stand.now } in
    let at : IsAt w c.args.steps c.args.bounds.states start c.args.tally.now c.lengths.length c.lengths.tally =
    record {
      short = c.lengths.invariant.short;
      tally = c.lengths.invariant.tally;
      all = c.lengths.invariant.all;
      left = c.lengths.invariant.left;
    } in
    let tried : c.try_longer.new.tally ≡ all_tallied c.args.bounds.states c.lengths.tally (level w c.lengths.length start) =
    c.in_ok-try_longer.ensures.tally
    ∙ ap (λ (es : List Event). all_tallied c.args.bounds.states c.lengths.tally (level w c.lengths.length (record { events = es; sim = c.args.stand.now })))
    c.lengths.invariant.events in
    let next = goes_on w c.args.steps c.args.bounds.states start c.args.tally.now c.lengths.length c.lengths.tally c.try_longer.new.tally at tried (sym c.is_over.ensures ∙ c.if-is_over.false)
    (omega (arith, c.if-length-steps.false)) in
    record {
      events = c.in_ok-try_longer.ensures.events ∙ c.lengths.invariant.events;
      short = next.short;
      tally = next.tally;
      all = next.all;
      left = next.left;
    }
