use Rattle.std.proofs.Common.{◌≡◌, ◌<◌, ◌+◌, length, map, get_or, refl, sym, ap, subst, ◌∙◌, arith}
use Rattle.std.proofs.lemmas.Option.{slice_get-get_or}
use Rattle.rh_model.specs.ClusterView.{ClusterView, numbered}
use Rattle.rh_rules.specs.declared.event.Event.{Event}
use Rattle.rh_rules.specs.declared.event.Event.TheVariants.{Boot}
use Rattle.rh_trail.specs.SimView.{SimView, state_of}
use Rattle.rh_courses.specs.Moments.{passed_in, states_of}
use Rattle.rh_courses.specs.Courses.{distributed, courses_in}
use Rattle.rh_courses.specs.Working.{not_run, noted_along, AreOf}
use Rattle.rh_courses.proofs.Noting.{along_more, courses_are}
use Rattle.rh_courses.proofs.Passing.{states_more, none_yet}
use Rattle.rh_courses.proofs.walk.courses_along.Goals as goal

pub events-init : goal.events-init
events-init c =
    let s : SimView = c.args.sim.now.seen in
    let v : c.cluster.result.now ≡ s.cluster = c.cluster.ensures in
    record {
      noted = c.in_ok-courses.ensures.courses
          ∙ ap (λ (w : ClusterView). map not_run (distributed w)) v
          ∙ ap (noted_along (map not_run (distributed s.cluster))) (sym (none_yet s c.requires.start));
      apps = subst (λ (w : ClusterView). AreOf w c.in_ok-courses.courses.items) v c.in_ok-courses.ensures.apps;
      within = omega (arith, c.requires.start);
      seen = refl;
      chain = λ k bound. refl;
    }

pub note_event-requires-clause-next : goal.note_event-requires-clause-next
note_event-requires-clause-next c =
    let i = c.events.invariant in
    let trail : length c.events.sim.seen.trail ≡ length c.args.sim.now.seen.trail = ap (λ (v : SimView). length v.trail) i.seen in
    omega (arith, trail, c.cursor.ensures.cursor, c.events-test.true, c.requires.end)

pub note_event-requires-clause-apps : goal.note_event-requires-clause-apps
note_event-requires-clause-apps c =
    let i = c.events.invariant in
    subst (λ (w : ClusterView). AreOf w c.events.courses.items) (sym (ap (λ (v : SimView). v.cluster) i.seen)) i.apps

pub events-preserved : goal.events-preserved
events-preserved c =
    let i = c.events.invariant in
    let s0 : SimView = c.args.sim.now.seen in
    let s : SimView = c.events.sim.seen in
    let t : SimView = c.note_event.new.sim.seen in
    let moved : t ≡ record s { cursor = s.cursor + 1 } = c.note_event.ensures.seen in
    let rose : t.cursor ≡ s.cursor + 1 = ap (λ (v : SimView). v.cursor) moved in
    let trail : length s.trail ≡ length s0.trail = ap (λ (v : SimView). length v.trail) i.seen in
    let below : s.cursor < c.args.end = omega (arith, c.cursor.ensures.cursor, c.events-test.true) in
    let inside : s.cursor < length s.trail = omega (arith, trail, below, c.requires.end) in
    let e : Event = get_or s.trail s.cursor (Boot (numbered 0)) in
    let is = slice_get-get_or s.trail s.cursor (Boot (numbered 0)) inside in
    let begun = map not_run (distributed s0.cluster) in
    record {
      noted = c.in_ok-note_event.ensures.noted e is
          ∙ ap (λ cs. noted_along cs (passed_in s.pick (state_of s) e)) i.noted
          ∙ along_more begun (states_of s) (passed_in s.pick (state_of s) e)
          ∙ ap (noted_along begun) (sym (states_more s e is inside))
          ∙ ap (λ (v : SimView). noted_along begun (states_of v)) (sym moved);
      apps = subst (λ (w : ClusterView). AreOf w c.note_event.new.courses.items) (ap (λ (v : SimView). v.cluster) i.seen) c.in_ok-note_event.ensures.apps;
      within = omega (arith, rose, below);
      seen = moved
          ∙ ap (λ (v : SimView). record v { cursor = s.cursor + 1 }) i.seen
          ∙ ap (λ n. record s0 { cursor = n }) (sym rose);
      chain = λ k bound. c.note_event.ensures.chain k (omega (arith, bound, trail)) ∙ i.chain k bound;
    }

pub returns-in_err-note_event-clause-seen : goal.returns-in_err-note_event-clause-seen
returns-in_err-note_event-clause-seen c =
    let i = c.events.invariant in
    let s0 : SimView = c.args.sim.now.seen in
    let s : SimView = c.events.sim.seen in
    let t : SimView = c.note_event.new.sim.seen in
    let moved : t ≡ record s { cursor = s.cursor + 1 } = c.note_event.ensures.seen in
    let rose : t.cursor ≡ s.cursor + 1 = ap (λ (v : SimView). v.cursor) moved in
    moved
    ∙ ap (λ (v : SimView). record v { cursor = s.cursor + 1 }) i.seen
    ∙ ap (λ n. record s0 { cursor = n }) (sym rose)

pub returns-in_err-note_event-clause-chain : goal.returns-in_err-note_event-clause-chain
returns-in_err-note_event-clause-chain c =
    let i = c.events.invariant in
    let trail : length c.events.sim.seen.trail ≡ length c.args.sim.now.seen.trail = ap (λ (v : SimView). length v.trail) i.seen in
    λ k bound. c.note_event.ensures.chain k (omega (arith, bound, trail)) ∙ i.chain k bound

pub returns-clause-courses : goal.returns-clause-courses
returns-clause-courses c =
    let i = c.events.invariant in
    let s0 : SimView = c.args.sim.now.seen in
    let s : SimView = c.events.sim.seen in
    let here : s.cursor ≡ c.args.end = omega (arith, i.within, c.events-test.false, c.cursor.ensures.cursor) in
    let seen : s ≡ record s0 { cursor = c.args.end } = i.seen ∙ ap (λ n. record s0 { cursor = n }) here in
    i.noted
    ∙ ap (λ (w : ClusterView). noted_along (map not_run (distributed w)) (states_of s)) (sym (ap (λ (v : SimView). v.cluster) i.seen))
    ∙ courses_are s
    ∙ ap courses_in seen
