use Rattle.std.proofs.Common.{◌≡◌, List, OnOk, Some, reverse, filter, slice_get, refl, sym, ap, subst, ◌∙◌, arith}
use Rattle.std.proofs.lemmas.Option.{slice_get_read}
use Rattle.rh_model.specs.declared.node.App.{App}
use Rattle.rh_model.specs.declared.node.Node.{Node}
use Rattle.rh_otp_model.specs.Own.{WrittenView}
use Rattle.rh_otp_dist.specs.State.{TurnView, is_among}
use Rattle.rh_otp_dist.specs.Choosing.{cached_weight, places_of, check_running}
use Rattle.rh_otp_dist.proofs.Walk.{told_own, told_alike, first_answer, asked, tuple_at}
use Rattle.rh_otp_dist.proofs.turn.Turn.+finding.Goals as goal

pub ask_weights-weigh-requires : goal.ask_weights-weigh-requires
ask_weights-weigh-requires t c = grind (arith, told_own)

pub ask_weights-returns : goal.ask_weights-returns
ask_weights-returns t c =
    let P : TurnView → Type 0 = λ u. OnOk c.weigh.result (c.weigh.new.self ≡ u) in
    let weighs : c.cached_weight-weight.result ≡ cached_weight c.args.self.now c.args.attempt.app =
    c.cached_weight-weight.ensures ∙ ap (cached_weight c.args.self.now) c.app.ensures in
    let told = told_alike c.app-2.result c.args.attempt.app c.cached_weight-weight.result (cached_weight c.args.self.now c.args.attempt.app)
    c.as_slice-2.result.now (reverse c.args.candidates.items) c.args.self.now c.tell_weight.new.self c.in_ok-tell_weight.ensures c.app-2.ensures weighs
    (c.as_slice-2.ensures.value ∙ c.in_ok-backwards.ensures ∙ ap reverse c.as_slice.ensures.value) in
    let answers = first_answer c.new-answers.result.items c.push.new.self.items c.cached_weight-weight.result
    (cached_weight c.args.self.now c.args.attempt.app) c.self.inside.here.node c.args.self.now.here.node c.in_ok-push.ensures.items
    c.new-answers.ensures.items weighs (ap (λ (u : TurnView). u.here.node) c.self.view_is) in
    subst P (asked c.args.attempt c.args.place c.args.candidates.items c.args.self.now c.tell_weight.new.self c.push.new.self.items
    c.in_ok-nodes.nodes.items told answers (c.in_ok-nodes.ensures.items ∙ c.as_slice-3.ensures.value)) c.weigh.ensures

pub find_start_node-returns-then-is_tuple : goal.find_start_node-returns-then-is_tuple
find_start_node-returns-then-is_tuple t c =
    let P : TurnView → Type 0 = λ u. OnOk c.at_tuple.result (c.at_tuple.new.self ≡ u) in
    let group : c.as_slice-then-is_tuple.result.now ≡ filter (λ n. is_among n c.args.candidates.items) c.in-Some.written.now.nodes =
    c.as_slice-then-is_tuple.ensures.value ∙ c.in_ok-group.ensures
    ∙ ap (λ (others : List Node). filter (λ n. is_among n others) c.nodes.result.now) c.as_slice.ensures.value
    ∙ ap (filter (λ n. is_among n c.args.candidates.items)) c.nodes.ensures in
    let runner : c.check_running-runner.result
    ≡ check_running c.args.self.now.state c.args.attempt.app (filter (λ n. is_among n c.args.candidates.items) c.in-Some.written.now.nodes) =
    c.check_running-runner.ensures
    ∙ ap (λ (a : App). check_running c.args.self.now.state a c.as_slice-then-is_tuple.result.now) c.app-then-is_tuple.ensures
    ∙ ap (check_running c.args.self.now.state c.args.attempt.app) group in
    let places : c.places_of.result.now ≡ places_of c.args.self.now.own c.args.attempt.app =
    c.places_of.ensures ∙ ap (places_of c.self.inside.own.now) c.app.ensures
    ∙ ap (λ (u : TurnView). places_of u.own c.args.attempt.app) c.self.view_is in
    let there : slice_get (places_of c.args.self.now.own c.args.attempt.app) c.args.place ≡ Some c.in-Some.written.now =
    ap (λ (ws : List WrittenView). slice_get ws c.args.place) (sym places)
    ∙ slice_get_read c.places_of.result.now _ c.args.place c.in-Some.written.now refl c.in-Some.ensures.lookup.3.0 c.in-Some.ensures.lookup.1 in
    subst P (tuple_at c.args.attempt c.args.candidates.items c.args.place c.args.self.now c.in-Some.written.now c.check_running-runner.result
    there (sym c.is_tuple.ensures ∙ c.if-is_tuple.true) runner) c.at_tuple.ensures
