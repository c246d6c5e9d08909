use Rattle.std.proofs.Common.{◌≡◌, ◌==◌, ◌∙◌, ◌+◌, List, not, sym, subst, ap, refl, true, slice_index_or, arith}
use Rattle.std.specs.Bool.{beq}
use Rattle.std.proofs.lemmas.List.{get_or_read}
use Rattle.rh_room.specs.declared.pass.Entry.{Entry}
use Rattle.rh_room.specs.declared.pass.Receipt.{Receipt}
use Rattle.rh_room.specs.Legal.{of_session}
use Rattle.rh_room.specs.Closing.{IsFirstDifference}
use Rattle.rh_room.proofs.Differences.{HasMet, told_otherwise, told_wrongly, goes_on, passes_over, told_too_much, alike, is_session, isnt_session}
use Rattle.rh_room.proofs.closing.difference.Goals as goal
use Rattle.rh_room.proofs.closing.difference.Goals.{then-told+else-not-is_for, else-told}

pub returns-then-told-logged-clause-some : goal.returns-then-told-logged-clause-some
returns-then-told-logged-clause-some c =
    let read : slice_index_or c.args.log.now c.loop-place.place c.index-log-place.result ≡ c.index-log-place.result = sym c.index-log-place.is in
    let differ = subst (λ (e : Entry). not (beq c.is_of_place-told.result (e.session == c.args.session)) ≡ true) read c.if-told-logged.true in
    subst (λ (rs : List Receipt). IsFirstDifference rs (of_session c.args.session c.args.log.now) c.loop-place.place) c.receipts-receipts.ensures.receipts
    (told_otherwise c.receipts-receipts.result.now c.args.session c.args.log.now c.loop-place.met c.loop-place.place c.index-log-place.result
    c.receipts-receipts.ensures.order c.loop-place.invariant c.loop-place-test.true read
    c.is_of_place-told.result c.is_of_place-told.ensures.0 c.is_of_place-told.ensures.1 differ)

pub returns-then-not-is_for-clause-some : goal.returns-then-not-is_for-clause-some
returns-then-not-is_for-clause-some c =
    let e : Entry = c.index-log-place-then-told.result in
    let same : e ≡ slice_index_or c.args.log.now c.loop-place.place c.index-log-place.result =
    get_or_read c.args.log.now c.loop-place.place e c.loop-place-test.true c.index-log-place-then-told.is c.index-log-place.result in
    let logged = alike c.is_of_place-told.result ((slice_index_or c.args.log.now c.loop-place.place c.index-log-place.result).session == c.args.session)
    c.if-told-logged.false in
    let is : e.session ≡ c.args.session = ap (λ (x : Entry). x.session) same ∙ is_session
    (slice_index_or c.args.log.now c.loop-place.place c.index-log-place.result).session c.args.session (sym logged ∙ c.if-told.true) in
    subst (λ (rs : List Receipt). IsFirstDifference rs (of_session c.args.session c.args.log.now) c.loop-place.place) c.receipts-receipts.ensures.receipts
    (told_wrongly c.receipts-receipts.result.now c.args.session c.args.log.now c.loop-place.met c.loop-place.place e c.receipts-receipts.ensures.order
    c.loop-place.invariant c.loop-place-test.true (sym c.index-log-place-then-told.is)
    c.index-receipts-met.result c.index-receipts-met.is (c.if-told.ensures.0 refl) is (λ both. absurd (cc (c.is_for.ensures.1 both, c.if-not-is_for.true))))

pub loop-place-preserved : goal.loop-place-preserved
loop-place-preserved c =
    let rs : List Receipt = c.receipts-receipts.result.now in
    let log : List Entry = c.args.log.now in
    let first : Entry = c.index-log-place.result in
    let logged : c.is_of_place-told.result ≡ ((slice_index_or log c.loop-place.place first).session == c.args.session) = alike c.is_of_place-told.result
    ((slice_index_or log c.loop-place.place first).session == c.args.session) c.if-told-logged.false in
    elim c.if-told.branch [
      | then-told+else-not-is_for w ↦
          let e : Entry = w.index-log-place-then-told.result in
          let same : e ≡ slice_index_or log c.loop-place.place first =
          get_or_read log c.loop-place.place e c.loop-place-test.true w.index-log-place-then-told.is first in
          let is : e.session ≡ c.args.session = ap (λ (x : Entry). x.session) same
          ∙ is_session (slice_index_or log c.loop-place.place first).session c.args.session (sym logged ∙ w.if-told.true) in
          let both : (w.index-receipts-met.result.call ≡ e.call) × (w.index-receipts-met.result.reply ≡ e.reply) = w.is_for.ensures.0 w.if-not-is_for.false in
          subst (λ n. HasMet rs c.args.session log n (c.loop-place.place + 1)) (sym w.met-is)
          (goes_on rs c.args.session log c.loop-place.met c.loop-place.place e c.receipts-receipts.ensures.order c.loop-place.invariant c.loop-place-test.true
          (sym w.index-log-place-then-told.is)
          w.index-receipts-met.result w.index-receipts-met.is (w.if-told.ensures.0 refl) is both.0 both.1)
      | else-told w ↦
          let isnt : (slice_index_or log c.loop-place.place first).session ≡ c.args.session
          → ⊥ = isnt_session (slice_index_or log c.loop-place.place first).session c.args.session (sym logged ∙ w.if-told.false) in
          subst (λ n. HasMet rs c.args.session log n (c.loop-place.place + 1)) (sym w.met-is)
          (passes_over rs c.args.session log c.loop-place.met c.loop-place.place first c.receipts-receipts.ensures.order c.loop-place.invariant
          c.loop-place-test.true (sym c.index-log-place.is)
          (λ next. absurd (cc (c.is_of_place-told.ensures.1 next, w.if-told.false)))
          (λ is. isnt (ap (λ (x : Entry). x.session) (sym c.index-log-place.is) ∙ is)))
    ]

pub returns-then-met-receipts-clause-some : goal.returns-then-met-receipts-clause-some
returns-then-met-receipts-clause-some c =
    subst (λ (rs : List Receipt). IsFirstDifference rs (of_session c.args.session c.args.log.now)
    (slice_index_or c.receipts-receipts.result.now c.loop-place.met c.index-receipts-met-then-met-receipts.result).place)
    c.receipts-receipts.ensures.receipts
    (told_too_much c.receipts-receipts.result.now c.args.session c.args.log.now c.loop-place.met c.loop-place.place
    c.index-receipts-met-then-met-receipts.result c.receipts-receipts.ensures.order c.loop-place.invariant (omega arith) c.if-met-receipts.true)
