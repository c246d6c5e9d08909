use Rattle.std.proofs.Common.{◌≡◌, ◌∙◌, ◌+◌, List, [], ℕ, length, Ok, Err, refl, ap, subst, arith}
use Rattle.std.proofs.lemmas.Result.{err_from_is_err_and}
use Rattle.rh_devices.specs.Devices.{WroteFront}
use Rattle.rh_script.specs.Lines.{raw_lines}
use Rattle.rh_manner.specs.declared.ear.Ear.{Ear}
use Rattle.rh_manner.specs.declared.stage.Stage.TheVariants as stage
use Rattle.rh_manner.specs.Stages.{NumbersWithin, Takes, text_from, end_from, next_number, opened_from, opened_end}
use Rattle.rh_manner.proofs.Ending.{hear_fails, end_written, end_fails, room as room_at_end}
use Rattle.rh_manner.proofs.Standing.{stands_first}
use Rattle.rh_manner.proofs.Turning.{room, took_more, took_last, take_fails}
use Rattle.rh_manner.proofs.dialogue.talk.Goals as goal

pub talk-init : goal.talk-init
talk-init g c = record {
  stands = (
    [],
    [],
    refl,
    tt,
    stands_first (g.T.Speaker.speech c.args.speaker.now) g.T.Speaker.view c.new-ear.result (stage.Cluster c.new.result) c.new-ear.ensures.rest c.new-ear.ensures.count
        (λ more. ap (λ (t : List ℕ). opened_from (g.T.Speaker.speech c.args.speaker.now) t more) c.new.ensures.items)
        (λ more. ap (λ (t : List ℕ). opened_end t more) c.new.ensures.items) refl refl,
  );
  watch = c.requires;
}

pub returns-in_err-heard : goal.returns-in_err-heard
returns-in_err-heard g c =
    let at = c.talk.invariant.stands in
    let p = err_from_is_err_and c.from_residual.result c.from_residual.ensures.1 in
    rw (p.1, p.2)
    (hear_fails g.D.Source.gives g.D.Source.fails g.D.Sink.takes g.D.Sink.flushes g.D.Sink.fails (g.T.Speaker.speech c.args.speaker.now) g.T.Speaker.view c.args.device.now
    at.0 at.1 c.talk.ear c.talk.stage c.talk.device at.2 at.3 at.4 c.in_err-heard.field-0.0 c.hear.new.self c.hear.new.device c.in_err-heard.ensures)

pub take-requires-clause-room : goal.take-requires-clause-room
take-requires-clause-room g c =
    let h = rw c.in-Lines.is at c.in_ok-heard.ensures in
    omega (
      arith,
      ap (λ (bs : List ℕ). length (raw_lines bs)) c.as_slice.ensures.value,
      room g.D.Source.gives g.D.Source.fails g.D.Sink.takes g.D.Sink.flushes g.D.Sink.fails (g.T.Speaker.speech c.args.speaker.now) g.T.Speaker.view c.args.device.now c.talk.device
          c.hear.new.device c.talk.ear c.hear.new.self c.talk.stage c.in-Lines.lines.items c.talk.invariant.stands h,
    )

pub returns-in_err-turn-in-Lines : goal.returns-in_err-turn-in-Lines
returns-in_err-turn-in-Lines g c =
    let h = rw c.in-Lines.is at c.in_ok-heard.ensures in
    let f = c.in_err-turn-in-Lines.field-0.0 in
    let p = err_from_is_err_and c.from_residual-in_err-turn-in-Lines.result c.from_residual-in_err-turn-in-Lines.ensures.1 in
    rw (p.1, p.2)
    (take_fails g.D.Source.gives g.D.Source.fails g.D.Sink.takes g.D.Sink.flushes g.D.Sink.fails (g.T.Speaker.speech c.args.speaker.now) g.T.Speaker.view c.args.device.now c.talk.device
    c.hear.new.device c.talk.ear c.hear.new.self c.talk.stage c.in-Lines.lines.items c.talk.invariant.stands h f c.take.new.writer
    (subst (λ (bs : List ℕ). Takes g.D.Sink.takes g.D.Sink.fails (g.T.Speaker.speech c.args.speaker.now) g.T.Speaker.view (Err f) c.talk.stage (raw_lines bs) c.hear.new.device c.take.new.writer)
    c.as_slice.ensures.value c.in_err-turn-in-Lines.ensures.lines))

pub returns-in-Ends : goal.returns-in-Ends
returns-in-Ends g c =
    let h = rw c.in-Lines.is at c.in_ok-heard.ensures in
    took_last g.D.Source.gives g.D.Source.fails g.D.Sink.takes g.D.Sink.flushes g.D.Sink.fails (g.T.Speaker.speech c.args.speaker.now) g.T.Speaker.view c.args.device.now c.talk.device
    c.hear.new.device c.talk.ear c.hear.new.self c.talk.stage c.in-Lines.lines.items c.talk.invariant.stands h c.in-Ends.told c.take.new.writer
    (rw c.in-Ends.is at (subst (λ (bs : List ℕ). Takes g.D.Sink.takes g.D.Sink.fails (g.T.Speaker.speech c.args.speaker.now) g.T.Speaker.view (Ok c.in_ok-turn-in-Lines.turn) c.talk.stage (raw_lines bs)
    c.hear.new.device c.take.new.writer) c.as_slice.ensures.value c.in_ok-turn-in-Lines.ensures.lines))

pub talk-preserved : goal.talk-preserved
talk-preserved g c =
    let h = rw c.in-Lines.is at c.in_ok-heard.ensures in
    let t = rw c.in-Goes.is at (subst (λ (bs : List ℕ). Takes g.D.Sink.takes g.D.Sink.fails (g.T.Speaker.speech c.args.speaker.now) g.T.Speaker.view (Ok c.in_ok-turn-in-Lines.turn) c.talk.stage (raw_lines bs)
    c.hear.new.device c.take.new.writer) c.as_slice.ensures.value c.in_ok-turn-in-Lines.ensures.lines) in
    let n = rw c.in-Goes.is at (subst (λ (bs : List ℕ). NumbersWithin (Ok c.in_ok-turn-in-Lines.turn) (next_number c.talk.stage + length (raw_lines bs)))
    c.as_slice.ensures.value c.in_ok-turn-in-Lines.ensures.number) in
    record {
      stands = took_more g.D.Source.gives g.D.Source.fails g.D.Sink.takes g.D.Sink.flushes g.D.Sink.fails (g.T.Speaker.speech c.args.speaker.now) g.T.Speaker.view c.args.device.now c.talk.device
          c.hear.new.device c.talk.ear c.hear.new.self c.talk.stage c.in-Lines.lines.items c.talk.invariant.stands h c.in-Goes.next c.take.new.writer t n;
      watch = t.2;
    }

pub finish-requires-clause-room : goal.finish-requires-clause-room
finish-requires-clause-room g c =
    let at = c.talk.invariant.stands in
    let h = rw c.in-End.is at c.in_ok-heard.ensures in
    let rest : c.as_slice-in-End.result.now ≡ c.talk.ear.rest.items = c.as_slice-in-End.ensures.value ∙ ap (λ (e : Ear). e.rest.items) h.1 in
    omega (
      arith,
      ap (λ (bs : List ℕ). length (raw_lines bs)) rest,
      room_at_end g.D.Source.gives g.D.Source.fails g.D.Sink.takes g.D.Sink.flushes g.D.Sink.fails (g.T.Speaker.speech c.args.speaker.now) g.T.Speaker.view c.args.device.now
          at.0 at.1 c.talk.ear c.talk.stage c.talk.device at.2 at.3 at.4 c.hear.new.device h.0,
    )

pub returns-in_err-told-in-End : goal.returns-in_err-told-in-End
returns-in_err-told-in-End g c =
    let at = c.talk.invariant.stands in
    let h = rw c.in-End.is at c.in_ok-heard.ensures in
    let rest : c.as_slice-in-End.result.now ≡ c.talk.ear.rest.items = c.as_slice-in-End.ensures.value ∙ ap (λ (e : Ear). e.rest.items) h.1 in
    let f = c.in_err-told-in-End.field-0.0 in
    let p = err_from_is_err_and c.from_residual-in_err-told-in-End.result c.from_residual-in_err-told-in-End.ensures.1 in
    rw (p.1, p.2)
    (end_fails g.D.Source.gives g.D.Source.fails g.D.Sink.takes g.D.Sink.flushes g.D.Sink.fails (g.T.Speaker.speech c.args.speaker.now) g.T.Speaker.view c.args.device.now
    at.0 at.1 c.talk.ear c.talk.stage c.talk.device at.2 at.3 at.4 c.hear.new.device h.0 f c.finish.new.writer
    (subst (λ (bs : List ℕ). WroteFront g.D.Sink.takes g.D.Sink.fails f (text_from (g.T.Speaker.speech c.args.speaker.now) g.T.Speaker.view c.talk.stage (raw_lines bs)) c.hear.new.device c.finish.new.writer)
    rest c.in_err-told-in-End.ensures))

pub returns-in-End : goal.returns-in-End
returns-in-End g c =
    let at = c.talk.invariant.stands in
    let h = rw c.in-End.is at c.in_ok-heard.ensures in
    let rest : c.as_slice-in-End.result.now ≡ c.talk.ear.rest.items = c.as_slice-in-End.ensures.value ∙ ap (λ (e : Ear). e.rest.items) h.1 in
    end_written g.D.Source.gives g.D.Source.fails g.D.Sink.takes g.D.Sink.flushes g.D.Sink.fails (g.T.Speaker.speech c.args.speaker.now) g.T.Speaker.view c.args.device.now
    at.0 at.1 c.talk.ear c.talk.stage c.talk.device at.2 at.3 at.4 c.hear.new.device h.0 c.in_ok-told-in-End.told
    (end_from (g.T.Speaker.speech c.args.speaker.now) g.T.Speaker.view c.talk.stage (raw_lines c.as_slice-in-End.result.now)) (text_from (g.T.Speaker.speech c.args.speaker.now) g.T.Speaker.view c.talk.stage (raw_lines c.as_slice-in-End.result.now))
    c.finish.new.writer (ap (λ (bs : List ℕ). end_from (g.T.Speaker.speech c.args.speaker.now) g.T.Speaker.view c.talk.stage (raw_lines bs)) rest)
    (ap (λ (bs : List ℕ). text_from (g.T.Speaker.speech c.args.speaker.now) g.T.Speaker.view c.talk.stage (raw_lines bs)) rest) c.in_ok-told-in-End.ensures
