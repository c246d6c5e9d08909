use Rattle.std.proofs.Common.{◌≡◌, ◌≤◌, ◌∙◌, ◌+◌, ◌-◌, ◌++◌, length, take, drop, subst, sym, ap, take-append-drop, arith}
use Rattle.std.proofs.lemmas.List.{take_rest, length-drop}
use Rattle.std.proofs.lemmas.Bool.Decides.{nat_tests}
use Rattle.std.proofs.Math.Seq.{take-add}
use Rattle.rh_devices.specs.Devices.{Passed}
use Rattle.rh_devices.proofs.Passing.{passed_next}
use Rattle.rh_devices.proofs.transfer.write_text.Goals as goal

pub returns-in-Err-clause-front : goal.returns-in-Err-clause-front
returns-in-Err-clause-front g c =
    let text = c.args.text.now in
    let at = c.loop-at.at in
    (take at text, drop at text, (c.loop-at.writer.inner, c.loop-at.invariant.taken, c.in-Err.ensures.fails), sym (take-append-drop at text))

pub loop-at-preserved : goal.loop-at-preserved
loop-at-preserved g c =
    let takes = g.K.Sink.takes in
    let text = c.args.text.now in
    let at = c.loop-at.at in
    let n = c.in-Ok.count in
    let joined : take at text ++ take n (take (length text - at) (drop at text)) ≡ take (at + n) text =
    ap (λ bs. take at text ++ take n bs) (take_rest text at) ∙ sym (take-add at n text) in
    let within : n ≤ length (drop at text) = omega (arith, c.in-Ok.ensures.bound, ap length (take_rest text at)) in
    record {
      taken = subst (λ bs. Passed takes c.args.writer.now.inner c.offer.new.self.inner bs) joined
          (passed_next takes c.args.writer.now.inner c.loop-at.writer.inner c.offer.new.self.inner (take at text) _ c.loop-at.invariant.taken
          c.in-Ok.ensures.takes);
      within = omega (arith, length-drop at text, within);
      watch = grind (arith, nat_tests, c.in-Ok.ensures.failed, c.loop-at.invariant.watch);
    }
