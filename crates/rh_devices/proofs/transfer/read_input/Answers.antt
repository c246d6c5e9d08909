use Rattle.std.proofs.Common.{◌≡◌, ◌<◌, ◌++◌, ℕ, List, length, take, refl, sym, ap, subst, ◌∙◌, arith}
use Rattle.std.proofs.lemmas.List.{length-append, length-take-le}
use Rattle.std.proofs.lemmas.Bool.Decides.{nat_tests}
use Rattle.rh_devices.specs.Devices.{Passed}
use Rattle.rh_devices.proofs.Passing.{passed_next}
use Rattle.rh_devices.proofs.transfer.read_input.Goals as goal

-- more bytes than a program reads were given
pub returns-then-count-len-clause-why : goal.returns-then-count-len-clause-why
returns-then-count-len-clause-why g c =
    let gives = g.S.Source.gives in
    let piece = take c.in-Ok.count c.ask.new.buffer in (
      grind (arith, nat_tests, c.in-Ok.ensures.failed, c.loop.invariant.watch),
      c.loop.input.items ++ piece,
      passed_next gives c.args.reader.now.inner c.loop.reader.inner c.ask.new.self.inner c.loop.input.items piece c.loop.invariant.bytes c.in-Ok.ensures.gives,
      omega (
        arith,
        length-append c.loop.input.items piece,
        length-take-le c.in-Ok.count c.ask.new.buffer c.in-Ok.ensures.bound,
        c.if-count-len.true,
        c.len.ensures,
        c.loop.invariant.limit,
      ),
    )

pub loop-preserved : goal.loop-preserved
loop-preserved g c =
    let gives = g.S.Source.gives in
    let piece = take c.in-Ok.count c.ask.new.buffer in
    let more = c.in_ok-extend_from_slice-in-Ok.ensures.items in
    record {
      bytes = subst (λ bytes. Passed gives c.args.reader.now.inner c.ask.new.self.inner bytes) (sym more)
          (passed_next gives c.args.reader.now.inner c.loop.reader.inner c.ask.new.self.inner c.loop.input.items piece c.loop.invariant.bytes
          c.in-Ok.ensures.gives);
      limit = omega (
        arith,
        ap length more,
        length-append c.loop.input.items piece,
        length-take-le c.in-Ok.count c.ask.new.buffer c.in-Ok.ensures.bound,
        c.if-count-len.false,
        c.len.ensures,
        c.loop.invariant.limit,
      );
      calls = omega (
        arith,
        ap length more,
        length-append c.loop.input.items piece,
        length-take-le c.in-Ok.count c.ask.new.buffer c.in-Ok.ensures.bound,
        c.in-Ok.count-test,
        c.loop.invariant.calls,
      );
      watch = grind (arith, nat_tests, c.in-Ok.ensures.failed, c.loop.invariant.watch);
      room = omega (arith, c.ask.auto.buffer, c.loop.invariant.room);
    }
