use Rattle.std.proofs.Common.{◌≡◌, ℕ, List, map, ap, subst, ◌∙◌}
use Rattle.std.specs.Borrow.{Bor}
use Rattle.std.proofs.lemmas.Result.{err_from_is_err_and}
use Rattle.rh_devices.specs.Devices.{Passed}
use Rattle.rh_devices.proofs.Passing.{nothing_yet}
use Rattle.rh_verify.specs.Expected.{check_of, answers_in, wanted_among}
use Rattle.rh_verify.specs.Blocks.{block_of, block_text, missing}
use Rattle.rh_verify.specs.Judging.{verdict_of}
use Rattle.rh_verify.proofs.blocks.write_block.Goals as goal

pub returns-in_err-came-clause-text : goal.returns-in_err-came-clause-text
returns-in_err-came-clause-text g c =
    let lines = map (λ (l : Bor (List ℕ)). l.now) c.args.behind.now in
    let sim = g.R.Rehearsal.view c.args.rehearsal.now in
    let p = err_from_is_err_and c.from_residual.result c.from_residual.ensures.1 in
    rw (p.1, p.2) (
      nothing_yet g.K.Sink.takes g.K.Sink.fails c.args.writer.now.inner
          (block_text (check_of g.R.Rehearsal.rules c.args.number c.args.line.now sim c.args.call lines)),
      c.requires,
    )

pub returns-in_err-block-clause-text : goal.returns-in_err-block-clause-text
returns-in_err-block-clause-text g c =
    let lines = map (λ (l : Bor (List ℕ)). l.now) c.args.behind.now in
    let sim = g.R.Rehearsal.view c.args.rehearsal.now in
    let p = err_from_is_err_and c.from_residual-in_err-block.result c.from_residual-in_err-block.ensures.1 in
    rw (p.1, p.2) (
      nothing_yet g.K.Sink.takes g.K.Sink.fails c.args.writer.now.inner
          (block_text (check_of g.R.Rehearsal.rules c.args.number c.args.line.now sim c.args.call lines)),
      c.requires,
    )

pub returns-clause-text : goal.returns-clause-text
unfolding block_text
returns-clause-text g c =
    let takes = g.K.Sink.takes in
    let r = g.R.Rehearsal.rules in
    let sim = g.R.Rehearsal.view c.args.rehearsal.now in
    let call = c.args.call in
    let lines = map (λ (l : Bor (List ℕ)). l.now) c.args.behind.now in
    let answers = answers_in lines in
    let wanted = wanted_among lines in
    let came : c.as_slice.result.now ≡ r.answer sim call = c.as_slice.ensures.value ∙ c.in_ok-came.ensures.text in
    let report = ap r.report c.in_ok-came.ensures.behind in
    let block = c.in_ok-block.ensures.block
    ∙ (λ i. block_of c.args.number c.args.line.now answers (came i) (missing (report i) wanted)) in (
      c.in_ok-block.ensures.verdict ∙ (λ i. verdict_of answers (came i) wanted (missing (report i) wanted)),
      subst (λ (t : List ℕ). Passed takes c.args.writer.now.inner c.write_text.new.writer.inner t) (c.as_slice-2.ensures.value ∙ block)
          c.in_ok-write_text.ensures.whole,
      c.in_ok-write_text.ensures.ok,
    )
