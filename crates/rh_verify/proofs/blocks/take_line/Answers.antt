use Rattle.std.proofs.Common.{◌≡◌, ◌+◌, [], ◌∷◌, ◌++◌, ℕ, List, length, map, vec_len, Ok, refl, sym, ap, subst, ◌∙◌, arith}
use Rattle.std.proofs.lemmas.List.{length-map}
use Rattle.std.specs.List.{flat_map}
use Rattle.std.specs.Borrow.{Bor}
use Rattle.std.proofs.lemmas.Result.{err_from_is_err_and}
use Rattle.rh_model.specs.ClusterView.{ClusterView}
use Rattle.rh_devices.specs.Devices.{WroteFront}
use Rattle.rh_devices.proofs.Passing.{nothing_yet}
use Rattle.rh_script.specs.Commands.{line_of}
use Rattle.rh_verify.specs.Spaces.{lines_of}
use Rattle.rh_verify.specs.Expected.{check_of, asked_by, ahead, passed_by, checks}
use Rattle.rh_verify.specs.Blocks.{block_text}
use Rattle.rh_verify.specs.Judging.{verdict_on, Gave}
use Rattle.rh_verify.proofs.Turning.{takes_nothing, takes_bad, takes_call, call_fails}
use Rattle.rh_verify.proofs.blocks.take_line.Goals as goal

pub returns-in_err-line_of-clause-taken : goal.returns-in_err-line_of-clause-taken
returns-in_err-line_of-clause-taken g c =
    let r = g.R.Rehearsal.rules in
    let sim = g.R.Rehearsal.view c.args.rehearsal.now in
    let k = r.cluster sim in
    let line = c.args.line.now in
    let p = err_from_is_err_and c.from_residual.result c.from_residual.ensures.1 in
    rw (p.1, p.2) (
      nothing_yet g.K.Sink.takes g.K.Sink.fails c.args.writer.now.inner
          (flat_map block_text (checks r sim c.args.number ((line, line_of k line) ∷ asked_by k (lines_of c.args.after.now)))),
      c.requires.writer,
    )

pub returns-in_err-rest-in-Asks-clause-taken : goal.returns-in_err-rest-in-Asks-clause-taken
returns-in_err-rest-in-Asks-clause-taken g c =
    let r = g.R.Rehearsal.rules in
    let sim = g.R.Rehearsal.view c.args.rehearsal.now in
    let k = r.cluster sim in
    let line = c.args.line.now in
    let p = err_from_is_err_and c.from_residual-in_err-rest-in-Asks.result c.from_residual-in_err-rest-in-Asks.ensures.1 in
    rw (p.1, p.2) (
      nothing_yet g.K.Sink.takes g.K.Sink.fails c.args.writer.now.inner
          (flat_map block_text (checks r sim c.args.number ((line, line_of k line) ∷ asked_by k (lines_of c.args.after.now)))),
      c.requires.writer,
    )

pub returns-in-Nothing-clause-taken : goal.returns-in-Nothing-clause-taken
returns-in-Nothing-clause-taken g c =
    let r = g.R.Rehearsal.rules in
    let sim = g.R.Rehearsal.view c.args.rehearsal.now in
    let k = r.cluster sim in
    let line = c.args.line.now in
    let asked = sym c.in-Nothing.is ∙ c.in_ok-line_of.ensures ∙ ap (λ (k : ClusterView). line_of k line) c.cluster.ensures in
    takes_nothing g.K.Sink.takes g.K.Sink.fails r sim sim c.args.tally.now c.args.tally.now c.args.number line (line_of k line)
    (asked_by k (lines_of c.args.after.now)) c.args.writer.now c.args.writer.now (sym asked) c.requires.writer

pub returns-in-Bad-clause-taken : goal.returns-in-Bad-clause-taken
returns-in-Bad-clause-taken g c =
    let r = g.R.Rehearsal.rules in
    let sim = g.R.Rehearsal.view c.args.rehearsal.now in
    let k = r.cluster sim in
    let line = c.args.line.now in
    let asked = sym c.in-Bad.is ∙ c.in_ok-line_of.ensures ∙ ap (λ (k : ClusterView). line_of k line) c.cluster.ensures in
    takes_bad g.K.Sink.takes g.K.Sink.fails r sim sim c.args.tally.now c.args.tally.now c.args.number line (line_of k line)
    (asked_by k (lines_of c.args.after.now)) c.args.writer.now c.args.writer.now (sym asked)

pub returns-in_err-verdict-in-Asks-clause-taken : goal.returns-in_err-verdict-in-Asks-clause-taken
returns-in_err-verdict-in-Asks-clause-taken g c =
    let takes = g.K.Sink.takes in
    let fails = g.K.Sink.fails in
    let r = g.R.Rehearsal.rules in
    let sim = g.R.Rehearsal.view c.args.rehearsal.now in
    let k = r.cluster sim in
    let line = c.args.line.now in
    let call = c.in-Asks.call in
    let f = c.in_err-verdict-in-Asks.field-0.0 in
    let asked = sym c.in-Asks.is ∙ c.in_ok-line_of.ensures ∙ ap (λ (k : ClusterView). line_of k line) c.cluster.ensures in
    let behind = ap (map (λ (l : Bor (List ℕ)). l.now)) c.as_slice-lines.ensures.value ∙ c.in_ok-rest-in-Asks.ensures.lines
    ∙ ap (λ (k : ClusterView). ahead (asked_by k (lines_of c.args.after.now))) c.cluster-in-Asks.ensures in
    let p = err_from_is_err_and c.from_residual-in_err-verdict-in-Asks.result c.from_residual-in_err-verdict-in-Asks.ensures.1 in
    rw (p.1, p.2)
    (call_fails takes fails r sim (g.R.Rehearsal.view c.write_block.new.rehearsal) c.args.tally.now c.args.tally.now c.args.number line (line_of k line)
    (asked_by k (lines_of c.args.after.now)) c.args.writer.now c.write_block.new.writer call (sym asked) f
    (subst (λ (ls : List (List ℕ)). WroteFront takes fails f (block_text (check_of r c.args.number line sim call ls))
    c.args.writer.now c.write_block.new.writer) behind c.in_err-verdict-in-Asks.ensures.text))

pub returns-in_ok-verdict-in-Asks-clause-taken : goal.returns-in_ok-verdict-in-Asks-clause-taken
returns-in_ok-verdict-in-Asks-clause-taken g c =
    let takes = g.K.Sink.takes in
    let fails = g.K.Sink.fails in
    let r = g.R.Rehearsal.rules in
    let sim = g.R.Rehearsal.view c.args.rehearsal.now in
    let k = r.cluster sim in
    let line = c.args.line.now in
    let call = c.in-Asks.call in
    let v = c.in_ok-verdict-in-Asks.verdict in
    let asked = sym c.in-Asks.is ∙ c.in_ok-line_of.ensures ∙ ap (λ (k : ClusterView). line_of k line) c.cluster.ensures in
    let behind = ap (map (λ (l : Bor (List ℕ)). l.now)) c.as_slice-lines.ensures.value ∙ c.in_ok-rest-in-Asks.ensures.lines
    ∙ ap (λ (k : ClusterView). ahead (asked_by k (lines_of c.args.after.now))) c.cluster-in-Asks.ensures in
    takes_call takes fails r sim (g.R.Rehearsal.view c.write_block.new.rehearsal) c.args.tally.now c.with_verdict.result c.args.number line (line_of k line)
    (asked_by k (lines_of c.args.after.now)) c.args.writer.now c.write_block.new.writer call (sym asked) v c.in_ok-verdict-in-Asks.ensures.behind
    (subst (λ (ls : List (List ℕ)). Gave takes fails (Ok v) (block_text (check_of r c.args.number line sim call ls))
    (verdict_on (check_of r c.args.number line sim call ls)) c.args.writer.now c.write_block.new.writer)
    behind c.in_ok-verdict-in-Asks.ensures.text)
    c.with_verdict.ensures

pub returns-in-Nothing-clause-rest : goal.returns-in-Nothing-clause-rest
returns-in-Nothing-clause-rest g c = ([], refl, refl)

pub returns-in-Bad-clause-rest : goal.returns-in-Bad-clause-rest
returns-in-Bad-clause-rest g c = ([], refl, refl)

pub returns-in_ok-verdict-in-Asks-clause-rest : goal.returns-in_ok-verdict-in-Asks-clause-rest
returns-in_ok-verdict-in-Asks-clause-rest g c =
    let items = c.lines_ahead.new.lines.items in
    let lines = map (λ (l : Bor (List ℕ)). l.now) items in
    let own : c.len.result ≡ vec_len c.lines_ahead.new.lines = c.len.ensures in
    let many : c.len.result ≡ length lines = omega (arith, own, length-map items (λ (l : Bor (List ℕ)). l.now)) in (
      lines,
      subst (λ (k : ClusterView). asked_by k (lines_of c.args.after.now) ≡ passed_by lines ++ asked_by k (lines_of c.in_ok-rest-in-Asks.rest.now))
          c.cluster-in-Asks.ensures c.in_ok-rest-in-Asks.ensures.rest,
      ap (λ (n : ℕ). n + 1) many,
    )
