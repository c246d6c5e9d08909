use Rattle.std.proofs.Common.{◌∷◌, ◌∙◌, sym, ap, arith}
use Rattle.rh_script.specs.Lines.{raw_lines}
use Rattle.rh_script.proofs.LineLemmas.{place_farther}
use Rattle.rh_json.specs.Base.{base_text, front_left}
use Rattle.rh_json.proofs.Front.{left_begins, left_goes_on, text_farther}
use Rattle.rh_json.proofs.base.base_text.Goals as goal

pub lines-preserved-then-not-begun : goal.lines-preserved-then-not-begun
lines-preserved-then-not-begun c =
    let cluster = c.args.cluster.now in
    let bytes = c.args.input.now in
    let rest = c.lines.rest.now in
    let line = c.split_line.result.0.now in
    let after = c.split_line.result.1.now in
    let so_far = c.lines.invariant in
    let cut = c.split_line.ensures in
    let begun = c.is_separator-begun.result in
    record {
      within = omega (arith, so_far.within, cut.shorter);
      place = place_farther bytes rest line after so_far.within so_far.place cut.whole;
      text = text_farther cluster c.lines.begun begun bytes rest line after (base_text cluster bytes) so_far.within so_far.place cut.whole cut.line so_far.text
          (ap (λ b. front_left cluster b (line ∷ raw_lines after)) c.if-not-begun.true
          ∙ left_begins cluster line (raw_lines after) begun c.is_separator-begun.ensures);
    }

pub lines-preserved : goal.lines-preserved
lines-preserved c =
    let cluster = c.args.cluster.now in
    let bytes = c.args.input.now in
    let rest = c.lines.rest.now in
    let line = c.split_line.result.0.now in
    let after = c.split_line.result.1.now in
    let so_far = c.lines.invariant in
    let cut = c.split_line.ensures in
    record {
      within = omega (arith, so_far.within, cut.shorter);
      place = place_farther bytes rest line after so_far.within so_far.place cut.whole;
      text = text_farther cluster c.lines.begun c.lines.begun bytes rest line after (base_text cluster bytes) so_far.within so_far.place cut.whole cut.line
          so_far.text
          (ap (λ b. front_left cluster b (line ∷ raw_lines after)) c.if-not-begun.false
          ∙ left_goes_on cluster line (raw_lines after) (sym c.in_ok-is_bad.ensures ∙ c.if-branch.false)
          ∙ ap (λ b. line ∷ front_left cluster b (raw_lines after)) (sym c.if-not-begun.false));
    }
