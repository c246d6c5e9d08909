use Rattle.std.proofs.Common.{◌∙◌, sym, arith}
use Rattle.rh_script.specs.Lines.{cluster_text}
use Rattle.rh_script.proofs.LineLemmas.{place_farther, cluster_farther, before_goes_on, behind_goes_on}
use Rattle.rh_script.proofs.lines.cut.Goals as goal

pub loop-line-preserved : goal.loop-line-preserved
loop-line-preserved c =
    let bytes = c.args.bytes.now in
    let rest = c.loop-line.rest.now in
    let line = c.split_line.result.0.now in
    let after = c.split_line.result.1.now in
    let so_far = c.loop-line.invariant in
    let cut = c.split_line.ensures in
    let other = sym c.if-is_separator.ensures in
    record {
      within = omega (arith, so_far.within, cut.shorter);
      place = place_farther bytes rest line after so_far.within so_far.place cut.whole;
      cluster = cluster_farther bytes rest line after so_far.within so_far.place cut.whole (cluster_text bytes) so_far.cluster
          (before_goes_on rest line after cut.line other);
      script = so_far.script ∙ behind_goes_on rest line after cut.line other;
    }
