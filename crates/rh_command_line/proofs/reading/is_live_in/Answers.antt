use Rattle.std.proofs.Common.{◌≡◌, ◌∙◌, ap, codes}
use Rattle.clap.proofs.WalkLemmas.{first_value-rows}
use Rattle.clap.specs.Words.{found_of}
use Rattle.rh_command_line.specs.Asking.{is_live}
use Rattle.rh_command_line.proofs.reading.is_live_in.Goals as goal

pub returns : goal.returns
returns c = c.is_live.ensures ∙ ap is_live (c.get_str.ensures ∙ first_value-rows (found_of c.args.matches.now) (codes "rules"))
