use Rattle.std.proofs.Common.{◌≡◌, ◌∙◌, ap, codes}
use Rattle.clap.proofs.WalkLemmas.{first_value-rows}
use Rattle.clap.specs.Words.{found_of}
use Rattle.rh_command_line.specs.Asking.{pick_named}
use Rattle.rh_command_line.proofs.reading.named_in.Goals as goal

pub returns : goal.returns
returns c = c.pick_named.ensures ∙ ap pick_named (c.get_str.ensures ∙ first_value-rows (found_of c.args.matches.now) (codes "pick"))
