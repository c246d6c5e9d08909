use Rattle.std.proofs.Common.{not, ap, ◌∙◌}
use Rattle.std.specs.List.{list_any}
use Rattle.rh_state.specs.Stored.{read}
use Rattle.rh_calls.proofs.Permissions.{forbidden_in_row}
use Rattle.rh_calls.proofs.text.nodes.forbids_any.Goals as goal

pub returns : goal.returns
returns c =
    c.has_no.ensures ∙ ap (list_any not) c.permissions.ensures ∙ forbidden_in_row (read c.args.state.now) c.args.node c.formed.ensures.shape c.requires
