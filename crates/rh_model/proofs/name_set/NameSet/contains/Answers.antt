use Rattle.std.proofs.Common.{ap, ◌∙◌, sym}
use Rattle.std.specs.List.{list_any}
use Rattle.std.specs.Str.{bytes_eq}
use Rattle.std.specs.String.{string_bytes}
use Rattle.rh_model.proofs.Texts.{list_any-map}
use Rattle.rh_model.proofs.name_set.NameSet.contains.Goals as goal

pub returns : goal.returns
returns c =
    c.contains.ensures ∙ sym (list_any-map (bytes_eq c.args.name.now) string_bytes c.self.inside.names.keys)
    ∙ ap (list_any (bytes_eq c.args.name.now)) c.self.view_is
