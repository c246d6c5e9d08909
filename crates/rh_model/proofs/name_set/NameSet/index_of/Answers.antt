use Rattle.std.proofs.Common.{ap, ◌∙◌, sym, position}
use Rattle.std.specs.Str.{bytes_eq}
use Rattle.std.specs.String.{string_bytes}
use Rattle.rh_model.proofs.Texts.{position-map}
use Rattle.rh_model.proofs.name_set.NameSet.index_of.Goals as goal

pub returns-clause-first : goal.returns-clause-first
returns-clause-first c =
    c.get_index_of.ensures.index ∙ sym (position-map (bytes_eq c.args.name.now) string_bytes c.self.inside.names.keys)
    ∙ ap (position (bytes_eq c.args.name.now)) c.self.view_is
