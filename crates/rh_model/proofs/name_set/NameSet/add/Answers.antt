use Rattle.std.proofs.Common.{◌≡◌, ◌∙◌, ◌++◌, ◌∷◌, [], List, String, Global, false, cond, map, ap, sym}
use Rattle.std.proofs.lemmas.List.{map-append}
use Rattle.std.specs.List.{list_any}
use Rattle.std.specs.Str.{bytes_eq}
use Rattle.std.specs.String.{string_bytes, string_eq}
use Rattle.rh_model.proofs.Texts.{list_any-map}
use Rattle.rh_model.proofs.name_set.NameSet.add.Goals as goal

pub returns-clause-added : goal.returns-clause-added
returns-clause-added c =
    let keys = c.self.inside.names.keys in
    let name = c.args.name.now in
    let text = c.in_ok-from_str.field-0 in
    let same : string_bytes text ≡ name = c.in_ok-from_str.ensures.ok in
    let absent : list_any (string_eq text) keys ≡ false =
    (λ i. list_any (λ k. bytes_eq (same i) (string_bytes k)) keys) ∙ sym (list_any-map (bytes_eq name) string_bytes keys)
    ∙ ap (list_any (bytes_eq name)) c.self.view_is ∙ c.requires in
    ap (λ (ks : List (String Global)). map string_bytes ks) (c.in_ok-insert.ensures.keys ∙ (λ i. cond (absent i) keys (keys ++ text ∷ [])))
    ∙ map-append string_bytes keys (text ∷ []) ∙ (λ i. c.self.view_is i ++ same i ∷ [])
