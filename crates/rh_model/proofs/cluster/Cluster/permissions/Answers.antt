use Rattle.std.proofs.Common.{◌≡◌, ◌<◌, ◌∙◌, length, sym, ap, subst, false}
use Rattle.std.proofs.lemmas.List.FromFn.{fill_by_all}
use Rattle.rh_model.specs.ClusterView.{app_numbered, app_count, is_permitted}
use Rattle.rh_model.proofs.MarksKept.{permitted_at, mapped_twice}
use Rattle.rh_model.proofs.cluster.Cluster.permissions.Goals as goal

pub returns : goal.returns
returns c =
    let v = c.args.self.now in
    let row = c.permissions.result.now in
    let as_many : length row ≡ app_count v = ap length c.permissions.ensures ∙ c.is_within.ensures.permissions c.args.node.0 c.parts_of.result.now c.parts_of.ensures in
    fill_by_all (λ k. is_permitted v c.args.node (app_numbered k)) row (app_count v) false as_many
    (λ k lt. permitted_at v c.args.node c.parts_of.result.now c.parts_of.ensures row c.permissions.ensures k (subst (λ m. k < m) (sym as_many) lt))
    ∙ mapped_twice (is_permitted v c.args.node) app_numbered _
