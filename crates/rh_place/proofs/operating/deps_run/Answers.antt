use Rattle.std.proofs.Common.{◌&&◌, ◌∙◌, ap, sym, subst, Bool}
use Rattle.std.specs.List.{list_all}
use Rattle.rh_model.specs.ClusterView.{IsWithin}
use Rattle.rh_model.specs.Needs.{is_home, needed_apps}
use Rattle.rh_state.specs.StateView.{runs_at}
use Rattle.rh_state.specs.Stored.{read}
use Rattle.rh_place.proofs.Needs.{deps_by_kind}
use Rattle.rh_place.proofs.operating.deps_run.Goals as goal

pub returns-then-is_home : goal.returns-then-is_home
returns-then-is_home c =
    let s = read c.args.state.now in
    let home = ap (λ k. is_home k c.args.app c.args.node) (sym c.cluster-cluster.ensures) ∙ sym c.is_home.ensures ∙ c.if-is_home.true in
    c.needs_run.ensures ∙ ap (λ (b : Bool). b && list_all (runs_at s c.args.node) (needed_apps s.cluster c.args.app)) (sym home)
    ∙ deps_by_kind s c.args.node c.args.app c.requires.node (subst IsWithin c.cluster-cluster.ensures c.is_within.ensures)

pub returns-else-is_home : goal.returns-else-is_home
returns-else-is_home c =
    let s = read c.args.state.now in
    let home = ap (λ k. is_home k c.args.app c.args.node) (sym c.cluster-cluster.ensures) ∙ sym c.is_home.ensures ∙ c.if-is_home.false in
    c.if-is_home.false ∙ ap (λ (b : Bool). b && list_all (runs_at s c.args.node) (needed_apps s.cluster c.args.app)) (sym home)
    ∙ deps_by_kind s c.args.node c.args.app c.requires.node (subst IsWithin c.cluster-cluster.ensures c.is_within.ensures)
