-- What an application depends on runs at a node exactly if the node has all platform names among it and runs all
-- applications among it.
use Rattle.std.proofs.Common.{◌≡◌, ◌&&◌, ◌∷◌, [], ◌∙◌, ap, sym, List, Bool, true, false, slice_get, filter_map, Option, Some, None, unwrap_or, IsSome, ◌<◌, refl, subst, arith}
use Rattle.std.specs.List.{list_all}
use Rattle.std.specs.Option.{option_map, option_and_then}
use Rattle.rh_base.proofs.Elements.{some_inside}
use Rattle.rh_model.specs.declared.node.Node.{Node}
use Rattle.rh_model.specs.declared.node.App.{App}
use Rattle.rh_model.specs.declared.settings.Dep.{Dep}
use Rattle.rh_model.specs.declared.settings.Dep.TheVariants.{Listed, Platform}
use Rattle.rh_model.specs.ClusterView.{NodeView, deps_of, is_platform, node_count, IsWithin}
use Rattle.rh_model.proofs.PlainNode.{plain_node}
use Rattle.rh_model.specs.Needs.{is_at_hand, has_platforms, listed, is_home, needed_apps}
use Rattle.rh_state.specs.StateView.{StateView, runs_at}
use Rattle.rh_rules.specs.Placing.{dep_runs, deps_run}

swapped : (a b c : Bool) → a && (b && c) ≡ b && (a && c)
swapped true b c = refl
swapped false true c = refl
swapped false false c = refl

grouped : (a b c : Bool) → a && (b && c) ≡ (a && b) && c
grouped true b c = refl
grouped false b c = refl

-- at a node with these settings
by_kind : (s : StateView) (n : Node) (v : NodeView) → slice_get s.cluster.nodes n.0 ≡ Some v → (deps : List Dep)
    → list_all (dep_runs s n) deps ≡ list_all (is_at_hand v.platforms) deps && list_all (runs_at s n) (filter_map listed deps)
by_kind s n v is [] = refl
by_kind s n v is (Listed b ∷ deps) = ap (λ x. runs_at s n b && x) (by_kind s n v is deps)
    ∙ swapped (runs_at s n b) (list_all (is_at_hand v.platforms) deps) (list_all (runs_at s n) (filter_map listed deps))
by_kind s n v is (Platform p ∷ deps) = ap (λ x. is_platform s.cluster n p && x) (by_kind s n v is deps)
    ∙ ap (λ o. unwrap_or (option_and_then (λ (w : NodeView). slice_get w.platforms p) o) false
    && (list_all (is_at_hand v.platforms) deps && list_all (runs_at s n) (filter_map listed deps))) is
    ∙ grouped (unwrap_or (slice_get v.platforms p) false) (list_all (is_at_hand v.platforms) deps) (list_all (runs_at s n) (filter_map listed deps))

pub deps_by_kind : (s : StateView) (n : Node) (a : App) → n.0 < node_count s.cluster → IsWithin s.cluster
    → is_home s.cluster a n && list_all (runs_at s n) (needed_apps s.cluster a) ≡ deps_run s n a
unfolding is_home needed_apps deps_run
deps_by_kind s n a known within = by (slice_get s.cluster.nodes n.0) refl (some_inside s.cluster.nodes n.0 plain_node (omega (arith, known, within.nodes)))
  where
    by : (o : Option NodeView) → slice_get s.cluster.nodes n.0 ≡ o → IsSome (slice_get s.cluster.nodes n.0)
        → unwrap_or (option_map (has_platforms (deps_of s.cluster a)) (slice_get s.cluster.nodes n.0)) false
        && list_all (runs_at s n) (filter_map listed (deps_of s.cluster a))
        ≡ list_all (dep_runs s n) (deps_of s.cluster a)
    by (Some v) is there = ap (λ o. unwrap_or (option_map (has_platforms (deps_of s.cluster a)) o) false
        && list_all (runs_at s n) (filter_map listed (deps_of s.cluster a))) is
        ∙ sym (by_kind s n v is (deps_of s.cluster a))
    by None is there = absurd (let none : IsSome {T = NodeView} None = subst IsSome is there in cc none)
