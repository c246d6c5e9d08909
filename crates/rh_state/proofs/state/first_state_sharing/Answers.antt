use Rattle.std.proofs.Common.{rules, ◌≡◌, map, replicate, refl, ap, sym, subst, ◌∙◌}
use Rattle.rh_model.specs.ClusterView.{node_count, app_count}
use Rattle.rh_wheel.specs.Formed.{IsFormed as IsFormedWheel}
use Rattle.rh_state.specs.First.{first_words, configured}
use Rattle.rh_state.specs.Formed.{IsFormed}
use Rattle.rh_state.specs.Numbers.{nodes_of}
use Rattle.rh_state.specs.declared.status.Mode.TheVariants.{Down}
use Rattle.rh_state.specs.declared.status.Standing.TheVariants.{Quiet}
use Rattle.rh_state.specs.Stored.{Stored, read}
use Rattle.rh_state.proofs.FirstStates.{IsFormed-first, read_first}
use Rattle.rh_state.proofs.state.first_state_sharing.Goals as goal

-- what the new state keeps
words : (c : goal.In_ok-cluster) → record {
  cluster = c.in_ok-cluster.cluster.value;
  time = 0;
  modes = c.in_ok-modes.modes.items;
  incarnations = c.in_ok-incarnations.incarnations.items;
  links = c.in_ok-links.links;
  restarts = c.in_ok-restarts.restarts;
  kinds = c.in_ok-kinds.kinds;
  allowed = c.in_ok-allowed.allowed;
  standings = c.in_ok-standings.standings.items;
  wheel = c.in_ok-wheel.wheel;
} ≡ first_words c.args.cluster.now.value
words c =
    let cluster = c.args.cluster.now.value in
    let nodes : c.node_count-nodes.result ≡ node_count cluster = search rules in
    let apps : c.app_count-apps.result ≡ app_count cluster = search rules in
    let same : c.in_ok-cluster.cluster.value ≡ cluster = search rules in
    let modes : c.in_ok-modes.modes.items ≡ replicate c.node_count-nodes.result Down = search rules in
    let incarnations : c.in_ok-incarnations.incarnations.items ≡ replicate c.node_count-nodes.result 0 = search rules in
    let standings : c.in_ok-standings.standings.items ≡ replicate c.app_count-apps.result Quiet = search rules in
    let allowed : c.in_ok-allowed.allowed ≡ map (configured cluster) (nodes_of cluster) = search rules in
    rw (modes, incarnations, c.in_ok-restarts.ensures, c.in_ok-kinds.ensures, c.in_ok-links.ensures.words, c.in_ok-wheel.ensures.words)
    (rw (allowed, standings, nodes, apps, same) refl)

pub invariant_of-result : goal.invariant_of-result
invariant_of-result c =
    let wheel : c.in_ok-wheel.wheel ≡ (first_words c.args.cluster.now.value).wheel = ap (λ (w : Stored). w.wheel) (words c) in
    subst IsFormed (sym (words c)) (IsFormed-first c.args.cluster.now.value (subst IsFormedWheel wheel c.formed-2.ensures))

pub returns-clause-words : goal.returns-clause-words
returns-clause-words c = words c

pub returns-clause-state : goal.returns-clause-state
returns-clause-state c = ap read (words c) ∙ read_first c.args.cluster.now.value
