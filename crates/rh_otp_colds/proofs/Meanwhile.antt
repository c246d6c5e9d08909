-- Where nodes and what is between them are as they were, a cold start is one still.
use Rattle.std.proofs.Common.{◌≡◌, ◌≤◌, ◌+◌, ◌==◌, ◌&&◌, not, List, is_some, unwrap_or, Option, sym, ap, subst, ◌∙◌}
use Rattle.rh_model.specs.ClusterView.{ClusterView, is_in, mandatory_of, optional_of}
use Rattle.rh_model.specs.declared.node.Node.{Node}
use Rattle.rh_otp_model.specs.declared.wait.OwnFile.{OwnFile}
use Rattle.rh_otp_net.specs.Links.{linked_with}
use Rattle.rh_otp_node.specs.Live.{LiveView, never_begun, begun}
use Rattle.rh_otp_system.specs.State.{SystemView, node_at}
use Rattle.rh_otp_laws.specs.Acting.{IsThere}
use Rattle.rh_otp_crashes.proofs.Turning.{own_in}
use Rattle.rh_otp_waits.specs.Waits.{HasItWait}
use Rattle.rh_otp_waits.proofs.Naming.{wait_in}
use Rattle.rh_otp_gathers.specs.Gathers.{times, one_if}
use Rattle.rh_otp_colds.specs.Colds.{is_there, HasBegun, IsColdStart}
use Rattle.rh_otp_colds.specs.Wholes.{AreAsBefore}

module _ (s t : SystemView) (same : AreAsBefore s t) where
  node_same : (m : Node) → node_at t m ≡ node_at s m
  node_same m = ap (λ (o : Option LiveView). unwrap_or o never_begun) (same.nodes m)

  there_same : (m : Node) → is_there t m ≡ is_there s m
  there_same m = ap is_some (same.nodes m)

  before : (m : Node) → IsThere m t → IsThere m s
  before m there = (there.0, sym (same.nodes m) ∙ there.1)

  still_begun : (m : Node) → HasBegun m s → HasBegun m t
  still_begun m b = record {
    there = (b.there.0, same.nodes m ∙ b.there.1);
    node = node_same m
        ∙ b.node
        ∙ (λ i. record (begun (sym same.cluster i) (own_in (sym same.files i) m) m never_begun) {
          mandatory = (sym (node_same m) i).mandatory;
          optional = (sym (node_same m) i).optional;
        });
    awaits = λ x.
        (λ i. one_if (is_in x (node_same m i).mandatory) + one_if (is_in x (node_same m i).optional))
        ∙ b.awaits x
        ∙ (λ i. one_if (sym (there_same x) i && not (is_in x (sym same.alive i))));
    sees = λ x apart. ap (λ l. times x (linked_with m l)) same.links ∙ b.sees x apart ∙ sym (ap (times x) same.alive);
    not_itself = ap (λ l. times m (linked_with m l)) same.links ∙ b.not_itself;
  }

  pub still_cold : IsColdStart s → IsColdStart t
  still_cold f = record {
    names = record {
      wait = λ m there. subst (λ (files : List OwnFile). HasItWait (wait_in files m)) (sym same.files) (f.names.wait m (before m there));
      lists = λ m x there.
          ap (λ (c : ClusterView). one_if (is_in x (mandatory_of c m)) + one_if (is_in x (optional_of c m))) same.cluster
          ∙ f.names.lists m x (before m there)
          ∙ ap (λ c. one_if (c && not (x.0 == m.0))) (sym (there_same x));
    };
    once = λ m. subst (λ (l : List Node). times m l ≤ 1) (sym same.alive) (f.once m);
    begun = λ m some. still_begun m (f.begun m (subst (λ (l : List Node). 1 ≤ times m l) same.alive some));
    new = λ m none. node_same m ∙ f.new m (sym (ap (times m) same.alive) ∙ none);
    unseen = λ m none. ap (linked_with m) same.links ∙ f.unseen m (sym (ap (times m) same.alive) ∙ none);
    locks = same.locks ∙ f.locks;
    messages = same.messages ∙ f.messages;
    slow = same.slow ∙ f.slow;
    calls = same.calls ∙ f.calls;
  }
