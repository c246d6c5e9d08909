-- The first state of a cluster is valid.
use Rattle.std.proofs.Common.{◌≡◌, ◌≢◌, ◌||◌, ℕ, zero, suc, Bool, true, false, List, [], ◌∷◌, map, replicate, slice_get, unwrap_or, AllPairs, refl, sym, ap}
use Rattle.std.proofs.Common.{◌∙◌, subst, arith}
use Rattle.std.proofs.lemmas.Bool.{and_left}
use Rattle.std.proofs.lemmas.List.{get_or-map}
use Rattle.std.proofs.lemmas.Option.{unwrap_or-slice_get}
use Rattle.rh_model.specs.ClusterView.{ClusterView, IsWithin, node_count, app_count}
use Rattle.rh_model.specs.declared.node.Node.{Node}
use Rattle.rh_model.specs.declared.node.App.{App}
use Rattle.rh_state.specs.declared.status.Mode.TheVariants.{Down}
use Rattle.rh_state.specs.declared.status.Standing.{Standing}
use Rattle.rh_state.specs.declared.status.Standing.TheVariants.{Quiet, Running}
use Rattle.rh_state.specs.First.{first, configured}
use Rattle.rh_state.specs.Lists.{has_app}
use Rattle.rh_state.specs.Numbers.{nodes_of, apps_of}
use Rattle.rh_state.specs.Shape.{IsNodeOf}
use Rattle.rh_state.specs.StateView.{mode_of, is_waiting, running_at, waiting_at, runs_at, waits_at, is_started, standing_of}
use Rattle.rh_state.specs.Tables.{row}
use Rattle.rh_state.proofs.FirstStates.{IsShaped-first}
use Rattle.rh_base.specs.Lists.{or_else, first_given}
use Rattle.rh_trace.proofs.NextFirsts.{still_if_none_enabled}
use Rattle.rh_trace.proofs.Numbered.{length_nodes, node_there}
use Rattle.rh_rules.specs.Moves.{local_move, local_moves, placements, placements_from, takeovers, takeovers_from}
use Rattle.rh_rules.specs.Settling.{next_moves}
use Rattle.rh_trace.specs.Validity.{TimersFit, IsSound, IsValid}
use Rattle.rh_state.specs.Standings.{is_lost}
use Rattle.rh_rules.specs.NodesStart.{is_ready}

-- a list of one element over and over, read at that element
at-replicate : {A : Type 0} (count i : ℕ) (x : A) → unwrap_or (slice_get (replicate count x) i) x ≡ x
at-replicate zero i x = refl
at-replicate (suc count) zero x = refl
at-replicate (suc count) (suc i) x = at-replicate count i x

module _ (c : ClusterView) where
  down : (n : Node) → mode_of (first c) n ≡ Down
  down n = at-replicate (node_count c) n.0 Down

  none_runs : (n : Node) → running_at (first c) n ≡ []
  none_runs n = at-replicate (node_count c) n.0 []

  none_waits : (n : Node) → waiting_at (first c) n ≡ []
  none_waits n = at-replicate (node_count c) n.0 []

  quiet : (a : App) → standing_of (first c) a ≡ Quiet
  quiet a = at-replicate (app_count c) a.0 Quiet

  doesnt_run : (n : Node) (a : App) → runs_at (first c) n a ≡ false
  doesnt_run n a = ap (λ apps. has_app apps a) (none_runs n)

  doesnt_wait : (n : Node) (a : App) → waits_at (first c) n a ≡ false
  doesnt_wait n a = ap (λ apps. has_app apps a) (none_waits n)

  clash : {P : Type 0} (b : Bool) → b ≡ false → b ≡ true → P
  clash b f t = absurd (ends (sym f ∙ t))
    where
      ends : false ≡ true → ⊥
      ends e = cc

  unstarted : {P : Type 0} (n : Node) (a : App) → is_started (first c) n a ≡ true → P
  unstarted n a h = clash (is_started (first c) n a) (none (runs_at (first c) n a) (waits_at (first c) n a) (doesnt_run n a) (doesnt_wait n a)) h
    where
      none : (p q : Bool) → p ≡ false → q ≡ false → (p || q) ≡ false
      none true q e f = absurd (cc e)
      none false q e f = f

  as_configured : (n : Node) → IsNodeOf c n → row (first c).allowed n.0 ≡ configured c n
  as_configured n h =
      let long = length_nodes c in
      unwrap_or-slice_get (map (configured c) (nodes_of c)) n.0 []
      ∙ get_or-map (configured c) (nodes_of c) n.0 n [] (omega (arith, long, h))
      ∙ ap (configured c) (node_there c n.0 n h)

  not_lost : (standing : Standing) → standing ≡ Quiet → is_lost standing ≡ false
  not_lost standing e = ap is_lost e

  not_running : {P : Type 0} (standing : Standing) (m : Node) → standing ≡ Quiet → standing ≡ Running m → P
  not_running standing m e f = absurd (differ (sym e ∙ f))
    where
      differ : Quiet ≡ Running m → ⊥
      differ g = cc

  timers_fit : TimersFit (first c)
  timers_fit = record {
    sync = λ n. sym (and_left _ _ (ap is_waiting (down n)));
    failover = λ a. sym (ap is_lost (quiet a));
    once = λ i j d l m. absurd (omega arith);
    order = λ i j d l m. absurd (omega arith);
    due = λ k d l. absurd (omega arith);
  }

  pub first_sound : IsWithin c → IsSound (first c)
  first_sound within = record {
    within = within;
    shaped = IsShaped-first c;
    once = record {
      running = λ n. subst (λ (apps : List App). AllPairs (λ (a b : App). a.0 ≢ b.0) apps) (sym (none_runs n)) (λ i j d l m. absurd (omega arith));
      waiting = λ n. subst (λ (apps : List App). AllPairs (λ (a b : App). a.0 ≢ b.0) apps) (sym (none_waits n)) (λ i j d l m. absurd (omega arith));
      apart = λ n a h. doesnt_run n a;
    };
    idle = record {
      running = λ n h. none_runs n;
      waiting = λ n h. none_waits n;
      permissions = λ n h e. as_configured n h;
    };
    standing = record {
      listed = λ n a h. unstarted n a h;
      stands = λ n a h r. clash (runs_at (first c) n a) (doesnt_run n a) r;
      local = λ a h. quiet a;
    };
    runs = record { runs = λ a m h. not_running (standing_of (first c) a) m (quiet a) h };
    timers = timers_fit;
  }

  -- nothing moves
  none_given : {A B : Type 0} (f : A → List B) → ((x : A) → f x ≡ []) → (xs : List A) → first_given f xs ≡ []
  none_given f h [] = refl
  none_given f h (x ∷ xs) = ap (λ ys. or_else ys (first_given f xs)) (h x) ∙ none_given f h xs

  no_local : (n : Node) → local_moves (first c) n ≡ []
  unfolding local_moves
  no_local n = ap (first_given (local_move (first c) n)) (none_waits n)

  no_placement : (a : App) → placements (first c) a ≡ []
  unfolding placements
  no_placement a = ap (placements_from (first c) a) (quiet a)

  no_takeover : (a : App) → takeovers (first c) [] a ≡ []
  unfolding takeovers
  no_takeover a = ap (takeovers_from (first c) [] a) (quiet a)

  pub first_still : next_moves (first c) [] ≡ []
  unfolding next_moves
  first_still =
      ap (λ ms. or_else ms (or_else (first_given (placements (first c)) (apps_of c)) (first_given (takeovers (first c) []) (apps_of c))))
      (none_given (local_moves (first c)) no_local (nodes_of c))
      ∙ ap (λ ms. or_else ms (first_given (takeovers (first c) []) (apps_of c))) (none_given (placements (first c)) no_placement (apps_of c))
      ∙ none_given (takeovers (first c) []) no_takeover (apps_of c)

  pub first_valid_of : IsWithin c → IsValid (first c)
  unfolding is_ready
  first_valid_of within = record {
    sound = first_sound within;
    settled = λ n. and_left _ _ (ap is_waiting (down n));
    still = (still_if_none_enabled (first c) []).0 first_still;
  }

pub first_valid : (c : ClusterView) → IsWithin c → IsValid (first c)
first_valid = first_valid_of
