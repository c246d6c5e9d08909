-- What a dist_ac and a controller do where a node is down.
use Rattle.std.proofs.Common.{◌≡◌, ◌⊎◌, ◌<◌, ℕ, Bool, true, false, cond, List, [], Option, Some, None, refl, sym, ap, subst, ◌∙◌, inl, inr}
use Rattle.std.specs.Prelude.{All}
use Rattle.std.proofs.lemmas.List.{append-nil}
use Rattle.std.proofs.lemmas.List.Elements.{All-nil}
use Rattle.rh_model.specs.ClusterView.{ClusterView}
use Rattle.rh_model.specs.declared.node.App.{App}
use Rattle.rh_model.specs.declared.node.Node.{Node}
use Rattle.rh_otp_model.specs.declared.message.Change.TheVariants as change_of
use Rattle.rh_otp_model.specs.declared.message.Message.{Message}
use Rattle.rh_otp_model.specs.declared.message.Message.TheVariants as message
use Rattle.rh_otp_model.specs.declared.output.Envelope.{Envelope}
use Rattle.rh_otp_model.specs.declared.wait.OwnFile.{OwnFile}
use Rattle.rh_otp_model.specs.Own.{OwnView, EntryView}
use Rattle.rh_otp_model.specs.Rows.{keyfind, keydelete, has_row}
use Rattle.rh_otp_controller.specs.declared.state.Place.{Place}
use Rattle.rh_otp_controller.specs.Changes.{changed, change, received}
use Rattle.rh_otp_controller.specs.State.{ControllerView}
use Rattle.rh_otp_controller.specs.State.{TurnView as ControllerTurn}
use Rattle.rh_otp_dist.specs.declared.state.Stand.TheVariants as stand
use Rattle.rh_otp_dist.specs.Down.{node_down}
use Rattle.rh_otp_dist.specs.State.{DistView, TurnView}
use Rattle.rh_otp_dist.specs.Waiting.{takes}
use Rattle.rh_otp_node.specs.Live.{LiveView}
use Rattle.rh_otp_node.specs.Turns.{controller_turn, controlled_by}
use Rattle.rh_otp_system.specs.Delivering.{controlled}
use Rattle.rh_otp_system.specs.Outputs.{all_carried_out}
use Rattle.rh_otp_system.specs.State.{SystemView, live_at, with_node}
use Rattle.rh_otp_system.specs.Working as working
use Rattle.rh_otp_crashes.specs.Crashes.{IsUnoccupied}
use Rattle.rh_otp_crashes.proofs.Downing.{Stays, no_more, sees_down, down_so, plain_losses, letters_so}
use Rattle.rh_otp_crashes.proofs.Turning.{Turned, Changed, own_in, node_is, turn, has_none, has_waiting, has_idle}

-- ---- the dist_ac

abbrev pub AreLater : OwnView → Type 0
AreLater own = All (λ (e : EntryView). 0 < e.timeout) own.entries

turns_idle : (K : Envelope → Type 0) (c : ClusterView) (files : List OwnFile) (n : Node) (life : ℕ) (gone : Node) (d : DistView)
    → ((a : App) → K (no_more (record { node = n; life = life }) a)) → IsUnoccupied d → d.stand ≡ stand.Idle → AreLater (own_in files n)
    → Turned K c files n life (message.NodeDown gone) (Some d)
turns_idle K c files n life gone d kind free is later =
    let t : TurnView = turn c (own_in files n) n life d in
    let over : TurnView = node_down gone t in
    let stays : Stays t over = sees_down gone t free.permits later in
    let losses = stays.losses (All-nil _) in
    has_idle K c files n life (message.NodeDown gone) d over free is refl (λ w. down_so w gone t free.permits)
    (plain_losses t.here over.out losses) (letters_so t.here K kind over.out losses)
    (record {
      stand = inl stays.stand;
      mail = subst (λ (l : List Message). All (λ (m : Message). takes over.state.stand m ≡ false) l) (sym stays.mail)
          (All-nil (λ (m : Message). takes over.state.stand m ≡ false));
      permits = stays.permits ∙ free.permits;
      parked = stays.parked ∙ free.parked;
    })

-- whatever it is, where it is unoccupied if there is one
pub turns : (K : Envelope → Type 0) (c : ClusterView) (files : List OwnFile) (n : Node) (life : ℕ) (gone : Node) (o : Option DistView)
    → ((a : App) → K (no_more (record { node = n; life = life }) a)) → ((d : DistView) → o ≡ Some d → IsUnoccupied d)
    → AreLater (own_in files n) → Turned K c files n life (message.NodeDown gone) o
turns K c files n life gone None kind free later = has_none K c files n life (message.NodeDown gone)
turns K c files n life gone (Some d) kind free later = by (free d refl).stand
  where
    by : (d.stand ≡ stand.Idle) ⊎ (d.stand ≡ stand.ForGo) → Turned K c files n life (message.NodeDown gone) (Some d)
    by (inl is) = turns_idle K c files n life gone d kind (free d refl) is later
    by (inr is) = has_waiting K c files n life (message.NodeDown gone) d (free d refl) is refl

-- ---- the controller

-- it runs nowhere, as far as a controller knows
abbrev cleared_at : App → Option Place → ControllerView → ControllerView
cleared_at a None c = c
cleared_at a (Some place) c = cond (has_row a c.started) (record c { running = keydelete a c.running }) c

abbrev pub cleared : App → ControllerView → ControllerView
cleared a c = cond c.is_ending c (cleared_at a (keyfind a c.running) c)

clears_at : (a : App) (o : Option Place) (t : ControllerTurn)
    → changed a change_of.NotRunning o t ≡ record t { state = cleared_at a o t.state }
clears_at a None t = refl
clears_at a (Some place) t = by (has_row a t.state.started)
  where
    by : (b : Bool) → cond b (record t { state = record t.state { running = keydelete a t.state.running } }) t
        ≡ record t { state = cond b (record t.state { running = keydelete a t.state.running }) t.state }
    by true = refl
    by false = refl

clears : (a : App) (t : ControllerTurn) → received (message.Change a change_of.NotRunning) t ≡ record t { state = cleared a t.state }
unfolding received change
clears a t =
    ap (λ (u : ControllerTurn). cond t.state.is_ending t u) (clears_at a (keyfind a t.state.running) t)
    ∙ by t.state.is_ending
  where
    by : (b : Bool) → cond b t (record t { state = cleared_at a (keyfind a t.state.running) t.state })
        ≡ record t { state = cond b t.state (cleared_at a (keyfind a t.state.running) t.state) }
    by true = refl
    by false = refl

pub comes_so : (n : Node) (a : App) (s : SystemView) (v : LiveView) → live_at s n ≡ Some v
    → controlled n (message.Change a change_of.NotRunning) s ≡ with_node n (record v { controller = cleared a v.controller }) s
unfolding controlled_by
comes_so n a s v there =
    let own : OwnView = own_in s.files n in
    ap (λ (x : LiveView). working.behind n (controlled_by s.cluster own n (message.Change a change_of.NotRunning) x) s) (node_is s n v there)
    ∙ ap (λ (t : ControllerTurn). all_carried_out n t.out (with_node n (record v { controller = t.state }) s))
    (clears a (controller_turn s.cluster own n v))

ending_so : (a : App) (c : ControllerView) → (cleared a c).is_ending ≡ c.is_ending
ending_so a c = by c.is_ending refl (keyfind a c.running)
  where
    at : (o : Option Place) → (cleared_at a o c).is_ending ≡ c.is_ending
    at None = refl
    at (Some place) = on (has_row a c.started)
      where
        on : (b : Bool) → (cond b (record c { running = keydelete a c.running }) c).is_ending ≡ c.is_ending
        on true = refl
        on false = refl

    by : (b : Bool) → c.is_ending ≡ b → (o : Option Place) → (cond c.is_ending c (cleared_at a o c)).is_ending ≡ c.is_ending
    by true is o = ap (λ (b : Bool). (cond b c (cleared_at a o c)).is_ending) is
    by false is o = ap (λ (b : Bool). (cond b c (cleared_at a o c)).is_ending) is ∙ at o

pub changes : (c : ClusterView) (files : List OwnFile) (n : Node) (a : App) → Changed c files n (message.Change a change_of.NotRunning)
changes c files n a = record {
  next = cleared a;
  seen = λ x. [];
  comes = λ s v there in_cluster in_files.
      comes_so n a s v there
      ∙ (λ i. record (with_node n (record v { controller = cleared a v.controller }) s) { events = sym (append-nil s.events) i });
  ending = ending_so a;
}
