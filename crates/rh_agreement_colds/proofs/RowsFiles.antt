-- The own files of the two nodes of a cluster, each of which waits for the other one: where neither has begun it is a cold start. Both have
-- the same `distributed`, though the first node doesn't boot one of the applications.
use Rattle.std.specs.Prelude.{All}
use Rattle.std.proofs.Common.{◌≡◌, ◌<◌, ◌+◌, ◌==◌, ◌&&◌, ◌||◌, ℕ, zero, suc, Bool, true, false, not, List, [], ◌∷◌, refl, sym, ap, ◌∙◌, arith}
use Rattle.std.proofs.lemmas.Bool.{ne_eqb}
use Rattle.std.proofs.lemmas.List.Elements.{All-nil, All-cons, All-head, All-tail}
use Rattle.std.proofs.lemmas.Option.{none-some}
use Rattle.rh_model.specs.ClusterView.{is_in, mandatory_of, optional_of}
use Rattle.rh_model.specs.declared.node.Node.{Node}
use Rattle.rh_start_laws.proofs.RowsCluster.{p, q, web}
use Rattle.rh_otp_model.specs.declared.wait.OwnFile.{OwnFile}
use Rattle.rh_otp_model.specs.declared.wait.Wait.TheVariants as wait
use Rattle.rh_otp_model.specs.Own.{EntryView}
use Rattle.rh_otp_node.specs.Live.{never_begun}
use Rattle.rh_otp_sim.specs.Sim.{first_cells, first_net}
use Rattle.rh_otp_system.specs.State.{SystemView, system_of, node_at, own_at, wait_at}
use Rattle.rh_otp_laws.specs.Acting.{IsThere, IsNew}
use Rattle.rh_otp_waits.specs.Waits.{HasItWait}
use Rattle.rh_otp_gathers.specs.Gathers.{one_if}
use Rattle.rh_otp_colds.specs.Colds.{is_there, NameEachOther}
use Rattle.rh_agreement_colds.proofs.RowsStrangers.{db, store}

-- web is to run at the first node, and else at the second one
abbrev entry : EntryView
entry = record {
  app = web;
  timeout = 5000;
  places = record { is_tuple = false; nodes = p ∷ [] } ∷ record { is_tuple = false; nodes = q ∷ [] } ∷ [];
}

-- and db at the second node alone
abbrev db_entry : EntryView
db_entry = record { app = db; timeout = 5000; places = record { is_tuple = false; nodes = q ∷ [] } ∷ [] }

abbrev pub file : OwnFile
file = record { own = record { has_dist = true; entries = entry ∷ db_entry ∷ [] }; wait = wait.Forever }

abbrev pub files : List OwnFile
files = file ∷ file ∷ []

-- ---- neither has begun

-- where the first command begins
abbrev pub fresh : SystemView
fresh = record (system_of store files (first_cells 2) first_net true) { step = 1 }

nobody_yet : (k : ℕ) → node_at fresh (record { 0 = k }) ≡ never_begun
nobody_yet zero = refl
nobody_yet (suc zero) = refl
nobody_yet (suc (suc zero)) = refl
nobody_yet (suc (suc (suc k))) = refl

pub is_new : IsNew fresh
is_new = record {
  nodes = λ n. nobody_yet n.0;
  alive = refl;
  links = refl;
  locks = refl;
  timers = refl;
  calls = refl;
  messages = refl;
  slow = refl;
}

-- what is so of the two is so of all that are there
of_two : (P : Node → Type 0) → P p → P q → (k : ℕ) → IsThere (record { 0 = k }) fresh → P (record { 0 = k })
of_two P one two zero there = one
of_two P one two (suc zero) there = two
of_two P one two (suc (suc zero)) there = absurd (none-some there.0 there.1)
of_two P one two (suc (suc (suc k))) there = absurd (none-some there.0 there.1)

-- no list of these names another one
abbrev IsOne : Node → Type 0
IsOne y = y.0 < 2

out_of : (k : ℕ) (nodes : List Node) → All IsOne nodes → is_in (record { 0 = suc (suc k) }) nodes ≡ false
out_of k [] all = refl
out_of k (y ∷ nodes) all =
    let first : y.0 < 2 = All-head IsOne y nodes all in
    ap (λ (c : Bool). c || is_in (record { 0 = suc (suc k) }) nodes) (ne_eqb (suc (suc k)) y.0 (λ is. omega (arith, is, first)))
    ∙ out_of k nodes (All-tail IsOne y nodes all)

nobody_more : (k : ℕ) (n : Node) → (is_there fresh (record { 0 = suc (suc k) }) && not (suc (suc k) == n.0)) ≡ false
nobody_more zero n = refl
nobody_more (suc k) n = refl

-- the node stands in one of the lists of the other one, and in that alone, or in none where it is to stand in none
abbrev IsListedOnce : Node → Node → Type 0
IsListedOnce n x =
    one_if (is_in x (mandatory_of store n)) + one_if (is_in x (optional_of store n)) ≡ one_if (is_there fresh x && not (x.0 == n.0))

lists_of : (n : Node) → All IsOne (mandatory_of store n) → All IsOne (optional_of store n) → IsListedOnce n p → IsListedOnce n q
    → (k : ℕ) → IsListedOnce n (record { 0 = k })
lists_of n first second one two zero = one
lists_of n first second one two (suc zero) = two
lists_of n first second one two (suc (suc k)) =
    (λ i. one_if (out_of k (mandatory_of store n) first i) + one_if (out_of k (optional_of store n) second i))
    ∙ sym (ap one_if (nobody_more k n))

one_of : (y : Node) → y.0 < 2 → All IsOne (y ∷ [])
one_of y less = All-cons IsOne y [] less (All-nil IsOne)

pub names : NameEachOther fresh
names = record {
  wait = λ n there. of_two (λ (m : Node). HasItWait (wait_at fresh m)) tt tt n.0 there;
  lists = λ n x there.
      of_two (λ (m : Node). (k : ℕ) → IsListedOnce m (record { 0 = k }))
      (lists_of p (one_of q (omega arith)) (All-nil IsOne) refl refl) (lists_of q (one_of p (omega arith)) (All-nil IsOne) refl refl)
      n.0 there x.0;
}

-- an application that is lost is started later
abbrev pub IsLater : EntryView → Type 0
IsLater e = 0 < e.timeout

both_later : All IsLater (entry ∷ db_entry ∷ [])
both_later = All-cons IsLater entry (db_entry ∷ []) (omega arith) (All-cons IsLater db_entry [] (omega arith) (All-nil IsLater))

pub later_of : (k : ℕ) → All IsLater (own_at fresh (record { 0 = k })).entries
later_of zero = both_later
later_of (suc zero) = both_later
later_of (suc (suc k)) = All-nil IsLater
