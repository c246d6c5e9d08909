-- A node's dist_ac is told that an application runs there, and tells the others.
use Rattle.std.proofs.Common.{◌≡◌, ◌≢◌, ◌≤◌, ◌⊎◌, ◌==◌, ◌&&◌, ◌||◌, ℕ, zero, suc, Bool, true, false, not, cond, unwrap_or, List, [], ◌∷◌, map, filter, slice_get, slice_set, refl, sym, ap, subst, ◌∙◌, inl, inr, arith}
use Rattle.std.specs.Prelude.{All}
use Rattle.std.proofs.Math.Bool.{or-true}
use Rattle.std.proofs.lemmas.Bool.{cases_eq, eq-eqb, ne_eqb, false≢true}
use Rattle.std.proofs.lemmas.List.Elements.{All-nil, All-cons}
use Rattle.rh_model.specs.declared.node.App.{App}
use Rattle.rh_model.specs.declared.node.Node.{Node}
use Rattle.rh_model.specs.declared.settings.Restart.{Restart}
use Rattle.rh_otp_dist.specs.declared.state.Appl.{Appl}
use Rattle.rh_otp_dist.specs.declared.state.Stand.TheVariants as stand
use Rattle.rh_otp_dist.specs.declared.state.Standing.{Standing}
use Rattle.rh_otp_dist.specs.State.{DistView, unknown_appl, is_among}
use Rattle.rh_otp_system.specs.State.{SystemView, is_alive_at, has_dist_at}
use Rattle.rh_otp_crashes.proofs.Crossing.{same_node}
use Rattle.rh_otp_joins.proofs.Lists.{more_if, count_of}
use Rattle.rh_otp_gathers.specs.Gathers.{times}
use Rattle.rh_otp_gathers.proofs.Opening.{counts_so}
use Rattle.rh_otp_together.specs.Together.{BootTogether}
use Rattle.rh_otp_together.proofs.Deciding.{with_appl}
use Rattle.rh_otp_together.proofs.Forms.{How, unbegun, asks, requests, stands, starts, learns, reports, answered, over, Far, Fine, IsSo, IsMailed, news, d0, is_dist, asked_by, pends_by, appls_by, stand_by, watched_by, dist_of, friends, is_standing}
use Rattle.rh_otp_together.proofs.Handling.{dist_with, note}
use Rattle.rh_otp_together.proofs.Needs.{each_of, once_of, dist_so}
use Rattle.rh_otp_together.proofs.Stages.{IsOf}

-- ---- how it stands

-- it takes whatever comes, and monitors nobody
pub idles : (b : SystemView) (at : App → Node) (m : Node) (how : How) → is_standing how ≡ false → stand_by b at m how ≡ stand.Idle
idles b at m unbegun quiet = refl
idles b at m (asks a r) quiet = refl
idles b at m (requests a r) quiet = refl
idles b at m (stands a r) quiet = absurd (false≢true (sym quiet))
idles b at m (starts a r) quiet = refl
idles b at m (learns a r) quiet = refl
idles b at m (reports a r) quiet = refl
idles b at m answered quiet = refl
idles b at m over quiet = refl

pub watches_none : (b : SystemView) (at : App → Node) (m : Node) (how : How) → is_standing how ≡ false → watched_by b at m how ≡ []
watches_none b at m unbegun quiet = refl
watches_none b at m (asks a r) quiet = refl
watches_none b at m (requests a r) quiet = refl
watches_none b at m (stands a r) quiet = absurd (false≢true (sym quiet))
watches_none b at m (starts a r) quiet = refl
watches_none b at m (learns a r) quiet = refl
watches_none b at m (reports a r) quiet = refl
watches_none b at m answered quiet = refl
watches_none b at m over quiet = refl

-- nothing is in its mailbox
pub no_mail : (b : SystemView) (at : App → Node) (m : Node) (k : Far) → Fine b at m k → is_standing k.how ≡ false → k.mail ≡ []
no_mail b at m k fine quiet = by k.how fine.mail quiet
  where
    by : (how : How) → IsMailed b at m how k.mail → is_standing how ≡ false → k.mail ≡ []
    by unbegun mail is = mail
    by (asks a r) mail is = mail
    by (requests a r) mail is = mail
    by (stands a r) mail is = absurd (false≢true (sym is))
    by (starts a r) mail is = mail
    by (learns a r) mail is = mail
    by (reports a r) mail is = mail
    by answered mail is = mail
    by over mail is = mail

-- so it stands then
pub idle_so : (b : SystemView) (at : App → Node) (m : Node) (k : Far) → Fine b at m k → is_standing k.how ≡ false
    → dist_of b at m k
    ≡ dist_with (d0 b at m) stand.Idle [] k.rows (asked_by b at m k.how k.done) []
    (appls_by b at m (pends_by b at m k.how k.ran) (asked_by b at m k.how k.done))
idle_so b at m k fine quiet = λ i. dist_with (d0 b at m) (idles b at m k.how quiet i) (map (note at) (no_mail b at m k fine quiet i)) k.rows
    (asked_by b at m k.how k.done) (watches_none b at m k.how quiet i)
    (appls_by b at m (pends_by b at m k.how k.ran) (asked_by b at m k.how k.done))

-- how it is where its dist_ac is to be told of a start here
pub record Untold (b : SystemView) (at : App → Node) (m : Node) (how : How) (done rest : List (App × Restart)) (a : App) : Type 0 where
  pub quiet : is_standing how ≡ false
  pub pends : pends_by b at m how (a ∷ []) ≡ true
  pub then : pends_by b at m how [] ≡ false
  pub so : IsSo b at m how done rest []

pub untold : (b : SystemView) (at : App → Node) (m : Node) (how : How) (done rest : List (App × Restart)) (a : App)
    → IsSo b at m how done rest (a ∷ []) → Untold b at m how done rest a
untold b at m unbegun done rest a so = let is : a ∷ [] ≡ [] = so.1 in absurd (cc)
untold b at m (asks c r) done rest a so = record { quiet = refl; pends = refl; then = refl; so = tt }
untold b at m (requests c r) done rest a so = record { quiet = refl; pends = refl; then = refl; so = so }
untold b at m (stands c r) done rest a so = let is : a ∷ [] ≡ [] = so.2 in absurd (cc)
untold b at m (starts c r) done rest a so = let is : a ∷ [] ≡ [] = so.2 in absurd (cc)
untold b at m (learns c r) done rest a so = let is : a ∷ [] ≡ [] = so.2 in absurd (cc)
untold b at m (reports c r) done rest a (inl local) = record {
  quiet = refl;
  pends = or-true (is_dist b at m c);
  then = ap (λ (d : Bool). d || false) local;
  so = inl local;
}
untold b at m (reports c r) done rest a (inr so) = let is : a ∷ [] ≡ [] = so.2 in absurd (cc)
untold b at m answered done rest a so = record { quiet = refl; pends = refl; then = refl; so = tt }
untold b at m over done rest a so = record { quiet = refl; pends = refl; then = refl; so = so }

-- it is known to run here, where it was about to
pub set_again : (a : App) (one other : Standing) (appls : List Appl) → with_appl a other (with_appl a one appls) ≡ with_appl a other appls
set_again a one other appls = by appls a.0
  where
    set_at : ℕ → Standing → List Appl → List Appl
    set_at k st l = slice_set l k (record (unwrap_or (slice_get l k) unknown_appl) { standing = st })

    by : (l : List Appl) (k : ℕ) → slice_set (slice_set l k (record (unwrap_or (slice_get l k) unknown_appl) { standing = one })) k
        (record (unwrap_or (slice_get (slice_set l k (record (unwrap_or (slice_get l k) unknown_appl) { standing = one })) k)
        unknown_appl) { standing = other })
        ≡ slice_set l k (record (unwrap_or (slice_get l k) unknown_appl) { standing = other })
    by [] k = refl
    by (x ∷ l) zero = refl
    by (x ∷ l) (suc k) = ap (λ (y : List Appl). x ∷ y) (by l k)

-- ---- its friends

pub among_count : (k : Node) (nodes : List Node) → is_among k nodes ≡ true → 1 ≤ count_of k nodes
among_count k [] among = absurd (false≢true among)
among_count k (x ∷ nodes) among = by (cases_eq k.0 x.0) (among_count k nodes)
  where
    more : (c : Bool) (j : ℕ) → 1 ≤ j → 1 ≤ more_if c j
    more true j some = omega (arith, some)
    more false j some = some

    by : (k.0 ≡ x.0) ⊎ (k.0 ≢ x.0) → (is_among k nodes ≡ true → 1 ≤ count_of k nodes) → 1 ≤ more_if (x.0 == k.0) (count_of k nodes)
    by (inl is) rest = subst (λ (c : Bool). 1 ≤ more_if c (count_of k nodes)) (sym (eq-eqb x.0 k.0 (sym is))) (omega arith)
    by (inr other) rest = more (x.0 == k.0) (count_of k nodes)
        (rest (sym (ap (λ (c : Bool). c || is_among k nodes) (ne_eqb k.0 x.0 other)) ∙ among))

module _ {b : SystemView} (g : BootTogether b) (m : Node) (alive : 1 ≤ count_of m b.alive) where
  abbrev pub is_friend : Node → Bool
  is_friend x = not (x.0 == m.0) && (is_alive_at b x && has_dist_at b x)

  pub known_count : (k : Node) → k.0 ≢ m.0 → count_of k (d0 b g.at m).known ≡ count_of k b.alive
  known_count k other =
      counts_so k (d0 b g.at m).known
      ∙ ap (λ (d : DistView). times k d.known) (dist_so g m alive)
      ∙ (each_of g m alive).known k other ∙ sym (counts_so k b.alive)

  -- those that it tells are alive
  pub friends_alive : (nodes : List Node) → ((k : Node) → k.0 ≢ m.0 → count_of k nodes ≤ count_of k b.alive)
      → (a : App) → All (IsOf b)
      (map (λ (x : Node). news x a) (filter (λ (x : Node). not (x.0 == m.0) && (is_alive_at b x && has_dist_at b x)) nodes))
  friends_alive [] within a = All-nil (IsOf b)
  friends_alive (x ∷ nodes) within a =
      by (cases_eq x.0 m.0) (friends_alive nodes (λ k other.
      (let all : count_of k (x ∷ nodes) ≤ count_of k b.alive = within k other in
      let less : count_of k nodes ≤ count_of k (x ∷ nodes) = fewer (x.0 == k.0) (count_of k nodes) in
      omega (arith, all, less))) a)
    where
      fewer : (c : Bool) (j : ℕ) → j ≤ more_if c j
      fewer true j = omega arith
      fewer false j = omega arith

      rest : List Node
      rest = filter (λ (y : Node). not (y.0 == m.0) && (is_alive_at b y && has_dist_at b y)) nodes

      either : (c : Bool) → 1 ≤ count_of x b.alive → All (IsOf b) (map (λ (y : Node). news y a) rest)
          → All (IsOf b) (map (λ (y : Node). news y a) (cond c (x ∷ rest) rest))
      either true some all = All-cons (IsOf b) (news x a) (map (λ (y : Node). news y a) rest) some all
      either false some all = all

      by : (x.0 ≡ m.0) ⊎ (x.0 ≢ m.0) → All (IsOf b) (map (λ (y : Node). news y a) rest)
          → All (IsOf b) (map (λ (y : Node). news y a) (cond (not (x.0 == m.0) && (is_alive_at b x && has_dist_at b x)) (x ∷ rest) rest))
      by (inl is) all =
          subst (λ (c : Bool). All (IsOf b)
          (map (λ (y : Node). news y a) (cond (not c && (is_alive_at b x && has_dist_at b x)) (x ∷ rest) rest)))
          (sym (eq-eqb x.0 m.0 is)) all
      by (inr other) all =
          either (not (x.0 == m.0) && (is_alive_at b x && has_dist_at b x))
          (let itself : count_of x (x ∷ nodes) ≡ suc (count_of x nodes) =
          ap (λ (c : Bool). more_if c (count_of x nodes)) (eq-eqb x.0 x.0 refl) in
          let within_x : count_of x (x ∷ nodes) ≤ count_of x b.alive = within x other in
          omega (arith, itself, within_x)) all

  -- each other node that is alive is one, once
  pub friend_count : (k : Node) → 1 ≤ count_of k b.alive → k.0 ≢ m.0 → is_friend k ≡ true → count_of k (friends b g.at m) ≡ 1
  friend_count k there other is = passes (d0 b g.at m).known ∙ known_count k other ∙ once_of g k there
    where
      q : Node → Bool
      q x = not (x.0 == m.0) && (is_alive_at b x && has_dist_at b x)

      passes : (nodes : List Node) → count_of k (filter (λ (x : Node). not (x.0 == m.0) && (is_alive_at b x && has_dist_at b x)) nodes)
          ≡ count_of k nodes
      passes [] = refl
      passes (x ∷ nodes) = by (cases_eq x.0 k.0) (passes nodes)
        where
          rest : List Node
          rest = filter (λ (y : Node). not (y.0 == m.0) && (is_alive_at b y && has_dist_at b y)) nodes

          skips : (c : Bool) → (x.0 == k.0) ≡ false → count_of k (cond c (x ∷ rest) rest) ≡ count_of k rest
          skips true apart = ap (λ (c : Bool). more_if c (count_of k rest)) apart
          skips false apart = refl

          by : (x.0 ≡ k.0) ⊎ (x.0 ≢ k.0) → count_of k rest ≡ count_of k nodes
              → count_of k (cond (not (x.0 == m.0) && (is_alive_at b x && has_dist_at b x)) (x ∷ rest) rest)
              ≡ more_if (x.0 == k.0) (count_of k nodes)
          by (inl same) all =
              ap (λ (c : Bool). count_of k (cond c (x ∷ rest) rest))
              (ap (λ (y : Node). not (y.0 == m.0) && (is_alive_at b y && has_dist_at b y)) (same_node x k same) ∙ is)
              ∙ ap (more_if (x.0 == k.0)) all
          by (inr apart) all =
              skips (not (x.0 == m.0) && (is_alive_at b x && has_dist_at b x)) (ne_eqb x.0 k.0 apart) ∙ all
              ∙ sym (ap (λ (c : Bool). more_if c (count_of k nodes)) (ne_eqb x.0 k.0 apart))
