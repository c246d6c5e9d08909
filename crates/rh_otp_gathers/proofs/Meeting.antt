-- A node introduces itself to another one: that keeps it in its mailbox until its own wait is over and its turn comes, and then it knows it.
use Rattle.std.proofs.Common.{◌≡◌, ◌≢◌, ◌≤◌, ◌⊎◌, ◌+◌, ◌++◌, ◌==◌, ◌&&◌, ℕ, suc, Bool, true, false, List, [], ◌∷◌, map, length, is_some, unwrap_or, Option, Some, refl, sym, ap, subst, ◌∙◌, inl, inr, arith}
use Rattle.std.specs.Option.{option_map, option_and_then}
use Rattle.std.specs.Prelude.{All, if◌then◌else◌}
use Rattle.std.proofs.Math.Bool.{and-false}
use Rattle.std.proofs.lemmas.Bool.{cases_eq, eq-eqb, ne_eqb}
use Rattle.std.proofs.lemmas.List.{map-append, length-map}
use Rattle.std.proofs.lemmas.List.Elements.{All-nil, All-cons}
use Rattle.rh_model.specs.ClusterView.{is_in}
use Rattle.rh_model.specs.declared.node.Node.{Node}
use Rattle.rh_otp_model.specs.declared.message.Message.{Message}
use Rattle.rh_otp_model.specs.declared.output.Envelope.{Envelope}
use Rattle.rh_otp_model.specs.declared.process.Role.TheVariants as role
use Rattle.rh_otp_dist.specs.Outside.{with_message}
use Rattle.rh_otp_dist.specs.State.{DistView}
use Rattle.rh_otp_dist.specs.Waiting.{is_go}
use Rattle.rh_otp_net.specs.declared.locks.Held.{Held}
use Rattle.rh_otp_net.specs.Links.{are_linked}
use Rattle.rh_otp_node.specs.declared.node.Phase.{Phase}
use Rattle.rh_otp_node.specs.Live.{LiveView, never_begun, is_alive, is_down}
use Rattle.rh_otp_node.specs.Remote as remote
use Rattle.rh_otp_system.specs.declared.cell.Cell.{Cell}
use Rattle.rh_otp_system.specs.declared.cell.Cell.TheVariants as cell
use Rattle.rh_otp_system.specs.Delivering.{arrived}
use Rattle.rh_otp_system.specs.State.{SystemView, live_in, live_at, node_at, with_node, is_alive_at, has_dist_at, process_in}
use Rattle.rh_otp_system.specs.Working as working
use Rattle.rh_otp_laws.proofs.Nodes.{node_written, written_elsewhere}
use Rattle.rh_otp_orders.proofs.Changing.{set_there}
use Rattle.rh_otp_orders.proofs.Same.{cell_at}
use Rattle.rh_otp_crashes.proofs.Crossing.{same_node}
use Rattle.rh_otp_crashes.proofs.Peace.{without, arrives_alive}
use Rattle.rh_otp_crashes.proofs.Turning.{idles, node_is, works_on, none_next}
use Rattle.rh_otp_joins.proofs.Going.{the_others}
use Rattle.rh_otp_joins.proofs.Introducing.{Told, word, waiting, live_waiting, IsNear}
use Rattle.rh_otp_joins.proofs.Lists.{more_if, count_of}
use Rattle.rh_otp_joins.proofs.Mailing.{words}
use Rattle.rh_otp_joins.proofs.Meeting.{own_count}
use Rattle.rh_otp_joins.proofs.Stages.{all_of}
use Rattle.rh_otp_joins.proofs.Taking.{count_more, mail_more, mail_is}
use Rattle.rh_otp_joins.proofs.Waiting.{waiter}
use Rattle.rh_otp_gathers.proofs.Going.{early}
use Rattle.rh_otp_gathers.proofs.Learning.{locks_then, sharing}
use Rattle.rh_otp_gathers.proofs.Mailbox.{Learns, learns}
use Rattle.rh_otp_gathers.proofs.Owning.{holders_then, holders_other, holders_none, still_owned, count_without}
use Rattle.rh_otp_gathers.proofs.Stages.{told_in, friends, letter, Gathering, with_early, joined, Waits, Joined, Gone, At, unsent, marks, later_weight, weight_of, IsOf, Stage, Seen, seen_at, drawn_all, Step, stepped}
use Rattle.rh_otp_gathers.proofs.Tokens.{Token, hi, up_of, go_of, hi_of, total, Drawn, drawn_total}

-- ---- before its own wait is over

no_go : (o : Told) (nodes : List Node) → All (λ (m : Message). is_go m ≡ false) (words o nodes)
no_go o [] = All-nil (λ (m : Message). is_go m ≡ false)
no_go o (x ∷ nodes) = All-cons (λ (m : Message). is_go m ≡ false) (word o x) (words o nodes) refl (no_go o nodes)

-- it stays in the mailbox
pub keeps : (o : Told) (m k : Node) (s : SystemView) (v : LiveView) (d : DistView) (left : List Node)
    → live_at s m ≡ Some (record v { dist = Some (early d (words o left)) })
    → working.mailed m (word o k) s ≡ with_node m (record v { dist = Some (early d (words o (left ++ k ∷ []))) }) s
unfolding working.work
keeps o m k s v d left there =
    let old : LiveView = record v { dist = Some (early d (words o left)) } in
    let new : LiveView = record v { dist = Some (early d (words o (left ++ k ∷ []))) } in
    let q : SystemView = with_node m new s in
    works_on m (word o k) s old there
    ∙ (λ i. working.work m (with_node m (record v { dist = Some (early d (sym (map-append (word o) left (k ∷ [])) i)) }) s))
    ∙ idles (working.mail_count_at q m) m q
    (ap remote.has_next (node_written s m old new there)
    ∙ ap is_some (none_next is_go (words o (left ++ k ∷ [])) (no_go o (left ++ k ∷ []))))

some_friend : (c : Bool) (m k : Node) (b : SystemView) → 1 ≤ count_of k (if c then the_others m b else []) → c ≡ true
some_friend true m k b some = refl
some_friend false m k b some = absurd (omega (arith, some))

pub locks_some : (k : Node) (b : SystemView) (m : Node) (held : List Held) (later : List Node) → 1 ≤ count_of k later
    → locks_then (process_in b m role.DistAc) held later ≡ held
locks_some k b m held [] some = absurd (omega (arith, some))
locks_some k b m held (x ∷ xs) some = refl

-- what its friends are, where it has a dist_ac
pub friends_so : (b : SystemView) (m : Node) → has_dist_at b m ≡ true → friends b m ≡ the_others m b
friends_so b m has = ap (λ (c : Bool). if c then the_others m b else []) has

-- those for which it waits are there
pub near_all : {b : SystemView} {g : Gathering b} {weight : ℕ} (u : SystemView) (f : Stage g weight u) (m : Node) (left : List Envelope)
    (later : List Node) → 1 ≤ count_of m g.nodes → ((x : Node) → count_of x later ≤ count_of x (the_others m b))
    → All (IsNear m (without u left)) later
near_all {b} {g} u f m left later among within =
    all_of (IsNear m (without u left)) later (λ x some.
    (let less : count_of x later ≤ count_of x (the_others m b) = within x in
    let it : 1 ≤ count_of x (the_others m b) = omega (arith, less, some) in
    let sees : ((x.0 ≢ m.0) × (is_alive_at b x ≡ true) × (are_linked m x b.links ≡ true)) × (has_dist_at b x ≡ true) × (1 ≤ count_of x g.nodes) =
    ((g.sees m x among it).0.0, (g.sees m x among it).0.1, (g.sees m x among it).1) in
    let at : Seen b x (cell_at u x.0) =
    seen_at b x (cell_at u x.0) (marks b f.tokens f.ups f.gone f.holders x) (g.waits x sees.2) (f.at x sees.2) in (
      sees.0.0,
      ap (λ (o : Option Cell). is_alive (unwrap_or (option_and_then live_in o) never_begun)) at.here ∙ at.alive,
      ap (λ (z : SystemView). are_linked m x z.links) f.same ∙ sees.0.2,
    )))

module _ {b : SystemView} {g : Gathering b} (weight : ℕ) (u : SystemView) (f : Stage g (suc weight) u) (k m : Node) (rest : List Token)
    (left : List Envelope) (drawn : Drawn (hi k m) f.tokens rest) (left_so : left ≡ map (letter b) rest) where
  abbrev pub s : SystemView
  s = without u left

  known : IsOf g.nodes (hi k m) × All (IsOf g.nodes) rest
  known = drawn_all (IsOf g.nodes) (hi k m) f.tokens rest f.known drawn

  among : 1 ≤ count_of m g.nodes
  among = known.0

  abbrev at : At b m (cell_at u m.0) (marks b f.tokens f.ups f.gone f.holders m)
  at = f.at m among

  abbrev v : LiveView
  v = node_at b m

  going_same : (j : Node) → total (go_of j) f.tokens ≡ total (go_of j) rest
  going_same j =
      let one : total (go_of j) f.tokens ≡ 0 + total (go_of j) rest = drawn_total (go_of j) (hi k m) f.tokens rest drawn in
      (let same : total (go_of j) f.tokens ≡ total (go_of j) rest = omega (arith, one) in same)

  hears_same : (j y : Node) → total (up_of j y) f.tokens ≡ total (up_of j y) rest
  hears_same j y =
      let one : total (up_of j y) f.tokens ≡ 0 + total (up_of j y) rest = drawn_total (up_of j y) (hi k m) f.tokens rest drawn in
      (let same : total (up_of j y) f.tokens ≡ total (up_of j y) rest = omega (arith, one) in same)

  sent_same : (j y : Node) → j.0 ≢ m.0 → total (hi_of y j) f.tokens ≡ total (hi_of y j) rest
  sent_same j y other =
      let one : total (hi_of y j) f.tokens ≡ more_if (k.0 == y.0 && m.0 == j.0) 0 + total (hi_of y j) rest =
      drawn_total (hi_of y j) (hi k m) f.tokens rest drawn in
      let none : more_if (k.0 == y.0 && m.0 == j.0) 0 ≡ 0 =
      ap (λ (c : Bool). more_if (k.0 == y.0 && c) 0) (ne_eqb m.0 j.0 (λ same. other (sym same)))
      ∙ ap (λ (c : Bool). more_if c 0) (and-false (k.0 == y.0)) in
      (let same : total (hi_of y j) f.tokens ≡ total (hi_of y j) rest = omega (arith, one, none) in same)

  sent_less : (y : Node) → total (hi_of y m) f.tokens ≡ more_if (k.0 == y.0) 0 + total (hi_of y m) rest
  sent_less y =
      let one : total (hi_of y m) f.tokens ≡ more_if (k.0 == y.0 && m.0 == m.0) 0 + total (hi_of y m) rest =
      drawn_total (hi_of y m) (hi k m) f.tokens rest drawn in
      let here : more_if (k.0 == y.0 && m.0 == m.0) 0 ≡ more_if (k.0 == y.0) 0 =
      ap (λ (c : Bool). more_if (k.0 == y.0 && c) 0) (eq-eqb m.0 m.0 refl) ∙ alone (k.0 == y.0) in
      (let same : total (hi_of y m) f.tokens ≡ more_if (k.0 == y.0) 0 + total (hi_of y m) rest = omega (arith, one, here) in same)
    where
      alone : (c : Bool) → more_if (c && true) 0 ≡ more_if c 0
      alone true = refl
      alone false = refl

  weighs_less : total (weight_of b) f.tokens ≡ 1 + total (weight_of b) rest
  weighs_less = drawn_total (weight_of b) (hi k m) f.tokens rest drawn

  -- it waits for the node still
  awaited : 1 ≤ count_of k at.later
  awaited =
      let less : total (hi_of k m) f.tokens ≡ more_if (k.0 == k.0) 0 + total (hi_of k m) rest = sent_less k in
      let one : more_if (k.0 == k.0) 0 ≡ 1 = own_count k in
      let all : total (hi_of k m) f.tokens + unsent (count_of k f.gone) (count_of k (friends b m)) + count_of k at.left ≡ count_of k at.later = at.counts k in
      omega (arith, less, one, all)

  has_dist : has_dist_at b m ≡ true
  has_dist =
      some_friend (has_dist_at b m) m k b
      (let some : 1 ≤ count_of k at.later = awaited in
      let less : count_of k at.later ≤ count_of k (friends b m) = at.within k in
      omega (arith, some, less))

  abbrev d : DistView
  d = (g.dist m among has_dist).0

  dist_so : v.dist ≡ Some (early d [])
  dist_so = (g.dist m among has_dist).1

  -- what comes to the node as it stands
  comes : (old : LiveView) → live_at s m ≡ Some old → is_alive old ≡ true → old.life ≡ v.life
      → arrived (letter b (hi k m)).to (word (told_in b) k) s ≡ working.mailed m (word (told_in b) k) s
  comes old there alive life =
      let here : node_at s m ≡ old = node_is s m old there in
      arrives_alive (letter b (hi k m)).to (word (told_in b) k) s (ap is_alive here ∙ alive) (ap (λ (y : LiveView). y.life) here ∙ life)

  -- it stays in the mailbox of the node, which isn't gone yet
  kept : (w : LiveView) → w.dist ≡ v.dist → cell_at u m.0 ≡ Some (cell.Node (with_early w (words (told_in b) at.left))) → is_alive w ≡ true
      → w.life ≡ v.life
      → arrived (letter b (hi k m)).to (word (told_in b) k) s ≡ with_node m (with_early w (words (told_in b) (at.left ++ k ∷ []))) s
  kept w same_dist here alive life =
      let has : w.dist ≡ Some (early d []) = same_dist ∙ dist_so in
      let so : (mail : List Message) → with_early w mail ≡ record w { dist = Some (early d mail) } =
      λ mail. (λ i. record w { dist = option_map (λ (e : DistView). early e mail) (has i) }) in
      let there : live_at s m ≡ Some (record w { dist = Some (early d (words (told_in b) at.left)) }) =
      ap (λ (o : Option Cell). option_and_then live_in o) here ∙ ap Some (so (words (told_in b) at.left)) in
      comes (record w { dist = Some (early d (words (told_in b) at.left)) }) there alive life
      ∙ keeps (told_in b) m k s w d at.left there
      ∙ (λ i. with_node m (sym (so (words (told_in b) (at.left ++ k ∷ []))) i) s)

  counts_kept : (y : Node) → total (hi_of y m) rest + unsent (count_of y f.gone) (count_of y (friends b m)) + count_of y (at.left ++ k ∷ []) ≡ count_of y at.later
  counts_kept y =
      let less : total (hi_of y m) f.tokens ≡ more_if (k.0 == y.0) 0 + total (hi_of y m) rest = sent_less y in
      let more : count_of y (at.left ++ k ∷ []) ≡ count_of y at.left + more_if (k.0 == y.0) 0 = count_more y k at.left in
      let all : total (hi_of y m) f.tokens + unsent (count_of y f.gone) (count_of y (friends b m)) + count_of y at.left ≡ count_of y at.later = at.counts y in
      omega (arith, less, more, all)

  still_so : (holders : List Node) → ((j : Node) → j.0 ≢ m.0 → count_of j f.holders ≡ count_of j holders) → (j : Node) → j.0 ≢ m.0
      → marks b f.tokens f.ups f.gone f.holders j ≡ marks b rest f.ups f.gone holders j
  still_so holders same j other = λ i. record {
    ups = count_of j f.ups;
    gone = count_of j f.gone;
    holds = same j other i;
    going = going_same j i;
    hears = λ y. hears_same j y i;
    sent = λ y. sent_same j y other i + unsent (count_of y f.gone) (count_of y (friends b j));
  }

  weighs_so : total (weight_of b) rest + total (later_weight b) f.waiting ≡ weight
  weighs_so =
      let all : total (weight_of b) f.tokens + total (later_weight b) f.waiting ≡ suc weight = f.weighs in
      let one : total (weight_of b) f.tokens ≡ 1 + total (weight_of b) rest = weighs_less in
      omega (arith, all, one)

  step_kept : (w : LiveView) (how : Waits b m (at.left ++ k ∷ []) at.later (Some (cell.Node (with_early w (words (told_in b) (at.left ++ k ∷ []))))) (marks b rest f.ups f.gone f.holders m)
      ⊎ (Joined b m (at.left ++ k ∷ []) at.later (Some (cell.Node (with_early w (words (told_in b) (at.left ++ k ∷ []))))) (marks b rest f.ups f.gone f.holders m)
      ⊎ Gone b m (at.left ++ k ∷ []) at.later (Some (cell.Node (with_early w (words (told_in b) (at.left ++ k ∷ []))))) (marks b rest f.ups f.gone f.holders m)))
      → cell_at u m.0 ≡ Some (cell.Node (with_early w (words (told_in b) at.left)))
      → Step f m (with_node m (with_early w (words (told_in b) (at.left ++ k ∷ []))) s)
  step_kept w how here = record {
    tokens = rest;
    waiting = f.waiting;
    ups = f.ups;
    gone = f.gone;
    holders = f.holders;
    weighs = weighs_so;
    same = λ i. record (f.same i) { nodes = (with_node m next s).nodes; messages = left_so i };
    base = f.base;
    known = known.1;
    each = f.each;
    held = f.held;
    owned = f.owned;
    elsewhere = λ j other. written_elsewhere u.nodes.cells m.0 j.0 (cell.Node next) other;
    still = λ j within other. still_so f.holders (λ x apart. refl) j other;
    here =
        subst (λ (c : Option Cell). At b m c (marks b rest f.ups f.gone f.holders m))
        (sym (set_there u.nodes.cells m.0 (cell.Node (with_early w (words (told_in b) at.left))) (cell.Node next) here)) (record {
          left = at.left ++ k ∷ [];
          later = at.later;
          counts = counts_kept;
          within = at.within;
          how = how;
        });
  }
    where
      next : LiveView
      next = with_early w (words (told_in b) (at.left ++ k ∷ []))

  -- it is gone, and takes what it waits for
  taken : (o : Gone b m at.left at.later (cell_at u m.0) (marks b f.tokens f.ups f.gone f.holders m))
      → Learns (told_in b) m (joined v) o.dist u.locks s o.learnt at.later (at.left ++ k ∷ [])
      (arrived (letter b (hi k m)).to (word (told_in b) k) s)
  unfolding working.work
  taken o =
      subst (Learns (told_in b) m (joined v) o.dist u.locks s o.learnt at.later early_ones) (sym is)
      (learns (told_in b) m (joined v) o.dist u.locks s old there (working.mail_count_at q m) o.learnt at.later early_ones
      (let one : working.mail_count_at q m ≡ length early_ones = many in omega (arith, one)) within
      (near_all u f m left at.later among (λ y. subst (λ (l : List Node). count_of y at.later ≤ count_of y l) (friends_so b m o.has_dist) (at.within y))))
    where
      early_ones : List Node
      early_ones = at.left ++ k ∷ []

      old : LiveView
      old = live_waiting (joined v) o.dist o.learnt at.later (words (told_in b) at.left)

      there : live_at s m ≡ Some old
      there = ap (λ (c : Option Cell). option_and_then live_in c) o.here

      next : LiveView
      next = live_waiting (joined v) o.dist o.learnt at.later (words (told_in b) early_ones)

      q : SystemView
      q = sharing m (joined v) o.dist u.locks o.learnt at.later (words (told_in b) early_ones) s

      many : working.mail_count_at q m ≡ length early_ones
      many =
          ap remote.mail_count (node_written s m old next there)
          ∙ ap length (mail_is o.dist o.learnt at.later (words (told_in b) early_ones))
          ∙ length-map early_ones (word (told_in b))

      within : (y : Node) → count_of y early_ones ≤ count_of y at.later
      within y =
          let all : total (hi_of y m) rest + unsent (count_of y f.gone) (count_of y (friends b m)) + count_of y early_ones ≡ count_of y at.later = counts_kept y in
          omega (arith, all)

      mail_so : with_message (word (told_in b) k) (waiting o.dist o.learnt at.later (words (told_in b) at.left))
          ≡ waiting o.dist o.learnt at.later (words (told_in b) early_ones)
      mail_so =
          mail_more o.dist o.learnt at.later (words (told_in b) at.left) (word (told_in b) k)
          ∙ ap (waiting o.dist o.learnt at.later) (sym (map-append (word (told_in b)) at.left (k ∷ [])))

      is : arrived (letter b (hi k m)).to (word (told_in b) k) s ≡ working.work_for (working.mail_count_at q m) m q
      is =
          comes old there refl refl
          ∙ works_on m (word (told_in b) k) s old there
          ∙ (λ i. working.work m (with_node m (record (joined v) { dist = Some (mail_so i) })
          (record s { locks = sym (locks_some k b m u.locks at.later awaited) i })))

  step_taken : (o : Gone b m at.left at.later (cell_at u m.0) (marks b f.tokens f.ups f.gone f.holders m))
      → Step f m (arrived (letter b (hi k m)).to (word (told_in b) k) s)
  step_taken o = subst (Step f m) (sym w.is) (record {
    tokens = rest;
    waiting = f.waiting;
    ups = f.ups;
    gone = f.gone;
    holders = holders;
    weighs = weighs_so;
    same = λ i. record (f.same i) {
      nodes = (with_node m next s).nodes;
      messages = left_so i;
      locks = locks_then (process_in b m role.DistAc) u.locks w.later;
    };
    base = f.base;
    known = known.1;
    each = f.each;
    held = λ j some. f.held j (held_before j (cases_eq j.0 m.0) some);
    owned = still_owned b m f.holders u.locks w.later f.owned;
    elsewhere = λ j other. written_elsewhere u.nodes.cells m.0 j.0 (cell.Node next) other;
    still = λ j within other. still_so holders (λ x apart. sym (holders_other x m f.holders w.later apart)) j other;
    here = record {
      left = w.left;
      later = w.later;
      counts = λ y.
          (let before : total (hi_of y m) rest + unsent (count_of y f.gone) (count_of y (friends b m)) + count_of y (at.left ++ k ∷ []) ≡ count_of y at.later = counts_kept y in
          let worked : count_of y w.left + count_of y at.later ≡ count_of y (at.left ++ k ∷ []) + count_of y w.later = w.counts y in
          omega (arith, before, worked));
      within = λ y.
          (let one : count_of y w.later ≤ count_of y at.later = w.fewer y in
          let two : count_of y at.later ≤ count_of y (friends b m) = at.within y in
          omega (arith, one, two));
      how = inr (inr (record {
        dist = o.dist;
        has_dist = o.has_dist;
        has = o.has;
        learnt = w.learnt;
        leads = w.leads ∙ o.leads;
        unmet = w.unmet;
        here = set_there u.nodes.cells m.0 (cell.Node old) (cell.Node next) o.here;
        ups = o.ups;
        gone = o.gone;
        holds = λ none. holders_none m f.holders w.later none;
        going = sym (going_same m) ∙ o.going;
      }));
    };
  })
    where
      w : Learns (told_in b) m (joined v) o.dist u.locks s o.learnt at.later (at.left ++ k ∷ [])
          (arrived (letter b (hi k m)).to (word (told_in b) k) s)
      w = taken o

      old : LiveView
      old = live_waiting (joined v) o.dist o.learnt at.later (words (told_in b) at.left)

      next : LiveView
      next = live_waiting (joined v) o.dist w.learnt w.later (words (told_in b) w.left)

      holders : List Node
      holders = holders_then m f.holders w.later

      held_before : (j : Node) → (j.0 ≡ m.0) ⊎ (j.0 ≢ m.0) → 1 ≤ count_of j holders → 1 ≤ count_of j f.holders
      held_before j (inr other) some = subst (λ (n : ℕ). 1 ≤ n) (holders_other j m f.holders w.later other) some
      held_before j (inl is) some = by w.later some
        where
          by : (later : List Node) → 1 ≤ count_of j (holders_then m f.holders later) → 1 ≤ count_of j f.holders
          by [] some_left =
              absurd (let none : count_of j (holders_then m f.holders []) ≡ 0 =
              ap (λ (x : Node). count_of x (holders_then m f.holders [])) (same_node j m is) ∙ count_without m f.holders in
              omega (arith, some_left, none))
          by (x ∷ xs) some_left = some_left

  pub hears_hi : Stage g weight (arrived (letter b (hi k m)).to (word (told_in b) k) s)
  hears_hi = stepped f m (arrived (letter b (hi k m)).to (word (told_in b) k) s) among (by at.how)
    where
      by : Waits b m at.left at.later (cell_at u m.0) (marks b f.tokens f.ups f.gone f.holders m)
          ⊎ (Joined b m at.left at.later (cell_at u m.0) (marks b f.tokens f.ups f.gone f.holders m)
          ⊎ Gone b m at.left at.later (cell_at u m.0) (marks b f.tokens f.ups f.gone f.holders m))
          → Step f m (arrived (letter b (hi k m)).to (word (told_in b) k) s)
      by (inl w) =
          subst (Step f m)
          (sym (kept (waiter v w.ms w.os) refl w.here (ap (λ (p : Phase). if is_down p then false else true) (g.waits m among)) refl))
          (step_kept (waiter v w.ms w.os) (inl (record {
            ms = w.ms;
            os = w.os;
            waits = w.waits;
            covers = λ y. subst (λ (j : ℕ). more_if (is_in y w.ms) 0 + more_if (is_in y w.os) 0 ≤ j) (hears_same m y) (w.covers y);
            here = refl;
            all = w.all;
            ups = w.ups;
            gone = w.gone;
            holds = w.holds;
            going = sym (going_same m) ∙ w.going;
          })) w.here)
      by (inr (inl j)) =
          subst (Step f m) (sym (kept (joined v) refl j.here refl refl))
          (step_kept (joined v) (inr (inl (record {
            here = refl;
            all = j.all;
            ups = j.ups;
            gone = j.gone;
            holds = j.holds;
            going = sym (going_same m) ∙ j.going;
          }))) j.here)
      by (inr (inr o)) = step_taken o
