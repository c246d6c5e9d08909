-- The dist_ac of a node is told that the wait is over: it introduces itself to all others, and takes what has come of them already.
use Rattle.std.proofs.Common.{◌≡◌, ◌≢◌, ◌≤◌, ◌⊎◌, ◌+◌, ◌++◌, ◌==◌, ◌&&◌, ℕ, suc, Bool, true, false, cond, List, [], ◌∷◌, map, length, replicate, slice_get, is_some, unwrap_or, Option, Some, None, refl, sym, ap, subst, ◌∙◌, inl, inr, arith}
use Rattle.std.specs.Option.{option_map, option_and_then}
use Rattle.std.specs.Prelude.{All}
use Rattle.std.proofs.lemmas.Bool.{cases_eq, eq-eqb, ne_eqb}
use Rattle.std.proofs.lemmas.List.{map-append, length-map, length-append}
use Rattle.std.proofs.lemmas.List.Elements.{All-nil, All-cons, All-head, All-tail, All-append}
use Rattle.rh_model.specs.declared.node.Node.{Node}
use Rattle.rh_otp_model.specs.declared.message.Message.{Message}
use Rattle.rh_otp_model.specs.declared.message.Message.TheVariants as message
use Rattle.rh_otp_model.specs.declared.output.Envelope.{Envelope}
use Rattle.rh_otp_model.specs.declared.process.Role.TheVariants as role
use Rattle.rh_otp_model.specs.Processes.{process_at}
use Rattle.rh_otp_dist.specs.State.{DistView}
use Rattle.rh_otp_net.specs.declared.locks.Held.{Held}
use Rattle.rh_otp_net.specs.Links.{are_linked}
use Rattle.rh_otp_node.specs.Live.{LiveView, never_begun, is_alive}
use Rattle.rh_otp_node.specs.Remote as remote
use Rattle.rh_otp_system.specs.declared.cell.Cell.{Cell}
use Rattle.rh_otp_system.specs.declared.cell.Cell.TheVariants as cell
use Rattle.rh_otp_system.specs.Delivering.{arrived}
use Rattle.rh_otp_system.specs.State.{SystemView, live_in, live_at, node_at, with_node, has_dist_at, process_in}
use Rattle.rh_otp_system.specs.Working as working
use Rattle.rh_otp_laws.proofs.Nodes.{node_written, written_elsewhere}
use Rattle.rh_otp_orders.proofs.Changing.{set_there}
use Rattle.rh_otp_orders.proofs.Same.{cell_at}
use Rattle.rh_otp_crashes.proofs.Crossing.{same_node}
use Rattle.rh_otp_crashes.proofs.Peace.{without, arrives_alive}
use Rattle.rh_otp_crashes.proofs.Turning.{node_is, works_on}
use Rattle.rh_otp_joins.proofs.Going.{the_others, CanHear, greeting, hello, known_first, live_as}
use Rattle.rh_otp_joins.proofs.Introducing.{Told, word, learn_all, live_waiting, IsNear}
use Rattle.rh_otp_joins.proofs.Lists.{more_if, count_of}
use Rattle.rh_otp_joins.proofs.Mailing.{words}
use Rattle.rh_otp_joins.proofs.Meeting.{other_count, own_count}
use Rattle.rh_otp_joins.proofs.Opened.{go_letter}
use Rattle.rh_otp_joins.proofs.Stages.{all_of}
use Rattle.rh_otp_gathers.proofs.Going.{early, with_share, goes, next_go}
use Rattle.rh_otp_gathers.proofs.Learning.{locks_then, sharing}
use Rattle.rh_otp_gathers.proofs.Mailbox.{Learns, learns}
use Rattle.rh_otp_gathers.proofs.Meeting.{near_all, friends_so}
use Rattle.rh_otp_gathers.proofs.Owning.{holders_then, holders_other, holders_none, still_owned, more_owned, own_owned, owned_shared}
use Rattle.rh_otp_gathers.proofs.Stages.{told_in, friends, letter, Gathering, with_early, joined, Waits, Joined, Gone, one_if, At, unsent, marks, IsOwned, later_weight, weight_of, IsOf, Stage, Seen, seen_at, drawn_all, Step, stepped}
use Rattle.rh_otp_gathers.proofs.Tokens.{Token, go, hi, up_of, go_of, hi_of, total, total_more, Drawn, drawn_total}

-- ---- its introductions

his_total : (m y j : Node) (nodes : List Node) → y.0 ≢ m.0 → total (hi_of y j) (map (hi m) nodes) ≡ 0
his_total m y j [] other = refl
his_total m y j (x ∷ nodes) other =
    let rest : total (hi_of y j) (map (hi m) nodes) ≡ 0 = his_total m y j nodes other in
    let none : more_if (m.0 == y.0 && x.0 == j.0) 0 ≡ 0 =
    ap (λ (c : Bool). more_if (c && x.0 == j.0) 0) (ne_eqb m.0 y.0 (λ same. other (sym same))) in
    omega (arith, rest, none)

own_total : (m j : Node) (nodes : List Node) → total (hi_of m j) (map (hi m) nodes) ≡ count_of j nodes
own_total m j [] = refl
own_total m j (x ∷ nodes) = by (x.0 == j.0) (own_total m j nodes) here
  where
    here : more_if (m.0 == m.0 && x.0 == j.0) 0 ≡ more_if (x.0 == j.0) 0
    here = ap (λ (c : Bool). more_if (c && x.0 == j.0) 0) (eq-eqb m.0 m.0 refl)

    by : (c : Bool) → total (hi_of m j) (map (hi m) nodes) ≡ count_of j nodes → more_if (m.0 == m.0 && x.0 == j.0) 0 ≡ more_if c 0
        → more_if (m.0 == m.0 && x.0 == j.0) 0 + total (hi_of m j) (map (hi m) nodes) ≡ more_if c (count_of j nodes)
    by true rest one = omega (arith, rest, one)
    by false rest one = omega (arith, rest, one)

none_total : (h : Token → ℕ) (m : Node) → ((x : Node) → h (hi m x) ≡ 0) → (nodes : List Node) → total h (map (hi m) nodes) ≡ 0
none_total h m none [] = refl
none_total h m none (x ∷ nodes) =
    let one : h (hi m x) ≡ 0 = none x in
    let rest : total h (map (hi m) nodes) ≡ 0 = none_total h m none nodes in
    omega (arith, one, rest)

weigh_his : (b : SystemView) (m : Node) (nodes : List Node) → total (weight_of b) (map (hi m) nodes) ≡ length nodes
weigh_his b m [] = refl
weigh_his b m (x ∷ nodes) =
    let rest : total (weight_of b) (map (hi m) nodes) ≡ length nodes = weigh_his b m nodes in
    omega (arith, rest)

module _ {b : SystemView} {g : Gathering b} (weight : ℕ) (u : SystemView) (f : Stage g (suc weight) u) (m : Node) (rest : List Token)
    (left : List Envelope) (drawn : Drawn (go m) f.tokens rest) (left_so : left ≡ map (letter b) rest) where
  abbrev pub s : SystemView
  s = without u left

  known : IsOf g.nodes (go m) × All (IsOf g.nodes) rest
  known = drawn_all (IsOf g.nodes) (go m) f.tokens rest f.known drawn

  among : 1 ≤ count_of m g.nodes
  among = known.0

  abbrev at : At b m (cell_at u m.0) (marks b f.tokens f.ups f.gone f.holders m)
  at = f.at m among

  abbrev v : LiveView
  v = node_at b m

  abbrev others : List Node
  others = the_others m b

  abbrev o : Told
  o = told_in b

  going_less : (j : Node) → total (go_of j) f.tokens ≡ more_if (m.0 == j.0) 0 + total (go_of j) rest
  going_less j = drawn_total (go_of j) (go m) f.tokens rest drawn

  -- its wait is over, and it isn't gone
  is_joined : Joined b m at.left at.later (cell_at u m.0) (marks b f.tokens f.ups f.gone f.holders m)
  is_joined = by at.how
    where
      some : 1 ≤ total (go_of m) f.tokens
      some =
          let less : total (go_of m) f.tokens ≡ more_if (m.0 == m.0) 0 + total (go_of m) rest = going_less m in
          let one : more_if (m.0 == m.0) 0 ≡ 1 = own_count m in
          omega (arith, less, one)

      none : total (go_of m) f.tokens ≡ 0 → ⊥
      none is = let one : 1 ≤ total (go_of m) f.tokens = some in omega (arith, one, is)

      by : Waits b m at.left at.later (cell_at u m.0) (marks b f.tokens f.ups f.gone f.holders m)
          ⊎ (Joined b m at.left at.later (cell_at u m.0) (marks b f.tokens f.ups f.gone f.holders m)
          ⊎ Gone b m at.left at.later (cell_at u m.0) (marks b f.tokens f.ups f.gone f.holders m))
          → Joined b m at.left at.later (cell_at u m.0) (marks b f.tokens f.ups f.gone f.holders m)
      by (inl w) = absurd (none w.going)
      by (inr (inl j)) = j
      by (inr (inr x)) = absurd (none x.going)

  has_dist : has_dist_at b m ≡ true
  has_dist = by (has_dist_at b m) is_joined.going
    where
      by : (c : Bool) → total (go_of m) f.tokens ≡ one_if c → c ≡ true
      by true is = refl
      by false is =
          absurd (let less : total (go_of m) f.tokens ≡ more_if (m.0 == m.0) 0 + total (go_of m) rest = going_less m in
          let one : more_if (m.0 == m.0) 0 ≡ 1 = own_count m in
          omega (arith, less, one, is))

  abbrev d : DistView
  d = (g.dist m among has_dist).0

  dist_so : v.dist ≡ Some (early d [])
  dist_so = (g.dist m among has_dist).1

  none_left : total (go_of m) rest ≡ 0
  none_left =
      let less : total (go_of m) f.tokens ≡ more_if (m.0 == m.0) 0 + total (go_of m) rest = going_less m in
      let one : more_if (m.0 == m.0) 0 ≡ 1 = own_count m in
      let all : total (go_of m) f.tokens ≡ one_if (has_dist_at b m) = is_joined.going in
      let is : one_if (has_dist_at b m) ≡ 1 = ap one_if has_dist in
      omega (arith, less, one, all, is)

  -- ---- what it sees

  others_so : the_others m s ≡ others
  others_so = ap (λ (z : SystemView). the_others m z) f.same

  see : (x : Node) → 1 ≤ count_of x others → CanHear m b x × (1 ≤ count_of x g.nodes)
  see x some = g.sees m x among some

  lives_so : (x : Node) → 1 ≤ count_of x g.nodes → (is_alive (node_at s x) ≡ true) × ((node_at s x).life ≡ (node_at b x).life)
  lives_so x within =
      let seen : Seen b x (cell_at u x.0) =
      seen_at b x (cell_at u x.0) (marks b f.tokens f.ups f.gone f.holders x) (g.waits x within) (f.at x within) in
      let is : node_at s x ≡ seen.live = ap (λ (c : Option Cell). unwrap_or (option_and_then live_in c) never_begun) seen.here in
      (ap is_alive is ∙ seen.alive, ap (λ (y : LiveView). y.life) is ∙ seen.life)

  can_hear : All (CanHear m s) others
  can_hear =
      all_of (CanHear m s) others (λ x some. (
        (
          (see x some).0.0.0,
          (lives_so x (see x some).1).0,
          ap (λ (z : SystemView). are_linked m x z.links) f.same ∙ (see x some).0.0.2,
        ),
        ap (λ (z : SystemView). has_dist_at z x) f.same ∙ (see x some).0.1,
      ))

  hello_so : hello m d ≡ word o m
  hello_so = λ i. message.NewNode m (allowed (sym dist_so i)) (flags (sym dist_so i))
    where
      allowed : Option DistView → List Bool
      allowed p = o_allow p
        where
          o_allow : Option DistView → List Bool
          o_allow None = []
          o_allow (Some e) = unwrap_or (slice_get e.may m.0) []

      flags : Option DistView → List Bool
      flags None = []
      flags (Some e) = replicate (length e.appls) false

  greetings_so : map (greeting m (hello m d) s) others ≡ map (letter b) (map (hi m) others)
  greetings_so = by others (all_of Same others (λ x some. same x (see x some).1))
    where
      Same : Node → Type 0
      Same x = greeting m (hello m d) s x ≡ letter b (hi m x)

      same : (x : Node) → 1 ≤ count_of x g.nodes → Same x
      same x within = λ i. record {
        from = process_at (record { node = m; life = (lives_so m among).1 i }) role.DistAc;
        to = process_at (record { node = x; life = (lives_so x within).1 i }) role.DistAc;
        message = hello_so i;
      }

      by : (nodes : List Node) → All Same nodes → map (greeting m (hello m d) s) nodes ≡ map (letter b) (map (hi m) nodes)
      by [] all = refl
      by (x ∷ nodes) all = λ i. All-head Same x nodes all i ∷ by nodes (All-tail Same x nodes all) i

  -- ---- its turn

  abbrev share : List Held
  share = with_share m (joined v) d (words o at.left) s

  abbrev after : SystemView
  after = record s { messages = s.messages ++ map (greeting m (hello m d) s) (the_others m s) }

  abbrev old : LiveView
  old = with_early (joined v) (words o at.left)

  old_so : (mail : List Message) → with_early (joined v) mail ≡ live_as (joined v) (early d mail)
  old_so mail = λ i. record (joined v) { dist = option_map (λ (e : DistView). early e mail) (dist_so i) }

  there : live_at s m ≡ Some old
  there = ap (λ (c : Option Cell). option_and_then live_in c) is_joined.here

  all_first : (x : Node) → count_of x at.left ≤ count_of x (the_others m s)
  all_first x =
      let all : total (hi_of x m) f.tokens + unsent (count_of x f.gone) (count_of x (friends b m)) + count_of x at.left ≡ count_of x at.later = at.counts x in
      let less : count_of x at.later ≤ count_of x (friends b m) = at.within x in
      let same : count_of x (friends b m) ≡ count_of x (the_others m s) = ap (count_of x) (friends_so b m has_dist ∙ sym others_so) in
      omega (arith, all, less, same)

  taken : Learns o m (joined v) d share after (known_first m d) (the_others m s) at.left (arrived (go_letter m b).to message.Go s)
  unfolding working.work
  taken =
      subst (Learns o m (joined v) d share after (known_first m d) (the_others m s) at.left) (sym is)
      (learns o m (joined v) d share after old there (length at.left) (known_first m d) (the_others m s) at.left
      (let same : length at.left ≡ length at.left = refl in omega (arith, same)) all_first
      (subst (λ (l : List Node). All (IsNear m after) l) (sym others_so) near))
    where
      near : All (IsNear m after) others
      near = near_all u f m (s.messages ++ map (greeting m (hello m d) s) (the_others m s)) others among (λ x. omega arith)

      mail : List Message
      mail = words o at.left ++ message.Go ∷ []

      w : LiveView
      w = live_as (joined v) (early d (words o at.left))

      next : LiveView
      next = live_as (joined v) (early d mail)

      q : SystemView
      q = with_node m next s

      there_so : live_at s m ≡ Some w
      there_so = there ∙ ap Some (old_so (words o at.left))

      here : node_at q m ≡ next
      here = node_written s m w next there_so

      at_s : node_at s m ≡ w
      at_s = node_is s m w there_so

      many : working.mail_count_at q m ≡ suc (length at.left)
      many =
          ap remote.mail_count here
          ∙ length-append (words o at.left) (message.Go ∷ [])
          ∙ (let same : length (words o at.left) ≡ length at.left = length-map at.left (word o) in omega (arith, same))

      is : arrived (go_letter m b).to message.Go s
          ≡ working.work_for (length at.left) m (sharing m (joined v) d share (known_first m d) (the_others m s) (words o at.left) after)
      is =
          arrives_alive (go_letter m b).to message.Go s (ap is_alive at_s) (ap (λ (y : LiveView). y.life) at_s)
          ∙ works_on m message.Go s w there_so
          ∙ ap (λ (k : ℕ). working.work_for k m q) many
          ∙ ap (λ (c : Bool). cond c (working.work_for (length at.left) m (working.handled m q)) q)
          (ap remote.has_next here ∙ ap is_some (next_go o d at.left))
          ∙ ap (working.work_for (length at.left) m)
          (goes o m s (joined v) d at.left w there_so refl (owned_shared b f.holders u.locks f.owned) (subst (All (CanHear m s)) (sym others_so) can_hear))

  -- ---- behind it

  abbrev tokens : List Token
  tokens = rest ++ map (hi m) others

  tokens_more : (h : Token → ℕ) → total h tokens ≡ total h rest + total h (map (hi m) others)
  tokens_more h = total_more h rest (map (hi m) others)

  going_now : (j : Node) → total (go_of j) tokens ≡ total (go_of j) rest
  going_now j =
      let both : total (go_of j) tokens ≡ total (go_of j) rest + total (go_of j) (map (hi m) others) = tokens_more (go_of j) in
      let none : total (go_of j) (map (hi m) others) ≡ 0 = none_total (go_of j) m (λ x. refl) others in
      (let same : total (go_of j) tokens ≡ total (go_of j) rest = omega (arith, both, none) in same)

  going_same : (j : Node) → j.0 ≢ m.0 → total (go_of j) f.tokens ≡ total (go_of j) tokens
  going_same j other =
      let less : total (go_of j) f.tokens ≡ more_if (m.0 == j.0) 0 + total (go_of j) rest = going_less j in
      let none : more_if (m.0 == j.0) 0 ≡ 0 = other_count m j other in
      let now : total (go_of j) tokens ≡ total (go_of j) rest = going_now j in
      (let same : total (go_of j) f.tokens ≡ total (go_of j) tokens = omega (arith, less, none, now) in same)

  hears_same : (j y : Node) → total (up_of j y) f.tokens ≡ total (up_of j y) tokens
  hears_same j y =
      let one : total (up_of j y) f.tokens ≡ 0 + total (up_of j y) rest = drawn_total (up_of j y) (go m) f.tokens rest drawn in
      let both : total (up_of j y) tokens ≡ total (up_of j y) rest + total (up_of j y) (map (hi m) others) = tokens_more (up_of j y) in
      let none : total (up_of j y) (map (hi m) others) ≡ 0 = none_total (up_of j y) m (λ x. refl) others in
      (let same : total (up_of j y) f.tokens ≡ total (up_of j y) tokens = omega (arith, one, both, none) in same)

  gone_more : (y : Node) → y.0 ≢ m.0 → count_of y (m ∷ f.gone) ≡ count_of y f.gone
  gone_more y other = ap (λ (c : Bool). more_if c (count_of y f.gone)) (ne_eqb m.0 y.0 (λ same. other (sym same)))

  abbrev sent_before : Node → Node → ℕ
  sent_before j y = total (hi_of y j) f.tokens + unsent (count_of y f.gone) (count_of y (friends b j))

  abbrev sent_now : Node → Node → ℕ
  sent_now j y = total (hi_of y j) tokens + unsent (count_of y (m ∷ f.gone)) (count_of y (friends b j))

  sent_same : (j : Node) → 1 ≤ count_of j g.nodes → (y : Node) → sent_before j y ≡ sent_now j y
  sent_same j within y = by (cases_eq y.0 m.0)
    where
      drop : (x : Node) → total (hi_of x j) f.tokens ≡ 0 + total (hi_of x j) rest
      drop x = drawn_total (hi_of x j) (go m) f.tokens rest drawn

      itself : sent_before j m ≡ sent_now j m
      itself =
          let one : total (hi_of m j) f.tokens ≡ 0 + total (hi_of m j) rest = drop m in
          let both : total (hi_of m j) tokens ≡ total (hi_of m j) rest + total (hi_of m j) (map (hi m) others) = tokens_more (hi_of m j) in
          let own : total (hi_of m j) (map (hi m) others) ≡ count_of j others = own_total m j others in
          let ways : count_of j others ≡ count_of m (friends b j) = g.both_ways m j among within has_dist in
          let before : unsent (count_of m f.gone) (count_of m (friends b j)) ≡ count_of m (friends b j) =
          ap (λ (n : ℕ). unsent n (count_of m (friends b j))) is_joined.gone in
          let now : unsent (count_of m (m ∷ f.gone)) (count_of m (friends b j)) ≡ 0 =
          ap (λ (c : Bool). unsent (more_if c (count_of m f.gone)) (count_of m (friends b j))) (eq-eqb m.0 m.0 refl) in
          omega (arith, one, both, own, ways, before, now)

      by : (y.0 ≡ m.0) ⊎ (y.0 ≢ m.0) → sent_before j y ≡ sent_now j y
      by (inl is) = subst (λ (x : Node). sent_before j x ≡ sent_now j x) (sym (same_node y m is)) itself
      by (inr other) =
          let one : total (hi_of y j) f.tokens ≡ 0 + total (hi_of y j) rest = drop y in
          let both : total (hi_of y j) tokens ≡ total (hi_of y j) rest + total (hi_of y j) (map (hi m) others) = tokens_more (hi_of y j) in
          let none : total (hi_of y j) (map (hi m) others) ≡ 0 = his_total m y j others other in
          let same : unsent (count_of y (m ∷ f.gone)) (count_of y (friends b j)) ≡ unsent (count_of y f.gone) (count_of y (friends b j)) =
          ap (λ (n : ℕ). unsent n (count_of y (friends b j))) (gone_more y other) in
          omega (arith, one, both, none, same)

  step_gone : Step f m (arrived (go_letter m b).to message.Go s)
  step_gone = subst (Step f m) (sym w.is) (record {
    tokens = tokens;
    waiting = f.waiting;
    ups = f.ups;
    gone = m ∷ f.gone;
    holders = holders;
    weighs =
        (let all : total (weight_of b) f.tokens + total (later_weight b) f.waiting ≡ suc weight = f.weighs in
        let one : total (weight_of b) f.tokens ≡ suc (length others) + total (weight_of b) rest = drawn_total (weight_of b) (go m) f.tokens rest drawn in
        let both : total (weight_of b) tokens ≡ total (weight_of b) rest + total (weight_of b) (map (hi m) others) = tokens_more (weight_of b) in
        let his : total (weight_of b) (map (hi m) others) ≡ length others = weigh_his b m others in
        omega (arith, all, one, both, his));
    same = λ i. record (f.same i) {
      nodes = (with_node m next s).nodes;
      messages = messages_so i;
      locks = locks_then (process_in b m role.DistAc) share w.later;
    };
    base = f.base;
    known = All-append (IsOf g.nodes) rest (map (hi m) others) known.1 (all_known others (λ x some. (see x some).1));
    each = f.each;
    held = λ j some. held_before j (cases_eq j.0 m.0) some;
    owned = still_owned b m (m ∷ f.holders) share w.later
        (All-append (IsOwned b (m ∷ f.holders)) u.locks _ (more_owned b m f.holders u.locks f.owned) (own_owned b m f.holders _));
    elsewhere = λ j other. written_elsewhere u.nodes.cells m.0 j.0 (cell.Node next) other;
    still = λ j within other. (λ i. record {
      ups = count_of j f.ups;
      gone = sym (gone_more j other) i;
      holds = holds_same j other i;
      going = going_same j other i;
      hears = λ y. hears_same j y i;
      sent = λ y. sent_same j within y i;
    });
    here = record {
      left = w.left;
      later = w.later;
      counts = λ y.
          (let before : sent_before m y + count_of y at.left ≡ count_of y at.later = at.counts y in
          let same : sent_before m y ≡ sent_now m y = sent_same m among y in
          let worked : count_of y w.left + count_of y (the_others m s) ≡ count_of y at.left + count_of y w.later = w.counts y in
          let all : count_of y at.later ≡ count_of y (the_others m s) = ap (count_of y) (is_joined.all ∙ friends_so b m has_dist ∙ sym others_so) in
          omega (arith, before, same, worked, all));
      within = λ y.
          (let one : count_of y w.later ≤ count_of y (the_others m s) = w.fewer y in
          let two : count_of y (the_others m s) ≡ count_of y (friends b m) = ap (count_of y) (others_so ∙ sym (friends_so b m has_dist)) in
          omega (arith, one, two));
      how = inr (inr (record {
        dist = d;
        has_dist = has_dist;
        has = dist_so;
        learnt = w.learnt;
        leads = w.leads ∙ ap (λ (l : List Node). learn_all o l (known_first m d)) others_so;
        unmet = w.unmet;
        here = set_there u.nodes.cells m.0 (cell.Node old) (cell.Node next) is_joined.here;
        ups = is_joined.ups;
        gone = ap (λ (c : Bool). more_if c (count_of m f.gone)) (eq-eqb m.0 m.0 refl) ∙ ap suc is_joined.gone;
        holds = λ none. holders_none m (m ∷ f.holders) w.later none;
        going = going_now m ∙ none_left;
      }));
    };
  })
    where
      w : Learns o m (joined v) d share after (known_first m d) (the_others m s) at.left (arrived (go_letter m b).to message.Go s)
      w = taken

      next : LiveView
      next = live_waiting (joined v) d w.learnt w.later (words o w.left)

      holders : List Node
      holders = holders_then m (m ∷ f.holders) w.later

      messages_so : left ++ map (greeting m (hello m d) s) (the_others m s) ≡ map (letter b) tokens
      messages_so =
          (λ i. left_so i ++ map (greeting m (hello m d) s) (others_so i))
          ∙ ap (λ (l : List Envelope). map (letter b) rest ++ l) greetings_so
          ∙ sym (map-append (letter b) rest (map (hi m) others))

      all_known : (nodes : List Node) → ((x : Node) → 1 ≤ count_of x nodes → 1 ≤ count_of x g.nodes) → All (IsOf g.nodes) (map (hi m) nodes)
      all_known nodes each = by nodes (all_of (λ x. 1 ≤ count_of x g.nodes) nodes each)
        where
          by : (nodes : List Node) → All (λ (x : Node). 1 ≤ count_of x g.nodes) nodes → All (IsOf g.nodes) (map (hi m) nodes)
          by [] all = All-nil (IsOf g.nodes)
          by (x ∷ nodes) all =
              All-cons (IsOf g.nodes) (hi m x) (map (hi m) nodes) (All-head (λ (x : Node). 1 ≤ count_of x g.nodes) x nodes all)
              (by nodes (All-tail (λ (x : Node). 1 ≤ count_of x g.nodes) x nodes all))

      holds_same : (j : Node) → j.0 ≢ m.0 → count_of j f.holders ≡ count_of j holders
      holds_same j other =
          sym (ap (λ (c : Bool). more_if c (count_of j f.holders)) (ne_eqb m.0 j.0 (λ same. other (sym same))))
          ∙ sym (holders_other j m (m ∷ f.holders) w.later other)

      held_before : (j : Node) → (j.0 ≡ m.0) ⊎ (j.0 ≢ m.0) → 1 ≤ count_of j holders → 1 ≤ count_of j g.nodes
      held_before j (inl is) some = subst (λ (x : Node). 1 ≤ count_of x g.nodes) (sym (same_node j m is)) among
      held_before j (inr other) some = f.held j (subst (λ (n : ℕ). 1 ≤ n) (sym (holds_same j other)) some)

  pub hears_go : Stage g weight (arrived (go_letter m b).to message.Go s)
  hears_go = stepped f m (arrived (go_letter m b).to message.Go s) among step_gone
