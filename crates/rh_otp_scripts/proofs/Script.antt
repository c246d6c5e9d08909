-- A boot script that begins while all else is at rest.
use Rattle.std.proofs.Common.{◌≡◌, ◌++◌, ◌<◌, ℕ, Bool, true, false, cond, length, List, [], ◌∷◌, slice_get, Some, None, refl, sym, ap, subst, ◌∙◌, arith}
use Rattle.std.specs.Prelude.{All}
use Rattle.std.proofs.lemmas.Bool.{false≢true}
use Rattle.std.proofs.lemmas.List.{append-nil}
use Rattle.std.proofs.lemmas.List.Elements.{All-nil}
use Rattle.rh_model.specs.declared.node.Node.{Node}
use Rattle.rh_otp_model.specs.declared.output.Envelope.{Envelope}
use Rattle.rh_otp_node.specs.Live.{LiveView}
use Rattle.rh_otp_system.specs.declared.moves.Move.TheVariants as move
use Rattle.rh_otp_system.specs.declared.slow.Answered.{Answered}
use Rattle.rh_otp_system.specs.declared.slow.Slow.{Slow}
use Rattle.rh_otp_system.specs.declared.slow.Slow.TheVariants.{Boot}
use Rattle.rh_otp_system.specs.Delivering.{slowed}
use Rattle.rh_otp_system.specs.Joining.{boot_next}
use Rattle.rh_otp_system.specs.Moves.{Delivers, made, slow_done, slow_done_if}
use Rattle.rh_otp_system.specs.State.{SystemView, live_at, node_at, with_node}
use Rattle.rh_otp_laws.specs.Acting.{IsReached}
use Rattle.rh_otp_orders.specs.Confluence.{IsOrderly}
use Rattle.rh_otp_orders.proofs.Confluence.{reached_by, orderly_alike, picks_alike}
use Rattle.rh_otp_orders.proofs.Moving.{reached_order}
use Rattle.rh_otp_crashes.specs.Crashes.{FailOverLater}
use Rattle.rh_otp_crashes.proofs.Crash.{lives_of}
use Rattle.rh_otp_crashes.proofs.Peace.{no_place}
use Rattle.rh_otp_stops.proofs.Stop.{from_first}
use Rattle.rh_otp_stops.proofs.Stopping.{there_is}
use Rattle.rh_otp_starts.proofs.Parting.{by_messages}
use Rattle.rh_otp_scripts.specs.Boots.{GoesOneWay, here, behind_one, BootsEndAlike}
use Rattle.rh_otp_scripts.specs.Scripts.{BootsAlone, CanBoot, ScriptsEndAlike}
use Rattle.rh_otp_scripts.proofs.Ending.{quiet_orderly}
use Rattle.rh_otp_scripts.proofs.Meeting.{goes_on, meets}
use Rattle.rh_otp_scripts.proofs.Speaking as speaking
use Rattle.rh_otp_scripts.proofs.Speaking.{Spoken}
use Rattle.rh_otp_scripts.proofs.Underway.{Wrote, Calm, spoke, Underway, main_on}
use Rattle.rh_otp_scripts.proofs.Words.{IsSide}

orderly : {lives : Node → ℕ} {n : Node} (s : SystemView) → Underway lives n s → IsOrderly s
orderly {lives} {n} s f = by_messages (Underway lives n) quiet_orderly goes_on meets s f

-- ---- the script begins

-- behind that all is as where one runs
abbrev begun : Node → SystemView → SystemView
begun n s = boot_next n None (record s { slow = [] })

-- where it is about to begin, whoever has answered whom before
pub record AtBoot (n : Node) (s : SystemView) : Type 0 where
  pub alone : BootsAlone n s
  pub can : CanBoot n s
  pub calm : Calm (lives_of s) n (record s { slow = [] })

is_underway : (n : Node) (s : SystemView) → AtBoot n s → Underway (lives_of s) n (begun n s)
is_underway n s f =
    main_on q (begun n s) f.calm (subst (All K) (sym f.alone.messages) (All-nil K)) f.alone.locks
    (λ d has. f.alone.dists n d f.can.alive has) (spoke (begun n s) wrote refl sp.then_on)
  where
    K : Envelope → Type 0
    K = IsSide (lives_of s) n

    q : SystemView
    q = record s { slow = [] }

    sp : Spoken (lives_of s) n q (boot_next n None)
    sp = speaking.goes_on (lives_of s) n None q f.can.requests

    there : live_at s n ≡ Some (node_at s n)
    there = there_is s n f.can.alive

    new : LiveView
    new = record (node_at s n) { controller = sp.next; kinds = sp.kinds (node_at s n).kinds; place = sp.place }

    last : SystemView
    last = record (with_node n new q) { messages = q.messages ++ sp.more; events = q.events ++ sp.seen }

    timed : last ≡ record last { timers = q.timers ++ [] }
    timed = λ i. record last { timers = sym (append-nil q.timers) i }

    comes : begun n s ≡ last
    comes = sp.comes q (node_at s n) there refl refl refl refl refl

    wrote : Wrote n q.locks q (begun n s)
    wrote = record {
      new = new;
      there = there;
      more = sp.more;
      set = [];
      seen = sp.seen;
      is = comes ∙ timed;
      life = refl;
      phase = refl;
    }

-- something slow is on its way
some_slow : (what : Slow) → what ∷ [] ≡ [] → ⊥
some_slow what none = false≢true (ap is_none none)
  where
    is_none : List Slow → Bool
    is_none [] = true
    is_none (x ∷ l) = false

-- the first of one
only_place : (place : ℕ) (what : Slow) (slow : List Slow) → slow ≡ what ∷ [] → place < length slow → place ≡ 0
only_place place what slow is within = let one : length slow ≡ 1 = ap (λ (l : List Slow). length l) is in omega (arith, one, within)

-- nothing else can come first
begins_first : (n : Node) (s t : SystemView) → AtBoot n s → Delivers s t → t ≡ begun n s
unfolding made slowed
begins_first n s t f (move.Deliver place, possible, is) = absurd (no_place s.messages place f.alone.messages possible)
begins_first n s t f (move.Slow place, possible, is) =
    is
    ∙ ap (λ (k : ℕ). slow_done k s) (only_place place (Boot n) s.slow f.alone.slow possible.1)
    ∙ (λ i. slow_done_if 0 (slice_get (f.alone.slow i) 0) (record s { slow = f.alone.slow i }))
    ∙ ap (λ (b : Bool). cond b (begun n s) (record s { slow = [] })) f.can.alive
begins_first n s t f (move.Lock k, possible, is) = absurd (some_slow (Boot n) (sym f.alone.slow ∙ possible.0.1))
begins_first n s t f (move.Call place, possible, is) = absurd (some_slow (Boot n) (sym f.alone.slow ∙ possible.0.1))
begins_first n s t f (move.End k, possible, is) = absurd (some_slow (Boot n) (sym f.alone.slow ∙ possible.0.1))

pub boot_orderly : (n : Node) (s : SystemView) → AtBoot n s → IsOrderly s
boot_orderly n s f p t u reaches to_t to_u =
    from_first s p reaches (begun n s) (λ q one. begins_first n s q f one) (orderly (begun n s) (is_underway n s f)) t u to_t to_u

-- ---- where it begins

pub at_boot : (n : Node) (s : SystemView) (answers : List Answered) → IsReached s → BootsAlone n s → CanBoot n s
    → (s.ends_soon ≡ true → FailOverLater s) → AtBoot n (record s { answers = answers })
at_boot n s answers reached alone can later = record {
  alone = record {
    messages = alone.messages;
    slow = alone.slow;
    calls = alone.calls;
    locks = alone.locks;
    dists = alone.dists;
    ends = alone.ends;
  };
  can = record {
    alive = can.alive;
    requests = can.requests;
    sees_all = record { takeovers = can.sees_all.takeovers; sees = can.sees_all.sees };
    runners = can.runners;
    lists = can.lists;
  };
  calm = record {
    alive = can.alive;
    slow = refl;
    calls = alone.calls;
    others = λ m d other up has. alone.dists m d up has;
    ends = λ m other up. alone.ends m up;
    listed = reached_order s reached;
    same_lives = λ m. refl;
    later = later;
    takeovers = can.sees_all.takeovers;
    sees = can.sees_all.sees;
    runners = can.runners;
    lists = can.lists;
  };
}

-- ---- what goes one way to there

one_way : (s t : SystemView) → GoesOneWay s t → IsOrderly t → IsOrderly s
one_way _ _ (here s) order = order
one_way _ _ (behind_one s q t first only rest) order =
    λ p u v reaches to_u to_v. from_first s p reaches q only (one_way q t rest order) u v to_u to_v

-- what comes of it is reached, too
reached_there : (s t : SystemView) → GoesOneWay s t → IsReached s → IsReached t
reached_there _ _ (here s) reached = reached
reached_there _ _ (behind_one s q t first only rest) reached = reached_there q t rest (reached_by s q first reached)

pub boots_alike : BootsEndAlike
boots_alike s t n reached none way alone can later = (
  orderly_alike s reached order,
  λ most one other quiet quiet_too.
      picks_alike s most one other reached (subst IsOrderly (λ i. record s { answers = none i }) order) quiet quiet_too,
)
  where
    order : IsOrderly s
    order = one_way s t way
        (boot_orderly n (record t { answers = t.answers }) (at_boot n t t.answers (reached_there s t way reached) alone can later))

-- ---- the law

pub scripts_alike : ScriptsEndAlike
scripts_alike s n reached alone can later = (
  orderly_alike s reached (boot_orderly n (record s { answers = s.answers }) (at_boot n s s.answers reached alone can later)),
  λ most one other quiet quiet_too.
      picks_alike s most one other reached (boot_orderly n (record s { answers = [] }) (at_boot n s [] reached alone can later)) quiet
      quiet_too,
)
