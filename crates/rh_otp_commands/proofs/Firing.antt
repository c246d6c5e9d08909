-- The timers that are due next fire in systems that are alike, and both are alike behind it.
use Rattle.std.proofs.Common.{◌≡◌, ◌⊎◌, ◌++◌, ℕ, zero, suc, Bool, true, false, cond, List, [], ◌∷◌, filter, map, not, slice_get, Option, Some, None, refl, sym, ap, subst, ◌∙◌, inl, inr, arith}
use Rattle.std.proofs.lemmas.Bool.{false≢true, and_parts}
use Rattle.std.proofs.lemmas.Bool.Decides.{nat_tests}
use Rattle.std.proofs.lemmas.Option.{none-some, same_Some}
use Rattle.std.proofs.lemmas.List.Elements.{filter-append}
use Rattle.rh_otp_model.specs.declared.output.Envelope.{Envelope}
use Rattle.rh_otp_net.specs.declared.timers.Timer.{Timer}
use Rattle.rh_otp_net.specs.Queue.{is_of_pair}
use Rattle.rh_otp_net.specs.Timers as timers
use Rattle.rh_otp_system.specs.Doing.{fired_next}
use Rattle.rh_otp_system.specs.State.{SystemView}
use Rattle.rh_otp_laws.specs.Messages.{of_pair}
use Rattle.rh_otp_laws.specs.Time.{message_of}
use Rattle.rh_otp_laws.proofs.Time.{due_fire}
use Rattle.rh_otp_orders.specs.Orders.{AreAlike, SameOfEach, is_owner, of_owner, node_of_timer}
use Rattle.rh_otp_orders.proofs.Following.{alike_without}
use Rattle.rh_otp_orders.proofs.Moving.{same_read}
use Rattle.rh_otp_orders.proofs.Picking.{IsThereToo, there_too, none_too}
use Rattle.rh_otp_commands.proofs.Alike.{written_of, written_alike, alike_with_timers}

-- ---- filters

kept : {A : Type 0} (q : A → Bool) (x : A) (xs : List A) → q x ≡ true → filter q (x ∷ xs) ≡ x ∷ filter q xs
kept q x xs is = ap (λ (b : Bool). cond b (x ∷ filter q xs) (filter q xs)) is

dropped : {A : Type 0} (q : A → Bool) (x : A) (xs : List A) → q x ≡ false → filter q (x ∷ xs) ≡ filter q xs
dropped q x xs is = ap (λ (b : Bool). cond b (x ∷ filter q xs) (filter q xs)) is

commute_by : {A : Type 0} (p q : A → Bool) (x : A) (xs : List A) (b c : Bool) → p x ≡ b → q x ≡ c
    → filter p (filter q xs) ≡ filter q (filter p xs) → filter p (filter q (x ∷ xs)) ≡ filter q (filter p (x ∷ xs))
commute_by p q x xs true true is_p is_q rest =
    ap (filter p) (kept q x xs is_q) ∙ kept p x (filter q xs) is_p ∙ ap (λ l. x ∷ l) rest ∙ sym (kept q x (filter p xs) is_q)
    ∙ sym (ap (filter q) (kept p x xs is_p))
commute_by p q x xs true false is_p is_q rest =
    ap (filter p) (dropped q x xs is_q) ∙ rest ∙ sym (dropped q x (filter p xs) is_q) ∙ sym (ap (filter q) (kept p x xs is_p))
commute_by p q x xs false true is_p is_q rest =
    ap (filter p) (kept q x xs is_q) ∙ dropped p x (filter q xs) is_p ∙ rest ∙ sym (ap (filter q) (dropped p x xs is_p))
commute_by p q x xs false false is_p is_q rest =
    ap (filter p) (dropped q x xs is_q) ∙ rest ∙ sym (ap (filter q) (dropped p x xs is_p))

-- whichever of two tests is made first
pub filters_commute : {A : Type 0} (p q : A → Bool) (xs : List A) → filter p (filter q xs) ≡ filter q (filter p xs)
filters_commute p q [] = refl
filters_commute p q (x ∷ xs) = commute_by p q x xs (p x) (q x) refl refl (filters_commute p q xs)

narrow_by : {A : Type 0} (p q : A → Bool) (x : A) (xs : List A) (b c : Bool) → p x ≡ b → q x ≡ c → (q x ≡ true → p x ≡ true)
    → filter q xs ≡ filter q (filter p xs) → filter q (x ∷ xs) ≡ filter q (filter p (x ∷ xs))
narrow_by p q x xs true true is_p is_q narrow rest =
    kept q x xs is_q ∙ ap (λ l. x ∷ l) rest ∙ sym (kept q x (filter p xs) is_q) ∙ sym (ap (filter q) (kept p x xs is_p))
narrow_by p q x xs true false is_p is_q narrow rest =
    dropped q x xs is_q ∙ rest ∙ sym (dropped q x (filter p xs) is_q) ∙ sym (ap (filter q) (kept p x xs is_p))
narrow_by p q x xs false true is_p is_q narrow rest = absurd (false≢true (sym is_p ∙ narrow is_q))
narrow_by p q x xs false false is_p is_q narrow rest =
    dropped q x xs is_q ∙ rest ∙ sym (ap (filter q) (dropped p x xs is_p))

-- a narrower test finds the same behind a wider one
pub narrower : {A : Type 0} (p q : A → Bool) → ((x : A) → q x ≡ true → p x ≡ true) → (xs : List A) → filter q xs ≡ filter q (filter p xs)
narrower p q narrow [] = refl
narrower p q narrow (x ∷ xs) = narrow_by p q x xs (p x) (q x) refl refl (narrow x) (narrower p q narrow xs)

map_by : {A B : Type 0} (f : A → B) (q : B → Bool) (x : A) (xs : List A) (b : Bool) → q (f x) ≡ b
    → filter q (map f xs) ≡ map f (filter (λ y. q (f y)) xs) → filter q (map f (x ∷ xs)) ≡ map f (filter (λ y. q (f y)) (x ∷ xs))
map_by f q x xs true is rest =
    kept q (f x) (map f xs) is ∙ ap (λ l. f x ∷ l) rest ∙ sym (ap (map f) (kept (λ y. q (f y)) x xs is))
map_by f q x xs false is rest = dropped q (f x) (map f xs) is ∙ rest ∙ sym (ap (map f) (dropped (λ y. q (f y)) x xs is))

filter_of_map : {A B : Type 0} (f : A → B) (q : B → Bool) (xs : List A) → filter q (map f xs) ≡ map f (filter (λ x. q (f x)) xs)
filter_of_map f q [] = refl
filter_of_map f q (x ∷ xs) = map_by f q x xs (q (f x)) refl (filter_of_map f q xs)

-- ---- which timers are due next

abbrev Time : Type 0
Time = ℕ × ℕ

abbrev time_of : Timer → Time
time_of t = (t.due, t.step)

before_both : (x y z : Time) → timers.is_before x y ≡ true → timers.is_before y z ≡ true → timers.is_before x z ≡ true
before_both x y z one two = grind (arith, nat_tests, one, two)

before_later : (x y z : Time) → timers.is_before x y ≡ false → timers.is_before x z ≡ true → timers.is_before y z ≡ true
before_later x y z one two = grind (arith, nat_tests, one, two)

neither_before : (x y : Time) → timers.is_before x y ≡ false → timers.is_before y x ≡ false → (x.0 ≡ y.0) × (x.1 ≡ y.1)
neither_before x y one two = (grind (arith, nat_tests, one, two), grind (arith, nat_tests, one, two))

-- none is before it
refuted : (x y : Time) → (timers.is_before x y ≡ true → ⊥) → timers.is_before x y ≡ false
refuted x y not_so = by (timers.is_before x y) refl
  where
    by : (b : Bool) → timers.is_before x y ≡ b → timers.is_before x y ≡ false
    by true is = absurd (not_so is)
    by false is = is

-- none of these timers is before it
abbrev NoneBefore : List Timer → Time → Type 0
NoneBefore rows time = (place : ℕ) (t : Timer) → slice_get rows place ≡ Some t → timers.is_before (time_of t) time ≡ false

-- it is the time of one of these
abbrev IsOneOf : List Timer → Time → Type 0
IsOneOf rows time = (place : ℕ) × (t : Timer) × (slice_get rows place ≡ Some t) × (time_of t ≡ time)

none_more : (t : Timer) (rows : List Timer) (time : Time) → timers.is_before (time_of t) time ≡ false → NoneBefore rows time
    → NoneBefore (t ∷ rows) time
none_more t rows time here later zero u there =
    subst (λ (v : Timer). timers.is_before (time_of v) time ≡ false) (same_Some t u there) here
none_more t rows time here later (suc place) u there = later place u there

one_more : (t : Timer) (rows : List Timer) (time : Time) → (time_of t ≡ time) ⊎ IsOneOf rows time → IsOneOf (t ∷ rows) time
one_more t rows time (inl same) = (0, t, refl, same)
one_more t rows time (inr later) = (suc later.0, later.1, later.2, later.3)

-- the earliest of a time and of these timers
record IsEarlier (least : Time) (rows : List Timer) (time : Time) : Type 0 where
  found : timers.earliest (Some least) rows ≡ Some time
  no_later : timers.is_before least time ≡ false
  none : NoneBefore rows time
  some : (least ≡ time) ⊎ IsOneOf rows time

not_before_itself : (x : Time) → timers.is_before x x ≡ false
not_before_itself x = grind (arith, nat_tests)

either_one : (least : Time) (t : Timer) (rows : List Timer) (time : Time) → (least ≡ time) ⊎ IsOneOf rows time
    → (least ≡ time) ⊎ IsOneOf (t ∷ rows) time
either_one least t rows time (inl same) = inl same
either_one least t rows time (inr later) = inr (one_more t rows time (inr later))

earlier_by : (least : Time) (t : Timer) (rows : List Timer) (b : Bool) → timers.is_before (time_of t) least ≡ b
    → ((x : Time) → (time : Time) × IsEarlier x rows time) → (time : Time) × IsEarlier least (t ∷ rows) time
earlier_by least t rows true is rest =
    let more : (time : Time) × IsEarlier (time_of t) rows time = rest (time_of t) in
    let so : IsEarlier (time_of t) rows more.0 = more.1 in (
      more.0,
      record {
        found = ap (λ (b : Bool). timers.earliest (cond b (Some (time_of t)) (Some least)) rows) is ∙ so.found;
        no_later = refuted least more.0
            (λ sooner. false≢true (sym so.no_later ∙ before_both (time_of t) least more.0 is sooner));
        none = none_more t rows more.0 so.no_later so.none;
        some = inr (one_more t rows more.0 so.some);
      },
    )
earlier_by least t rows false is rest =
    let more : (time : Time) × IsEarlier least rows time = rest least in
    let so : IsEarlier least rows more.0 = more.1 in (
      more.0,
      record {
        found = ap (λ (b : Bool). timers.earliest (cond b (Some (time_of t)) (Some least)) rows) is ∙ so.found;
        no_later = so.no_later;
        none = none_more t rows more.0
            (refuted (time_of t) more.0 (λ sooner. false≢true (sym so.no_later ∙ before_later (time_of t) least more.0 is sooner))) so.none;
        some = either_one least t rows more.0 so.some;
      },
    )

earlier : (least : Time) (rows : List Timer) → (time : Time) × IsEarlier least rows time
earlier least [] = (
  least,
  record {
    found = refl;
    no_later = not_before_itself least;
    none = λ place t there. absurd
        (none-some t there);
    some = inl refl;
  },
)
earlier least (t ∷ rows) = earlier_by least t rows (timers.is_before (time_of t) least) refl (λ x. earlier x rows)

-- the earliest of these timers is one of them, and none is before it
abbrev HasEarliest : List Timer → Type 0
HasEarliest rows = (time : Time) × (timers.next_due rows ≡ Some time) × NoneBefore rows time × IsOneOf rows time

earliest_of : (t : Timer) (rows : List Timer) → HasEarliest (t ∷ rows)
earliest_of t rows =
    let more : (time : Time) × IsEarlier (time_of t) rows time = earlier (time_of t) rows in
    let so : IsEarlier (time_of t) rows more.0 = more.1 in
    (more.0, so.found, none_more t rows more.0 so.no_later so.none, one_more t rows more.0 so.some)

-- what stands in the one stands in the other, so none there is before its earliest
none_sooner : (xs ys : List Timer) (x y : Time) → SameOfEach node_of_timer xs ys → IsOneOf xs x → NoneBefore ys y
    → timers.is_before x y ≡ false
none_sooner xs ys x y same one none =
    let too : IsThereToo node_of_timer xs ys one.0 one.1 = there_too node_of_timer xs ys one.0 one.1 same one.2 in
    subst (λ (time : Time). timers.is_before time y ≡ false) one.3 (none too.place one.1 too.there)

pub same_next : (xs ys : List Timer) → SameOfEach node_of_timer xs ys → timers.next_due xs ≡ timers.next_due ys
same_next [] ys same = sym (ap timers.next_due (none_too node_of_timer ys same))
same_next (x ∷ xs) [] same = ap timers.next_due (none_too node_of_timer (x ∷ xs) (λ o. sym (same o)))
same_next (x ∷ xs) (y ∷ ys) same =
    let one : HasEarliest (x ∷ xs) = earliest_of x xs in
    let other : HasEarliest (y ∷ ys) = earliest_of y ys in
    let both : (one.0.0 ≡ other.0.0) × (one.0.1 ≡ other.0.1) =
    neither_before one.0 other.0 (none_sooner (x ∷ xs) (y ∷ ys) one.0 other.0 same one.3 other.2)
    (none_sooner (y ∷ ys) (x ∷ xs) other.0 one.0 (λ o. sym (same o)) other.3 one.2) in
    one.1 ∙ (λ i. Some (both.0 i, both.1 i)) ∙ sym other.1

-- ---- they fire

same_tested : (p : Timer → Bool) (xs ys : List Timer) → SameOfEach node_of_timer xs ys
    → SameOfEach node_of_timer (filter p xs) (filter p ys)
same_tested p xs ys same o =
    filters_commute (λ (x : Timer). is_owner o (node_of_timer x)) p xs ∙ ap (filter p) (same o)
    ∙ sym (filters_commute (λ (x : Timer). is_owner o (node_of_timer x)) p ys)

same_due : (next : Option Time) (xs ys : List Timer) → SameOfEach node_of_timer xs ys
    → SameOfEach node_of_timer (timers.due_at next xs) (timers.due_at next ys)
same_due None xs ys same = λ o. refl
same_due (Some time) xs ys same = same_tested (timers.is_due time) xs ys same

same_left : (next : Option Time) (xs ys : List Timer) → SameOfEach node_of_timer xs ys
    → SameOfEach node_of_timer (timers.left_at next xs) (timers.left_at next ys)
same_left None xs ys same = same
same_left (Some time) xs ys same = same_tested (λ t. not (timers.is_due time t)) xs ys same

-- what a timer of a pair of processes sends is of the node of these
of_node : (pair : Envelope) (x : Timer) → is_of_pair pair (message_of x) ≡ true
    → is_owner (Some pair.to.node) (node_of_timer x) ≡ true
of_node pair x is = (and_parts _ _ (and_parts _ _ (and_parts _ _ is).1).0).1

same_sent : (xs ys : List Timer) → SameOfEach node_of_timer xs ys → (pair : Envelope)
    → of_pair pair (map message_of xs) ≡ of_pair pair (map message_of ys)
same_sent xs ys same pair =
    filter_of_map message_of (is_of_pair pair) xs ∙ ap (map message_of) (narrow xs ∙ ap (filter q) (same (Some pair.to.node)) ∙ sym
    (narrow ys))
    ∙ sym (filter_of_map message_of (is_of_pair pair) ys)
  where
    q : Timer → Bool
    q x = is_of_pair pair (message_of x)

    narrow : (rows : List Timer) → filter q rows ≡ filter q (of_owner node_of_timer (Some pair.to.node) rows)
    narrow rows = narrower (λ (x : Timer). is_owner (Some pair.to.node) (node_of_timer x)) q (of_node pair) rows

same_behind_both : (pair : Envelope) (ms ns more more' : List Envelope) → of_pair pair ms ≡ of_pair pair ns
    → of_pair pair more ≡ of_pair pair more' → of_pair pair (ms ++ more) ≡ of_pair pair (ns ++ more')
same_behind_both pair ms ns more more' before behind =
    filter-append (is_of_pair pair) ms more ∙ (λ i. before i ++ behind i) ∙ sym (filter-append (is_of_pair pair) ns more')

-- the system where time has come so far, these timers are left, and these messages are on their way
abbrev fired_so : ℕ → List Timer → List Envelope → SystemView → SystemView
fired_so due left messages s = record s { clock = due; timers = left; messages = messages }

pub fire_alike : (due : ℕ) (s t : SystemView) → AreAlike s t → AreAlike (fired_next due s) (fired_next due t)
fire_alike due s t g =
    subst (λ (x : SystemView). AreAlike x (fired_next due t)) (sym (due_fire s due))
    (subst (AreAlike (fired_so due (timers.left s.timers) (s.messages ++ map message_of (timers.fired s.timers)) s)) (sym (due_fire t due))
    (alike_without (fired_so due (timers.left s.timers) s.messages s) (fired_so due (timers.left t.timers) t.messages t) _ _
    (alike_with_timers (timers.left s.timers) (timers.left t.timers) (record s { clock = due }) (record t { clock = due }) left
    (written_alike (written_of (record s { clock = due })) (written_of (record t { clock = due })) s t
    (same_read (λ (u : SystemView). written_of (record u { clock = due })) s t g) g))
    (λ pair. same_behind_both pair s.messages t.messages _ _ (g.messages pair) (same_sent (timers.fired s.timers)
    (timers.fired t.timers) fired pair))))
  where
    next : timers.next_due s.timers ≡ timers.next_due t.timers
    next = same_next s.timers t.timers g.timers

    left : SameOfEach node_of_timer (timers.left s.timers) (timers.left t.timers)
    left =
        subst (λ (time : Option Time). SameOfEach node_of_timer (timers.left s.timers) (timers.left_at time t.timers)) next
        (same_left (timers.next_due s.timers) s.timers t.timers g.timers)

    fired : SameOfEach node_of_timer (timers.fired s.timers) (timers.fired t.timers)
    fired =
        subst (λ (time : Option Time). SameOfEach node_of_timer (timers.fired s.timers) (timers.due_at time t.timers)) next
        (same_due (timers.next_due s.timers) s.timers t.timers g.timers)
