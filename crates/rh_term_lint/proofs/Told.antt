-- Each finding that is told is so.
use Rattle.std.proofs.Common.{◌≡◌, ◌<◌, ◌+◌, ◌&&◌, ◌∙◌, arith, zero, suc, sym, ap, subst, refl, ℕ, Bool, true, false, cond, find, codes, List, [], ◌∷◌, length, get_or, Option, Some, None}
use Rattle.std.specs.List.{All, Contains, flat_map, enumerate_from, slice_get}
use Rattle.std.specs.Option.{option_map, option_to_list}
use Rattle.std.specs.Str.{bytes_eq}
use Rattle.std.proofs.lemmas.List.Elements.{All-nil, All-cons, All-append, All-contains}
use Rattle.std.proofs.lemmas.Slice.Eq.{bytes_eq-Decides}
use Rattle.rh_base.specs.Tree.{Tree}
use Rattle.rh_cluster.specs.Shapes.{as_node, as_app}
use Rattle.rh_term_lint.specs.declared.names.ReadName.{ReadName}
use Rattle.rh_term_lint.specs.declared.finding.TermFinding.{TermFinding}
use Rattle.rh_term_lint.specs.declared.finding.TermFinding.TheVariants.{NoProfile, NearSection, NearParameter, UndefinedWritten, NearKey}
use Rattle.rh_term_lint.specs.Near.{is_near}
use Rattle.rh_term_lint.specs.Meant.{sections, parameters, keys, word_of, is_read, meant}
use Rattle.rh_term_lint.specs.Findings.{entries, near, is_undefined, of_parameter, of_section, of_key, of_term, has_profile, findings}
use Rattle.rh_term_lint.specs.Laws.{IsMistaken, HasConfig, HasKeys, HasSection, IsSo}

-- ---- what a list contains
here : {A : Type 0} (x : A) (xs : List A) → Contains (x ∷ xs) x
here x xs = (0, omega arith, refl)

there : {A : Type 0} (x : A) (xs : List A) (y : A) → Contains xs y → Contains (x ∷ xs) y
there x xs y c = let h = c.1 in (suc c.0, omega (arith, h), c.2)

all_flat : {A B : Type 0} (P : B → Type 0) (f : A → List B) (xs : List A) → ((x : A) → Contains xs x → All P (f x)) → All P (flat_map f xs)
all_flat P f [] h = All-nil P
all_flat P f (x ∷ xs) h = All-append P (f x) (flat_map f xs) (h x (here x xs)) (all_flat P f xs (λ y c. h y (there x xs y c)))

all_if : {B : Type 0} (P : B → Type 0) (b : Bool) (xs : List B) → (b ≡ true → All P xs) → All P (cond b xs [])
all_if P true xs h = h refl
all_if P false xs h = All-nil P

all_unless : {B : Type 0} (P : B → Type 0) (b : Bool) (xs : List B) → (b ≡ false → All P xs) → All P (cond b [] xs)
all_unless P true xs h = All-nil P
all_unless P false xs h = h refl

all_one : {B : Type 0} (P : B → Type 0) (x : B) → P x → All P (x ∷ [])
all_one P x h = All-cons P x [] h (All-nil P)

-- what an option has
given : {A : Type 0} (o : Option A) (x : A) (k : ℕ) → k < length (option_to_list o) → get_or (option_to_list o) k x ≡ x → o ≡ Some x
given None x k h e = absurd (omega (arith, h))
given (Some y) x zero h e = ap Some e
given (Some y) x (suc k) h e = absurd (omega (arith, h))

-- what is found is there, and passes
found : {A : Type 0} (p : A → Bool) (xs : List A) (x : A) → find p xs ≡ Some x → Contains xs x × (p x ≡ true)
found p [] x h = absurd (cc)
found {A} p (y ∷ ys) x h = by (p y) refl h (found p ys x)
  where
    same : Some y ≡ Some x → y ≡ x
    same e = cc e

    by : (b : Bool) → p y ≡ b → cond b (Some y) (find p ys) ≡ Some x → (find p ys ≡ Some x → Contains ys x × (p x ≡ true))
        → Contains (y ∷ ys) x × (p x ≡ true)
    by true e is rest = ((0, omega arith, same is), ap p (sym (same is)) ∙ e)
    by false e is rest = let r = rest is in (there y ys x r.0, r.1)

-- an element with its place
placed : {A : Type 0} (n : ℕ) (ts : List A) (at : ℕ × A) (k : ℕ) → k < length (enumerate_from n ts) → get_or (enumerate_from n ts) k at ≡ at
    → (at.0 ≡ n + k) × (slice_get ts k ≡ Some at.1)
placed n [] at k h e = absurd (omega (arith, h))
placed n (t ∷ ts) at zero h e = let i = ap (λ p. p.0) e in (omega (arith, i), ap (λ p. Some p.1) e)
placed n (t ∷ ts) at (suc k) h e = let r = placed (n + 1) ts at k (omega (arith, h)) e in let i = r.0 in (omega (arith, i), r.1)

-- ---- names
mistaken : (names : List ReadName) (word : List ℕ) (name : ReadName) → meant names word ≡ Some name → IsMistaken names word name
unfolding meant
mistaken names word name h = by (is_read names word) refl h
  where
    by : (b : Bool) → is_read names word ≡ b → cond b None (find (λ n. is_near word (word_of n)) names) ≡ Some name → IsMistaken names word name
    by true e is = absurd (cc)
    by false e is = let f = found (λ n. is_near word (word_of n)) names name is in (e, f.0, f.1)

all_near : (P : TermFinding → Type 0) (finding : List ℕ → ReadName → TermFinding) (names : List ReadName) (word : List ℕ)
    → ((name : ReadName) → IsMistaken names word name → P (finding word name)) → All P (near finding names word)
all_near P finding names word each = by (meant names word) refl
  where
    by : (o : Option ReadName) → meant names word ≡ o → All P (option_to_list (option_map (finding word) o))
    by None e = All-nil P
    by (Some name) e = all_one P (finding word name) (each name (mistaken names word name e))

-- an entry whose name is this word
named : (es : List (List ℕ × Tree)) (e : List ℕ × Tree) (word : List ℕ) → Contains es e → bytes_eq e.0 word ≡ true → Contains es (word, e.1)
named es e word c t = subst (λ (name : List ℕ). Contains es (name, e.1)) ((bytes_eq-Decides e.0 word).0 t) c

-- ---- parts
parameter_so : (ts : List Tree) (place : ℕ) (kernel : Tree) (e : List ℕ × Tree) → HasSection ts place (codes "kernel") kernel
    → Contains (entries kernel) e → All (IsSo ts) (of_parameter place e)
unfolding of_parameter
parameter_so ts place kernel e has c =
    All-append (IsSo ts) (near (NearParameter place) parameters e.0)
    (cond (bytes_eq e.0 (codes "sync_nodes_timeout") && is_undefined e.1) (UndefinedWritten place ∷ []) [])
    (all_near (IsSo ts) (NearParameter place) parameters e.0 (λ name m. (m, (e.1, (kernel, has, c)))))
    (all_if (IsSo ts) (bytes_eq e.0 (codes "sync_nodes_timeout") && is_undefined e.1) (UndefinedWritten place ∷ [])
    (λ t. let b = both (bytes_eq e.0 (codes "sync_nodes_timeout")) (is_undefined e.1) t in
    all_one (IsSo ts) (UndefinedWritten place)
    (e.1, (kernel, has, named (entries kernel) e (codes "sync_nodes_timeout") c b.0), b.1)))
  where
    both : (a b : Bool) → (a && b) ≡ true → (a ≡ true) × (b ≡ true)
    both true b h = (refl, h)
    both false b h = absurd (cc)

section_so : (ts : List Tree) (place : ℕ) (config : Tree) (e : List ℕ × Tree) → HasConfig ts place config → Contains (entries config) e
    → All (IsSo ts) (of_section place e)
unfolding of_section
section_so ts place config e has c =
    All-append (IsSo ts) (near (NearSection place) sections e.0)
    (cond (bytes_eq e.0 (codes "kernel")) (flat_map (of_parameter place) (entries e.1)) [])
    (all_near (IsSo ts) (NearSection place) sections e.0 (λ name m. (m, (e.1, (config, has, c)))))
    (all_if (IsSo ts) (bytes_eq e.0 (codes "kernel")) (flat_map (of_parameter place) (entries e.1))
    (λ t. all_flat (IsSo ts) (of_parameter place) (entries e.1)
    (λ p there. parameter_so ts place e.1 p (config, has, named (entries config) e (codes "kernel") c t) there)))

key_so : (ts : List Tree) (place : ℕ) (ks : Tree) (e : List ℕ × Tree) → HasKeys ts place ks → Contains (entries ks) e
    → All (IsSo ts) (of_key place e)
unfolding of_key
key_so ts place ks e has c = all_near (IsSo ts) (NearKey place) keys e.0 (λ name m. (m, (e.1, (ks, has, c))))

term_so : (ts : List Tree) (place : ℕ) (t : Tree) → slice_get ts place ≡ Some t → All (IsSo ts) (of_term place t)
unfolding of_term
term_so ts place t is =
    All-append (IsSo ts) (flat_map (λ node. flat_map (of_section place) (entries node.1)) (option_to_list (as_node t)))
    (flat_map (λ app. flat_map (of_key place) (entries app.1)) (option_to_list (as_app t)))
    (all_flat (IsSo ts) (λ node. flat_map (of_section place) (entries node.1)) (option_to_list (as_node t))
    (λ node c. all_flat (IsSo ts) (of_section place) (entries node.1)
    (λ e there. section_so ts place node.1 e (t, node.0, is, given (as_node t) node c.0 c.1 c.2) there)))
    (all_flat (IsSo ts) (λ app. flat_map (of_key place) (entries app.1)) (option_to_list (as_app t))
    (λ app c. all_flat (IsSo ts) (of_key place) (entries app.1)
    (λ e there. key_so ts place app.1 e (t, app.0, is, given (as_app t) app c.0 c.1 c.2) there)))

all_so : (ts : List Tree) → All (IsSo ts) (findings ts)
unfolding findings
all_so ts =
    All-append (IsSo ts) (cond (has_profile ts) [] (NoProfile ∷ [])) (flat_map (λ at. of_term at.0 at.1) (enumerate_from 0 ts))
    (all_unless (IsSo ts) (has_profile ts) (NoProfile ∷ []) (λ f. all_one (IsSo ts) NoProfile f))
    (all_flat (IsSo ts) (λ at. of_term at.0 at.1) (enumerate_from 0 ts)
    (λ at c. let p = placed 0 ts at c.0 c.1 c.2 in let i = p.0 in
    term_so ts at.0 at.1 (subst (λ (k : ℕ). slice_get ts k ≡ Some at.1) (sym (from_none at.0 c.0 i)) p.1)))
  where
    from_none : (i k : ℕ) → i ≡ 0 + k → i ≡ k
    from_none i k e = omega (arith, e)

pub findings_are_so : (ts : List Tree) (f : TermFinding) → Contains (findings ts) f → IsSo ts f
findings_are_so ts f c = All-contains (IsSo ts) (findings ts) f (all_so ts) c
