-- What is kept of terms, as they are read one after the other.
use Rattle.std.proofs.Common.{◌≡◌, ◌<◌, ℕ, List, [], ◌∷◌, ◌++◌, Bool, true, false, Option, Some, Result}
use Rattle.std.proofs.Common.{Ok, Err, length, drop, refl, sym, ap, subst, ◌∙◌, arith}
use Rattle.std.specs.Prelude.{◌==◌}
use Rattle.std.specs.Str.{IsUtf8}
use Rattle.rh_terms.specs.declared.nest.TheConstants.{MAX_DEPTH}
use Rattle.rh_terms.specs.declared.fault.Fault.{Fault}
use Rattle.rh_terms.specs.declared.fault.ReadError.{ReadError}
use Rattle.rh_terms.specs.declared.fault.TermFault.{TermFault}
use Rattle.rh_terms.specs.declared.keep.Next.{Next}
use Rattle.rh_terms.specs.declared.keep.Next.TheVariants.{Each, First, Skipped}
use Rattle.rh_base.specs.declared.term.Term.{Term}
use Rattle.rh_base.specs.Tree.{Tree, Trees, atom, int, text, list, tuple, none, more, tree_of, trees_of}
use Rattle.rh_terms.specs.Bytes.{past_blank, begins}
use Rattle.rh_terms.specs.Faults.{◌>>=◌, Read, ReadsAs, under, Fails}
use Rattle.rh_terms.specs.Grammar.{next_at, term_at, dot_at, dotted, terms_from, word_at, inside}
use Rattle.rh_terms.specs.Kept.{kept_tree, kept_trees, kept_next, next_behind, each_if, kept_from, kept_of, hollow, behind, elements_at, join, with_trees}
use Rattle.rh_terms.specs.Spelling.{Spells}
use Rattle.rh_terms.proofs.Ahead.{fails_with, fails_without, list_at, tuple_at, word_term, goes_on, closes, fails_next, fails_term, next_shorter}
use Rattle.rh_terms.proofs.Ahead.{text_goes_on, text_fails_term, text_fails_dot, behind_is}
use Rattle.rh_terms.proofs.Cut.{term_text}
use Rattle.rh_terms.proofs.Enough.{term_length, dot_length, blank_length}
use Rattle.rh_terms.proofs.Joined.{after_trees, join-none, trees-push, with-trees-more, after-trees-more}
use Rattle.rh_terms.proofs.Spelled.{under_is, term_spelled, ok_is}

-- what tells what is kept behind a key
abbrev pub Rule : Type 0 → Type 0
Rule K = K → List ℕ → Option K

-- the next one, and those behind it
pub kept_more : {K : Type 0} (rule : Rule K) (next : Next K) (t : Tree) (ts : Trees)
    → kept_trees rule next (more t ts) ≡ more (kept_next rule next t) (kept_trees rule (next_behind rule next t) ts)
unfolding kept_tree
kept_more rule (Each k) t ts = refl
kept_more rule (First k) t ts = refl
kept_more rule Skipped t ts = refl

pub kept_none : {K : Type 0} (rule : Rule K) (next : Next K) → kept_trees rule next none ≡ none
unfolding kept_tree
kept_none rule (Each k) = refl
kept_none rule (First k) = refl
kept_none rule Skipped = refl

-- a key is kept, so what is kept behind a term tells what is kept behind it
behind_kept : {K : Type 0} (rule : Rule K) (next : Next K) (t : Tree) → next_behind rule next (kept_next rule next t) ≡ next_behind rule next t
unfolding kept_tree
behind_kept rule (Each k) t = refl
behind_kept rule Skipped t = refl
behind_kept rule (First k) (atom s) = refl
behind_kept rule (First k) (int n) = refl
behind_kept rule (First k) (text s) = refl
behind_kept rule (First k) (list ts) = refl
behind_kept rule (First k) (tuple ts) = refl

under_more : {K : Type 0} (rule : Rule K) (next : Next K) (t : Tree) (read : Read Trees)
    → under (kept_trees rule next) (under (more t) read) ≡ under (more (kept_next rule next t)) (under (kept_trees rule (next_behind rule next t)) read)
under_more rule next t (Ok x) = ap (λ (ts : Trees). Ok (ts, x.1)) (kept_more rule next t x.0)
under_more rule next t (Err f) = refl

-- ---- in a list or a tuple

-- the elements that are ahead behind those that were read
abbrev pub ahead : {K : Type 0} → Rule K → Next K → ℕ → ℕ → List Term → List ℕ → Read Trees
ahead rule next room close items bs = with_trees (trees_of items) (under (kept_trees rule next) (elements_at room close bs))

-- the next one is read so
abbrev pub ReadNext : {K : Type 0} → Rule K → Next K → ℕ → List ℕ → Term → List ℕ → Type 0
ReadNext rule next room bs term rest = under (kept_next rule next) (term_at room bs) ≡ Ok (tree_of term, rest)

pub kept_goes_on : {K : Type 0} (rule : Rule K) (next : Next K) (room close : ℕ) (items more_items : List Term) (term : Term) (bs rest after : List ℕ)
    → ReadNext rule next room bs term rest → next_at close (past_blank rest) ≡ Ok (true, after) → more_items ≡ items ++ term ∷ []
    → ahead rule (next_behind rule next (tree_of term)) room close more_items after ≡ ahead rule next room close items bs
kept_goes_on {K} rule next room close items more_items term bs rest after e step is =
    let x = under_is (kept_next rule next) (term_at room bs) (tree_of term) rest e in
    let read : Read Trees = elements_at room close after in
    let front : Trees = trees_of items in
    let with_next : Tree → Read Trees = λ u. with_trees (join front (more u none)) (under (kept_trees rule (next_behind rule next u)) read) in
    let with_rest : Next K → Read Trees =
    λ n. with_trees (join front (more (kept_next rule next x.0) none)) (under (kept_trees rule n) read) in
    ap (λ (ts : Trees). with_trees ts (under (kept_trees rule (next_behind rule next (tree_of term))) read)) (ap trees_of is ∙ trees-push items term)
    ∙ ap with_next (sym x.2)
    ∙ ap with_rest (behind_kept rule next x.0)
    ∙ sym (with-trees-more front (kept_next rule next x.0) (under (kept_trees rule (next_behind rule next x.0)) read))
    ∙ ap (λ (r : Read Trees). with_trees front r) (sym (under_more rule next x.0 read))
    ∙ ap (λ (r : Read Trees). with_trees front (under (kept_trees rule next) r)) (sym (goes_on room close bs rest after x.0 x.1 step))

pub kept_closes : {K : Type 0} (rule : Rule K) (next : Next K) (room close : ℕ) (items more_items : List Term) (term : Term) (bs rest after : List ℕ)
    → ReadNext rule next room bs term rest → next_at close (past_blank rest) ≡ Ok (false, after) → more_items ≡ items ++ term ∷ []
    → ahead rule next room close items bs ≡ Ok (trees_of more_items, after)
kept_closes rule next room close items more_items term bs rest after e step is =
    let x = under_is (kept_next rule next) (term_at room bs) (tree_of term) rest e in
    let front : Trees = trees_of items in
    let last : kept_trees rule next (more x.0 none) ≡ more (tree_of term) none =
    kept_more rule next x.0 none ∙ ap (more (kept_next rule next x.0)) (kept_none rule (next_behind rule next x.0)) ∙ ap (λ (u : Tree). more u none) x.2 in
    ap (λ (r : Read Trees). with_trees front (under (kept_trees rule next) r)) (closes room close bs rest after x.0 x.1 step)
    ∙ ap (λ (ts : Trees). Ok (join front ts, after)) last ∙ ap (λ (ts : Trees). Ok (ts, after)) (sym (ap trees_of is ∙ trees-push items term))

kept_fails : {K : Type 0} (rule : Rule K) (next : Next K) (e : ReadError) (room close : ℕ) (items : List Term) (bs : List ℕ)
    → Fails e (elements_at room close bs) → Fails e (ahead rule next room close items bs)
kept_fails rule next e room close items bs h =
    fails_with e (under (kept_trees rule next) (elements_at room close bs)) (λ (x : Trees × List ℕ). (join (trees_of items) x.0, x.1))
    (fails_with e (elements_at room close bs) (λ (x : Trees × List ℕ). (kept_trees rule next x.0, x.1)) h)

pub kept_fails_term : {K : Type 0} (rule : Rule K) (next : Next K) (e : ReadError) (room close : ℕ) (items : List Term) (bs : List ℕ)
    → Fails e (under (kept_next rule next) (term_at room bs)) → Fails e (ahead rule next room close items bs)
kept_fails_term rule next e room close items bs h =
    kept_fails rule next e room close items bs
    (fails_term e room close bs (fails_without e (term_at room bs) (λ (x : Tree × List ℕ). (kept_next rule next x.0, x.1)) h))

pub kept_fails_next : {K : Type 0} (rule : Rule K) (next : Next K) (e : ReadError) (room close : ℕ) (items : List Term) (term : Term) (bs rest : List ℕ)
    → ReadNext rule next room bs term rest → Fails e (next_at close (past_blank rest)) → Fails e (ahead rule next room close items bs)
kept_fails_next rule next e room close items term bs rest read h =
    let x = under_is (kept_next rule next) (term_at room bs) (tree_of term) rest read in
    kept_fails rule next e room close items bs (fails_next e room close bs rest x.0 x.1 h)

-- ---- in a text

-- the terms that are ahead behind those that were read
abbrev pub text_ahead : {K : Type 0} → Rule K → K → List Term → List ℕ → Result Trees Fault
text_ahead rule k terms bs = after_trees (trees_of terms) (kept_from rule k bs)

from_more : {K : Type 0} (rule : Rule K) (k : K) (t : Tree) (read : Result Trees Fault)
    → ((read >>= λ ts. Ok (more t ts)) >>= λ ts. Ok (kept_trees rule (Each k) ts))
    ≡ ((read >>= λ ts. Ok (kept_trees rule (Each k) ts)) >>= λ ts. Ok (more (kept_tree rule k t) ts))
from_more rule k t (Ok ts) = ap (λ (us : Trees). Ok us) (kept_more rule (Each k) t ts)
from_more rule k t (Err f) = refl

pub text_kept_goes_on : {K : Type 0} (rule : Rule K) (k : K) (terms more_terms : List Term) (term : Term) (bs rest after : List ℕ)
    → ReadNext rule (Each k) MAX_DEPTH bs term rest → dot_at (past_blank rest) ≡ Ok after → more_terms ≡ terms ++ term ∷ []
    → text_ahead rule k more_terms (past_blank after) ≡ text_ahead rule k terms bs
text_kept_goes_on rule k terms more_terms term bs rest after e dot is =
    let x = under_is (kept_tree rule k) (term_at MAX_DEPTH bs) (tree_of term) rest e in
    let read : Result Trees Fault = kept_from rule k (past_blank after) in
    let step : kept_from rule k bs ≡ (read >>= λ ts. Ok (more (kept_tree rule k x.0) ts)) =
    ap (λ (r : Result Trees Fault). r >>= λ ts. Ok (kept_trees rule (Each k) ts)) (text_goes_on bs rest after x.0 x.1 dot)
    ∙ from_more rule k x.0 (terms_from (past_blank after)) in
    ap (λ (ts : Trees). after_trees ts read) (ap trees_of is ∙ trees-push terms term)
    ∙ sym (after-trees-more (trees_of terms) (tree_of term) read)
    ∙ ap (λ (u : Tree). after_trees (trees_of terms) (read >>= λ ts. Ok (more u ts))) (sym x.2)
    ∙ ap (λ (r : Result Trees Fault). after_trees (trees_of terms) r) (sym step)

text_kept_fails : {K : Type 0} (rule : Rule K) (k : K) (e : ReadError) (terms : List Term) (bs : List ℕ)
    → Fails e (terms_from bs) → Fails e (text_ahead rule k terms bs)
text_kept_fails rule k e terms bs h =
    fails_with e (kept_from rule k bs) (λ (ts : Trees). join (trees_of terms) ts)
    (fails_with e (terms_from bs) (λ (ts : Trees). kept_trees rule (Each k) ts) h)

pub text_kept_fails_term : {K : Type 0} (rule : Rule K) (k : K) (e : ReadError) (terms : List Term) (bs : List ℕ) → 0 < length bs
    → Fails e (under (kept_tree rule k) (term_at MAX_DEPTH bs)) → Fails e (text_ahead rule k terms bs)
text_kept_fails_term rule k e terms bs some h =
    text_kept_fails rule k e terms bs
    (text_fails_term e bs some (fails_without e (term_at MAX_DEPTH bs) (λ (x : Tree × List ℕ). (kept_tree rule k x.0, x.1)) h))

pub text_kept_fails_dot : {K : Type 0} (rule : Rule K) (k : K) (e : ReadError) (terms : List Term) (term : Term) (bs rest : List ℕ)
    → ReadNext rule (Each k) MAX_DEPTH bs term rest → Fails e (dot_at (past_blank rest)) → Fails e (text_ahead rule k terms bs)
text_kept_fails_dot rule k e terms term bs rest read h =
    let x = under_is (kept_tree rule k) (term_at MAX_DEPTH bs) (tree_of term) rest read in
    text_kept_fails rule k e terms bs (text_fails_dot e bs rest x.0 x.1 h)

pub text_begins : {K : Type 0} (rule : Rule K) (k : K) (bs : List ℕ) → text_ahead rule k [] bs ≡ kept_from rule k bs
text_begins rule k bs = none_before (kept_from rule k bs)
  where
    none_before : (read : Result Trees Fault) → after_trees none read ≡ read
    none_before (Ok ts) = refl
    none_before (Err f) = refl

pub text_ends : {K : Type 0} (rule : Rule K) (k : K) (terms : List Term) (bs : List ℕ) → length bs ≡ 0 → text_ahead rule k terms bs ≡ Ok (trees_of terms)
unfolding dotted
text_ends rule k terms (b ∷ bs) e = absurd (omega arith)
text_ends rule k terms [] e =
    ap (λ (ts : Trees). Ok (join (trees_of terms) ts)) (kept_none rule (Each k)) ∙ ap (λ (ts : Trees). Ok ts) (join-none (trees_of terms))

-- ---- a rule that keeps all

-- all is kept behind any key
abbrev pub KeepsAll : {K : Type 0} → Rule K → K → Type 0
KeepsAll rule k = (key : List ℕ) → rule k key ≡ Some k

all_behind : {K : Type 0} (rule : Rule K) (k : K) → KeepsAll rule k → (t : Tree) → next_behind rule (First k) t ≡ Each k
all_behind rule k all (atom s) = ap each_if (all s)
all_behind rule k all (int n) = refl
all_behind rule k all (text s) = refl
all_behind rule k all (list ts) = refl
all_behind rule k all (tuple ts) = refl

mutual
  unfolding kept_tree

  pub whole_tree : {K : Type 0} (rule : Rule K) (k : K) → KeepsAll rule k → (t : Tree) → kept_tree rule k t ≡ t
  whole_tree rule k all (atom s) = refl
  whole_tree rule k all (int n) = refl
  whole_tree rule k all (text s) = refl
  whole_tree rule k all (list ts) = ap list (whole_trees rule k all ts)
  whole_tree rule k all (tuple none) = refl
  whole_tree rule k all (tuple (more t ts)) =
      ap (λ n. tuple (more (kept_tree rule k t) (kept_trees rule n ts))) (all_behind rule k all t)
      ∙ (λ i. tuple (more (whole_tree rule k all t i) (whole_trees rule k all ts i)))

  whole_trees : {K : Type 0} (rule : Rule K) (k : K) → KeepsAll rule k → (ts : Trees) → kept_trees rule (Each k) ts ≡ ts
  whole_trees rule k all none = refl
  whole_trees rule k all (more t ts) = λ i. more (whole_tree rule k all t i) (whole_trees rule k all ts i)

pub whole_of : {K : Type 0} (rule : Rule K) (k : K) → KeepsAll rule k → (read : Result Trees TermFault) → kept_of rule k read ≡ read
whole_of rule k all (Ok ts) = ap (λ (us : Trees). Ok us) (whole_trees rule k all ts)
whole_of rule k all (Err f) = refl

-- a term of which all is kept is as it was read
pub whole_read : {K : Type 0} (rule : Rule K) (k : K) → KeepsAll rule k → (read : Read Tree) → under (kept_tree rule k) read ≡ read
whole_read rule k all (Ok x) = ap (λ (t : Tree). Ok (t, x.1)) (whole_tree rule k all x.0)
whole_read rule k all (Err f) = refl

-- ---- a term by its first byte

under_list : {K : Type 0} (rule : Rule K) (k : K) (read : Read Trees)
    → under (kept_tree rule k) (under list read) ≡ under list (under (kept_trees rule (Each k)) read)
unfolding kept_tree
under_list rule k (Ok x) = refl
under_list rule k (Err f) = refl

under_tuple : {K : Type 0} (rule : Rule K) (k : K) (read : Read Trees)
    → under (kept_tree rule k) (under tuple read) ≡ under tuple (under (kept_trees rule (First k)) read)
unfolding kept_tree
under_tuple rule k (Ok x) = refl
under_tuple rule k (Err f) = refl

pub kept_list_at : {K : Type 0} (rule : Rule K) (k : K) (room : ℕ) (bs : List ℕ) → begins (λ b. b == 91) bs ≡ true
    → under (kept_tree rule k) (term_at room bs) ≡ under list (under (kept_trees rule (Each k)) (inside room 93 (drop 1 bs)))
kept_list_at rule k room bs h = ap (λ (r : Read Tree). under (kept_tree rule k) r) (list_at room bs h) ∙ under_list rule k (inside room 93 (drop 1 bs))

-- what was answered of a list's elements tells the list
pub kept_list : {K X : Type 0} (rule : Rule K) (k : K) (room : ℕ) (bs rest : List ℕ) → begins (λ b. b == 91) bs ≡ true
    → inside room 93 rest ≡ inside room 93 (drop 1 bs)
    → (view : X → Trees × List ℕ) (r : Result X ReadError) → ReadsAs view r (under (kept_trees rule (Each k)) (inside room 93 rest))
    → ReadsAs (λ x. (list (view x).0, (view x).1)) r (under (kept_tree rule k) (term_at room bs))
kept_list rule k room bs rest h is view (Ok x) read =
    kept_list_at rule k room bs h
    ∙ ap (λ (r : Read Trees). under list r) (ap (λ (r : Read Trees). under (kept_trees rule (Each k)) r) (sym is) ∙ read)
kept_list rule k room bs rest h is view (Err e) read =
    let inner : Read Trees = under (kept_trees rule (Each k)) (inside room 93 rest) in
    let P : Read Trees → Type 0 = λ r. Fails e (under list (under (kept_trees rule (Each k)) r)) in
    let Q : Read Tree → Type 0 = λ r. Fails e r in
    subst Q (sym (kept_list_at rule k room bs h)) (subst P is (fails_with e inner (λ (x : Trees × List ℕ). (list x.0, x.1)) read))

pub kept_tuple_at : {K : Type 0} (rule : Rule K) (k : K) (room : ℕ) (bs : List ℕ) → begins (λ b. b == 91) bs ≡ false
    → begins (λ b. b == 123) bs ≡ true
    → under (kept_tree rule k) (term_at room bs) ≡ under tuple (under (kept_trees rule (First k)) (inside room 125 (drop 1 bs)))
kept_tuple_at rule k room bs h j =
    ap (λ (r : Read Tree). under (kept_tree rule k) r) (tuple_at room bs h j) ∙ under_tuple rule k (inside room 125 (drop 1 bs))

spelled_word : {K : Type 0} (rule : Rule K) (k : K) (room : ℕ) (t : Tree) (s rest : List ℕ) → Spells room t s
    → begins (λ b. b == 91) (s ++ rest) ≡ false → begins (λ b. b == 123) (s ++ rest) ≡ false → kept_tree rule k t ≡ t
unfolding kept_tree
spelled_word rule k room t s rest (Spells.name r n first all) h j = refl
spelled_word rule k room t s rest (Spells.quoted_atom r q content is) h j = refl
spelled_word rule k room t s rest (Spells.text_of r q content is) h j = refl
spelled_word rule k room t s rest (Spells.integer r d some all fit) h j = refl
spelled_word rule k room t s rest (Spells.minus r d some all fit) h j = refl
spelled_word rule k room t s rest (Spells.list_of inner ts q is) h j = absurd (cc h)
spelled_word rule k room t s rest (Spells.tuple_of inner ts q is) h j = absurd (cc j)

-- a word is kept as it is
pub kept_word : {K : Type 0} (rule : Rule K) (k : K) (room : ℕ) (bs : List ℕ) → begins (λ b. b == 91) bs ≡ false → begins (λ b. b == 123) bs ≡ false
    → under (kept_tree rule k) (term_at room bs) ≡ word_at bs
kept_word rule k room bs h j = by_read (term_at room bs) refl ∙ word_term room bs h j
  where
    by_read : (read : Read Tree) → term_at room bs ≡ read → under (kept_tree rule k) read ≡ read
    by_read (Err f) e = refl
    by_read (Ok x) e =
        let s = term_spelled room bs x.0 x.1 e in
        ap (λ (t : Tree). Ok (t, x.1)) (spelled_word rule k room x.0 s.text x.1 s.is (rw s.parts at h) (rw s.parts at j))

-- ---- a term that is skipped

pub hollow_list : (room : ℕ) (bs rest : List ℕ) → begins (λ b. b == 91) bs ≡ true → behind (term_at room bs) ≡ Ok rest
    → under hollow (term_at room bs) ≡ Ok (list none, rest)
hollow_list room bs rest h e = by_read (inside room 93 (drop 1 bs)) refl
  where
    by_read : (read : Read Trees) → inside room 93 (drop 1 bs) ≡ read → under hollow (term_at room bs) ≡ Ok (list none, rest)
    by_read (Err f) i =
        let no : ◌≡◌ {A = Result (List ℕ) Fault} (Err f) (Ok rest) =
        sym (ap (λ (r : Read Tree). behind r) (list_at room bs h ∙ ap (λ (r : Read Trees). under list r) i)) ∙ e in
        absurd (cc no)
    by_read (Ok x) i =
        let is : term_at room bs ≡ Ok (list x.0, x.1) = list_at room bs h ∙ ap (λ (r : Read Trees). under list r) i in
        let same : ◌≡◌ {A = Result (List ℕ) Fault} (Ok (x.1)) (Ok rest) = sym (ap (λ (r : Read Tree). behind r) is) ∙ e in
        ap (λ (r : Read Tree). under hollow r) is ∙ ap (λ (l : List ℕ). Ok (list none, l)) (ok_is x.1 rest same)

spelled_other : (room : ℕ) (t : Tree) (s rest : List ℕ) → Spells room t s → begins (λ b. b == 91) (s ++ rest) ≡ false → hollow t ≡ tuple none
spelled_other room t s rest (Spells.name r n first all) h = refl
spelled_other room t s rest (Spells.quoted_atom r q content is) h = refl
spelled_other room t s rest (Spells.text_of r q content is) h = refl
spelled_other room t s rest (Spells.integer r d some all fit) h = refl
spelled_other room t s rest (Spells.minus r d some all fit) h = refl
spelled_other room t s rest (Spells.list_of inner ts q is) h = absurd (cc h)
spelled_other room t s rest (Spells.tuple_of inner ts q is) h = refl

pub hollow_other : (room : ℕ) (bs rest : List ℕ) → begins (λ b. b == 91) bs ≡ false → behind (term_at room bs) ≡ Ok rest
    → under hollow (term_at room bs) ≡ Ok (tuple none, rest)
hollow_other room bs rest h e =
    let x = behind_is (term_at room bs) rest e in
    let s = term_spelled room bs x.0 rest x.1 in
    ap (λ (r : Read Tree). under hollow r) x.1
    ∙ ap (λ (t : Tree). Ok (t, rest)) (spelled_other room x.0 s.text rest s.is (rw s.parts at h))

-- ---- what is left

-- where an element was read, its text goes on in UTF-8 behind it
pub kept_text : (f : Tree → Tree) (room : ℕ) (t : Tree) (bs rest : List ℕ) → under f (term_at room bs) ≡ Ok (t, rest)
    → IsUtf8 bs → IsUtf8 rest
kept_text f room t bs rest read utf8 =
    let x = under_is f (term_at room bs) t rest read in
    term_text room bs x.0 rest x.1 utf8

pub kept_shorter : (f : Tree → Tree) (room close : ℕ) (t : Tree) (bs rest after : List ℕ) (more_come : Bool)
    → under f (term_at room bs) ≡ Ok (t, rest) → next_at close (past_blank rest) ≡ Ok (more_come, after) → length after < length bs
kept_shorter f room close t bs rest after more_come read next =
    let x = under_is f (term_at room bs) t rest read in
    next_shorter room close bs rest after x.0 more_come x.1 next

pub kept_text_shorter : (f : Tree → Tree) (t : Tree) (bs rest after : List ℕ) → under f (term_at MAX_DEPTH bs) ≡ Ok (t, rest)
    → dot_at (past_blank rest) ≡ Ok after → length (past_blank after) < length bs
kept_text_shorter f t bs rest after read dot =
    let x = under_is f (term_at MAX_DEPTH bs) t rest read in
    omega (arith, term_length MAX_DEPTH bs x.0 rest x.1, dot_length (past_blank rest) after dot, blank_length rest, blank_length after)
