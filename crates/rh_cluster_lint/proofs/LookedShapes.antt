-- What is kept of a term for a look has the same shape, and the same keys.
use Rattle.std.proofs.Common.{◌≡◌, ℕ, List, ◌∷◌, Bool, true, false, cond, map, Option, Some, None, refl, sym, ap, ◌∙◌, codes}
use Rattle.std.specs.Prelude.{option_map}
use Rattle.std.specs.Str.{bytes_eq}
use Rattle.std.proofs.lemmas.Slice.Eq.{bytes_eq-Decides}
use Rattle.rh_base.specs.Tree.{Tree, Trees, atom, int, text, list, tuple, none, more, list_of_trees}
use Rattle.rh_terms.specs.declared.keep.Next.{Next}
use Rattle.rh_terms.specs.declared.keep.Next.TheVariants.{Each, First}
use Rattle.rh_terms.specs.Kept.{kept_tree, kept_trees, kept_next, next_behind, each_if}
use Rattle.rh_terms.proofs.Kept.{kept_more, kept_none}
use Rattle.rh_cluster.specs.Shapes.{as_atom, as_list, as_tuple, as_pair, as_triple, as_entry, as_headed, as_node, as_app, ◌>>=◌}
use Rattle.rh_cluster.specs.Values.{elements}
use Rattle.rh_cluster_lint.specs.declared.looked.Looked.{Looked}
use Rattle.rh_cluster_lint.specs.declared.looked.Looked.TheVariants as part
use Rattle.rh_cluster_lint.specs.Looked.{looked_behind}

-- a term as it is kept in a part of the file
abbrev pub kept : Looked → Tree → Tree
kept p t = kept_tree looked_behind p t

-- a value as it is kept behind a key
abbrev pub kept_value : Looked → List ℕ → Tree → Tree
kept_value p key v = kept_next looked_behind (each_if (looked_behind p key)) v

abbrev pub kept_entry : Looked → List ℕ × Tree → List ℕ × Tree
kept_entry p e = (e.0, kept_value p e.0 e.1)

pub kept_list : (p : Looked) (ts : Trees) → list_of_trees (kept_trees looked_behind (Each p) ts) ≡ map (kept p) (list_of_trees ts)
unfolding kept_tree
kept_list p none = refl
kept_list p (more t ts) = ap (λ (us : List Tree). kept p t ∷ us) (kept_list p ts)

-- ---- shapes

pub atom_kept : (p : Looked) (t : Tree) → as_atom (kept p t) ≡ as_atom t
unfolding kept_tree as_atom
atom_kept p (atom s) = refl
atom_kept p (int n) = refl
atom_kept p (text s) = refl
atom_kept p (list ts) = refl
atom_kept p (tuple ts) = refl

pub elements_kept : (p : Looked) (t : Tree) → elements (kept p t) ≡ map (kept p) (elements t)
unfolding kept_tree as_list elements
elements_kept p (atom s) = refl
elements_kept p (int n) = refl
elements_kept p (text s) = refl
elements_kept p (list ts) = kept_list p ts
elements_kept p (tuple ts) = refl

last_kept : (n : Next Looked) (t : Tree) → kept_trees looked_behind n (more t none) ≡ more (kept_next looked_behind n t) none
last_kept n t = kept_more looked_behind n t none ∙ ap (more (kept_next looked_behind n t)) (kept_none looked_behind (next_behind looked_behind n t))

-- ---- entries

-- seen as a pair, and the pair as an entry
pair_entry : (p : Looked) (a b : Tree) → as_entry (kept p (tuple (more a (more b none)))) ≡ option_map (kept_entry p) (as_entry (tuple (more a (more b none))))
unfolding kept_tree as_entry as_pair as_tuple as_atom
pair_entry p (atom s) b = ap (λ (ts : Trees). as_entry (tuple (more (atom s) ts))) (last_kept (each_if (looked_behind p s)) b)
pair_entry p (int n) b = ap (λ (ts : Trees). as_entry (tuple (more (int n) ts))) (last_kept (Each p) b)
pair_entry p (text s) b = ap (λ (ts : Trees). as_entry (tuple (more (text s) ts))) (last_kept (Each p) b)
pair_entry p (list us) b = ap (λ (ts : Trees). as_entry (tuple (more (kept p (list us)) ts))) (last_kept (Each p) b)
pair_entry p (tuple us) b = ap (λ (ts : Trees). as_entry (tuple (more (kept p (tuple us)) ts))) (last_kept (Each p) b)

-- what is kept of three parts or more is no entry
three_no_entry : (n : Next Looked) (x b c : Tree) (ts : Trees) → as_entry (tuple (more x (kept_trees looked_behind n (more b (more c ts))))) ≡ None
unfolding as_entry as_pair as_tuple
three_no_entry n x b c ts =
    ap (λ (us : Trees). as_entry (tuple (more x us)))
    (kept_more looked_behind n b (more c ts)
    ∙ ap (more (kept_next looked_behind n b)) (kept_more looked_behind (next_behind looked_behind n b) c ts))

pub entry_kept : (p : Looked) (t : Tree) → as_entry (kept p t) ≡ option_map (kept_entry p) (as_entry t)
unfolding kept_tree as_entry as_pair as_tuple
entry_kept p (atom s) = refl
entry_kept p (int n) = refl
entry_kept p (text s) = refl
entry_kept p (list ts) = refl
entry_kept p (tuple none) = refl
entry_kept p (tuple (more a none)) = refl
entry_kept p (tuple (more a (more b none))) = pair_entry p a b
entry_kept p (tuple (more a (more b (more c ts)))) = three_no_entry (next_behind looked_behind (First p) a) (kept p a) b c ts

-- a key that is asked for
pub same_key : (x y : List ℕ) → bytes_eq x y ≡ true → x ≡ y
same_key x y e = (bytes_eq-Decides x y).0 e

-- ---- terms of a file

-- three parts of which the first is an atom
triple_kept : (s : List ℕ) (b c : Tree) → kept part.File (tuple (more (atom s) (more b (more c none)))) ≡ tuple (more (atom s)
    (more (kept_next looked_behind (each_if (looked_behind part.File s)) b)
    (more (kept_next looked_behind (next_behind looked_behind (each_if (looked_behind part.File s)) b) c) none)))
unfolding kept_tree
triple_kept s b c =
    ap (λ (us : Trees). tuple (more (atom s) us))
    (kept_more looked_behind (each_if (looked_behind part.File s)) b (more c none)
    ∙ ap (more (kept_next looked_behind (each_if (looked_behind part.File s)) b)) (last_kept (next_behind looked_behind (each_if (looked_behind part.File s)) b) c))

-- a word that stands for a part
abbrev IsWord : List ℕ → Looked → Type 0
IsWord word q = looked_behind part.File word ≡ Some q

abbrev named : Option (List ℕ) → Tree → Option (List ℕ × Tree)
named name c = name >>= λ n. Some (n, c)

named_map : (name : Option (List ℕ)) (f : Tree → Tree) (c : Tree)
    → named name (f c) ≡ option_map (λ (x : List ℕ × Tree). (x.0, f x.1)) (named name c)
named_map None f c = refl
named_map (Some n) f c = refl

-- an atom, another term and a third one, seen as a term with this word
abbrev headed : List ℕ → List ℕ → Tree → Tree → Option (List ℕ × Tree)
headed word s b c = cond (bytes_eq s word) (named (as_atom b) c) None

triple_is : (word s : List ℕ) (b c : Tree) → as_headed word (tuple (more (atom s) (more b (more c none)))) ≡ headed word s b c
unfolding as_headed as_triple as_tuple as_atom
triple_is word s b c = refl

triple_headed : (word : List ℕ) (q : Looked) → IsWord word q → (s : List ℕ) (b c : Tree) (t : Bool) → bytes_eq s word ≡ t
    → headed word s (kept_next looked_behind (each_if (looked_behind part.File s)) b) (kept_next looked_behind (next_behind looked_behind (each_if (looked_behind part.File s)) b) c)
    ≡ option_map (λ (x : List ℕ × Tree). (x.0, kept q x.1)) (headed word s b c)
triple_headed word q is s b c true h =
    let part_is : looked_behind part.File s ≡ Some q = ap (looked_behind part.File) (same_key s word h) ∙ is in
    let next : Option Looked → Option (List ℕ × Tree) =
    λ o. named (as_atom (kept_next looked_behind (each_if o) b)) (kept_next looked_behind (next_behind looked_behind (each_if o) b) c) in
    rw h (ap next part_is ∙ ap (λ o. named o (kept q c)) (atom_kept q b) ∙ named_map (as_atom b) (kept q) c)
triple_headed word q is s b c false h = rw h refl

-- three parts of which the first is no atom
no_atom_headed : (word : List ℕ) (x b c : Tree) → as_atom x ≡ None → as_headed word (tuple (more x (more b (more c none)))) ≡ None
unfolding as_headed as_triple as_tuple
no_atom_headed word x b c e = ap (λ o. o >>= λ h. cond (bytes_eq h word) (as_atom b >>= λ n. Some (n, c)) None) e

triple_other : (n : Next Looked) (x b c : Tree) → tuple (more x (kept_trees looked_behind n (more b (more c none))))
    ≡ tuple (more x (more (kept_next looked_behind n b) (more (kept_next looked_behind (next_behind looked_behind n b) c) none)))
triple_other n x b c =
    ap (λ (us : Trees). tuple (more x us))
    (kept_more looked_behind n b (more c none) ∙ ap (more (kept_next looked_behind n b)) (last_kept (next_behind looked_behind n b) c))

abbrev HeadedKept : List ℕ → Looked → Tree → Type 0
HeadedKept word q t = as_headed word (kept part.File t) ≡ option_map (λ (x : List ℕ × Tree). (x.0, kept q x.1)) (as_headed word t)

other_headed : (word : List ℕ) (q : Looked) (n : Next Looked) (x y b c : Tree) → as_atom x ≡ None → as_atom y ≡ None
    → as_headed word (tuple (more y (kept_trees looked_behind n (more b (more c none)))))
    ≡ option_map (λ (z : List ℕ × Tree). (z.0, kept q z.1)) (as_headed word (tuple (more x (more b (more c none)))))
other_headed word q n x y b c none_is none_too =
    ap (as_headed word) (triple_other n y b c)
    ∙ no_atom_headed word y (kept_next looked_behind n b) (kept_next looked_behind (next_behind looked_behind n b) c) none_too
    ∙ ap (option_map (λ (z : List ℕ × Tree). (z.0, kept q z.1))) (sym (no_atom_headed word x b c none_is))

three_headed : (word : List ℕ) (q : Looked) → IsWord word q → (a b c : Tree) → HeadedKept word q (tuple (more a (more b (more c none))))
unfolding kept_tree as_atom
three_headed word q is (atom s) b c =
    ap (as_headed word) (triple_kept s b c)
    ∙ triple_is word s (kept_next looked_behind (each_if (looked_behind part.File s)) b) (kept_next looked_behind (next_behind looked_behind (each_if (looked_behind part.File s)) b) c)
    ∙ triple_headed word q is s b c (bytes_eq s word) refl
    ∙ ap (option_map (λ (x : List ℕ × Tree). (x.0, kept q x.1))) (sym (triple_is word s b c))
three_headed word q is (int n) b c = other_headed word q (Each part.File) (int n) (int n) b c refl refl
three_headed word q is (text s) b c = other_headed word q (Each part.File) (text s) (text s) b c refl refl
three_headed word q is (list ts) b c = other_headed word q (Each part.File) (list ts) (kept part.File (list ts)) b c refl refl
three_headed word q is (tuple ts) b c = other_headed word q (Each part.File) (tuple ts) (kept part.File (tuple ts)) b c refl refl

-- two parts, or four and more
two_headed : (word : List ℕ) (n : Next Looked) (x b : Tree) → as_headed word (tuple (more x (kept_trees looked_behind n (more b none)))) ≡ None
unfolding as_headed as_triple as_tuple
two_headed word n x b = ap (λ (us : Trees). as_headed word (tuple (more x us))) (last_kept n b)

four_headed : (word : List ℕ) (n : Next Looked) (x b c d : Tree) (ts : Trees)
    → as_headed word (tuple (more x (kept_trees looked_behind n (more b (more c (more d ts)))))) ≡ None
unfolding as_headed as_triple as_tuple
four_headed word n x b c d ts =
    let m : Next Looked = next_behind looked_behind n b in
    let o : Next Looked = next_behind looked_behind m c in
    ap (λ (us : Trees). as_headed word (tuple (more x us)))
    (kept_more looked_behind n b (more c (more d ts))
    ∙ ap (more (kept_next looked_behind n b)) (kept_more looked_behind m c (more d ts)
    ∙ ap (more (kept_next looked_behind m c)) (kept_more looked_behind o d ts)))

headed_kept : (word : List ℕ) (q : Looked) → IsWord word q → (t : Tree) → HeadedKept word q t
unfolding kept_tree as_headed as_triple as_tuple
headed_kept word q is (atom s) = refl
headed_kept word q is (int n) = refl
headed_kept word q is (text s) = refl
headed_kept word q is (list ts) = refl
headed_kept word q is (tuple none) = refl
headed_kept word q is (tuple (more a none)) = refl
headed_kept word q is (tuple (more a (more b none))) = two_headed word (next_behind looked_behind (First part.File) a) (kept part.File a) b
headed_kept word q is (tuple (more a (more b (more c none)))) = three_headed word q is a b c
headed_kept word q is (tuple (more a (more b (more c (more d ts))))) =
    four_headed word (next_behind looked_behind (First part.File) a) (kept part.File a) b c d ts

-- a node term and its SysConfig
pub node_kept : (t : Tree) → as_node (kept part.File t) ≡ option_map (λ (x : List ℕ × Tree). (x.0, kept part.Node x.1)) (as_node t)
node_kept t = headed_kept (codes "node") part.Node refl t

-- an application term and its Keys
pub app_kept : (t : Tree) → as_app (kept part.File t) ≡ option_map (λ (x : List ℕ × Tree). (x.0, kept part.Keys x.1)) (as_app t)
app_kept t = headed_kept (codes "application") part.Keys refl t
