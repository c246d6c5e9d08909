-- What is found in a text is found in what is kept of its terms for a look.
use Rattle.std.proofs.Common.{◌≡◌, ◌≢◌, ◌+◌, ◌&&◌, ◌||◌, ℕ, List, [], ◌∷◌, ◌++◌, Bool, true, false, cond, map, Option, Some, None, Result, Ok, Err, is_some, refl, sym, ap, ◌∙◌, codes}
use Rattle.std.specs.Prelude.{option_map, filter_map}
use Rattle.std.specs.List.{flat_map, enumerate_from}
use Rattle.std.specs.Option.{option_to_list, option_map_or}
use Rattle.std.specs.Str.{bytes_eq}
use Rattle.rh_base.specs.Tree.{Tree, Trees, list_of_trees}
use Rattle.rh_model.specs.ClusterView.{ClusterView}
use Rattle.rh_terms.specs.declared.fault.TermFault.{TermFault}
use Rattle.rh_terms.specs.declared.fault.TermFault.TheVariants as faults
use Rattle.rh_terms.specs.declared.keep.Next.TheVariants.{Each}
use Rattle.rh_terms.specs.Grammar.{FaultIs}
use Rattle.rh_terms.specs.Kept.{kept_trees, kept_of}
use Rattle.rh_cluster.specs.Shapes.{as_entry, as_node, as_app, as_headed}
use Rattle.rh_cluster.specs.Sections.{atom_is, has_key}
use Rattle.rh_cluster.specs.Values.{elements}
use Rattle.rh_term_lint.specs.declared.finding.TermFinding.{TermFinding}
use Rattle.rh_term_lint.specs.declared.finding.TermFinding.TheVariants.{NoProfile, NearParameter, NearSection, UndefinedWritten}
use Rattle.rh_term_lint.specs.Meant.{parameters, sections}
use Rattle.rh_term_lint.specs.Findings.{entries, near, is_undefined, of_parameter, of_section, of_key, of_term, has_profile, findings}
use Rattle.rh_cluster_lint.specs.declared.looked.Looked.{Looked}
use Rattle.rh_cluster_lint.specs.declared.looked.Looked.TheVariants as part
use Rattle.rh_cluster_lint.specs.Lines.{places_of, lines_of}
use Rattle.rh_cluster_lint.specs.Looked.{looked_behind}
use Rattle.rh_cluster_lint.specs.Terms.{term_found}
use Rattle.rh_cluster_lint.specs.Text.{of_cluster, of_terms, text_found_by}
use Rattle.rh_cluster_lint.proofs.LookedShapes.{kept, kept_value, kept_entry, kept_list, atom_kept, elements_kept, entry_kept, same_key, node_kept, app_kept}

abbrev Entry : Type 0
Entry = List ℕ × Tree

-- ---- lists

flat_same : {A B X : Type 0} (f : B → List X) (g : A → B) (h : A → List X) → ((a : A) → f (g a) ≡ h a)
    → (xs : List A) → flat_map f (map g xs) ≡ flat_map h xs
flat_same f g h same [] = refl
flat_same f g h same (x ∷ xs) = λ i. same x i ++ flat_same f g h same xs i

entries_in : (p : Looked) (o : Option Entry) (ts : List Tree) (t : Tree) → as_entry t ≡ o
    → as_entry (kept p t) ≡ option_map (kept_entry p) o
    → filter_map as_entry (map (kept p) ts) ≡ map (kept_entry p) (filter_map as_entry ts)
    → filter_map as_entry (map (kept p) (t ∷ ts)) ≡ map (kept_entry p) (filter_map as_entry (t ∷ ts))
entries_in p None ts t is kept_is rest = rw (is, kept_is) rest
entries_in p (Some e) ts t is kept_is rest = rw (is, kept_is) (ap (λ (xs : List Entry). kept_entry p e ∷ xs) rest)

entries_of_kept : (p : Looked) (ts : List Tree) → filter_map as_entry (map (kept p) ts) ≡ map (kept_entry p) (filter_map as_entry ts)
entries_of_kept p [] = refl
entries_of_kept p (t ∷ ts) = entries_in p (as_entry t) ts t refl (entry_kept p t) (entries_of_kept p ts)

entries_kept : (p : Looked) (t : Tree) → entries (kept p t) ≡ map (kept_entry p) (entries t)
entries_kept p t = ap (filter_map as_entry) (elements_kept p t) ∙ entries_of_kept p (elements t)

-- ---- the parts of terms

undefined_kept : (p : Looked) (v : Tree) → is_undefined (kept p v) ≡ is_undefined v
unfolding is_undefined
undefined_kept p v = ap (atom_is (λ name. bytes_eq name (codes "undefined"))) (atom_kept p v)

-- where the key is that of a timeout
abbrev undefined_told : ℕ → Bool → Tree → List TermFinding
undefined_told term is v = cond (is && is_undefined v) (UndefinedWritten term ∷ []) []

undefined_same : (term : ℕ) (e : Entry) → undefined_told term (bytes_eq e.0 (codes "sync_nodes_timeout")) (kept_value part.Kernel e.0 e.1)
    ≡ undefined_told term (bytes_eq e.0 (codes "sync_nodes_timeout")) e.1
undefined_same term e = by (bytes_eq e.0 (codes "sync_nodes_timeout")) refl
  where
    by : (t : Bool) → bytes_eq e.0 (codes "sync_nodes_timeout") ≡ t
        → undefined_told term t (kept_value part.Kernel e.0 e.1) ≡ undefined_told term t e.1
    by true h =
        ap (λ (k : List ℕ). undefined_told term true (kept_value part.Kernel k e.1)) (same_key e.0 (codes "sync_nodes_timeout") h)
        ∙ ap (λ t. cond t (UndefinedWritten term ∷ []) []) (undefined_kept part.Keys e.1)
    by false h = refl

parameter_kept : (term : ℕ) (e : Entry) → of_parameter term (kept_entry part.Kernel e) ≡ of_parameter term e
unfolding of_parameter
parameter_kept term e = ap (λ (fs : List TermFinding). near (NearParameter term) parameters e.0 ++ fs) (undefined_same term e)

abbrev of_kernel : ℕ → Tree → List TermFinding
of_kernel term v = flat_map (of_parameter term) (entries v)

kernel_kept : (term : ℕ) (v : Tree) → of_kernel term (kept part.Kernel v) ≡ of_kernel term v
kernel_kept term v =
    ap (flat_map (of_parameter term)) (entries_kept part.Kernel v)
    ∙ flat_same (of_parameter term) (kept_entry part.Kernel) (of_parameter term) (parameter_kept term) (entries v)

section_kept : (term : ℕ) (e : Entry) → of_section term (kept_entry part.Node e) ≡ of_section term e
unfolding of_section
section_kept term e =
    ap (λ (fs : List TermFinding). near (NearSection term) sections e.0 ++ fs) (by (bytes_eq e.0 (codes "kernel")) refl)
  where
    by : (t : Bool) → bytes_eq e.0 (codes "kernel") ≡ t → cond t (of_kernel term (kept_value part.Node e.0 e.1)) [] ≡ cond t (of_kernel term e.1) []
    by true h = ap (λ (k : List ℕ). of_kernel term (kept_value part.Node k e.1)) (same_key e.0 (codes "kernel") h) ∙ kernel_kept term e.1
    by false h = refl

key_kept : (term : ℕ) (e : Entry) → of_key term (kept_entry part.Keys e) ≡ of_key term e
unfolding of_key
key_kept term e = refl

-- ---- terms

of_parts : (p : Looked) (of_part : Entry → List TermFinding) → ((e : Entry) → of_part (kept_entry p e) ≡ of_part e) → (o : Option Entry)
    → flat_map (λ (x : Entry). flat_map of_part (entries x.1)) (option_to_list (option_map (λ (x : Entry). (x.0, kept p x.1)) o))
    ≡ flat_map (λ (x : Entry). flat_map of_part (entries x.1)) (option_to_list o)
of_parts p of_part same None = refl
of_parts p of_part same (Some x) =
    ap (λ (fs : List TermFinding). fs ++ []) (ap (flat_map of_part) (entries_kept p x.1) ∙ flat_same of_part (kept_entry p) of_part same (entries x.1))

term_kept : (term : ℕ) (t : Tree) → of_term term (kept part.File t) ≡ of_term term t
unfolding of_term
term_kept term t =
    let in_node : Option Entry → List TermFinding = λ o. flat_map (λ (x : Entry). flat_map (of_section term) (entries x.1)) (option_to_list o) in
    let in_app : Option Entry → List TermFinding = λ o. flat_map (λ (x : Entry). flat_map (of_key term) (entries x.1)) (option_to_list o) in
    let nodes : in_node (as_node (kept part.File t)) ≡ in_node (as_node t) =
    ap in_node (node_kept t) ∙ of_parts part.Node (of_section term) (section_kept term) (as_node t) in
    let apps : in_app (as_app (kept part.File t)) ≡ in_app (as_app t) =
    ap in_app (app_kept t) ∙ of_parts part.Keys (of_key term) (key_kept term) (as_app t) in
    λ i. nodes i ++ apps i

key_found : (key : List ℕ) (o : Option Entry)
    → option_map_or (λ (e : Entry). bytes_eq e.0 key) (option_map (kept_entry part.File) o) false ≡ option_map_or (λ (e : Entry). bytes_eq e.0 key) o false
key_found key None = refl
key_found key (Some e) = refl

has_key_kept : (key : List ℕ) (t : Tree) → has_key key (kept part.File t) ≡ has_key key t
unfolding has_key
has_key_kept key t = ap (λ o. option_map_or (λ (e : Entry). bytes_eq e.0 key) o false) (entry_kept part.File t) ∙ key_found key (as_entry t)

profile_kept : (ts : List Tree) → has_profile (map (kept part.File) ts) ≡ has_profile ts
profile_kept [] = refl
profile_kept (t ∷ ts) = λ i. has_key_kept (codes "profile") t i || profile_kept ts i

terms_kept : (n : ℕ) (ts : List Tree)
    → flat_map (λ (at : ℕ × Tree). of_term at.0 at.1) (enumerate_from n (map (kept part.File) ts))
    ≡ flat_map (λ (at : ℕ × Tree). of_term at.0 at.1) (enumerate_from n ts)
terms_kept n [] = refl
terms_kept n (t ∷ ts) = λ i. term_kept n t i ++ terms_kept (n + 1) ts i

findings_kept : (ts : List Tree) → findings (map (kept part.File) ts) ≡ findings ts
unfolding findings
findings_kept ts = λ i. cond (profile_kept ts i) [] (NoProfile ∷ []) ++ terms_kept 0 ts i

-- ---- places

named_there : (p : Looked) (o : Option Entry) → is_some {T = Entry} (option_map (λ (x : Entry). (x.0, kept p x.1)) o) ≡ is_some o
named_there p None = refl
named_there p (Some x) = refl

abbrev IsHeaded : List ℕ → Looked → Type 0
IsHeaded word p = (t : Tree) → as_headed word (kept part.File t) ≡ option_map (λ (x : Entry). (x.0, kept p x.1)) (as_headed word t)

places_kept : (word : List ℕ) (p : Looked) → IsHeaded word p → (n : ℕ) (ts : List Tree) → places_of word n (map (kept part.File) ts) ≡ places_of word n ts
places_kept word p is n [] = refl
places_kept word p is n (t ∷ ts) =
    let here : is_some (as_headed word (kept part.File t)) ≡ is_some (as_headed word t) = ap is_some (is t) ∙ named_there p (as_headed word t) in
    λ i. cond (here i) (n ∷ []) [] ++ places_kept word p is (n + 1) ts i

lines_kept : (bytes : List ℕ) (ts : List Tree) → lines_of bytes (map (kept part.File) ts) ≡ lines_of bytes ts
lines_kept bytes ts =
    let nodes = places_kept (codes "node") part.Node node_kept 0 ts in
    let apps = places_kept (codes "application") part.Keys app_kept 0 ts in
    λ i. record { text = bytes; starts = (lines_of bytes ts).starts; nodes = nodes i; apps = apps i }

-- ---- the text

all_kept : (bytes : List ℕ) (ts : Trees) (c : Option ClusterView)
    → of_terms bytes (list_of_trees (kept_trees looked_behind (Each part.File) ts)) c ≡ of_terms bytes (list_of_trees ts) c
unfolding of_terms
all_kept bytes ts c =
    let us : List Tree = list_of_trees ts in
    let lines = lines_kept bytes us in
    let found = findings_kept us in
    ap (λ (vs : List Tree). of_terms bytes vs c) (kept_list part.File ts)
    ∙ (λ i. flat_map (λ f. term_found (lines i) f ∷ []) (found i) ++ of_cluster (lines i) c)

pub found_in_kept : (bytes : List ℕ) (c : Option ClusterView) (read : Result Trees TermFault)
    → text_found_by bytes c (kept_of looked_behind part.File read) ≡ text_found_by bytes c read
found_in_kept bytes c (Ok ts) = all_kept bytes ts c
found_in_kept bytes c (Err f) = refl

-- a fault that is told is that of the text
pub nothing_in_fault : (bytes : List ℕ) (c : Option ClusterView) (e : TermFault) (read : Result Trees TermFault) → e ≢ faults.OutOfMemory
    → FaultIs e (kept_of looked_behind part.File read) → text_found_by bytes c read ≡ []
nothing_in_fault bytes c faults.OutOfMemory read n h = absurd (n refl)
nothing_in_fault bytes c (faults.Syntax line) read n h = sym (found_in_kept bytes c read) ∙ ap (text_found_by bytes c) h
nothing_in_fault bytes c (faults.Unsupported line) read n h = sym (found_in_kept bytes c read) ∙ ap (text_found_by bytes c) h
nothing_in_fault bytes c faults.NotUtf8 read n h = sym (found_in_kept bytes c read) ∙ ap (text_found_by bytes c) h
nothing_in_fault bytes c faults.TooDeep read n h = sym (found_in_kept bytes c read) ∙ ap (text_found_by bytes c) h
nothing_in_fault bytes c faults.IntRange read n h = sym (found_in_kept bytes c read) ∙ ap (text_found_by bytes c) h
