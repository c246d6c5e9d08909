-- What is kept of the parts of a term has the same faults.
use Rattle.std.proofs.Common.{◌≡◌, ℕ, List, [], ◌∷◌, ◌++◌, Bool, true, false, cond, map, Option, Some, None, is_some, is_none, refl, sym, ap, ◌∙◌}
use Rattle.std.specs.Prelude.{◌&&◌, ◌||◌, option_map}
use Rattle.std.specs.Str.{bytes_eq}
use Rattle.std.specs.List.{list_any}
use Rattle.std.specs.Option.{option_map_or}
use Rattle.std.proofs.lemmas.List.{map-append}
use Rattle.rh_base.specs.Tree.{Tree, atom, int, text, list, tuple}
use Rattle.rh_terms.specs.Kept.{kept_next, each_if, hollow}
use Rattle.rh_model.specs.Names.{NamesView}
use Rattle.rh_cluster.specs.declared.fault.ClusterFault.{ClusterFault}
use Rattle.rh_cluster.specs.declared.fault.ClusterFault.TheVariants as fault
use Rattle.rh_cluster.specs.declared.kept.Part.{Part}
use Rattle.rh_cluster.specs.declared.kept.Part.TheVariants as part
use Rattle.rh_cluster.specs.declared.kernel.KernelKey.{KernelKey}
use Rattle.rh_cluster.specs.declared.keys.AppKey.{AppKey}
use Rattle.rh_cluster.specs.declared.sections.SectionKey.{SectionKey}
use Rattle.rh_cluster.specs.declared.sections.SectionKey.TheVariants.{Kernel, Rehearse}
use Rattle.rh_cluster.specs.Shapes.{as_list, as_entry, as_node, as_app}
use Rattle.rh_cluster.specs.Faults.{when, in_turn, in_turn_if_list, list_faults}
use Rattle.rh_cluster.specs.Sections.{has_key, entry_faults, entry_faults_by, entries_faults, kernel_key, kernel_faults, rehearse_key, rehearse_faults}
use Rattle.rh_cluster.specs.Sections.{section_key, section_faults, app_key, key_faults, parts_faults, parts_faults_by, parts_stage}
use Rattle.rh_cluster.specs.Kept.{read_behind, section_part}
use Rattle.rh_cluster.proofs.InTurn.{FaultsOfEach}
use Rattle.rh_cluster.proofs.SkippedShapes.{kept, kept_value, kept_entry, value_is, list_kept, hollow_list, entry_kept, node_kept, app_kept}

-- ---- terms in turn

-- terms whose faults are those of what is kept of them
pub in_turn_kept : (p : Part) (f : FaultsOfEach) → ((e : List Tree) (t : Tree) → f (map (kept p) e) (kept p t) ≡ f e t) → (e ts : List Tree)
    → in_turn f (map (kept p) e) (map (kept p) ts) ≡ in_turn f e ts
in_turn_kept p f same e [] = refl
in_turn_kept p f same e (t ∷ ts) =
    ap (λ (fs : List ClusterFault). fs ++ in_turn f (map (kept p) e ++ kept p t ∷ []) (map (kept p) ts)) (same e t)
    ∙ ap (λ (b : List Tree). f e t ++ in_turn f b (map (kept p) ts)) (sym (map-append (kept p) e (t ∷ [])))
    ∙ ap (λ (fs : List ClusterFault). f e t ++ fs) (in_turn_kept p f same (e ++ t ∷ []) ts)

list_faults_kept : (p : Part) (f : FaultsOfEach) → ((e : List Tree) (t : Tree) → f (map (kept p) e) (kept p t) ≡ f e t) → (v : Tree)
    → list_faults f (kept p v) ≡ list_faults f v
unfolding list_faults
list_faults_kept p f same v = ap (λ o. in_turn_if_list f o) (list_kept p v) ∙ by_list (as_list v)
  where
    by_list : (o : Option (List Tree)) → in_turn_if_list f (option_map (map (kept p)) o) ≡ in_turn_if_list f o
    by_list None = refl
    by_list (Some ts) = in_turn_kept p f same [] ts

-- ---- entries

key_kept : (p : Part) (key : List ℕ) (t : Tree) → has_key key (kept p t) ≡ has_key key t
unfolding has_key
key_kept p key t = ap (λ o. option_map_or (λ e. bytes_eq e.0 key) o false) (entry_kept p t) ∙ by_entry (as_entry t)
  where
    by_entry : (o : Option (List ℕ × Tree))
        → option_map_or (λ e. bytes_eq e.0 key) (option_map (kept_entry p) o) false ≡ option_map_or (λ e. bytes_eq e.0 key) o false
    by_entry None = refl
    by_entry (Some e) = refl

any_kept : (p : Part) (key : List ℕ) (ts : List Tree) → list_any (has_key key) (map (kept p) ts) ≡ list_any (has_key key) ts
any_kept p key [] = refl
any_kept p key (t ∷ ts) = λ i. key_kept p key t i || any_kept p key ts i

-- the faults of values are those of what is kept of them
abbrev Unchanged : {X : Type 0} → Part → (List ℕ → Option X) → (Option X → Tree → List ClusterFault) → Type 0
Unchanged p key_of faults = (key : List ℕ) (v : Tree) → faults (key_of key) (kept_value p key v) ≡ faults (key_of key) v

entry_same : {X : Type 0} (p : Part) (key_of : List ℕ → Option X) (faults : Option X → Tree → List ClusterFault) → Unchanged p key_of faults
    → (e : List Tree) (t : Tree) → entry_faults key_of faults (map (kept p) e) (kept p t) ≡ entry_faults key_of faults e t
unfolding entry_faults
entry_same p key_of faults same e t = ap (λ o. entry_faults_by key_of faults (map (kept p) e) o) (entry_kept p t) ∙ by_entry (as_entry t)
  where
    by_entry : (o : Option (List ℕ × Tree))
        → entry_faults_by key_of faults (map (kept p) e) (option_map (kept_entry p) o) ≡ entry_faults_by key_of faults e o
    by_entry None = refl
    by_entry (Some x) =
        λ i. cond (is_some (key_of x.0) && any_kept p x.0 e i) (fault.DuplicateParameter ∷ []) (same x.0 x.1 i)

entries_same : {X : Type 0} (p : Part) (key_of : List ℕ → Option X) (faults : Option X → Tree → List ClusterFault) → Unchanged p key_of faults
    → (v : Tree) → entries_faults key_of faults (kept p v) ≡ entries_faults key_of faults v
entries_same p key_of faults same v =
    list_faults_kept p (entry_faults key_of faults) (λ e t. entry_same p key_of faults same e t) v

-- ---- the parts of a node and of an application

-- a value is kept whole where its key is read, and has no faults elsewhere
value_same : {X : Type 0} (faults : Option X → Tree → List ClusterFault) → ((v w : Tree) → faults None v ≡ faults None w) → (o : Option X) (v : Tree)
    → faults o (kept_next read_behind (each_if (option_map (λ _. part.Value) o)) v) ≡ faults o v
value_same faults none_same None v = none_same (hollow v) v
value_same faults none_same (Some x) v = ap (faults (Some x)) (value_is v)

kernel_same : (names : NamesView) (v : Tree) → entries_faults kernel_key (kernel_faults names) (kept part.Kernel v) ≡ entries_faults kernel_key (kernel_faults names) v
unfolding kernel_faults
kernel_same names v = entries_same part.Kernel kernel_key (kernel_faults names) (λ key w. value_same (kernel_faults names) no_faults (kernel_key key) w) v
  where
    no_faults : (v w : Tree) → kernel_faults names None v ≡ kernel_faults names None w
    no_faults v w = refl

keys_same : (names : NamesView) (platforms : List (List ℕ)) (own : List ℕ) (v : Tree)
    → entries_faults app_key (key_faults names platforms own) (kept part.App v) ≡ entries_faults app_key (key_faults names platforms own) v
unfolding key_faults
keys_same names platforms own v =
    entries_same part.App app_key (key_faults names platforms own) (λ key w. value_same (key_faults names platforms own) no_faults (app_key key) w) v
  where
    no_faults : (v w : Tree) → key_faults names platforms own None v ≡ key_faults names platforms own None w
    no_faults v w = refl

section_same : (names : NamesView) (o : Option SectionKey) (v : Tree)
    → section_faults names o (kept_next read_behind (each_if (section_part o)) v) ≡ section_faults names o v
unfolding section_faults
section_same names (Some Kernel) v = kernel_same names v
section_same names (Some Rehearse) v = ap (λ w. entries_faults rehearse_key (rehearse_faults names) w) (value_is v)
section_same names None v = ap (λ b. when b fault.BadValue) (no_list (as_list (hollow v)) (as_list v) (hollow_list v))
  where
    no_list : (x y : Option (List Tree)) → is_some x ≡ is_some y → is_none x ≡ is_none y
    no_list None None e = refl
    no_list None (Some y) e = absurd (cc e)
    no_list (Some x) None e = absurd (cc e)
    no_list (Some x) (Some y) e = refl

sections_same : (names : NamesView) (v : Tree)
    → entries_faults section_key (section_faults names) (kept part.Node v) ≡ entries_faults section_key (section_faults names) v
sections_same names v = entries_same part.Node section_key (section_faults names) (λ key w. section_same names (section_key key) w) v

-- ---- all terms

parts_by : (names : NamesView) (platforms : List (List ℕ)) (node app : Option (List ℕ × Tree))
    → parts_faults_by names platforms (option_map (λ (x : List ℕ × Tree). (x.0, kept part.Node x.1)) node)
    (option_map (λ (x : List ℕ × Tree). (x.0, kept part.App x.1)) app) ≡ parts_faults_by names platforms node app
parts_by names platforms (Some node) app = sections_same names node.1
parts_by names platforms None (Some app) = keys_same names platforms app.0 app.1
parts_by names platforms None None = refl

parts_same : (names : NamesView) (platforms : List (List ℕ)) (t : Tree) → parts_faults names platforms (kept part.File t) ≡ parts_faults names platforms t
unfolding parts_faults
parts_same names platforms t =
    (λ i. parts_faults_by names platforms (node_kept t i) (app_kept t i)) ∙ parts_by names platforms (as_node t) (as_app t)

pub parts_stage_same : (names : NamesView) (platforms : List (List ℕ)) (ts : List Tree)
    → parts_stage names platforms (map (kept part.File) ts) ≡ parts_stage names platforms ts
unfolding parts_stage
parts_stage_same names platforms ts =
    in_turn_kept part.File (λ _ t. parts_faults names platforms t) (λ e t. parts_same names platforms t) [] ts
