use Rattle.std.proofs.Common.{◌≡◌, List, map, ap, sym, subst, ◌∙◌, IfOk}
use Rattle.rh_base.specs.Tree.{Tree, tree_of, items_of}
use Rattle.rh_base.proofs.Trees.{list_of_trees-trees_of}
use Rattle.rh_otp_model.specs.declared.wait.OwnFile.{OwnFile}
use Rattle.rh_otp_file.specs.Files.{files_of, terms_in, own_files}
use Rattle.rh_otp_file.proofs.files.own_files.Goals as goal

pub returns-in-Ok-clause-exact : goal.returns-in-Ok-clause-exact
unfolding own_files
returns-in-Ok-clause-exact c =
    let cluster = c.args.cluster.now in
    let is : own_files cluster c.args.text.now ≡ files_of cluster (map tree_of c.as_slice.result.now) =
    ap (λ r. files_of cluster (terms_in r)) c.in-Ok.ensures.exact
    ∙ ap (λ (ts : List Tree). files_of cluster ts) (list_of_trees-trees_of (items_of c.in-Ok.terms) ∙ sym (ap (map tree_of) c.as_slice.ensures)) in
    subst (λ (fs : List OwnFile). IfOk c.files_of.result (λ files. files.items ≡ fs)) (sym is) c.files_of.ensures.exact
