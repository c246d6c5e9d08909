use Rattle.std.proofs.Common.{◌∙◌, ◌++◌, ◌∷◌, [], ℕ, List, map, sym, ap, arith}
use Rattle.rh_base.specs.Tree.{tree_of}
use Rattle.rh_base.proofs.Elements.{map_more_at}
use Rattle.rh_otp_model.specs.declared.wait.OwnFile.{OwnFile}
use Rattle.rh_otp_file.specs.Files.{config_of, file_by}
use Rattle.rh_otp_file.proofs.files.files_of.Goals as goal

pub loop-index-preserved : goal.loop-index-preserved
loop-index-preserved c =
    let cluster = c.args.cluster.now in
    let file_of : List ℕ → OwnFile = λ name. file_by cluster (config_of name (map tree_of c.args.terms.now)) in
    let pushed = c.in_ok-file_by.ensures ∙ ap (file_by cluster) c.config_of-config.ensures in
    c.in_ok-push.ensures.items ∙ (λ i. c.loop-index.invariant i ++ pushed i ∷ [])
    ∙ sym (map_more_at file_of cluster.node_names c.loop-index.index c.node_name-name.result.now (omega arith) c.node_name-name.ensures)
