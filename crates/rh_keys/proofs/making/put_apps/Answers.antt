use Rattle.std.proofs.Common.{ℕ, ◌++◌, List, map, take, ap, sym, ◌∙◌, arith}
use Rattle.std.specs.List.{flat_map, range_with_len}
use Rattle.std.proofs.lemmas.List.FromFn.{map-range_with_len_more}
use Rattle.rh_model.specs.ClusterView.{app_numbered}
use Rattle.rh_model.specs.declared.node.App.{App}
use Rattle.rh_state.specs.Stored.{read}
use Rattle.rh_keys.specs.Codes.{code}
use Rattle.rh_keys.specs.Keys.{app_numbers}
use Rattle.rh_keys.proofs.KeyCodes.{code_more}
use Rattle.rh_keys.proofs.making.put_apps.Goals as goal

pub loop-number-preserved : goal.loop-number-preserved
loop-number-preserved c =
    let s = read c.args.state.now in
    let i = c.loop-number.number in
    let head = take c.args.at c.args.cells.now in (
      c.put_standing.ensures.length ∙ c.loop-number.invariant.0,
      ap (λ (k : ℕ). take k c.put_standing.new.cells) (omega arith)
          ∙ c.put_standing.ensures.bytes
          ∙ ap (λ (t : List ℕ). t ++ code (app_numbers s (app_numbered i))) c.loop-number.invariant.1
          ∙ code_more (app_numbers s) head (map app_numbered (range_with_len 0 i)) (app_numbered i)
          ∙ ap (λ (all : List App). head ++ code (flat_map (app_numbers s) all)) (sym (map-range_with_len_more app_numbered 0 i i (omega arith))),
    )
