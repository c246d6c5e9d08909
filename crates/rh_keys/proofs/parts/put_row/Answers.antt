use Rattle.std.proofs.Common.{◌≡◌, ◌++◌, ◌∷◌, [], ℕ, List, map, take, sym, ap, ◌∙◌, arith}
use Rattle.std.specs.List.{flat_map, range_with_len}
use Rattle.std.proofs.lemmas.List.{length-set, take_more_set}
use Rattle.std.proofs.lemmas.List.FromFn.{map-range_with_len_more}
use Rattle.rh_model.specs.ClusterView.{app_numbered}
use Rattle.rh_model.specs.declared.node.App.{App}
use Rattle.rh_state.specs.StateView.{restart_of, is_allowed}
use Rattle.rh_state.specs.Stored.{read}
use Rattle.rh_keys.specs.Codes.{code}
use Rattle.rh_keys.specs.Packed.{pair_number, packed_pair}
use Rattle.rh_keys.proofs.KeyCodes.{code_more}
use Rattle.rh_keys.proofs.KeyCells.{pair_code}
use Rattle.rh_keys.proofs.parts.put_row.Goals as goal

pub loop-number-preserved : goal.loop-number-preserved
loop-number-preserved c =
    let s = read c.args.state.now in
    let n = c.args.node in
    let i = c.loop-number.number in
    let row : List ℕ = c.loop-number.row in
    let pair = packed_pair s n in
    let before = c.loop-number.invariant in
    let byte : c.pair_byte.result ≡ pair_number (restart_of s n (app_numbered i)) (is_allowed s n (app_numbered i)) =
    c.pair_byte.ensures ∙ (λ k. pair_number (c.restart_of.ensures k) (c.allowed.ensures k)) in
    let few = c.app_count-count.ensures.limit in (
      length-set row i c.pair_byte.result ∙ before.0,
      take_more_set row i c.pair_byte.result (omega (arith, before.0, few, c.loop-number-test.true))
          ∙ ap (λ (b : ℕ). take i row ++ b ∷ []) byte
          ∙ ap (λ (l : List ℕ). take i row ++ l) (sym (pair_code s n (app_numbered i)))
          ∙ ap (λ (t : List ℕ). t ++ code (pair (app_numbered i))) before.1
          ∙ code_more pair [] (map app_numbered (range_with_len 0 i)) (app_numbered i)
          ∙ ap (λ (all : List App). code (flat_map pair all)) (sym (map-range_with_len_more app_numbered 0 i i (omega arith))),
    )
