use Rattle.std.proofs.Common.{◌≡◌, ◌+◌, ◌++◌, ◌∷◌, [], ℕ, List, map, take, set, sym, ap, ◌∙◌, arith}
use Rattle.std.specs.List.{flat_map, range_with_len}
use Rattle.std.proofs.lemmas.List.{length-set, take_more_set}
use Rattle.std.proofs.lemmas.List.FromFn.{map-range_with_len_more}
use Rattle.rh_model.specs.ClusterView.{ClusterView, app_count, app_numbered}
use Rattle.rh_model.specs.declared.node.App.{App}
use Rattle.rh_state.specs.StateView.{restart_of, is_allowed}
use Rattle.rh_state.specs.Stored.{read}
use Rattle.rh_keys.specs.Codes.{code}
use Rattle.rh_keys.specs.Packed.{pair_number, packed_pair}
use Rattle.rh_keys.proofs.KeyCodes.{code_more}
use Rattle.rh_keys.proofs.KeyCells.{pair_code}
use Rattle.rh_keys.proofs.parts.put_each_pair.Goals as goal

pub loop-number-preserved : goal.loop-number-preserved
loop-number-preserved c =
    let s = read c.args.state.now in
    let n = c.args.node in
    let i = c.loop-number.number in
    let cells : List ℕ = c.loop-number.cells in
    let at = c.args.at + i in
    let head = take c.args.at c.args.cells.now in
    let pair = packed_pair s n in
    let before = c.loop-number.invariant in
    let byte : c.pair_byte.result ≡ pair_number (restart_of s n (app_numbered i)) (is_allowed s n (app_numbered i)) =
    c.pair_byte.ensures ∙ (λ k. pair_number (c.restart_of.ensures k) (c.allowed.ensures k)) in
    let count = c.app_count-count.ensures.count ∙ ap (λ (d : ClusterView). app_count d) c.cluster.ensures in
    let room = c.requires.room in
    let on : c.args.at + (i + 1) ≡ at + 1 = omega arith in (
      length-set cells at c.pair_byte.result ∙ before.0,
      ap (λ (k : ℕ). take k (set cells at c.pair_byte.result)) on
          ∙ take_more_set cells at c.pair_byte.result (omega (arith, before.0, count, room, c.loop-number-test.true))
          ∙ ap (λ (b : ℕ). take at cells ++ b ∷ []) byte
          ∙ ap (λ (l : List ℕ). take at cells ++ l) (sym (pair_code s n (app_numbered i)))
          ∙ ap (λ (t : List ℕ). t ++ code (pair (app_numbered i))) before.1
          ∙ code_more pair head (map app_numbered (range_with_len 0 i)) (app_numbered i)
          ∙ ap (λ (all : List App). head ++ code (flat_map pair all)) (sym (map-range_with_len_more app_numbered 0 i i (omega arith))),
    )
