use Rattle.std.proofs.Common.{◌≡◌, ◌&&◌, ◌||◌, ap, sym, ◌∙◌, Bool, true, is_some, Option, None, refl}
use Rattle.std.specs.Option.{option_map}
use Rattle.rh_model.specs.declared.node.App.{App}
use Rattle.rh_model.specs.ClusterView.{group_of}
use Rattle.rh_model.specs.declared.node.Node.{Node}
use Rattle.rh_state.specs.declared.status.Standing.{Standing}
use Rattle.rh_state.specs.declared.status.Standing.TheVariants.{Quiet, Wanted, Running, Lost}
use Rattle.rh_state.specs.StateView.{StateView, standing_of}
use Rattle.rh_rules.specs.declared.pick.Pick.{Pick}
use Rattle.rh_rules.specs.Placing.{picked, is_operational, candidates}
use Rattle.rh_place.specs.Sets.{NodeBits, has}
use Rattle.rh_settle.specs.Boards.{BoardView, is_among, is_wanted, IsExactAt}
use Rattle.rh_rules.specs.declared.notice.Move.TheVariants.{Placement}
use Rattle.rh_rules.specs.Moves.{placements, placements_from}
use Rattle.rh_settle.proofs.GroupWalks.{same_best}
use Rattle.rh_settle.proofs.Searches.{picked_map, none_of_none}
use Rattle.rh_state.specs.Shape.{IsAppOf}
use Rattle.rh_state.specs.Stored.{read}
use Rattle.rh_settle.proofs.search.placement_of.Goals as goal

otherwise : (pick : Pick) (s : StateView) (a : App) (st : Standing) → ((from : Option Node) → st ≡ Wanted from → ⊥)
    → None ≡ picked pick (placements_from s a st)
otherwise pick s a (Wanted from) h = absurd (h from refl)
otherwise pick s a Quiet h = none_of_none pick
otherwise pick s a (Running _) h = none_of_none pick
otherwise pick s a (Lost _) h = none_of_none pick

-- of the nodes of its list the board has for one that is to run those at which it can run
all_able : (s : StateView) (b : BoardView) (a : App) (from : Option Node) (set : NodeBits) → IsAppOf s.cluster a → ((n : Node) → IsExactAt s b n)
    → Wanted from ≡ standing_of s a → ((n : Node) → has set n ≡ is_among b.able a n)
    → (n : Node) → is_some (group_of s.cluster a n) ≡ true → has set n ≡ is_operational s a n
all_able s b a from set of_a exact wanted same n listed =
    same n ∙ (exact n).able a of_a (asked (standing_of s a) (is_some (group_of s.cluster a n)) wanted listed)
  where
    asked : (st : Standing) (g : Bool) → Wanted from ≡ st → g ≡ true → (is_wanted st && g) || is_among b.fresh a n ≡ true
    asked st g e h = ap (λ k. (is_wanted st && k) || is_among b.fresh a n) h ∙ sym (ap (λ o. (is_wanted o && true) || is_among b.fresh a n) e)

pub returns-in-Some : goal.returns-in-Some
unfolding placements candidates
returns-in-Some c =
    let s = read c.args.state.now in
    let able = all_able s c.args.board.now c.args.app c.in-Wanted.from c.able.result c.requires.app c.requires.board c.in-Wanted.ensures.standing c.able.ensures in
    ap (option_map (Placement c.args.app c.in-Wanted.from)) (c.in-Some.ensures.choice ∙ ap (picked c.args.pick) (same_best s c.args.app (has c.able.result) (is_operational s c.args.app) able))
    ∙ sym (picked_map c.args.pick (Placement c.args.app c.in-Wanted.from) (candidates s c.args.app))
    ∙ ap (λ st. picked c.args.pick (placements_from s c.args.app st)) c.in-Wanted.ensures.standing

pub returns-in-None : goal.returns-in-None
unfolding placements candidates
returns-in-None c =
    let s = read c.args.state.now in
    let able = all_able s c.args.board.now c.args.app c.in-Wanted.from c.able.result c.requires.app c.requires.board c.in-Wanted.ensures.standing c.able.ensures in
    ap (option_map (Placement c.args.app c.in-Wanted.from)) (c.in-None.ensures.choice ∙ ap (picked c.args.pick) (same_best s c.args.app (has c.able.result) (is_operational s c.args.app) able))
    ∙ sym (picked_map c.args.pick (Placement c.args.app c.in-Wanted.from) (candidates s c.args.app))
    ∙ ap (λ st. picked c.args.pick (placements_from s c.args.app st)) c.in-Wanted.ensures.standing

pub returns-in_default : goal.returns-in_default
unfolding placements
returns-in_default c =
    otherwise c.args.pick (read c.args.state.now) c.args.app c.standing.result c.in_default.not-Wanted
    ∙ ap (λ st. picked c.args.pick (placements_from (read c.args.state.now) c.args.app st)) c.standing.ensures.standing
