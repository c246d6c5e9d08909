use Rattle.std.proofs.Common.{◌≡◌, sym, ap, ◌∙◌, [], unwrap_or, Option}
use Rattle.std.specs.List.{filter}
use Rattle.std.specs.Option.{option_map}
use Rattle.rh_model.specs.declared.settings.Spread.{Spread}
use Rattle.rh_model.specs.ClusterView.{ClusterView}
use Rattle.rh_place.specs.Sets.{has}
use Rattle.rh_base.specs.Lists.{first_given}
use Rattle.rh_rules.specs.Placing.{groups_of}
use Rattle.rh_base.proofs.Lists.{first_meeting, none_meets}
use Rattle.rh_place.proofs.choosing.first_group.Goals as goal

pub returns-in-Some-place_meeting-clause-first : goal.returns-in-Some-place_meeting-clause-first
returns-in-Some-place_meeting-clause-first c =
    let p = has c.args.set in
    let groups : c.as_slice-groups.result.now ≡ groups_of c.cluster-2.result.now c.args.app =
    c.as_slice-groups.ensures ∙ ap (λ (o : Option Spread). unwrap_or (option_map (λ (v : Spread). v.groups) o) []) c.in-Some.ensures in
    ap (filter p) c.as_slice.ensures
    ∙ first_meeting p c.as_slice-groups.result.now c.in-Some-place_meeting.place c.index-groups-place.result
    (sym c.place_meeting.ensures ∙ c.in-Some-place_meeting.is) c.index-groups-place.is
    ∙ ap (first_given (filter p)) (groups ∙ ap (λ (v : ClusterView). groups_of v c.args.app) c.cluster-2.ensures)

pub returns-in-None-place_meeting-clause-first : goal.returns-in-None-place_meeting-clause-first
returns-in-None-place_meeting-clause-first c =
    let p = has c.args.set in
    let groups : c.as_slice-groups.result.now ≡ groups_of c.cluster-2.result.now c.args.app =
    c.as_slice-groups.ensures ∙ ap (λ (o : Option Spread). unwrap_or (option_map (λ (v : Spread). v.groups) o) []) c.in-Some.ensures in
    none_meets p c.as_slice-groups.result.now (sym c.place_meeting.ensures ∙ c.in-None-place_meeting.is)
    ∙ ap (first_given (filter p)) (groups ∙ ap (λ (v : ClusterView). groups_of v c.args.app) c.cluster-2.ensures)
