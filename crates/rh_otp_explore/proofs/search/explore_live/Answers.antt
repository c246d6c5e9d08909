use Rattle.std.proofs.Common.{◌≡◌, List, [], map, sym, subst}
use Rattle.rh_explore.specs.declared.moves.Move.{Move}
use Rattle.rh_explore_text.specs.Asks.{ask_view}
use Rattle.rh_otp_sim.specs.Sim.{LiveSimView}
use Rattle.rh_otp_explore.specs.Listing.{Scope}
use Rattle.rh_otp_explore.specs.Searching.{IsLiveAnswer, at_base}
use Rattle.rh_otp_explore.specs.Tallying.{TallyView}
use Rattle.rh_otp_explore.specs.Working.{AreTried}
use Rattle.rh_otp_explore.proofs.Answering.{is_answer}
use Rattle.rh_otp_explore.proofs.search.explore_live.Goals as goal

pub returns : goal.returns
returns c =
    let search = c.args.search in
    let w : Scope = record { moves = search.moves.items; down = search.down } in
    let asks = map ask_view search.asks.items in
    let new : TallyView = c.try_all.new.tally in
    let told = c.in_ok-covered.covered in
    let from_moves =
    subst (λ (ms : List Move). AreTried (record { moves = ms; down = search.down }) search.steps search.lists
    (record { events = []; sim = c.in_ok-stand.stand }) c.in_ok-tally.tally new told)
    c.as_slice.ensures.value c.in_ok-covered.ensures in
    let from_base =
    subst (λ (s : LiveSimView). AreTried w search.steps search.lists (record { events = []; sim = s }) c.in_ok-tally.tally new told)
    c.in_ok-stand.ensures from_moves in
    let from_nothing =
    subst (λ (t : TallyView). AreTried w search.steps search.lists (at_base c.args.base.now) t new told) c.in_ok-tally.ensures from_base in
    subst (λ (t : TallyView). IsLiveAnswer w c.args.base.now search.steps search.lists asks
    (record { lists = t.lists; covered = told; asked = t.asked }))
    (sym c.tally.view_is)
    (is_answer w c.args.base.now search.steps search.lists asks new told from_nothing)
